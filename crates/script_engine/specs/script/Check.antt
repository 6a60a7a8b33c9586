-- The check of a script: of each of its pieces, whether it spells a sound statement.
use Rattle.std.specs.Prelude.{ℕ, List, Result, Ok, Err}
use Rattle.std.specs.List.{AllZip}
use Rattle.period_core.specs.Leasts.{MayAnswer, NoneApplies}
use Rattle.period_core.specs.declared.refusal.Refusal.{Refusal}
use Rattle.sql_front.specs.Grammar.{IsStatement}
use Rattle.sql_statements.specs.Lexemes.{Lexeme}
use Rattle.sql_statements.specs.Trees.{Statement}
use Rattle.script_engine.specs.script.Script.{IsCutInto, TextApplies}

-- a piece spells a statement and no refusal applies to it, or it is refused by its tokens alone
abbrev pub IsPieceCheck : List Lexeme → Result (Unit {0}) Refusal → Type 0
IsPieceCheck piece (Ok nothing) =
    ((s : Statement) × IsStatement piece s) × NoneApplies (TextApplies piece)
IsPieceCheck piece (Err refusal) = MayAnswer (TextApplies piece) refusal

-- each of the script's pieces has its result, in its place
pub record IsCheckOf (script : List ℕ) (results : List (Result (Unit {0}) Refusal)) : Type 0 where
  pub pieces : List (List Lexeme)
  pub cut : IsCutInto script pieces
  pub checked : AllZip IsPieceCheck pieces results
