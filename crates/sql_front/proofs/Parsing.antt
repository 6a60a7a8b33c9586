-- The answers of `parse`: a statement if the tokens spell it, and else bad syntax.
use Rattle.std.proofs.Common.{◌≡◌, ◌≤◌, Bool, true, false, List, [], Result, Ok, Err, inl, lit≤}
use Rattle.std.specs.Prelude.{IfOk, IsTrue}
use Rattle.period_core.specs.Codes.{code_of}
use Rattle.period_core.specs.Leasts.{MayAnswer}
use Rattle.period_core.specs.declared.refusal.Refusal.{Refusal}
use Rattle.period_core.specs.declared.refusal.Refusal.TheVariants.{Syntax, TooDeep, BadDate, BadMoment, NumberRange}
use Rattle.sql_statements.specs.declared.statement.Statement as statements
use Rattle.sql_front.specs.declared.read_error.ReadError.{ReadError}
use Rattle.sql_front.specs.declared.read_error.ReadError.TheVariants as error
use Rattle.sql_front.specs.Depth.{most_open}
use Rattle.sql_statements.specs.Lexemes.{Lexeme}
use Rattle.sql_statements.specs.Trees.{Statement}
use Rattle.sql_statements.specs.Plain.{plain}
use Rattle.sql_front.specs.reading.Gives.{Gives}
use Rattle.sql_front.proofs.ReadGrammar.{IsStatement}
use Rattle.sql_front.specs.reading.Reading.{whole_read}
use Rattle.sql_front.specs.reading.StatementReaders.{statement_read}
use Rattle.sql_front.specs.PieceRefusals.{IsTooDeep, SpellsNone, PieceApplies}
use Rattle.sql_front.proofs.StatementsRead.{at_depth, read_spelled, reads_statement}
use Rattle.sql_front.proofs.GrammarReadings.{loosely_spelled, some_read}
use Rattle.sql_front.proofs.Sorts.{next_end}
use Rattle.sql_front.proofs.Whole.{is_none}

-- ---- all of the tokens

-- a statement that is read at the greatest depth is spelled so, with stand-ins
pub read_is_spelled : (ls : List Lexeme) (result : Result statements.Statement ReadError) → Gives plain result (whole_read (statement_read most_open) ls) → IfOk result (λ s. IsStatement ls (plain s))
read_is_spelled ls (Ok s) given = read_spelled 32 ls (plain s) given
read_is_spelled ls (Err e) given = tt

-- if the tokens are not too deep, nothing else is spelled
pub unread_is_none : (ls : List Lexeme) (result : Result statements.Statement ReadError) → Gives plain result (whole_read (statement_read most_open) ls) → result ≡ Err error.Syntax → (IsTooDeep ls → ⊥) → SpellsNone ls
unread_is_none ls result given e shallow s spelled =
    let t = some_read ls s spelled in
    is_none (reads_statement 32) plain (next_end []) ls result given e t.0 (at_depth 32 ls t.0 shallow t.1)

-- ---- refusals

-- a fault that a test would find does not exist if the test finds none
pub not_found : {D : Type 0} (told : Bool) → told ≡ false → (D → IsTrue told) → D → ⊥
not_found true e tells d = absurd cc
not_found false e tells d = let holds : IsTrue false = tells d in cc

least_syntax : (ls : List Lexeme) (other : Refusal) → PieceApplies ls other → code_of Syntax ≤ code_of other
least_syntax ls Syntax h = lit≤ tt
least_syntax ls TooDeep h = lit≤ tt
least_syntax ls BadDate h = lit≤ tt
least_syntax ls BadMoment h = lit≤ tt
least_syntax ls NumberRange h = lit≤ tt
least_syntax ls other h = absurd h

-- tokens that spell no statement, and are not too deep, may be answered with bad syntax
pub no_statement : (ls : List Lexeme) → (IsTooDeep ls → ⊥) → SpellsNone ls → MayAnswer (PieceApplies ls) Syntax
no_statement ls shallow none = inl (record { applies = (shallow, none); least = least_syntax ls })

-- a piece that is spelled, with stand-ins or not, is not refused for its spelling
pub spelled_some : (ls : List Lexeme) (s : Statement) → IsStatement ls s → SpellsNone ls → ⊥
spelled_some ls s spelled none = none s (loosely_spelled ls s spelled)
