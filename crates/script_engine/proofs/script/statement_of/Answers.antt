use Rattle.std.proofs.Common.{◌≡◌, ◌∙◌, IfErr, IfOk, List, OnOk, ap, arith, subst}
use Rattle.std.proofs.lemmas.List.{length-map}
use Rattle.std.proofs.lemmas.Result.{IfErr-weaker, on_ok_weaker}
use Rattle.period_core.specs.Leasts.{MayAnswer, NoneApplies}
use Rattle.sql_front.specs.Grammar.{IsStatement}
use Rattle.sql_front.specs.PieceRefusals.{PieceApplies}
use Rattle.sql_front.specs.TokenSpans.{lexemes_at}
use Rattle.sql_statements.specs.Lexemes.{Lexeme, lexemes}
use Rattle.sql_statements.specs.Plain.{plain}
use Rattle.script_engine.specs.script.Script.{IsOverlong}
use Rattle.script_engine.proofs.PieceFacts.{may_of_text, none_of_text}
use Rattle.script_engine.proofs.script.statement_of.Goals as goal

-- the tokens that are parsed are the piece's
parsed : (c : goal.After-drop-tokens) → lexemes c.as_slice.result.now ≡ lexemes_at c.args.script.now c.args.piece.now
parsed c = ap lexemes c.as_slice.ensures.value ∙ c.in_ok-tokens.ensures

short : (c : goal.After-drop-tokens) → IsOverlong (lexemes_at c.args.script.now c.args.piece.now) → ⊥
short c long = let more = simp length-map at long in omega arith

pub returns-clause-found : goal.returns-clause-found
returns-clause-found c = subst (λ (piece : List Lexeme). IfOk c.parse.result (λ s. IsStatement piece (plain s))) (parsed c) c.parse.ensures.found

pub returns-clause-sound : goal.returns-clause-sound
returns-clause-sound c =
    on_ok_weaker c.parse.result (none_of_text (lexemes_at c.args.script.now c.args.piece.now) (short c))
    (subst (λ (piece : List Lexeme). OnOk c.parse.result (NoneApplies (PieceApplies piece))) (parsed c) c.parse.ensures.sound)

pub returns-clause-refused : goal.returns-clause-refused
returns-clause-refused c =
    IfErr-weaker c.parse.result _ _ (may_of_text (lexemes_at c.args.script.now c.args.piece.now) (short c))
    (subst (λ (piece : List Lexeme). IfErr c.parse.result (MayAnswer (PieceApplies piece))) (parsed c) c.parse.ensures.refused)
