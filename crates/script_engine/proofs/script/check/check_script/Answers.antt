use Rattle.std.proofs.Common.{List, map, subst₂, sym}
use Rattle.std.proofs.lemmas.Result.{IfOk-weaker}
use Rattle.sql_front.specs.Pieces.{spanned}
use Rattle.sql_front.specs.declared.pieces.Span.{Span}
use Rattle.sql_front.specs.TokenSpans.{lexemes_at}
use Rattle.sql_front.specs.declared.token_spans.TokenSpan.{TokenSpan}
use Rattle.script_engine.specs.script.Script.{IsCutInto}
use Rattle.script_engine.proofs.script.check.check_script.Goals as goal

pub returns-clause-check : goal.returns-clause-check
returns-clause-check c =
    let cut = subst₂ (λ (tokens : List TokenSpan) (spans : List Span). IsCutInto c.args.script.now (map (spanned (lexemes_at c.in_ok-pieces.pieces.text.now tokens)) spans)) (sym c.as_slice-tokens.ensures.value) (sym c.as_slice-spans.ensures.value) c.in_ok-pieces.ensures.cut in
    IfOk-weaker c.check_pieces.result _ _ (λ results checked. record { pieces = _; cut = cut; checked = checked }) c.check_pieces.ensures.checked
