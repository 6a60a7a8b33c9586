use Rattle.std.proofs.Common.{List, map, refl, subst₂, sym}
use Rattle.sql_front.specs.Pieces.{spanned}
use Rattle.sql_front.specs.declared.pieces.Span.{Span}
use Rattle.sql_front.specs.TokenSpans.{lexemes_at}
use Rattle.sql_front.specs.declared.token_spans.TokenSpan.{TokenSpan}
use Rattle.script_engine.specs.script.Script.{IsCutInto}
use Rattle.script_engine.proofs.script.over.run_over.Goals as goal

pub returns-clause-run : goal.returns-clause-run
returns-clause-run g c =
    let (results, heard, few, over, ran) = c.run_pieces.ensures.run in
    let cut = subst₂ (λ (tokens : List TokenSpan) (spans : List Span). IsCutInto c.args.script.now (map (spanned (lexemes_at c.in_ok-pieces.pieces.text.now tokens)) spans)) (sym c.as_slice-tokens.ensures.value) (sym c.as_slice-spans.ensures.value) c.in_ok-pieces.ensures.cut in (
      results,
      heard,
      (record { pieces = _; cut = cut; last = c.run_pieces.new.engine; run = over }, refl),
      λ usable history represents.
          let (last, run, after) = ran usable history represents in (record { pieces = _; cut = cut; last = last; run = run }, after),
    )
