use Rattle.std.proofs.Common.{◌≡◌, ◌<◌, ◌+◌, ◌++◌, ◌∷◌, List, [], length, map, take, take_all, arith, false, refl, subst, true}
use Rattle.std.proofs.lemmas.List.{length_push}
use Rattle.sql_front.specs.TokenSpans.{lexemes_at}
use Rattle.sql_front.specs.Pieces.{spanned}
use Rattle.sql_front.specs.declared.pieces.Span.{Span}
use Rattle.version_store.proofs.Beside.{spares_same, spares_then}
use Rattle.script_engine.specs.script.Script.{StepPieces}
use Rattle.script_engine.proofs.ListeningFacts.{front_of, hears_more, whole_front}
use Rattle.script_engine.proofs.PieceSteps.{run_next}
use Rattle.script_engine.proofs.script.run_pieces.Goals as goal

pub loop-i-init : goal.loop-i-init
loop-i-init g c = record {
  usable = λ usable. usable;
  others = spares_same g.S.Store c.args.engine.now.connection c.args.engine.now.connection (λ usable. refl);
  run = ([], (refl, refl), refl, refl, λ usable history kept. (history, refl, kept));
}

pub loop-i-preserved : goal.loop-i-preserved
loop-i-preserved g c =
    let (results, heard, count, over, ran) = c.loop-i.invariant.run in
    let inside : c.loop-i.i < length c.args.pieces.now = omega arith in
    let at : 1 + length results ≡ c.loop-i.i + 1 = omega (arith, count) in
    let kept = c.run_piece-kept.result in
    record {
      usable = λ usable. c.loop-i.invariant.usable (c.run_piece-kept.ensures.usable usable);
      others = spares_then g.S.Store c.args.engine.now.connection c.loop-i.engine.connection c.run_piece-kept.new.engine.connection c.loop-i.invariant.others c.run_piece-kept.ensures.usable c.run_piece-kept.ensures.others;
      run = (
        results ++ kept ∷ [],
        hears_more g.L.Listener.hears 1 (c.loop-i.i + 1) c.args.listener.now results c.loop-i.listener kept true c.hear.new.self at heard (rw c.if-not-hear.false at c.hear.ensures),
        omega (arith, count, length_push results kept),
        run_next g.K.PieceResult.is_step_over c.args.engine.now c.args.script.now c.args.tokens.now c.args.pieces.now c.loop-i.i (record { start = 0; end = 0 }) results (results ++ kept ∷ []) c.loop-i.engine kept c.run_piece-kept.new.engine inside refl over c.run_piece-kept.ensures.over,
        λ usable history represents.
            let (last, run, stands) = ran (c.run_piece-kept.ensures.usable usable) history represents in
            let (new, step, after) = c.run_piece-kept.ensures.step usable last stands in
            (new, run_next g.K.PieceResult.is_step history c.args.script.now c.args.tokens.now c.args.pieces.now c.loop-i.i (record { start = 0; end = 0 }) results (results ++ kept ∷ []) last kept new inside refl run step, after),
      );
    }

pub returns-then-not-hear-clause-run : goal.returns-then-not-hear-clause-run
returns-then-not-hear-clause-run g c =
    let (results, heard, count, over, ran) = c.loop-i.invariant.run in
    let inside : c.loop-i.i < length c.args.pieces.now = omega arith in
    let at : 1 + length results ≡ c.loop-i.i + 1 = omega (arith, count) in
    let kept = c.run_piece-kept.result in (
      results ++ kept ∷ [],
      hears_more g.L.Listener.hears 1 (c.loop-i.i + 1) c.args.listener.now results c.loop-i.listener kept false c.hear.new.self at heard (rw c.if-not-hear.true at c.hear.ensures),
      omega (arith, count, length_push results kept),
      front_of g.K.PieceResult.is_step_over c.args.engine.now (lexemes_at c.args.script.now c.args.tokens.now) c.args.pieces.now (c.loop-i.i + 1) (results ++ kept ∷ []) c.run_piece-kept.new.engine
          (run_next g.K.PieceResult.is_step_over c.args.engine.now c.args.script.now c.args.tokens.now c.args.pieces.now c.loop-i.i (record { start = 0; end = 0 }) results (results ++ kept ∷ []) c.loop-i.engine kept c.run_piece-kept.new.engine inside refl over c.run_piece-kept.ensures.over),
      λ usable history represents.
          let (last, run, stands) = ran (c.run_piece-kept.ensures.usable usable) history represents in
          let (new, step, after) = c.run_piece-kept.ensures.step usable last stands in (
            new,
            front_of g.K.PieceResult.is_step history (lexemes_at c.args.script.now c.args.tokens.now) c.args.pieces.now (c.loop-i.i + 1) (results ++ kept ∷ []) new
                (run_next g.K.PieceResult.is_step history c.args.script.now c.args.tokens.now c.args.pieces.now c.loop-i.i (record { start = 0; end = 0 }) results (results ++ kept ∷ []) last kept new inside refl run step),
            after,
          ),
    )

pub returns-clause-run : goal.returns-clause-run
returns-clause-run g c =
    let (results, heard, count, over, ran) = c.loop-i.invariant.run in
    let whole : take c.loop-i.i c.args.pieces.now ≡ c.args.pieces.now = take_all c.loop-i.i c.args.pieces.now (omega arith) in (
      results,
      heard,
      omega (arith, count),
      whole_front g.K.PieceResult.is_step_over c.args.engine.now (map (spanned (lexemes_at c.args.script.now c.args.tokens.now)) c.args.pieces.now) results c.loop-i.engine
          (subst (λ (pieces : List Span). StepPieces g.K.PieceResult.is_step_over c.args.engine.now (map (spanned (lexemes_at c.args.script.now c.args.tokens.now)) pieces) results c.loop-i.engine) whole over),
      λ usable history represents.
          let (last, run, stands) = ran usable history represents in (
            last,
            whole_front g.K.PieceResult.is_step history (map (spanned (lexemes_at c.args.script.now c.args.tokens.now)) c.args.pieces.now) results last
                (subst (λ (pieces : List Span). StepPieces g.K.PieceResult.is_step history (map (spanned (lexemes_at c.args.script.now c.args.tokens.now)) pieces) results last) whole run),
            stands,
          ),
    )

pub returns-then-not-hear-clause-usable : goal.returns-then-not-hear-clause-usable
returns-then-not-hear-clause-usable g c usable = c.loop-i.invariant.usable (c.run_piece-kept.ensures.usable usable)

pub returns-clause-usable : goal.returns-clause-usable
returns-clause-usable g c usable = c.loop-i.invariant.usable usable

pub returns-then-not-hear-clause-others : goal.returns-then-not-hear-clause-others
returns-then-not-hear-clause-others g c =
    spares_then g.S.Store c.args.engine.now.connection c.loop-i.engine.connection c.run_piece-kept.new.engine.connection c.loop-i.invariant.others c.run_piece-kept.ensures.usable c.run_piece-kept.ensures.others

pub returns-clause-others : goal.returns-clause-others
returns-clause-others g c = c.loop-i.invariant.others
