use Rattle.std.proofs.Common.{◌≡◌, ◌+◌, ◌<◌, ◌++◌, ◌∷◌, ◌∙◌, ℕ, List, [], ap, arith, get_or, length, length-append, rules, subst, sym}
use Rattle.version_store.proofs.Beside.{spares_then}
use Rattle.bitemporal_file.specs.Listing.{version_count}
use Rattle.bitemporal_file.proofs.CountFacts.{count-more, row-count}
use Rattle.bitemporal_file.proofs.tables.counts_of.Goals as goal

pub loop-i-preserved : goal.loop-i-preserved
loop-i-preserved g c =
    let i = c.loop-i.i in
    let rows = c.in_ok-rows.rows.items in
    let size : c.len.result ≡ length rows = search rules in
    let pushed : c.push.new.self.items ≡ c.loop-i.counts.items ++ c.len.result ∷ [] = c.in_ok-push.ensures.items in
    let more : length c.push.new.self.items ≡ length c.loop-i.counts.items + 1 = ap length pushed ∙ length-append c.loop-i.counts.items (c.len.result ∷ []) in
    record {
      size = omega (arith, more, c.loop-i.invariant.size);
      counts = λ usable history stands.
          let before = c.rows.ensures.usable usable in
          let here = c.loop-i.invariant.same before history stands in
          let count = size ∙ row-count g.S.Store history c.loop-i.engine here (i + 1) rows (c.in_ok-rows.ensures.rows usable here.contents here.stored) in
          subst (λ (items : List ℕ). (place : ℕ) → place < i + 1 → get_or items place 0 ≡ version_count history (place + 1)) (sym pushed)
          (count-more history c.loop-i.counts.items i c.len.result c.loop-i.invariant.size (c.loop-i.invariant.counts before history stands) count);
      same = λ usable history stands. c.rows.ensures.same usable history (c.loop-i.invariant.same (c.rows.ensures.usable usable) history stands);
      usable = λ usable. c.loop-i.invariant.usable (c.rows.ensures.usable usable);
      others = spares_then g.S.Store c.args.engine.now.connection c.loop-i.engine.connection c.rows.new.self.connection c.loop-i.invariant.others c.rows.ensures.usable c.rows.ensures.others;
    }

pub returns-in_err-rows-clause-same : goal.returns-in_err-rows-clause-same
returns-in_err-rows-clause-same g c usable history stands = c.rows.ensures.same usable history (c.loop-i.invariant.same (c.rows.ensures.usable usable) history stands)

pub returns-in_err-rows-clause-others : goal.returns-in_err-rows-clause-others
returns-in_err-rows-clause-others g c =
    spares_then g.S.Store c.args.engine.now.connection c.loop-i.engine.connection c.rows.new.self.connection c.loop-i.invariant.others c.rows.ensures.usable c.rows.ensures.others

pub returns-in_err-push-clause-same : goal.returns-in_err-push-clause-same
returns-in_err-push-clause-same g c usable history stands = c.rows.ensures.same usable history (c.loop-i.invariant.same (c.rows.ensures.usable usable) history stands)

pub returns-in_err-push-clause-others : goal.returns-in_err-push-clause-others
returns-in_err-push-clause-others g c =
    spares_then g.S.Store c.args.engine.now.connection c.loop-i.engine.connection c.rows.new.self.connection c.loop-i.invariant.others c.rows.ensures.usable c.rows.ensures.others
