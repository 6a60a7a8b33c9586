use Rattle.std.proofs.Common.{◌≡◌, ◌+◌, ◌∙◌, length, rules, subst}
use Rattle.md5.specs.Md5.{Holds}
use Rattle.version_store.proofs.Beside.{spares_then}
use Rattle.bitemporal_file.proofs.CountFacts.{row-count}
use Rattle.bitemporal_file.proofs.VerificationFacts.{counts-more, tables-more}
use Rattle.bitemporal_file.proofs.verification.add_tables.Goals as goal

pub loop-i-preserved : goal.loop-i-preserved
loop-i-preserved g c =
    let i = c.loop-i.i in
    let rows = c.in_ok-rows.rows.items in
    let size : c.len.result ≡ length rows = search rules in
    record {
      counts = λ usable history stands.
          let before = c.rows.ensures.usable usable in
          let here = c.loop-i.invariant.same before history stands in
          let count = size ∙ row-count g.S.Store history c.loop-i.engine here (i + 1) rows (c.in_ok-rows.ensures.rows usable here.contents here.stored) in
          counts-more history i c.len.result c.loop-i.counts.items c.push.new.self.items (c.loop-i.invariant.counts before history stands) c.in_ok-push.ensures.items count;
      added = λ usable history stands bytes held.
          let before = c.rows.ensures.usable usable in
          let here = c.loop-i.invariant.same before history stands in
          let more = c.in_ok-add_versions.ensures _ (c.loop-i.invariant.added before history stands bytes held) in
          subst (Holds c.add_versions.new.sum) (tables-more g.S.Store history c.loop-i.engine here i rows bytes (c.in_ok-rows.ensures.rows usable here.contents here.stored)) more;
      same = λ usable history stands. c.rows.ensures.same usable history (c.loop-i.invariant.same (c.rows.ensures.usable usable) history stands);
      usable = λ usable. c.loop-i.invariant.usable (c.rows.ensures.usable usable);
      others = spares_then g.S.Store c.args.engine.now.connection c.loop-i.engine.connection c.rows.new.self.connection c.loop-i.invariant.others c.rows.ensures.usable c.rows.ensures.others;
    }

pub returns-in_err-rows-clause-same : goal.returns-in_err-rows-clause-same
returns-in_err-rows-clause-same g c usable history stands = c.rows.ensures.same usable history (c.loop-i.invariant.same (c.rows.ensures.usable usable) history stands)

pub returns-in_err-rows-clause-others : goal.returns-in_err-rows-clause-others
returns-in_err-rows-clause-others g c =
    spares_then g.S.Store c.args.engine.now.connection c.loop-i.engine.connection c.rows.new.self.connection c.loop-i.invariant.others c.rows.ensures.usable c.rows.ensures.others

pub returns-in_err-push-clause-same : goal.returns-in_err-push-clause-same
returns-in_err-push-clause-same g c usable history stands = c.rows.ensures.same usable history (c.loop-i.invariant.same (c.rows.ensures.usable usable) history stands)

pub returns-in_err-push-clause-others : goal.returns-in_err-push-clause-others
returns-in_err-push-clause-others g c =
    spares_then g.S.Store c.args.engine.now.connection c.loop-i.engine.connection c.rows.new.self.connection c.loop-i.invariant.others c.rows.ensures.usable c.rows.ensures.others

pub returns-in_err-add_versions-clause-same : goal.returns-in_err-add_versions-clause-same
returns-in_err-add_versions-clause-same g c usable history stands = c.rows.ensures.same usable history (c.loop-i.invariant.same (c.rows.ensures.usable usable) history stands)

pub returns-in_err-add_versions-clause-others : goal.returns-in_err-add_versions-clause-others
returns-in_err-add_versions-clause-others g c =
    spares_then g.S.Store c.args.engine.now.connection c.loop-i.engine.connection c.rows.new.self.connection c.loop-i.invariant.others c.rows.ensures.usable c.rows.ensures.others
