use Rattle.std.proofs.Common.{IsTrue, arith, subst, sym, w64}
use Rattle.std.proofs.lemmas.Int.{to_z-of_z}
use Rattle.std.proofs.lemmas.Result.{IfOk-weaker, on_ok_weaker}
use Rattle.sqlite.specs.Effect.{Database, IsDatabase}
use Rattle.sqlite.specs.Held.{state}
use Rattle.sqlite.specs.State.{HasCleanDisk}
use Rattle.version_tables.specs.Represents.{Represents}
use Rattle.version_tables.proofs.Keeping.{keeps_same, leaves_then}
use Rattle.version_tables.proofs.runs.end_together.Goals as goal

pub returns-clause-made : goal.returns-clause-made
returns-clause-made g c clean begun =
    let clean_mid : HasCleanDisk (state g.S.Store c.number_of.new.transaction.conn.now) = omega (arith, c.end_run.ensures.inside.survives.clean) in
    let same = c.in_ok-first.ensures.read clean_mid in
    IfOk-weaker c.end_run.result _ _ (λ done it. (it.0, λ sound m was. it.1 (subst IsDatabase (sym same.0.now_is) sound) m (subst (λ (d : Database). Represents d m) (sym same.0.now_is) was)))
    (rw (to_z-of_z w64 c.args.to c.ranges.to) at (c.end_run.ensures.made clean (subst IsTrue (sym same.0.mode) begun)))

pub returns-clause-others : goal.returns-clause-others
returns-clause-others g c =
    let old = c.args.transaction.now.conn.now in
    let mid = c.number_of.new.transaction.conn.now in
    on_ok_weaker c.end_run.result (leaves_then g.S.Store old mid c.end_run.new.transaction.conn.now (λ clean has. keeps_same (state g.S.Store old).now (state g.S.Store mid).now (c.in_ok-first.ensures.read clean).0.now_is) c.end_run.ensures.inside) c.end_run.ensures.others
