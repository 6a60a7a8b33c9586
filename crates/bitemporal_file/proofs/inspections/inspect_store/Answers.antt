use Rattle.std.proofs.Common.{refl, subst, sym}
use Rattle.std.proofs.lemmas.Result.{on_ok_weaker}
use Rattle.version_store.specs.StoreState.{IsUsable, SparesOthers}
use Rattle.version_store.proofs.Beside.{spares_then}
use Rattle.bitemporal_file.proofs.RunFacts.{stands_for_history}
use Rattle.bitemporal_file.proofs.inspections.inspect_store.Goals as goal

pub returns-clause-others : goal.returns-clause-others
returns-clause-others g c =
    let engine = c.in_ok-engine.engine.connection in
    let listed = c.inspect-told.new.engine.connection in
    subst (SparesOthers g.S.Store c.args.connection) (sym c.close_at_exit.ensures.same)
    (spares_then g.S.Store c.args.connection engine listed c.in_ok-engine.ensures.opened.others c.inspect-told.ensures.usable c.inspect-told.ensures.others)

pub returns-clause-same : goal.returns-clause-same
returns-clause-same g c usable history stands =
    let engine_usable = subst (IsUsable g.S.Store) c.close_at_exit.ensures.same usable in
    let opened = c.in_ok-engine.ensures.opened.represents (c.inspect-told.ensures.usable engine_usable) history stands in
    let kept = c.inspect-told.ensures.same engine_usable history opened in
    let (now, committed) = stands_for_history g.S.Store history c.inspect-told.new.engine c.close_at_exit.result c.close_at_exit.ensures.same kept in
    (history, refl, now, committed)

pub returns-clause-usable : goal.returns-clause-usable
returns-clause-usable g c usable =
    c.in_ok-engine.ensures.opened.usable (c.inspect-told.ensures.usable (subst (IsUsable g.S.Store) c.close_at_exit.ensures.same usable))

pub returns-clause-told : goal.returns-clause-told
returns-clause-told g c =
    on_ok_weaker c.inspect-told.result
    (λ wrote usable history stands.
    let engine_usable = subst (IsUsable g.S.Store) c.close_at_exit.ensures.same usable in
    wrote engine_usable history (c.in_ok-engine.ensures.opened.represents (c.inspect-told.ensures.usable engine_usable) history stands))
    c.inspect-told.ensures.told
