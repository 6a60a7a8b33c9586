use Rattle.std.proofs.Common.{◌+◌, length, rules, sym, subst, refl}
use Rattle.sqlite.specs.Held.{state}
use Rattle.version_tables.specs.Healthy.{IsHealthy}
use Rattle.std.proofs.lemmas.Result.{err_from_is_err_and}
use Rattle.period_core.specs.Moments.{IsMomentNumber}
use Rattle.version_store.specs.StoreState.{IsFailure, StoreRepresents, StoreState}
use Rattle.version_store.proofs.Dated.{planned_dated}
use Rattle.version_store.proofs.Keys.{keys_of}
use Rattle.version_store.proofs.AfterCalls.{failed_for, stays}
use Rattle.version_store.proofs.store.VersionStore.apply.Goals as goal

pub returns-clause-changes : goal.returns-clause-changes
returns-clause-changes g k usable c stands =
    let was = subst (λ s. StoreRepresents g.S.Store s c) (sym k.self.view_is) stands in
    let at : IsMomentNumber k.args.moment = search rules in
    let sound = (k.schema-live.ensures.live (k.write_plan.ensures.usable usable).1).0 in
    let made = k.in_ok-write_plan.ensures.made usable.0 sound c was.now in
    (record { now = made.0; committed = made.1; catalog = was.catalog; clock = was.clock; dated = planned_dated k.args.table k.args.moment at k.args.plan.now.ended k.args.plan.now.added c was.dated }, tt)

pub returns-in_err-write_plan-clause-changes : goal.returns-in_err-write_plan-clause-changes
returns-in_err-write_plan-clause-changes g k usable c stands =
    let was = subst (λ s. StoreRepresents g.S.Store s c) (sym k.self.view_is) stands in
    let p = err_from_is_err_and k.from_residual.result k.from_residual.ensures.1 in
    rw p.1 (tt, stays g.S.Store _ _ c was (k.in_err-write_plan.ensures.none usable) refl refl)

pub returns-clause-distinct : goal.returns-clause-distinct
returns-clause-distinct g k usable c stands =
    let was = subst (λ s. StoreRepresents g.S.Store s c) (sym k.self.view_is) stands in
    keys_of _ c was.now (k.schema-live.ensures.live (k.write_plan.ensures.usable usable).1).0

pub returns-in_err-write_plan-clause-distinct : goal.returns-in_err-write_plan-clause-distinct
returns-in_err-write_plan-clause-distinct g k usable c stands =
    let was = subst (λ s. StoreRepresents g.S.Store s c) (sym k.self.view_is) stands in
    keys_of _ c was.now (k.schema-live.ensures.live (k.write_plan.ensures.usable usable).1).0

pub returns-in_err-write_plan-clause-why : goal.returns-in_err-write_plan-clause-why
returns-in_err-write_plan-clause-why g k usable c stands healthy can =
    let was = subst (λ s. StoreRepresents g.S.Store s c) (sym k.self.view_is) stands in
    let sound = subst (λ (s : StoreState _). IsHealthy (length k.args.plan.now.added) (state g.S.Store s.connection).now) (sym k.self.view_is) healthy in
    let p = err_from_is_err_and k.from_residual.result k.from_residual.ensures.1 in
    rw p.1 (subst (λ (s : StoreState _). IsFailure g.S.Store s.connection k.write_plan.new.connection p.0) k.self.view_is (failed_for g.S.Store k.self.inside.connection k.write_plan.new.connection _ p.0 p.2.1 (k.write_plan.ensures.usable usable).1 (k.in_err-write_plan.ensures.why usable.0 sound c was.now can)))

pub returns-clause-healthy : goal.returns-clause-healthy
returns-clause-healthy g k usable c stands left healthy =
    let was = subst (λ s. StoreRepresents g.S.Store s c) (sym k.self.view_is) stands in
    let sound = subst (λ (s : StoreState _). IsHealthy (length k.args.plan.now.added + left) (state g.S.Store s.connection).now) (sym k.self.view_is) healthy in
    k.in_ok-write_plan.ensures.healthy usable.0 left sound c was.now
