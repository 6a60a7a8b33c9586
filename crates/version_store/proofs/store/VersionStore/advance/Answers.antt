use Rattle.std.proofs.Common.{sym, subst, refl, ◌+◌}
use Rattle.sqlite.specs.Held.{state}
use Rattle.version_tables.specs.Healthy.{IsHealthy}
use Rattle.std.proofs.lemmas.Result.{err_from_is_err_and}
use Rattle.version_store.specs.StoreState.{IsFailure, StoreRepresents, StoreState}
use Rattle.version_store.specs.Written.{written}
use Rattle.version_store.proofs.AfterCalls.{failed_for, stays}
use Rattle.version_store.proofs.store.VersionStore.advance.Goals as goal

pub returns-in_err-write_clock-clause-changes : goal.returns-in_err-write_clock-clause-changes
returns-in_err-write_clock-clause-changes g k usable c stands =
    let was = subst (λ s. StoreRepresents g.S.Store s c) (sym k.self.view_is) stands in
    let p = err_from_is_err_and k.from_residual.result k.from_residual.ensures.1 in
    rw p.1 (tt, stays g.S.Store _ _ c was (k.in_err-write_clock.ensures.none usable) refl refl)

pub returns-clause-changes : goal.returns-clause-changes
returns-clause-changes g k usable c stands =
    let was = subst (λ s. StoreRepresents g.S.Store s c) (sym k.self.view_is) stands in
    let made = k.in_ok-write_clock.ensures.made usable.0 c was.now in
    (record { now = made.0; committed = made.1; catalog = was.catalog; clock = refl; dated = was.dated }, tt)

pub returns-in_err-write_clock-clause-why : goal.returns-in_err-write_clock-clause-why
returns-in_err-write_clock-clause-why g k usable c stands healthy _ =
    let was = subst (λ s. StoreRepresents g.S.Store s c) (sym k.self.view_is) stands in
    let sound = subst (λ (s : StoreState _). IsHealthy 0 (state g.S.Store s.connection).now) (sym k.self.view_is) healthy in
    let p = err_from_is_err_and k.from_residual.result k.from_residual.ensures.1 in
    rw p.1 (subst (λ (s : StoreState _). IsFailure g.S.Store s.connection k.write_clock.new.connection p.0) k.self.view_is (failed_for g.S.Store k.self.inside.connection k.write_clock.new.connection _ p.0 p.2.1 (k.write_clock.ensures.usable usable).1 (k.in_err-write_clock.ensures.why usable.0 sound (written c) was.now.rows tt)))

pub returns-clause-healthy : goal.returns-clause-healthy
returns-clause-healthy g k usable c stands left healthy =
    let was = subst (λ s. StoreRepresents g.S.Store s c) (sym k.self.view_is) stands in
    let sound = subst (λ (s : StoreState _). IsHealthy (0 + left) (state g.S.Store s.connection).now) (sym k.self.view_is) healthy in
    k.in_ok-write_clock.ensures.healthy usable.0 left sound c was.now
