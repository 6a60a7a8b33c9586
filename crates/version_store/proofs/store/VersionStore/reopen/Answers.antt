use Rattle.std.proofs.Common.{Result, Ok, Err, sym, subst}
use Rattle.std.specs.Prelude.{IfErr}
use Rattle.std.proofs.lemmas.Result.{IfOk-weaker}
use Rattle.sqlite.specs.Held.{Held, state}
use Rattle.version_tables.specs.declared.form.Form.TheVariants.{Microseconds}
use Rattle.version_store.specs.Contents.{AreVersionsOf, Contents}
use Rattle.version_store.specs.StoreState.{IsFailure, OpenedRepresents}
use Rattle.version_store.specs.Written.{Has}
use Rattle.version_store.proofs.Units.{same_units}
use Rattle.version_store.proofs.Keys.{keys_kept}
use Rattle.version_store.proofs.Opens.{good_store}
use Rattle.version_store.proofs.store.VersionStore.reopen.Goals as goal

err_from : {X E : Type 0} (P Q R : E → Type 0) (r : Result X E) → ((e : E) → P e → Q e → R e) → IfErr r P → IfErr r Q → IfErr r R
err_from P Q R (Ok x) h p q = tt
err_from P Q R (Err e) h p q = h e p q

both : {X E : Type 0} (P Q : E → Type 0) (r : Result X E) → IfErr r P → IfErr r Q → IfErr r (λ e. P e × Q e)
both P Q (Ok x) p q = tt
both P Q (Err e) p q = (p, q)

pub returns-clause-kept : goal.returns-clause-kept
returns-clause-kept g c =
    err_from _ _ _ c.open.result (λ failed bad was usable d stands good.
    let has = subst (λ (h : Held _). Has (state g.S.Store h).now d) (sym c.close-connection.ensures.same) stands.now in
    let keys = keys_kept (state g.S.Store c.close-connection.result).now has.rows.schema (c.schema-live.ensures.live (was.0 usable).1).0 has.rows.untied has.rows.keyed in
    let store = good_store (state g.S.Store c.close-connection.result).now d has keys good in
    (λ is_bad. (bad usable is_bad).1 store, subst (λ (h : Held _). IsFailure g.S.Store h failed.1 failed.0) c.close-connection.ensures.same (was.1 usable store (has.rows.untied, has.rows.keyed)))) c.open.ensures.bad
    (both _ _ c.open.result c.open.ensures.was_usable c.open.ensures.why)

pub returns-clause-same : goal.returns-clause-same
returns-clause-same g c =
    IfOk-weaker c.open.result _ _ (λ found same usable d stands.
    let has = subst (λ (h : Held _). Has (state g.S.Store h).now d) (sym c.close-connection.ensures.same) stands.now in
    subst (OpenedRepresents g.S.Store found.0) (same_units d) (same usable Microseconds d has)) c.open.ensures.same

pub returns-clause-versions : goal.returns-clause-versions
returns-clause-versions g c =
    IfOk-weaker c.open.result _ _ (λ found same usable d stands.
    let has = subst (λ (h : Held _). Has (state g.S.Store h).now d) (sym c.close-connection.ensures.same) stands.now in
    subst (λ (e : Contents). AreVersionsOf e found.1.items) (same_units d) (same usable Microseconds d has)) c.open.ensures.versions
