-- A plan that is not made for want of memory leaves a store as it was.
use Rattle.std.proofs.Common.{◌≡◌, ℕ, Err, Result, inl, refl}
use Rattle.catalog_core.specs.declared.change.Plan.{Plan}
use Rattle.period_core.specs.declared.refusal.Refusal.{Refusal}
use Rattle.period_core.specs.declared.refusal.Refusal.TheVariants.{Memory}
use Rattle.sqlite.specs.Store.{Ghosts}
use Rattle.version_tables.proofs.Keeping.{keeps_same}
use Rattle.version_store.specs.StoreState.{StoreState}
use Rattle.script_engine.specs.engine.Changed.{MakesPlan}

pub unmade : {S X : Type 0} (g : Ghosts S) (store : StoreState S) (result : Result X Refusal) (number : ℕ) (plan : Plan) → result ≡ Err Memory → MakesPlan g store store result number plan
unmade g store result number plan is = rw is (record {
  changes = λ usable c stands. (tt, stands);
  catalog = refl;
  clock = refl;
  none = λ usable. (refl, refl);
  usable = λ usable. usable;
  others = λ usable clean first. keeps_same _ _ refl;
  distinct = λ usable c stands. tt;
  named = inl refl;
  why = λ usable c stands healthy can. inl refl;
  healthy = λ usable c stands left room. tt;
})
