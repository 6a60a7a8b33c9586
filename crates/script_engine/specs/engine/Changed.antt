-- A plan made in a store.
use Rattle.std.specs.Prelude.{◌≡◌, ℕ, IfErr, OnOk, Result, length}
use Rattle.catalog_core.specs.declared.change.Plan.{Plan}
use Rattle.period_core.specs.declared.refusal.Refusal.{Refusal}
use Rattle.sqlite.specs.Store.{Ghosts}
use Rattle.version_store.specs.Changed.{CanMake, planned}
use Rattle.version_store.specs.Contents.{Contents}
use Rattle.version_store.specs.DistinctKeys.{HaveDistinctKeys}
use Rattle.version_store.specs.StoreState.{Changes, FailsForReason, IsStoreRefusal, IsUsable}
use Rattle.version_store.specs.StoreState.{LeavesHealthy, SparesOthers, StaysOnErr}
use Rattle.version_store.specs.StoreState.{StoreRepresents, StoreState}
use Rattle.script_engine.specs.engine.Stored.{WasUsable}

-- a plan of the table of a number is made at the clock on Ok, and nothing of it on Err
pub record MakesPlan {S X : Type 0} (g : Ghosts S) (old new : StoreState S)
    (result : Result X Refusal) (number : ℕ) (plan : Plan) : Type 0 where
  pub changes : Changes g old new result (planned number old.clock plan.ended plan.added)
  pub catalog : new.catalog ≡ old.catalog
  pub clock : new.clock ≡ old.clock
  pub none : StaysOnErr g old.connection new.connection result
  pub usable : WasUsable g old.connection new.connection
  pub others : SparesOthers g old.connection new.connection
  -- a store whose plan is made had no version twice
  pub distinct : IsUsable g new.connection → (c : Contents) → StoreRepresents g old c
      → OnOk result (HaveDistinctKeys c.versions)
  -- a refusal is out of memory or a failure of the database, and over a healthy one for a reason
  pub named : IfErr result IsStoreRefusal
  pub why : FailsForReason g old new result (length plan.added)
      (CanMake number old.clock plan.ended plan.added)
  pub healthy : LeavesHealthy g old new result (length plan.added)
