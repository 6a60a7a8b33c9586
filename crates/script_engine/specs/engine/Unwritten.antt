-- Why statements are refused if the store is only read.
use Rattle.std.specs.Prelude.{◌≡◌, ◌⊎◌, ℤ, List}
use Rattle.period_core.specs.Leasts.{MayAnswer, NoneApplies}
use Rattle.period_core.specs.declared.refusal.Refusal.{Refusal}
use Rattle.period_core.specs.declared.refusal.Refusal.TheVariants.{Store}
use Rattle.sql_statements.specs.Trees.{Statement}
use Rattle.statement_resolution.specs.change.Resolution.{IsChange, ResolvesChange}
use Rattle.catalog_core.specs.declared.change.Change.{Change}
use Rattle.catalog_core.specs.declared.table.TableDef.{TableDef}
use Rattle.history_model.specs.Histories.{History, catalog_of, last_state}
use Rattle.period_keys.specs.Lawful.{IsLawfulChange}
use Rattle.script_engine.specs.engine.Runs.{AppliesOver, IsConstraintRefusal, IsUnlawful}
use Rattle.script_engine.specs.engine.Runs.{StatementApplies}

-- the change that a statement makes is lawful, if it makes one
abbrev pub MakesLawful : History → Statement → Type 0
MakesLawful history s =
    IsChange s → (change : Change) × ResolvesChange (catalog_of history) s change
    × IsLawfulChange (catalog_of history) (last_state history) change

-- as over a store that is written: by the least condition of its own, or out of memory in its
-- place; a change of which none holds by its fault; and else, if it would be accepted, with 62
abbrev pub MayRefuseUnwritten : History → Statement → Refusal → Type 0
MayRefuseUnwritten history s refusal =
    MayAnswer (StatementApplies history s) refusal
    ⊎ (IsUnlawful history s refusal
    ⊎ ((refusal ≡ Store) × NoneApplies (StatementApplies history s) × MakesLawful history s))

-- and whatever the database holds, by the catalog and the clock in memory
abbrev pub MayRefuseUnwrittenOver : List TableDef → ℤ → Statement → Refusal → Type 0
MayRefuseUnwrittenOver catalog clock s refusal =
    MayAnswer (AppliesOver catalog clock s) refusal
    ⊎ (NoneApplies (AppliesOver catalog clock s)
    × ((IsChange s × IsConstraintRefusal refusal) ⊎ (refusal ≡ Store)))
