-- Statements over an engine, whatever its database holds.
use Rattle.std.proofs.Common.{◌≡◌, Ok, Err, refl, subst, sym}
use Rattle.period_core.specs.Leasts.{NoneApplies}
use Rattle.period_core.specs.declared.refusal.Refusal.{Refusal}
use Rattle.sql_statements.specs.Trees.{Statement}
use Rattle.sql_statements.specs.Trees as statement
use Rattle.sqlite.specs.Store.{Ghosts}
use Rattle.statement_resolution.specs.change.Resolution.{IsChange}
use Rattle.version_store.specs.StoreState.{StaysOnErr}
use Rattle.script_engine.specs.engine.EngineState.{EngineState}
use Rattle.script_engine.specs.engine.InMemory.{IsSameInMemory}
use Rattle.script_engine.specs.engine.Over.{Follows, IsAsDefined, StepOver}
use Rattle.script_engine.specs.engine.Runs.{AppliesOver, MayRefuseOver}
use Rattle.script_engine.specs.engine.Stored.{WasUsable}
use Rattle.statement_reports.specs.declared.outcome.Outcome.{Outcome}
use Rattle.script_engine.proofs.SameInMemory.{same_memory}

-- a change leaves the catalog and the clock, as every other statement does
pub change_follows : {S : Type 0} (old new : EngineState S) (s : Statement) → IsChange s → IsAsDefined old new → Follows old s new
change_follows old new (statement.insert i) is same = same
change_follows old new (statement.update u) is same = same
change_follows old new (statement.delete d) is same = same
change_follows old new _ is same = absurd is

module _ {S : Type 0} (g : Ghosts S) (old : EngineState S) (s : Statement) where
  pub refused_over : (new : EngineState S) (refusal : Refusal) → MayRefuseOver old.catalog.tables old.clock s refusal → IsSameInMemory old new → StaysOnErr {X = Outcome} g old.connection new.connection (Err refusal) → WasUsable g old.connection new.connection →
      StepOver g old s (Err refusal) new
  refused_over new refusal may memory stays usable = record { refused = may; memory = memory; none_stored = stays; accepted = tt; usable = usable }

  -- an engine that is the same was not changed
  pub untouched_over : (new : EngineState S) (refusal : Refusal) → new ≡ old → MayRefuseOver old.catalog.tables old.clock s refusal → StepOver g old s (Err refusal) new
  untouched_over new refusal same may = subst (λ (e : EngineState S). StepOver g old s (Err refusal) e) (sym same) (refused_over old refusal may (same_memory old) (λ usable. (refl, refl)) (λ usable. usable))

  pub accepted_over : (new : EngineState S) (outcome : Outcome) → NoneApplies (AppliesOver old.catalog.tables old.clock s) → Follows old s new → WasUsable g old.connection new.connection → StepOver g old s (Ok outcome) new
  accepted_over new outcome sound follow usable = record { refused = tt; memory = tt; none_stored = λ still. tt; accepted = (sound, follow); usable = usable }

  -- a query leaves the engine as it was
  pub asked_over : (new : EngineState S) (outcome : Outcome) → new ≡ old → NoneApplies (AppliesOver old.catalog.tables old.clock s) → Follows old s old → StepOver g old s (Ok outcome) new
  asked_over new outcome same sound follow = subst (λ (e : EngineState S). StepOver g old s (Ok outcome) e) (sym same) (accepted_over old outcome sound follow (λ usable. usable))
