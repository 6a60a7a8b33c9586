-- Why statements are refused if the store is only read.
use Rattle.std.proofs.Common.{ℤ, List, inl, inr, subst, subst₂}
use Rattle.period_core.specs.Leasts.{MayAnswer, NoneApplies}
use Rattle.period_core.specs.declared.refusal.Refusal.{Refusal}
use Rattle.sql_statements.specs.Trees.{Statement}
use Rattle.statement_resolution.specs.change.Resolution.{IsChange, ResolvesChange}
use Rattle.catalog_core.specs.declared.change.Change.{Change}
use Rattle.catalog_core.specs.declared.table.TableDef.{TableDef}
use Rattle.history_model.specs.Histories.{History, last_state}
use Rattle.period_keys.specs.Lawful.{IsLawfulChange}
use Rattle.sqlite.specs.Store.{Ghosts}
use Rattle.script_engine.specs.engine.EngineState.{EngineState}
use Rattle.script_engine.specs.engine.Runs.{AppliesOver, StatementApplies}
use Rattle.script_engine.specs.engine.Stored.{EngineRepresents}
use Rattle.script_engine.specs.engine.Unwritten.{MakesLawful, MayRefuseUnwritten, MayRefuseUnwrittenOver}
use Rattle.script_engine.proofs.Steps.{tables_of}
use Rattle.script_engine.proofs.TimedFacts.{same_clock}

module _ {S : Type 0} (g : Ghosts S) (history : History) (engine : EngineState S) (kept : EngineRepresents g history engine) (s : Statement) where
  -- conditions over the engine's tables and clock are conditions over the history's
  pub applies_in : (P : (Refusal → Type 0) → Type 0) → P (AppliesOver engine.catalog.tables engine.clock s) → P (StatementApplies history s)
  applies_in P p = subst₂ (λ (tables : List TableDef) (clock : ℤ). P (AppliesOver tables clock s)) (tables_of g history engine kept) (same_clock g history engine kept) p

  -- a refusal of a statement that is no change, in the history
  pub unwritten_in : (refusal : Refusal) → (IsChange s → ⊥) → MayRefuseUnwrittenOver engine.catalog.tables engine.clock s refusal → MayRefuseUnwritten history s refusal
  unwritten_in refusal unchanged (inl may) = inl (applies_in (λ A. MayAnswer A refusal) may)
  unwritten_in refusal unchanged (inr (none, inl (is, by))) = absurd (unchanged is)
  unwritten_in refusal unchanged (inr (none, inr store)) = inr (inr (store, applies_in NoneApplies none, λ is. absurd (unchanged is)))

  -- a lawful change, in the history
  pub makes_lawful : (change : Change) → ResolvesChange engine.catalog.tables s change → IsLawfulChange engine.catalog.tables (last_state history) change → MakesLawful history s
  makes_lawful change resolved lawful is = (
    change,
    subst (λ (tables : List TableDef). ResolvesChange tables s change) (tables_of g history engine kept) resolved,
    subst (λ (tables : List TableDef). IsLawfulChange tables (last_state history) change) (tables_of g history engine kept) lawful,
  )
