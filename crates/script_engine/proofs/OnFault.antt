-- A statement is refused with 62 for no condition of its own.
use Rattle.std.proofs.Common.{◌≡◌, ◌∙◌, List, ap, arith, inl, inr, refl, subst, sym, true}
use Rattle.period_core.specs.Codes.{code_of}
use Rattle.period_core.specs.Leasts.{MayAnswer}
use Rattle.period_core.specs.declared.refusal.Refusal.{Refusal}
use Rattle.period_core.specs.declared.refusal.Refusal.TheVariants.{EmptyPeriod, Memory, Store}
use Rattle.sqlite.specs.Held.{state}
use Rattle.sqlite.specs.Store.{Ghosts}
use Rattle.sql_statements.specs.Trees.{Statement}
use Rattle.sql_statements.specs.Trees as statement
use Rattle.sql_statements.specs.declared.create.CreateTable.{CreateTable}
use Rattle.catalog_core.specs.RefusalConditions.{Holds, RefusalCondition}
use Rattle.statement_resolution.specs.change.Resolution.{change_conditions}
use Rattle.catalog_core.specs.create.Creation.{create_conditions}
use Rattle.statement_resolution.specs.query.Resolving.{query_conditions}
use Rattle.statement_resolution.specs.stored.StoredQueries.{stored_conditions}
use Rattle.catalog_core.specs.declared.table.TableDef.{TableDef}
use Rattle.version_tables.specs.Steps.{HasFault}
use Rattle.script_engine.specs.engine.EngineState.{EngineState}
use Rattle.script_engine.specs.engine.Runs.{IsConstraintRefusal, IsQuery, MayRefuseQuery}
use Rattle.script_engine.proofs.ChangeRefusals.{change_numbers}
use Rattle.script_engine.proofs.Refused.{are_at_most, code-at_most}

-- a refusal for memory is no failure of the store
pub not_memory : (refusal : Refusal) → refusal ≡ Memory → refusal ≡ Store → ⊥
not_memory refusal memory told = let no : Store ≡ Memory = sym told ∙ memory in cc

-- conditions of lower numbers give another refusal
otherwise : (conditions : List RefusalCondition) (refusal : Refusal) → are_at_most 41 conditions ≡ true → MayAnswer (Holds conditions) refusal → refusal ≡ Store → ⊥
otherwise conditions refusal low (inl least) told =
    let most = code-at_most 41 conditions refusal low least.applies in
    let is : code_of refusal ≡ 62 = ap code_of told in
    omega (arith, most, is)
otherwise conditions refusal low (inr memory) told = not_memory refusal memory told

pub created_otherwise : (tables : List TableDef) (create : CreateTable) (refusal : Refusal) → MayAnswer (Holds (create_conditions tables create)) refusal → refusal ≡ Store → ⊥
created_otherwise tables create refusal may told = otherwise (create_conditions tables create) refusal refl may told

pub changed_otherwise : (tables : List TableDef) (s : Statement) (refusal : Refusal) → MayAnswer (Holds (change_conditions tables s)) refusal → refusal ≡ Store → ⊥
changed_otherwise tables s refusal may told = otherwise (change_conditions tables s) refusal (change_numbers tables s) may told

pub not_empty : (refusal : Refusal) → refusal ≡ EmptyPeriod → refusal ≡ Store → ⊥
not_empty refusal empty told = let no : Store ≡ EmptyPeriod = sym told ∙ empty in cc

pub not_constraint : (refusal : Refusal) → IsConstraintRefusal refusal → refusal ≡ Store → ⊥
not_constraint refusal by told = subst IsConstraintRefusal told by

-- a query is refused with 62 for a fault alone
pub asked_by_fault : {S : Type 0} (g : Ghosts S) (old new : EngineState S) (s : Statement) (refusal : Refusal) → IsQuery s → MayRefuseQuery g old new s refusal → refusal ≡ Store → HasFault (state g old.connection) (state g new.connection)
asked_by_fault g old new s refusal asks (inr fault) told = fault
asked_by_fault g old new (statement.sequenced q) refusal asks (inl may) told = absurd (otherwise (query_conditions old.catalog.tables (statement.sequenced q)) refusal refl may told)
asked_by_fault g old new (statement.stored q) refusal asks (inl may) told = absurd (otherwise (stored_conditions old.catalog.tables (statement.stored q)) refusal refl may told)
asked_by_fault g old new _ refusal asks (inl may) told = absurd asks
