-- The memory after a refusal, and the refusals that a statement may get over it, whatever the database holds.
use Rattle.std.proofs.Common.{◌≡◌, ◌≤◌, ◌<ℤ◌, ◌≤ℤ◌, ◌∙◌, ℕ, ℤ, Bool, true, false, List, ap, inl, inr, nat_eq, refl, sym, subst, arith}
use Rattle.std.specs.Prelude.{int_lt}
use Rattle.std.specs.List.Sorted.{IsPermutation}
use Rattle.std.proofs.lemmas.Bool.{false≢true}
use Rattle.std.proofs.lemmas.Bool.Decides.{nat_tests}
use Rattle.std.proofs.lemmas.Int.{ints}
use Rattle.std.proofs.lemmas.List.Sorted.{IsPermutation-refl, IsPermutation-sym}
use Rattle.period_core.specs.Codes.{code_of}
use Rattle.period_core.specs.Leasts.{NoneApplies}
use Rattle.period_core.specs.Moments.{forever}
use Rattle.period_core.specs.declared.refusal.Refusal.{Refusal}
use Rattle.period_core.specs.declared.version.VersionRow.{VersionRow}
use Rattle.sql_statements.specs.Trees.{Statement}
use Rattle.sql_statements.specs.Trees as statement
use Rattle.catalog_core.specs.declared.table.TableDef.{TableDef}
use Rattle.catalog_core.specs.declared.table.catalog.Catalog.{Catalog}
use Rattle.period_keys.specs.Rows.{RowsByKey}
use Rattle.version_store.specs.StoreState.{IsStoreRefusal}
use Rattle.script_engine.specs.engine.EngineState.{EngineState}
use Rattle.script_engine.specs.engine.InMemory.{HaveRows, IsSameInMemory, rows_in}
use Rattle.script_engine.specs.engine.Runs.{AppliesOver, MayRefuseMoment, MayRefuseOver}
use Rattle.script_engine.proofs.Steps.{may_refuse-store}

-- ---- an engine's memory

pub same_memory : {S : Type 0} (engine : EngineState S) → IsSameInMemory engine engine
same_memory engine = record { catalog = refl; clock = refl; rows = λ number. IsPermutation-refl (rows_in engine.tables number); ended = refl }

-- the rows of a table, in another order
pub rows_memory : {S : Type 0} (old new : EngineState S) (table : ℕ) → new.catalog ≡ old.catalog → new.clock ≡ old.clock → HaveRows table (rows_in old.tables table) old.tables new.tables → new.ended ≡ old.ended → IsSameInMemory old new
rows_memory old new table catalog clock same closed = record {
  catalog = ap (λ (k : Catalog). k.tables) catalog;
  clock = clock;
  rows = λ number. at number (nat_eq number table) refl;
  ended = closed;
}
  where
    at : (number : ℕ) (b : Bool) → nat_eq number table ≡ b → IsPermutation (rows_in old.tables number) (rows_in new.tables number)
    at number true here =
        let is : table ≡ number = grind (arith, nat_tests, here) in
        subst (λ (n : ℕ). IsPermutation (rows_in old.tables n) (rows_in new.tables n)) is (IsPermutation-sym (rows_in new.tables table) (rows_in old.tables table) same.there)
    at number false off =
        let away : number ≡ table → ⊥ = λ is. let here : nat_eq number table ≡ true = grind (arith, nat_tests, is) in cc in
        subst (λ (l : List VersionRow). IsPermutation (rows_in old.tables number) l) (sym (same.others number away)) (IsPermutation-refl (rows_in old.tables number))

-- the tables, as the old list
pub list_memory : {S : Type 0} (old new : EngineState S) → new.catalog.tables ≡ old.catalog.tables → new.clock ≡ old.clock → new.tables ≡ old.tables → new.ended ≡ old.ended → IsSameInMemory old new
list_memory old new catalog clock tables closed = record {
  catalog = catalog;
  clock = clock;
  rows = λ number. subst (λ (l : List RowsByKey). IsPermutation (rows_in old.tables number) (rows_in l number)) (sym tables) (IsPermutation-refl (rows_in old.tables number));
  ended = closed;
}

-- ---- refusals over a catalog and a clock

module _ (tables : List TableDef) (clock : ℤ) where
  -- a failure, if no condition holds
  pub failed_over : (s : Statement) (refusal : Refusal) → NoneApplies (AppliesOver tables clock s) → IsStoreRefusal refusal → MayRefuseOver tables clock s refusal
  failed_over s refusal none failure = inl (may_refuse-store (AppliesOver tables clock s) refusal failure none)

  pub not_earlier : (moment : ℤ) → clock ≤ℤ moment → NoneApplies (AppliesOver tables clock (statement.at moment))
  not_earlier moment late refusal (inl (same, before)) = let off : int_lt moment clock ≡ false = grind (arith, ints, late) in false≢true (sym off ∙ before)
  not_earlier moment late refusal (inr nothing) = nothing

  -- 40 is the least of its conditions
  least_back : (moment : ℤ) (other : Refusal) → AppliesOver tables clock (statement.at moment) other → 40 ≤ code_of other
  least_back moment other (inl (same, early)) = subst (λ (r : Refusal). 40 ≤ code_of r) same (omega arith)
  least_back moment other (inr nothing) = absurd nothing

  -- an AT, which names no FOREVER
  pub moment_over : (moment : ℤ) (refusal : Refusal) → moment <ℤ forever → MayRefuseMoment clock moment refusal → MayRefuseOver tables clock (statement.at moment) refusal
  moment_over moment refusal before (inl (bad, never)) = absurd (omega (arith, ints, before, never))
  moment_over moment refusal before (inr (inl (back, early))) =
      let holds : int_lt moment clock ≡ true = grind (arith, ints, early) in
      subst (λ (r : Refusal). MayRefuseOver tables clock (statement.at moment) r) (sym back)
      (inl (inl (inl (record { applies = inl (refl, holds); least = least_back moment }))))
  moment_over moment refusal before (inr (inr (failure, late, below))) = failed_over (statement.at moment) refusal (not_earlier moment late) failure
