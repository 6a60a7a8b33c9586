-- The refusals that a change may get over a catalog, as it is resolved and planned.
use Rattle.std.proofs.Common.{◌≡◌, ◌∷◌, ◌++◌, ◌<◌, ◌⊎◌, ◌∙◌, ℤ, Bool, false, true, List, [], refl, sym, subst, inl, inr, arith}
use Rattle.std.proofs.lemmas.Bool.{false≢true}
use Rattle.period_core.specs.Codes.{code_of}
use Rattle.period_core.specs.Leasts.{MayAnswer, NoneApplies}
use Rattle.period_core.specs.declared.refusal.Refusal.{Refusal}
use Rattle.period_core.specs.declared.refusal.Refusal.TheVariants.{EmptyPeriod}
use Rattle.period_core.specs.declared.version.VersionRow.{VersionRow}
use Rattle.sql_statements.specs.Trees.{Statement}
use Rattle.sql_statements.specs.Trees as statement
use Rattle.catalog_core.specs.RefusalConditions.{Holds, RefusalCondition}
use Rattle.statement_resolution.specs.change.Resolution.{IsChange, change_conditions, empty_period}
use Rattle.catalog_core.specs.change.EmptyRows.{has_empty_row}
use Rattle.catalog_core.specs.declared.change.Action.{Action}
use Rattle.catalog_core.specs.declared.change.Plan.{Plan}
use Rattle.catalog_core.specs.declared.table.TableDef.{TableDef}
use Rattle.portion_dml.specs.Plans.{Plans}
use Rattle.version_store.specs.StoreState.{IsStoreRefusal}
use Rattle.script_engine.specs.engine.Runs.{AppliesOver, ChangeApplies, IsConstraintRefusal, MayRefuse, MayRefuseOver, NoneBeforeStore}
use Rattle.script_engine.proofs.Refused.{are_at_most, days-planned, holds_cases, may_answer-before, may_answer-empty}

-- the numbers of a change's conditions are at most the number of an empty period
pub change_numbers : (tables : List TableDef) (s : Statement) → are_at_most 41 (change_conditions tables s) ≡ true
change_numbers tables (statement.insert i) = refl
change_numbers tables (statement.update u) = refl
change_numbers tables (statement.delete d) = refl
change_numbers tables _ = refl

-- the condition of an empty period of a given row is one of EmptyPeriod
abbrev pub gives_empty : List TableDef → Statement → Bool
gives_empty tables s = (empty_period tables s).1

empty_form : (tables : List TableDef) (s : Statement) → empty_period tables s ≡ (EmptyPeriod, gives_empty tables s)
empty_form tables (statement.insert i) = refl
empty_form tables _ = refl

-- the conditions of a change, and the condition of an empty period
abbrev Applies : List TableDef → Statement → Refusal → Type 0
Applies tables s = Holds (change_conditions tables s ++ (EmptyPeriod, gives_empty tables s) ∷ [])

formed : (P : (Refusal → Type 0) → Type 0) (tables : List TableDef) (s : Statement) → P (Applies tables s) → P (ChangeApplies tables s)
formed P tables s p = subst (λ (j : RefusalCondition). P (Holds (change_conditions tables s ++ j ∷ []))) (sym (empty_form tables s)) p

-- if no other condition holds, one that does is the condition of an empty period
only_empty : (tables : List TableDef) (s : Statement) → NoneApplies (Holds (change_conditions tables s)) → (refusal : Refusal) → Applies tables s refusal → (EmptyPeriod ≡ refusal) × (gives_empty tables s ≡ true)
only_empty tables s sound refusal h =
    elim (holds_cases (change_conditions tables s) ((EmptyPeriod, gives_empty tables s) ∷ []) refusal h) [
      | inl k ↦ absurd (sound refusal k)
      | inr k ↦ elim k [ inl both ↦ both | inr nothing ↦ absurd nothing ]
    ]

-- a property of refusals, shown in one way for each form of change
each_form : (P : (Refusal → Type 0) → Type 0) (tables : List TableDef) (clock : ℤ) (s : Statement) → IsChange s → P (ChangeApplies tables s) → P (AppliesOver tables clock s)
each_form P tables clock (statement.insert i) is p = p
each_form P tables clock (statement.update u) is p = p
each_form P tables clock (statement.delete d) is p = p
each_form P tables clock _ is p = absurd is

module _ (tables : List TableDef) (clock : ℤ) (s : Statement) (is : IsChange s) where
  over : (P : (Refusal → Type 0) → Type 0) → P (Applies tables s) → P (AppliesOver tables clock s)
  over P p = each_form P tables clock s is (formed P tables s p)

  -- a refusal of a change that is not resolved
  pub unresolved_answer : (refusal : Refusal) → MayAnswer (Holds (change_conditions tables s)) refusal → MayAnswer (AppliesOver tables clock s) refusal
  unresolved_answer refusal may =
      over (λ A. MayAnswer A refusal) (may_answer-before (change_conditions tables s) (gives_empty tables s) refusal (change_numbers tables s) may)

  pub unresolved : (refusal : Refusal) → MayAnswer (Holds (change_conditions tables s)) refusal → MayRefuse (AppliesOver tables clock s) refusal
  unresolved refusal may = inl (unresolved_answer refusal may)

  module _ (action : Action) (sound : NoneApplies (Holds (change_conditions tables s))) (empty : gives_empty tables s ≡ has_empty_row action) where
    -- an empty period has a number above 40
    before_store : NoneBeforeStore (Applies tables s)
    before_store refusal h = let same = (only_empty tables s sound refusal h).0 in subst (λ (r : Refusal). 40 < code_of r) same (omega arith)

    -- a given row has no day
    pub empty_answer : (refusal : Refusal) → refusal ≡ EmptyPeriod → has_empty_row action ≡ true → MayAnswer (AppliesOver tables clock s) refusal
    empty_answer refusal is none =
        over (λ A. MayAnswer A refusal) (subst (λ (r : Refusal). MayAnswer (Applies tables s) r) (sym is)
        (may_answer-empty (change_conditions tables s) (gives_empty tables s) sound (empty ∙ none)))

    -- there is no plan, if a given row has no day or memory fails
    pub unplanned : (refusal : Refusal) → ((refusal ≡ EmptyPeriod) × (has_empty_row action ≡ true)) ⊎ IsStoreRefusal refusal → MayRefuse (AppliesOver tables clock s) refusal
    unplanned refusal why = over (λ A. MayRefuse A refusal) (may why)
      where
        may : ((refusal ≡ EmptyPeriod) × (has_empty_row action ≡ true)) ⊎ IsStoreRefusal refusal → MayRefuse (Applies tables s) refusal
        may (inl none) =
            inl (subst (λ (r : Refusal). MayAnswer (Applies tables s) r) (sym none.0)
            (may_answer-empty (change_conditions tables s) (gives_empty tables s) sound (empty ∙ none.1)))
        may (inr (inl memory)) = inl (inr memory)
        may (inr (inr store)) = inr (store, before_store)

    -- if no given row is empty, no condition of 1 to 41 holds
    pub none_without_empty : (has_empty_row action ≡ true → ⊥) → NoneApplies (AppliesOver tables clock s)
    none_without_empty days = over NoneApplies (λ refusal h. days (sym empty ∙ (only_empty tables s sound refusal h).1))

    -- a lawful change's resolution may be refused with 42 or 43
    pub constrained : (refusal : Refusal) → (has_empty_row action ≡ true → ⊥) → IsConstraintRefusal refusal → MayRefuseOver tables clock s refusal
    constrained refusal days by = inr (is, by, none_without_empty days)

    -- a change that has a plan meets no condition of a refusal
    pub planned_sound : (listed : List VersionRow) (plan : Plan) → Plans action listed plan → NoneApplies (AppliesOver tables clock s)
    planned_sound listed plan plans = none_without_empty (λ found. let off : has_empty_row action ≡ false = days-planned action listed plan plans in false≢true (sym off ∙ found))
