-- The refusals that a statement may get, from those that its parts give.
use Rattle.std.proofs.Common.{◌≡◌, ◌≤◌, ◌++◌, ◌∷◌, ◌⊎◌, ℕ, Bool, true, false, List, [], map, refl, sym, ◌∙◌, ap, subst, inl, inr, nat_le, arith}
use Rattle.std.proofs.lemmas.Int.{ints}
use Rattle.std.specs.List.{list_all, list_any}
use Rattle.period_core.specs.Codes.{code_of}
use Rattle.period_core.specs.Leasts.{MayAnswer, NoneApplies}
use Rattle.period_core.specs.declared.refusal.Refusal.{Refusal}
use Rattle.period_core.specs.declared.refusal.Refusal.TheVariants.{EmptyPeriod, Memory, Store}
use Rattle.period_core.specs.declared.row.PeriodRow.{PeriodRow}
use Rattle.period_core.specs.declared.version.VersionRow.{VersionRow}
use Rattle.catalog_core.specs.RefusalConditions.{Holds, RefusalCondition}
use Rattle.catalog_core.specs.change.EmptyRows.{has_empty_row, is_empty_row}
use Rattle.history_model.specs.Portions.{PlainRow, plain_given, plain_row}
use Rattle.portion_dml.specs.Plans.{Plans}
use Rattle.catalog_core.specs.declared.change.Action.{Action}
use Rattle.catalog_core.specs.declared.change.Action.TheVariants.{Delete, Insert, Update}
use Rattle.catalog_core.specs.declared.change.InsertedRow.{InsertedRow}
use Rattle.catalog_core.specs.declared.change.Plan.{Plan}
use Rattle.sqlite.specs.Held.{Held, state}
use Rattle.sqlite.specs.Store.{Ghosts}
use Rattle.version_tables.specs.Steps.{HasFault}
use Rattle.sql_statements.specs.Trees.{Statement}
use Rattle.version_store.specs.StoreState.{IsFailure}
use Rattle.script_engine.specs.engine.EngineState.{EngineState}
use Rattle.script_engine.specs.engine.Runs.{MayRefuseQuery}
use Rattle.script_engine.proofs.PlanFacts.{rows_given}

-- a refusal whose condition holds is one among more conditions
pub holds_before : (conditions more : List RefusalCondition) (refusal : Refusal) → Holds conditions refusal → Holds (conditions ++ more) refusal
holds_before [] more refusal h = absurd h
holds_before (first ∷ conditions) more refusal (inl h) = inl h
holds_before (first ∷ conditions) more refusal (inr h) = inr (holds_before conditions more refusal h)

pub holds_after : (conditions more : List RefusalCondition) (refusal : Refusal) → Holds more refusal → Holds (conditions ++ more) refusal
holds_after [] more refusal h = h
holds_after (first ∷ conditions) more refusal h = inr (holds_after conditions more refusal h)

pub holds_cases : (conditions more : List RefusalCondition) (refusal : Refusal) → Holds (conditions ++ more) refusal → Holds conditions refusal ⊎ Holds more refusal
holds_cases [] more refusal h = inr h
holds_cases (first ∷ conditions) more refusal (inl h) = inl (inl h)
holds_cases (first ∷ conditions) more refusal (inr h) = elim (holds_cases conditions more refusal h) [ inl k ↦ inl (inr k) | inr k ↦ inr k ]

-- the numbers of the conditions are at most this one
abbrev pub are_at_most : ℕ → List RefusalCondition → Bool
are_at_most number conditions = list_all (λ (j : RefusalCondition). nat_le (code_of j.0) number) conditions

pub code-at_most : (number : ℕ) (conditions : List RefusalCondition) (refusal : Refusal) → are_at_most number conditions ≡ true → Holds conditions refusal → code_of refusal ≤ number
code-at_most number [] refusal all h = absurd h
code-at_most number ((judged, holds) ∷ conditions) refusal all (inl (same, held)) = subst (λ r. code_of r ≤ number) same (grind (arith, all))
code-at_most number ((judged, holds) ∷ conditions) refusal all (inr h) = code-at_most number conditions refusal (grind (arith, all)) h

-- given rows of which there are period rows have days
days-given : (given : List InsertedRow) (rows : List PeriodRow) → map plain_row rows ≡ map plain_given given → list_any is_empty_row given ≡ false
days-given [] rows e = refl
days-given (first ∷ given) [] e = cc
days-given (first ∷ given) (row ∷ rows) e =
    let head : plain_row row ≡ plain_given first = cc in
    let tail : map plain_row rows ≡ map plain_given given = cc in
    let start : row.period.start ≡ first.start = ap (λ (r : PlainRow). r.start) head in
    let end : row.period.end ≡ first.end = ap (λ (r : PlainRow). r.end) head in
    let ordered = row.period.ordered in
    let here : is_empty_row first ≡ false = grind (arith, ints, start, end, ordered) in
    rw here (days-given given rows tail)

-- the rows of an action of which there is a plan have days
pub days-planned : (action : Action) (listed : List VersionRow) (plan : Plan) → Plans action listed plan → has_empty_row action ≡ false
days-planned (Insert given) listed plan plans = days-given given plan.added (rows_given given listed plan plans)
days-planned (Update portion assignments condition) listed plan plans = refl
days-planned (Delete portion condition) listed plan plans = refl

-- an answer by the conditions alone is one also if the condition of an empty period follows them
pub may_answer-before : (conditions : List RefusalCondition) (holds : Bool) (refusal : Refusal) → are_at_most 41 conditions ≡ true → MayAnswer (Holds conditions) refusal → MayAnswer (Holds (conditions ++ (EmptyPeriod, holds) ∷ [])) refusal
may_answer-before conditions holds refusal low (inr memory) = inr memory
may_answer-before conditions holds refusal low (inl least) = inl (record {
  applies = holds_before conditions ((EmptyPeriod, holds) ∷ []) refusal least.applies;
  least = λ other h.
      elim (holds_cases conditions ((EmptyPeriod, holds) ∷ []) other h) [
        | inl k ↦ least.least other k
        | inr k ↦ elim k [
          | inl both ↦ subst (λ r. code_of refusal ≤ code_of r) both.0 (code-at_most 41 conditions refusal low least.applies)
          | inr nothing ↦ absurd nothing
        ]
      ];
})

-- an empty period is answered if its condition holds and no other condition does
pub may_answer-empty : (conditions : List RefusalCondition) (holds : Bool) → NoneApplies (Holds conditions) → holds ≡ true → MayAnswer (Holds (conditions ++ (EmptyPeriod, holds) ∷ [])) EmptyPeriod
may_answer-empty conditions holds none held = inl (record {
  applies = holds_after conditions ((EmptyPeriod, holds) ∷ []) EmptyPeriod (inl (refl, held));
  least = λ other h.
      elim (holds_cases conditions ((EmptyPeriod, holds) ∷ []) other h) [
        | inl k ↦ absurd (none other k)
        | inr k ↦ elim k [
          | inl both ↦ subst (λ r. 41 ≤ code_of r) both.0 (omega arith)
          | inr nothing ↦ absurd nothing
        ]
      ];
})

-- a query that read over an engine's store is refused for memory or a fault
pub failed_query : {S : Type 0} (g : Ghosts S) (old new : EngineState S) (s : Statement) (refusal : Refusal) → IsFailure g old.connection new.connection refusal → MayRefuseQuery g old new s refusal
failed_query g old new s refusal (inl memory) = inl (inr memory)
failed_query g old new s refusal (inr fault) = inr fault

-- a refusal that is a failure of the store is due to a fault
pub by_fault : {S : Type 0} (g : Ghosts S) (old new : Held S) (refusal : Refusal) → IsFailure g old new refusal → refusal ≡ Store → HasFault (state g old) (state g new)
by_fault g old new refusal (inl memory) told = let no : Store ≡ Memory = sym told ∙ memory in absurd cc
by_fault g old new refusal (inr fault) told = fault
