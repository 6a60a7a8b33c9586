-- Values that conditions compare with literals.
use Rattle.std.proofs.Common.{◌≡◌, ◌∙◌, ◌<◌, ◌+◌, ◌++◌, ◌∷◌, [], ℕ, zero, suc, Bool, true, false, Some, List, arith, get_or, inl, inr, length, map, refl, sym, ap, subst}
use Rattle.std.specs.Prelude.{◌&&◌, ◌||◌, slice_get}
use Rattle.std.specs.Global.{Box, Vec}
use Rattle.period_core.specs.declared.value.Value.{Value}
use Rattle.sql_statements.specs.declared.tree.Tree as code
use Rattle.sql_statements.specs.Plain.{plain_condition}
use Rattle.sql_statements.specs.Trees.{Condition, Conditions, any, all, conditions_of, negated, test, none, more}
use Rattle.catalog_core.proofs.lemmas.conditions.Truth.{and_view, or_view}
use Rattle.sql_statements.specs.declared.statement.Comparison.{Comparison}
use Rattle.catalog_core.specs.Conditions.{compared, compares, each_satisfied, is_satisfied, meets, some_satisfied}
use Rattle.catalog_core.specs.declared.condition.CompareValues.{CompareValues}
use Rattle.history_model.specs.OrdinaryQuery.{meets_all}
use Rattle.period_keys.specs.Equations.{comparison_holds}
use Rattle.period_keys.specs.FixedKeys.{IsComparison, OnlyPartStates, SomePartStates, States}

pub both_true : (a b : Bool) → (a && b) ≡ true → (a ≡ true) × (b ≡ true)
both_true true b h = (refl, h)
both_true false b h = absurd cc

or_alone : (b : Bool) → (b || false) ≡ true → b ≡ true
or_alone true h = refl
or_alone false h = absurd cc

-- a condition's word on a position holds in each row that meets it, if what its tests say does
module _ {T : Type 0} (Says : T → ℕ → Value → Type 0) (holds : T → Bool) (comparison : Comparison) (values : List Value)
    (compares : (leaf : T) (position : ℕ) (value : Value) → Says leaf position value → holds leaf ≡ true → compared comparison (slice_get values position) (Some value) ≡ true) where
  mutual
    pub states_holds : (c : Condition T) (position : ℕ) (value : Value) → States Says c position value → is_satisfied holds c ≡ true → compared comparison (slice_get values position) (Some value) ≡ true
    states_holds (any parts) position value says met = only_part_holds parts position value says met
    states_holds (all parts) position value says met = some_part_holds parts position value says met
    states_holds (negated part) position value says met = absurd says
    states_holds (test leaf) position value says met = compares leaf position value says met

    only_part_holds : (parts : Conditions T) (position : ℕ) (value : Value) → OnlyPartStates Says parts position value → some_satisfied holds parts ≡ true → compared comparison (slice_get values position) (Some value) ≡ true
    only_part_holds none position value says met = absurd says
    only_part_holds (more part none) position value says met = states_holds part position value says (or_alone (is_satisfied holds part) met)
    only_part_holds (more part (more other parts)) position value says met = absurd says

    some_part_holds : (parts : Conditions T) (position : ℕ) (value : Value) → SomePartStates Says parts position value → each_satisfied holds parts ≡ true → compared comparison (slice_get values position) (Some value) ≡ true
    some_part_holds none position value says met = absurd says
    some_part_holds (more part parts) position value says met =
        let both = both_true (is_satisfied holds part) (each_satisfied holds parts) met in
        elim says [
          | inl first ↦ states_holds part position value first both.0
          | inr later ↦ some_part_holds parts position value later both.1
        ]

-- ==== conditions of the program ====

module _ {T : Type 0} (Says : T → ℕ → Value → Type 0) (condition : code.Tree T) (first : Box (code.Tree T)) (others : Vec (code.Tree T)) (position : ℕ) (value : Value) where
  -- an AND says what its first part says, and what each other part says
  pub in_first : condition ≡ code.And first others → (part : code.Tree T) → part ≡ first.value → States Says (plain_condition part) position value → States Says (plain_condition condition) position value
  in_first is part same says =
      subst (λ (c : Condition T). States Says c position value) (sym (ap plain_condition is ∙ and_view first others))
      (inl (subst (λ (p : code.Tree T). States Says (plain_condition p) position value) same says))

  pub in_other : condition ≡ code.And first others → (parts : List (code.Tree T)) → parts ≡ others.items → (k : ℕ) (part : code.Tree T) → k < length parts → part ≡ get_or parts k part
      → States Says (plain_condition part) position value → States Says (plain_condition condition) position value
  in_other is parts same k part below at says =
      subst (λ (c : Condition T). States Says c position value) (sym (ap plain_condition is ∙ and_view first others))
      (inr (subst (λ (ps : List (code.Tree T)). SomePartStates Says (conditions_of (map plain_condition ps)) position value) same (among parts k below (subst (λ (p : code.Tree T). States Says (plain_condition p) position value) at says))))
    where
      among : (ps : List (code.Tree T)) (n : ℕ) → n < length ps → States Says (plain_condition (get_or ps n part)) position value → SomePartStates Says (conditions_of (map plain_condition ps)) position value
      among [] n here it = absurd (omega (arith, here))
      among (p ∷ ps) zero here it = inl it
      among (p ∷ ps) (suc n) here it = inr (among ps n (omega (arith, here)) it)

  -- no part of the AND says so of the value
  pub in_none : condition ≡ code.And first others → (part : code.Tree T) → part ≡ first.value → (States Says (plain_condition part) position value → ⊥)
      → (parts : List (code.Tree T)) → parts ≡ others.items → ((k : ℕ) (d : code.Tree T) → k < length parts → States Says (plain_condition (get_or parts k d)) position value → ⊥)
      → States Says (plain_condition condition) position value → ⊥
  in_none is part same here parts same_parts each says =
      elim (subst (λ (c : Condition T). States Says c position value) (ap plain_condition is ∙ and_view first others) says) [
        | inl it ↦ here (subst (λ (p : code.Tree T). States Says (plain_condition p) position value) (sym same) it)
        | inr it ↦ nowhere parts each (subst (λ (ps : List (code.Tree T)). SomePartStates Says (conditions_of (map plain_condition ps)) position value) (sym same_parts) it)
      ]
    where
      nowhere : (ps : List (code.Tree T)) → ((k : ℕ) (d : code.Tree T) → k < length ps → States Says (plain_condition (get_or ps k d)) position value → ⊥) → SomePartStates Says (conditions_of (map plain_condition ps)) position value → ⊥
      nowhere [] none_of it = it
      nowhere (p ∷ ps) none_of it = elim it [
        | inl one ↦ none_of 0 p (omega arith) one
        | inr later ↦ nowhere ps (λ k d below. none_of (suc k) d (omega (arith, below))) later
      ]

-- an OR of one part says what the part says
pub only_view : {T : Type 0} (condition : code.Tree T) (first : Box (code.Tree T)) (others : Vec (code.Tree T)) → condition ≡ code.Or first others → others.items ≡ []
    → plain_condition condition ≡ any (more (plain_condition first.value) none)
only_view {T} condition first others is alone = ap plain_condition is ∙ or_view first others ∙ ap (λ (ps : List (code.Tree T)). any (more (plain_condition first.value) (conditions_of (map plain_condition ps)))) alone

-- an OR of more says nothing
pub several_none : {T : Type 0} (Says : T → ℕ → Value → Type 0) (condition : code.Tree T) (first : Box (code.Tree T)) (others : Vec (code.Tree T)) (position : ℕ) (value : Value) → condition ≡ code.Or first others → (others.items ≡ [] → ⊥)
    → States Says (plain_condition condition) position value → ⊥
several_none {T} Says condition first others position value is several says =
    go others.items several (subst (λ (c : Condition T). States Says c position value) (ap plain_condition is ∙ or_view first others) says)
  where
    go : (ps : List (code.Tree T)) → (ps ≡ [] → ⊥) → OnlyPartStates Says (more (plain_condition first.value) (conditions_of (map plain_condition ps))) position value → ⊥
    go [] some it = some refl
    go (p ∷ ps) some it = it

-- ==== rows that are part of a combined row ====

get_left : (xs ys : List Value) (p : ℕ) → p < length xs → slice_get (xs ++ ys) p ≡ slice_get xs p
get_left [] ys p h = absurd (omega (arith, h))
get_left (x ∷ xs) ys zero h = refl
get_left (x ∷ xs) ys (suc p) h = get_left xs ys p (omega (arith, h))

get_after : (xs ys : List Value) (p : ℕ) → slice_get (xs ++ ys) (length xs + p) ≡ slice_get ys p
get_after [] ys p = (let same : length {A = Value} [] + p ≡ p = omega arith in ap (slice_get ys) same)
get_after (x ∷ xs) ys p =
    let next : length (x ∷ xs) + p ≡ suc (length xs + p) = omega arith in
    ap (slice_get (x ∷ (xs ++ ys))) next ∙ get_after xs ys p

-- each of several conditions holds if all hold
pub each_met : (conditions : List (code.Tree CompareValues)) (values : List Value) → meets_all conditions values ≡ true → (k : ℕ) (condition : code.Tree CompareValues) → k < length conditions → condition ≡ get_or conditions k condition → meets condition values ≡ true
each_met [] values met k condition below at = absurd (omega (arith, below))
each_met (c ∷ conditions) values met zero condition below at =
    ap (λ (x : code.Tree CompareValues). meets x values) at ∙ (both_true (meets c values) (meets_all conditions values) met).0
each_met (c ∷ conditions) values met (suc k) condition below at =
    each_met conditions values (both_true (meets c values) (meets_all conditions values) met).1 k condition (omega (arith, below)) at

-- the word of one condition on a place holds in each row that meets all
pub one_holds : (comparison : Comparison) (conditions : List (code.Tree CompareValues)) (k : ℕ) (condition : code.Tree CompareValues) (place : ℕ) (value : Value) → k < length conditions → condition ≡ get_or conditions k condition → States (IsComparison comparison) (plain_condition condition) place value →
    (row : List Value) → meets_all conditions row ≡ true → compared comparison (slice_get row place) (Some value) ≡ true
one_holds comparison conditions k condition place value below at says row met =
    states_holds (IsComparison comparison) (compares row) comparison row (λ leaf p v its held. comparison_holds comparison leaf row p v its held) (plain_condition condition) place value says (each_met conditions row met k condition below at)

-- a position among the row's values is a place of the combined row
pub at_place : (first values rest : List Value) (start width position place : ℕ) → length first ≡ start → length values ≡ width → position < width → place ≡ start + position → slice_get (first ++ (values ++ rest)) place ≡ slice_get values position
at_place first values rest start width position place long wide inside is =
    let moved : place ≡ length first + position = is ∙ ap (λ (n : ℕ). n + position) (sym long) in
    ap (slice_get (first ++ (values ++ rest))) moved ∙ get_after first (values ++ rest) position ∙ get_left values rest position (omega (arith, inside, wide))
