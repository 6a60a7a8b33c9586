-- The equalities of a join, found among the conditions.
use Rattle.std.proofs.Common.{◌≡◌, ◌<◌, ◌+◌, ◌++◌, ◌∷◌, [], ℕ, List, Option, Some, None}
use Rattle.std.proofs.Common.{true, length, get_or, refl, sym, ◌∙◌, ap, subst, arith, Bool, false}
use Rattle.std.proofs.Common.{append_assoc, length-append, ℤ, ◌↔◌}
use Rattle.std.specs.Prelude.{◌||◌, ◌&&◌, slice_get}
use Rattle.std.specs.Global.{Box, Vec}
use Rattle.std.specs.List.{list_any, list_all}
use Rattle.std.specs.Ordering.{is_eq}
use Rattle.std.specs.declared.cmp.Ordering.{Ordering}
use Rattle.std.specs.declared.cmp.Ordering.TheVariants as order
use Rattle.std.proofs.lemmas.Bool.{and_parts}
use Rattle.std.proofs.lemmas.List.Elements.{All-nil, All-push}
use Rattle.period_core.specs.Order.{value_cmp}
use Rattle.period_core.specs.OrderLaws.{value_cmp-same}
use Rattle.period_core.specs.declared.row.PeriodRow.{PeriodRow}
use Rattle.period_core.specs.declared.value.Value.{Value}
use Rattle.sql_statements.specs.declared.statement.Comparison.TheVariants.{Equal}
use Rattle.sql_statements.specs.declared.tree.Tree as code
use Rattle.catalog_core.specs.Conditions.{compared, compares, meets}
use Rattle.catalog_core.specs.declared.condition.CompareValues.{CompareValues}
use Rattle.catalog_core.proofs.lemmas.conditions.Truth.{and_truth, or_truth, test_truth}
use Rattle.temporal_model.specs.Snapshot.{InSnapshot}
use Rattle.history_model.specs.OrdinaryQuery.{meets_all}
use Rattle.sequenced_ops.specs.Operations.{Cond, InJoin, InPairs, InSelection, SnapshotsAre}
use Rattle.sequenced_ops.specs.Joining.{InEqualPairs, IsEqual}
use Rattle.sequenced_ops.specs.Planning.{AddsKeys, AreKeys, HasWidth, IsColumnPair}
use Rattle.sequenced_ops.specs.Planning.{IsPruned}
use Rattle.sequenced_ops.specs.declared.equalities.Equality.{Equality}
use Rattle.sequenced_ops.proofs.KnownTruths.{get-left, get-right}
use Rattle.std.proofs.lemmas.List.Folds.{list_all_at}

-- ---- two sides that are equal exist and are the same

is_tie : (o : Ordering) → is_eq o ≡ true → o ≡ order.Equal
is_tie order.Less e = cc
is_tie order.Equal e = refl
is_tie order.Greater e = cc

pub same_value
    : (left right : Option Value) → compared Equal left right ≡ true
    → (value : Value) × (left ≡ Some value) × (right ≡ Some value)
same_value None right e = absurd (cc)
same_value (Some left) None e = absurd (cc)
same_value (Some left) (Some right) e = (
  left,
  refl,
  ap (λ (v : Value). Some v)
      (sym (value_cmp-same left right (is_tie (value_cmp left right) e))),
)

-- ---- the places of values

-- a value of the whole row at the position of a pair's left side
left_at
    : (width more left right : ℕ) (pair : Equality) → IsColumnPair width more left right pair
    → (first second rest : List Value) → length first ≡ width
    → slice_get ((first ++ second) ++ rest) left ≡ slice_get first pair.left
left_at width more left right pair is first second rest e =
    let within : left < length first = let h = is.left_within in omega arith in
    get-left (first ++ second) rest left (omega (arith, length-append first second))
    ∙ get-left first second left within
    ∙ ap (slice_get first) (sym is.left_is)

right_at
    : (width more left right : ℕ) (pair : Equality) → IsColumnPair width more left right pair
    → (first second rest : List Value) → length first ≡ width → length second ≡ more
    → slice_get ((first ++ second) ++ rest) right ≡ slice_get second pair.right
right_at width more left right pair is first second rest e f =
    let at : width + pair.right ≡ right = is.right_is in
    let within : pair.right < more = is.right_within in
    get-left (first ++ second) rest right (omega (arith, length-append first second))
    ∙ get-right first second right pair.right (omega arith) (omega arith)

pub pair_equal
    : (width more left right : ℕ) (pair : Equality) → IsColumnPair width more left right pair
    → (first second rest : List Value) → length first ≡ width → length second ≡ more
    → compared Equal (slice_get ((first ++ second) ++ rest) left)
    (slice_get ((first ++ second) ++ rest) right)
    ≡ true
    → IsEqual first second pair
pair_equal width more left right pair is first second rest e f met =
    let row = (first ++ second) ++ rest in
    let (value, one, two) = same_value (slice_get row left) (slice_get row right) met in (
      value,
      sym (left_at width more left right pair is first second rest e) ∙ one,
      sym (right_at width more left right pair is first second rest e f) ∙ two,
    )

-- an equality whose sides are the other way round
pub pair_equal_back
    : (width more left right : ℕ) (pair : Equality) → IsColumnPair width more left right pair
    → (first second rest : List Value) → length first ≡ width → length second ≡ more
    → compared Equal (slice_get ((first ++ second) ++ rest) right)
    (slice_get ((first ++ second) ++ rest) left)
    ≡ true
    → IsEqual first second pair
pair_equal_back width more left right pair is first second rest e f met =
    let row = (first ++ second) ++ rest in
    let (value, one, two) = same_value (slice_get row right) (slice_get row left) met in (
      value,
      sym (left_at width more left right pair is first second rest e) ∙ two,
      sym (right_at width more left right pair is first second rest e f) ∙ one,
    )

-- ---- the loop over the conditions

-- an element of a list all of whose elements pass
pub passes_at
    : {X : Type 0} (p : X → Bool) (xs : List X) (i : ℕ) (d : X) → i < length xs
    → list_all p xs ≡ true → p (get_or xs i d) ≡ true
passes_at p xs i d h all = go (p (get_or xs i d)) refl
  where
    go : (b : Bool) → p (get_or xs i d) ≡ b → p (get_or xs i d) ≡ true
    go true e = e
    go false e = absurd (let none : list_all p xs ≡ false = list_all_at p xs i d h e in cc)

-- a condition of a list holds if all of the list hold
pub meets_at
    : (conjuncts : List Cond) (i : ℕ) (condition : Cond) → i < length conjuncts
    → condition ≡ get_or conjuncts i condition → (values : List Value)
    → meets_all conjuncts values ≡ true → meets condition values ≡ true
meets_at conjuncts i condition h is values all =
    ap (λ (c : Cond). meets c values) is
    ∙ passes_at (λ (c : Cond). meets c values) conjuncts i condition h all

-- the keys that one of the conditions adds
pub keys_added
    : (conjuncts : List Cond) (width more : ℕ) (condition : Cond) (before after : List Equality)
    → ((values : List Value) → meets_all conjuncts values ≡ true → meets condition values ≡ true)
    → AreKeys conjuncts width more before → AddsKeys condition width more before after
    → AreKeys conjuncts width more after
keys_added conjuncts width more condition before after holds old new first second rest e f met =
    new first second rest e f (holds ((first ++ second) ++ rest) met)
    (old first second rest e f met)

-- ---- the keys of a condition by its parts

-- a condition that is no equality adds no key
pub adds_none
    : (condition : Cond) (width more : ℕ) (keys : List Equality)
    → AddsKeys condition width more keys keys
adds_none condition width more keys first second rest e f met old = old

-- a test that is an equality adds its key
pub adds_test
    : (condition : Cond) (leaf : CompareValues) (width more : ℕ) (keys : List Equality)
    → (pair : Equality) → condition ≡ code.Test leaf
    → ((first second rest : List Value) → length first ≡ width → length second ≡ more
    → compares ((first ++ second) ++ rest) leaf ≡ true → IsEqual first second pair)
    → AddsKeys condition width more keys (keys ++ pair ∷ [])
adds_test condition leaf width more keys pair is new first second rest e f met old =
    let row = (first ++ second) ++ rest in
    let holds : compares row leaf ≡ true =
    sym (test_truth (compares row) leaf) ∙ ap (λ (t : Cond). meets t row) (sym is) ∙ met in
    All-push (IsEqual first second) keys pair old (new first second rest e f holds)

-- the keys of a part that must hold if the condition does
adds_of
    : (condition part : Cond) (width more : ℕ) (before middle after : List Equality)
    → ((values : List Value) → meets condition values ≡ true → meets part values ≡ true)
    → AddsKeys condition width more before middle → AddsKeys part width more middle after
    → AddsKeys condition width more before after
adds_of condition part width more before middle after holds old new first second rest e f met kept =
    new first second rest e f (holds ((first ++ second) ++ rest) met)
    (old first second rest e f met kept)

or_alone : (a : Bool) (others : List Cond) (p : Cond → Bool) → length others ≡ 0
    → (a || list_any p others) ≡ true → a ≡ true
or_alone true others p none e = refl
or_alone false [] p none e = cc
or_alone false (part ∷ others) p none e = absurd (omega arith)

-- the keys of an OR of one part
pub adds_alone
    : (condition : Cond) (first_part : Box Cond) (others : Vec Cond) (width more : ℕ)
    → (before after : List Equality) → condition ≡ code.Or first_part others
    → length others.items ≡ 0 → AddsKeys first_part.value width more before after
    → AddsKeys condition width more before after
adds_alone condition first_part others width more before after is none new =
    adds_of condition first_part.value width more before before after
    (λ values met.
    or_alone (meets first_part.value values) others.items (λ (k : Cond). meets k values) none
    (sym (or_truth (compares values) first_part others)
    ∙ ap (λ (t : Cond). meets t values) (sym is) ∙ met))
    (adds_none condition width more before) new

-- an AND holds only if its first part and the rest do
and_is
    : (condition : Cond) (first_part : Box Cond) (others : Vec Cond) (values : List Value)
    → condition ≡ code.And first_part others → meets condition values ≡ true
    → (meets first_part.value values && list_all (λ (k : Cond). meets k values) others.items)
    ≡ true
and_is condition first_part others values is met =
    sym (and_truth (compares values) first_part others)
    ∙ ap (λ (t : Cond). meets t values) (sym is) ∙ met

-- the keys of the first part of an AND
pub adds_first
    : (condition : Cond) (first_part : Box Cond) (others : Vec Cond) (width more : ℕ)
    → (before after : List Equality) → condition ≡ code.And first_part others
    → AddsKeys first_part.value width more before after
    → AddsKeys condition width more before after
adds_first condition first_part others width more before after is new =
    adds_of condition first_part.value width more before before after
    (λ values met.
    (and_parts (meets first_part.value values)
    (list_all (λ (k : Cond). meets k values) others.items)
    (and_is condition first_part others values is met)).0)
    (adds_none condition width more before) new

-- the equalities of another part of the condition
pub adds_part
    : (condition : Cond) (first_part : Box Cond) (others : Vec Cond) (parts : List Cond)
    → (i : ℕ) (part : Cond) (width more : ℕ) (before middle after : List Equality)
    → condition ≡ code.And first_part others → parts ≡ others.items → i < length parts
    → part ≡ get_or parts i part → AddsKeys condition width more before middle
    → AddsKeys part width more middle after → AddsKeys condition width more before after
adds_part condition first_part others parts i part width more before middle after is same here at old new =
    adds_of condition part width more before middle after
    (λ values met.
    meets_at parts i part here at values
    (ap (list_all (λ (k : Cond). meets k values)) same
    ∙ (and_parts (meets first_part.value values)
    (list_all (λ (k : Cond). meets k values) others.items)
    (and_is condition first_part others values is met)).1))
    old new

-- ---- the join

nothing_before
    : (conjuncts : List Cond) (before values rest : List Value) → length before ≡ 0
    → (pair : List Value) → pair ≡ values
    → meets_all conjuncts (before ++ (values ++ rest)) ≡ true
    → meets_all conjuncts (pair ++ rest) ≡ true
nothing_before conjuncts [] values rest e pair is met =
    subst (λ (v : List Value). meets_all conjuncts (v ++ rest) ≡ true) (sym is) met
nothing_before conjuncts (x ∷ before) values rest e pair is met = absurd (omega arith)

-- a join by the equalities, of a right side that lacks only rows that are ruled out, lacks no pair
-- that can meet the conditions
pub pairs_pruned
    : (conjuncts : List Cond) (rows others kept pairs : List PeriodRow) (width more : ℕ)
    → (keys : List Equality) → HasWidth width rows → HasWidth more others
    → AreKeys conjuncts width more keys → IsPruned conjuncts width (InSnapshot others) kept
    → IsPruned conjuncts 0 (InEqualPairs keys rows kept) pairs
    → IsPruned conjuncts 0 (InPairs rows others) pairs
pairs_pruned conjuncts rows others kept pairs width more keys lefts rights are_keys pruned are =
    record {
      sound = λ day values h.
          let (first, second, a, b, equal, is) = are.sound day values h in
          (first, second, a, pruned.sound day second b, is);
      complete = λ day before values rest e (first, second, a, b, is) met.
          let its : meets_all conjuncts ((first ++ second) ++ rest) ≡ true =
          nothing_before conjuncts before values rest e (first ++ second) is met in
          let wide = lefts day first a in
          let apart : meets_all conjuncts (first ++ (second ++ rest)) ≡ true =
          subst (λ (v : List Value). meets_all conjuncts v ≡ true)
          (append_assoc first second rest) its in
          let there = pruned.complete day first second rest wide b apart in
          let equal = are_keys first second rest wide (rights day second b) its in
          are.complete day before values rest e (first, second, a, there, equal, is) met;
    }

-- a join without equalities is of all pairs
pub all_pairs_pruned
    : (conjuncts : List Cond) (rows others pairs : List PeriodRow)
    → IsPruned conjuncts 0 (InEqualPairs [] rows others) pairs
    → IsPruned conjuncts 0 (InPairs rows others) pairs
all_pairs_pruned conjuncts rows others pairs are = record {
  sound = λ day values h.
      let (first, second, a, b, equal, is) = are.sound day values h in
      (first, second, a, b, is);
  complete = λ day before values rest e (first, second, a, b, is) met.
      are.complete day before values rest e
      (first, second, a, b, All-nil (IsEqual first second), is) met;
}

append-nil : (l : List Value) → l ++ [] ≡ l
append-nil [] = refl
append-nil (x ∷ xs) = ap (λ (l : List Value). x ∷ l) (append-nil xs)

and_true : (b : Bool) → b ≡ true → (b && true) ≡ true
and_true true e = refl
and_true false e = cc

-- the pairs that meet the condition, of pairs that lack none that meets it
pub joined_selection
    : (condition : Cond) (left right pairs : List PeriodRow)
    → IsPruned (condition ∷ []) 0 (InPairs left right) pairs → (day : ℤ) (values : List Value)
    → (InSelection condition pairs day values ↔ InJoin condition left right day values)
joined_selection condition left right pairs are day values = (
  λ (there, met). (are.sound day values there, met),
  λ (pair, met).
      let whole : meets condition (values ++ []) ≡ true =
      ap (meets condition) (append-nil values) ∙ met in
      (are.complete day [] values [] refl pair (and_true (meets condition (values ++ [])) whole), met),
)

pub joined_snapshots
    : (condition : Cond) (left right pairs rows : List PeriodRow)
    → IsPruned (condition ∷ []) 0 (InPairs left right) pairs
    → SnapshotsAre (InSelection condition pairs) rows
    → SnapshotsAre (InJoin condition left right) rows
joined_snapshots condition left right pairs rows are kept day values = (
  λ h. (joined_selection condition left right pairs are day values).0 ((kept day values).0 h),
  λ h. (kept day values).1 ((joined_selection condition left right pairs are day values).1 h),
)
