-- Places of a combined row whose values are equal, as conditions say.
use Rattle.std.proofs.Common.{◌≡◌, ◌∙◌, ◌<◌, ◌≤◌, ◌+◌, ◌++◌, ◌∷◌, [], ℕ, zero, suc, Bool, true, false, List, append_assoc, arith, cond, count_by, get_or, inl, inr, length, length-append, refl, sym, ap, subst}
use Rattle.std.specs.Prelude.{◌&&◌, ◌⊎◌, ◌↔◌, ◌==◌, slice_get}
use Rattle.std.specs.List.{Contains}
use Rattle.std.proofs.lemmas.Bool.{cases_lt, eq-eqb, eqb-true, false_from_ne_true}
use Rattle.std.proofs.lemmas.List.{append-nil, get_or_append_left, get_or_default}
use Rattle.std.proofs.lemmas.List.Elements.{Contains-append_left, Contains-get_or, Contains-push, Contains-push_cases}
use Rattle.std.proofs.lemmas.List.Folds.{Any-from_list_any, list_any-from_Any}
use Rattle.std.proofs.lemmas.List.Sums.{count_by-le-length, sum_by-cons}
use Rattle.period_core.specs.declared.value.Value.{Value}
use Rattle.sql_statements.specs.declared.statement.Comparison.TheVariants.{Equal}
use Rattle.sql_statements.specs.declared.tree.Tree as code
use Rattle.sql_statements.specs.Plain.{plain_condition}
use Rattle.sql_statements.specs.Trees as trees
use Rattle.sql_statements.specs.Trees.{Condition}
use Rattle.catalog_core.proofs.lemmas.conditions.Truth.{test_view}
use Rattle.catalog_core.specs.Conditions.{compared, compares, is_satisfied, meets, side_value}
use Rattle.catalog_core.specs.declared.condition.Comparand.{Comparand}
use Rattle.catalog_core.specs.declared.condition.Comparand.TheVariants.{Literal, Position}
use Rattle.catalog_core.specs.declared.condition.CompareValues.{CompareValues}
use Rattle.history_model.specs.OrdinaryQuery.{meets_all}
use Rattle.period_keys.specs.Equations.{both_equal}
use Rattle.period_keys.specs.FixedKeys.{AreFew, AreSaidEqual, SaysEqual, SomeSaysEqual, has_side, has_sides}
use Rattle.period_keys.proofs.Fixed.{both_true, each_met}

-- an equality of two positions says that they are equal
pub test_equates : (condition : code.Tree CompareValues) (c : CompareValues) (left right : ℕ) → condition ≡ code.Test c → c.comparison ≡ Equal → c.left ≡ Position left → c.right ≡ Position right →
    (row : List Value) → meets condition row ≡ true → slice_get row left ≡ slice_get row right
test_equates condition c left right is equal at_left at_right row met =
    let holds : compares row c ≡ true = sym (ap (is_satisfied (compares row)) (ap plain_condition is ∙ test_view c)) ∙ met in
    both_equal (slice_get row left) (slice_get row right)
    (subst (λ (r : Comparand). compared Equal (slice_get row left) (side_value r row) ≡ true) at_right
    (subst (λ (l : Comparand). compared Equal (side_value l row) (side_value c.right row) ≡ true) at_left
    (subst (λ o. compared o (side_value c.left row) (side_value c.right row) ≡ true) equal holds)))

-- two places that one of the conditions equates are equal in each row that meets it
says_same : (condition : code.Tree CompareValues) (place other : ℕ) → SaysEqual condition place other → (row : List Value) → meets condition row ≡ true → slice_get row other ≡ slice_get row place
says_same condition place other says row met =
    elim says.3 [
      | inl sides ↦ sym (test_equates condition says.0 place other says.1 says.2 sides.0 sides.1 row met)
      | inr sides ↦ test_equates condition says.0 other place says.1 says.2 sides.1 sides.0 row met
    ]

-- two places that the conditions equate are equal in each row that meets all
pub said_same : (conditions : List (code.Tree CompareValues)) (place other : ℕ) → AreSaidEqual conditions place other → (row : List Value) → meets_all conditions row ≡ true → slice_get row other ≡ slice_get row place
said_same conditions place other AreSaidEqual.itself row met = refl
said_same conditions place other (AreSaidEqual.further {known = known} before says) row met =
    says_same says.1 known other says.4 row (each_met conditions row met says.0 says.1 says.2 (sym says.3))
    ∙ said_same conditions place known before row met

-- a comparison says by its sides that two places are equal
pub same_test : (condition : code.Tree CompareValues) (c : CompareValues) (place other : ℕ) → condition ≡ code.Test c → SaysEqual condition place other
    → ((c.left ≡ Position place) × (c.right ≡ Position other)) ⊎ ((c.right ≡ Position place) × (c.left ≡ Position other))
same_test condition c place other is says =
    let tests : trees.test says.0 ≡ trees.test c = sym (test_view says.0) ∙ ap plain_condition (sym says.1 ∙ is) ∙ test_view c in
    let same : says.0 ≡ c = cc in
    subst (λ (x : CompareValues). ((x.left ≡ Position place) × (x.right ≡ Position other)) ⊎ ((x.right ≡ Position place) × (x.left ≡ Position other))) same says.3

-- a condition says of one place that it equals at most one other
sides_once : (left right : Comparand) (place a b : ℕ) → ((left ≡ Position place) × (right ≡ Position a)) ⊎ ((right ≡ Position place) × (left ≡ Position a))
    → ((left ≡ Position place) × (right ≡ Position b)) ⊎ ((right ≡ Position place) × (left ≡ Position b)) → a ≡ b
sides_once left right place a b first second =
    elim first [
      | inl x ↦ elim second [
        | inl y ↦ (let e = x.1 in let f = y.1 in cc)
        | inr y ↦ (let e = x.0 in let f = x.1 in let g = y.0 in let h = y.1 in cc)
      ]
      | inr x ↦ elim second [
        | inl y ↦ (let e = x.0 in let f = x.1 in let g = y.0 in let h = y.1 in cc)
        | inr y ↦ (let e = x.1 in let f = y.1 in cc)
      ]
    ]

says_once : (condition : code.Tree CompareValues) (place a b : ℕ) → SaysEqual condition place a → SaysEqual condition place b → a ≡ b
says_once condition place a b first second =
    sides_once second.0.left second.0.right place a b (same_test condition second.0 place a second.1 first) second.3

-- ---- few places

there_to_side : (places : List ℕ) (place : ℕ) → Contains places place → has_side places (Position place) ≡ true
there_to_side places place there = list_any-from_Any (λ other. other == place) places (there.0, place, there.1, there.2, eq-eqb place place refl)

side_to_there : (places : List ℕ) (place : ℕ) → has_side places (Position place) ≡ true → Contains places place
side_to_there places place has =
    let found = Any-from_list_any (λ other. other == place) places has in
    let same : found.1 ≡ place = eqb-true found.1 place found.4 in
    (found.0, found.2, ap (λ (n : ℕ). get_or places found.0 n) (sym same) ∙ found.3 ∙ same)

side_stays : (places others : List ℕ) (side : Comparand) → has_side places side ≡ true → has_side (places ++ others) side ≡ true
side_stays places others (Position place) has = there_to_side (places ++ others) place (Contains-append_left places others place (side_to_there places place has))
side_stays places others (Literal value) has = absurd cc

sides_stay : (places others : List ℕ) (condition : Condition CompareValues) → has_sides places condition ≡ true → has_sides (places ++ others) condition ≡ true
sides_stay places others (trees.test c) has =
    let both = both_true (has_side places c.left) (has_side places c.right) has in
    rw (side_stays places others c.left both.0, side_stays places others c.right both.1) refl
sides_stay places others (trees.all parts) has = absurd cc
sides_stay places others (trees.any parts) has = absurd cc
sides_stay places others (trees.negated part) has = absurd cc

-- the sides of a condition that the code holds
abbrev sides_of : List ℕ → code.Tree CompareValues → Bool
sides_of places condition = has_sides places (plain_condition condition)

sides_test : (places : List ℕ) (condition : code.Tree CompareValues) (known other : ℕ) → (says : SaysEqual condition known other) → sides_of places condition ≡ (has_side places says.0.left && has_side places says.0.right)
sides_test places condition known other says = ap (has_sides places) (ap plain_condition says.1 ∙ test_view says.0)

and_false : (b : Bool) → (b && false) ≡ false
and_false true = refl
and_false false = refl

-- a condition that says that a place of the list equals one that is not in it
sides_lack : (places : List ℕ) (condition : code.Tree CompareValues) (known other : ℕ) → SaysEqual condition known other → (Contains places other → ⊥) → sides_of places condition ≡ false
sides_lack places condition known other says absent =
    let lacks : has_side places (Position other) ≡ false = false_from_ne_true (has_side places (Position other)) (λ has. absent (side_to_there places other has)) in
    sides_test places condition known other says
    ∙ elim says.3 [
      | inl sides ↦ ap (λ (s : Comparand). has_side places says.0.left && has_side places s) sides.1 ∙ rw lacks (and_false (has_side places says.0.left))
      | inr sides ↦ ap (λ (s : Comparand). has_side places s && has_side places says.0.right) sides.1 ∙ rw lacks refl
    ]

sides_there : (places : List ℕ) (condition : code.Tree CompareValues) (known other : ℕ) → SaysEqual condition known other → Contains places known → Contains places other → sides_of places condition ≡ true
sides_there places condition known other says one two =
    let first = there_to_side places known one in
    let second = there_to_side places other two in
    sides_test places condition known other says
    ∙ elim says.3 [
      | inl sides ↦ rw (sides.0, sides.1, first, second) refl
      | inr sides ↦ rw (sides.0, sides.1, first, second) refl
    ]

count_cons : {X : Type 0} (p : X → Bool) (x : X) (xs : List X) → count_by p (x ∷ xs) ≡ cond (p x) 1 0 + count_by p xs
count_cons p x xs = sum_by-cons (λ y. cond (p y) 1 0) x xs

count_one : {X : Type 0} (p q : X → Bool) → ((x : X) → p x ≡ true → q x ≡ true) → (x : X) → cond (p x) 1 0 ≤ cond (q x) 1 0
count_one p q further x =
    (elim (p x) as (λ b. (b ≡ true → q x ≡ true) → cond b 1 0 ≤ cond (q x) 1 0) [
      | true ↦ (λ h. rw (h refl) (omega arith))
      | false ↦ (λ h. omega arith)
    ]) (further x)

count_stays : {X : Type 0} (p q : X → Bool) → ((x : X) → p x ≡ true → q x ≡ true) → (xs : List X) → count_by p xs ≤ count_by q xs
count_stays p q further [] = omega arith
count_stays p q further (x ∷ xs) = omega (arith, count_stays p q further xs, count_one p q further x, count_cons p x xs, count_cons q x xs)

-- if one element more passes a test, the count of passing ones grows
count_grows : {X : Type 0} (p q : X → Bool) → ((x : X) → p x ≡ true → q x ≡ true) → (xs : List X) (k : ℕ) (x : X) → k < length xs → x ≡ get_or xs k x → p x ≡ false → q x ≡ true → count_by p xs + 1 ≤ count_by q xs
count_grows p q further [] k x below at lacks has = absurd (omega (arith, below))
count_grows p q further (y ∷ ys) zero x below at lacks has =
    let zeros : ◌≡◌ {A = ℕ} (cond (p y) 1 0) 0 = ap (λ b. cond b 1 0) (ap p (sym at) ∙ lacks) in
    let ones : ◌≡◌ {A = ℕ} (cond (q y) 1 0) 1 = ap (λ b. cond b 1 0) (ap q (sym at) ∙ has) in
    omega (arith, count_stays p q further ys, zeros, ones, count_cons p y ys, count_cons q y ys)
count_grows p q further (y ∷ ys) (suc k) x below at lacks has =
    omega (arith, count_grows p q further ys k x (omega (arith, below)) at lacks has, count_one p q further y, count_cons p y ys, count_cons q y ys)

-- ---- places whose values equal that at a known one, by the first of the conditions

pub record Added (conditions : List (code.Tree CompareValues)) (known n : ℕ) (old new : List ℕ) : Type 0 where
  pub added : List ℕ
  pub kept : new ≡ old ++ added
  pub found : (k : ℕ) (condition : code.Tree CompareValues) (other : ℕ) → k < n → k < length conditions → get_or conditions k condition ≡ condition → SaysEqual condition known other → Contains new other
  pub only : (other : ℕ) → Contains new other → Contains old other ⊎ SomeSaysEqual conditions known other
  pub few : Contains old known → AreFew conditions old → AreFew conditions new

pub added_none : (conditions : List (code.Tree CompareValues)) (known : ℕ) (places : List ℕ) → Added conditions known 0 places places
added_none conditions known places = record {
  added = [];
  kept = sym (append-nil places);
  found = λ k condition other before. absurd (omega (arith, before));
  only = λ other there. inl there;
  few = λ there few. few;
}

-- places found by the earlier conditions and by this one
found_next : (conditions : List (code.Tree CompareValues)) (known i : ℕ) (condition : code.Tree CompareValues) (so_far new : List ℕ) → i < length conditions → condition ≡ get_or conditions i condition
    → ((k : ℕ) (c : code.Tree CompareValues) (other : ℕ) → k < i → k < length conditions → get_or conditions k c ≡ c → SaysEqual c known other → Contains so_far other)
    → ((other : ℕ) → Contains so_far other → Contains new other) → ((other : ℕ) → SaysEqual condition known other → Contains new other)
    → (k : ℕ) (c : code.Tree CompareValues) (other : ℕ) → k < i + 1 → k < length conditions → get_or conditions k c ≡ c → SaysEqual c known other → Contains new other
found_next conditions known i condition so_far new inside at before stay here k c other below within is says =
    elim (cases_lt k i) [
      | inl less ↦ stay other (before k c other less within is says)
      | inr late ↦
          let same : k ≡ i = omega (arith, below, late) in
          let this : c ≡ condition = sym is ∙ ap (λ (n : ℕ). get_or conditions n c) same ∙ get_or_default conditions i c condition inside ∙ sym at in
          here other (subst (λ (x : code.Tree CompareValues). SaysEqual x known other) this says)
    ]

-- a condition that says nothing of the known place
pub added_same : (conditions : List (code.Tree CompareValues)) (known i : ℕ) (condition : code.Tree CompareValues) (old so_far : List ℕ) → i < length conditions → condition ≡ get_or conditions i condition
    → ((other : ℕ) → SaysEqual condition known other → ⊥) → Added conditions known i old so_far → Added conditions known (i + 1) old so_far
added_same conditions known i condition old so_far inside at nothing before = record {
  added = before.added;
  kept = before.kept;
  found = found_next conditions known i condition so_far so_far inside at before.found (λ other there. there) (λ other says. absurd (nothing other says));
  only = before.only;
  few = before.few;
}

-- one condition more says that the place equals another
pub added_more : (conditions : List (code.Tree CompareValues)) (known i : ℕ) (condition : code.Tree CompareValues) (other : ℕ) (old so_far new : List ℕ) → i < length conditions → condition ≡ get_or conditions i condition
    → SaysEqual condition known other → (Contains so_far other × (new ≡ so_far)) ⊎ ((Contains so_far other → ⊥) × (new ≡ so_far ++ other ∷ [])) → Added conditions known i old so_far → Added conditions known (i + 1) old new
added_more conditions known i condition other old so_far new inside at says once before =
    let there : (places : List ℕ) → Contains places other → (p : ℕ) → SaysEqual condition known p → Contains places p =
    λ places has p its. subst (Contains places) (says_once condition known other p says its) has in
    elim once [
      | inl same ↦ rw same.1 (record {
        added = before.added;
        kept = before.kept;
        found = found_next conditions known i condition so_far so_far inside at before.found (λ p has. has) (there so_far same.0);
        only = before.only;
        few = before.few;
      })
      | inr longer ↦ rw longer.1 (record {
        added = before.added ++ other ∷ [];
        kept = ap (λ (ps : List ℕ). ps ++ other ∷ []) before.kept ∙ append_assoc old before.added (other ∷ []);
        found = found_next conditions known i condition so_far (so_far ++ other ∷ []) inside at before.found (Contains-append_left so_far (other ∷ [])) (there (so_far ++ other ∷ []) (Contains-push so_far other));
        only = λ p has. elim (Contains-push_cases so_far other p has) [
          | inl earlier ↦ before.only p earlier
          | inr this ↦ inr (i, condition, inside, sym at, subst (SaysEqual condition known) this says)
        ];
        few = λ one few.
            let known_there : Contains so_far known = subst (λ (ps : List ℕ). Contains ps known) (sym before.kept) (Contains-append_left old before.added known one) in
            let grows = count_grows (sides_of so_far) (sides_of (so_far ++ other ∷ [])) (λ (c : code.Tree CompareValues). sides_stay so_far (other ∷ []) (plain_condition c)) conditions i condition inside at
            (sides_lack so_far condition known other says longer.0)
            (sides_there (so_far ++ other ∷ []) condition known other says (Contains-append_left so_far (other ∷ []) known known_there) (Contains-push so_far other)) in
            omega (arith, before.few one few, grows, length-append so_far (other ∷ []));
      })
    ]

-- the places that are added are all
pub added_all : (conditions : List (code.Tree CompareValues)) (known n : ℕ) (old new : List ℕ) → length conditions ≤ n → Added conditions known n old new → (other : ℕ) → SomeSaysEqual conditions known other → Contains new other
added_all conditions known n old new whole added other says = added.found says.0 says.1 other (omega (arith, whole, says.2)) says.2 says.3 says.4

-- ---- places whose values equal that at a place, with all that equal those at the first of them

pub record Reached (conditions : List (code.Tree CompareValues)) (place n : ℕ) (places : List ℕ) : Type 0 where
  pub first : Contains places place
  pub said : (other : ℕ) → Contains places other → AreSaidEqual conditions place other
  pub closed : (k known other : ℕ) → k < n → get_or places k known ≡ known → SomeSaysEqual conditions known other → Contains places other
  pub inside : n ≤ length places
  pub few : AreFew conditions places

pub reached_one : (conditions : List (code.Tree CompareValues)) (place : ℕ) → Reached conditions place 0 (place ∷ [])
reached_one conditions place = record {
  first = Contains-push [] place;
  said = λ other there. elim (Contains-push_cases [] place other there) [
    | inl earlier ↦ absurd (omega (arith, earlier.1))
    | inr this ↦ subst (AreSaidEqual conditions place) this AreSaidEqual.itself
  ];
  closed = λ k known other before. absurd (omega (arith, before));
  inside = omega arith;
  few = omega arith;
}

-- the places equal to the next one are in the list too
pub reached_more : (conditions : List (code.Tree CompareValues)) (place i known : ℕ) (places new : List ℕ) → Reached conditions place i places → i < length places → known ≡ get_or places i 0
    → (others : List ℕ) × (new ≡ places ++ others) → ((other : ℕ) → SomeSaysEqual conditions known other → Contains new other)
    → ((other : ℕ) → Contains new other → Contains places other ⊎ SomeSaysEqual conditions known other) → (Contains places known → AreFew conditions places → AreFew conditions new) → Reached conditions place (i + 1) new
reached_more conditions place i known places new before below at kept found only few =
    let there : Contains places known = subst (Contains places) (sym at) (Contains-get_or places i 0 below) in
    let stays : (other : ℕ) → Contains places other → Contains new other =
    λ other has. subst (λ (ps : List ℕ). Contains ps other) (sym kept.1) (Contains-append_left places kept.0 other has) in
    let longer : length new ≡ length places + length kept.0 = ap length kept.1 ∙ length-append places kept.0 in
    record {
      first = stays place before.first;
      said = λ other has. elim (only other has) [
        | inl earlier ↦ before.said other earlier
        | inr says ↦ AreSaidEqual.further (before.said known there) says
      ];
      closed = λ k one other less is says.
          let old : get_or places k one ≡ one = sym (get_or_append_left places kept.0 one k (omega (arith, less, below))) ∙ ap (λ (ps : List ℕ). get_or ps k one) (sym kept.1) ∙ is in
          elim (cases_lt k i) [
            | inl earlier ↦ stays other (before.closed k one other earlier old says)
            | inr late ↦
                let same : k ≡ i = omega (arith, less, late) in
                let this : one ≡ known = sym old ∙ ap (λ (n : ℕ). get_or places n one) same ∙ get_or_default places i one 0 below ∙ sym at in
                found other (subst (λ (p : ℕ). SomeSaysEqual conditions p other) this says)
          ];
      inside = omega (arith, below, longer);
      few = few there before.few;
    }

-- a walk that takes no more places has reached all that the conditions say are equal
pub reached_all : (conditions : List (code.Tree CompareValues)) (place n : ℕ) (places : List ℕ) → Reached conditions place n places → length places ≤ n → (other : ℕ) → Contains places other ↔ AreSaidEqual conditions place other
reached_all conditions place n places reached whole other = (reached.said other, there other)
  where
    there : (p : ℕ) → AreSaidEqual conditions place p → Contains places p
    there p AreSaidEqual.itself = reached.first
    there p (AreSaidEqual.further {known = known} before says) =
        let one = there known before in
        reached.closed one.0 known p (omega (arith, whole, one.1)) one.2 says

-- the number of places is at most one more than the number of conditions
pub few_places : (conditions : List (code.Tree CompareValues)) (places : List ℕ) → AreFew conditions places → length places ≤ length conditions + 1
few_places conditions places few = omega (arith, few, count_by-le-length (sides_of places) conditions)
