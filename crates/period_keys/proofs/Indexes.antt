-- An index and its rows: with a row more, with one less, and with its rows in another order.
use Rattle.std.proofs.Common.{◌≡◌, ℕ, ◌<◌, ◌≤◌, ◌+◌, drop, zero, suc, arith, Bool, true, false, cond, List, [], ◌∷◌, ◌++◌, length, take, get_or, map, refl, sym, ◌∙◌, ap, subst}
use Rattle.std.specs.List.{Contains, filter}
use Rattle.std.specs.List.Sorted.{IsPermutation}
use Rattle.std.specs.Ordering.{eq_by_cmp}
use Rattle.std.proofs.lemmas.List.{map-append, take_more, append-nil, get_or-map, get_or-take, drop_more, length-take-le}
use Rattle.std.specs.Bool.{OnTrue, OnFalse}
use Rattle.temporal_model.proofs.Members.{Contains-here}
use Rattle.std.proofs.lemmas.List.Elements.{filter-append}
use Rattle.std.proofs.lemmas.List.Sorted.{IsPermutation-sym, IsPermutation-trans, IsPermutation-map, IsPermutation-append_left}
use Rattle.period_core.specs.Order.{values_cmp}
use Rattle.period_core.specs.OrderLaws.{values_eq}
use Rattle.period_core.specs.declared.value.Value.{Value}
use Rattle.period_core.specs.declared.period.Period.{Period}
use Rattle.period_core.specs.declared.row.PeriodRow.{PeriodRow}
use Rattle.period_keys.specs.declared.keyed_periods.KeyedPeriods.{KeyedPeriods}
use Rattle.period_keys.specs.Keys.{key_values}
use Rattle.period_keys.specs.Index.{periods_at, has_key, periods_of_key, AreAtKeys, IsIndexOf}
use Rattle.period_keys.proofs.Locality.{period_of, in_key, index_has}
use Rattle.temporal_model.proofs.Rearranged.{IsPermutation-uncons, IsPermutation-filter}

-- the test of keys is the same both ways
key_test : (key other : List Value) → eq_by_cmp values_cmp other key ≡ eq_by_cmp values_cmp key other
key_test key other = by_tests (eq_by_cmp values_cmp other key) (eq_by_cmp values_cmp key other) refl refl
  where
    by_tests : (a b : Bool) → eq_by_cmp values_cmp other key ≡ a → eq_by_cmp values_cmp key other ≡ b → a ≡ b
    by_tests true true p q = refl
    by_tests false false p q = refl
    by_tests true false p q = sym ((values_eq key other).1 (sym ((values_eq other key).0 p))) ∙ q
    by_tests false true p q = sym p ∙ (values_eq other key).1 (sym ((values_eq key other).0 q))

-- the periods of a key with one row more
pub periods_of_more : (positions : List ℕ) (rows : List PeriodRow) (row : PeriodRow) (other : List Value)
    → periods_of_key positions (rows ++ row ∷ []) other
    ≡ cond (eq_by_cmp values_cmp (key_values positions row) other) (periods_of_key positions rows other ++ row.period ∷ []) (periods_of_key positions rows other)
periods_of_more positions rows row other =
    ap (map period_of) (filter-append (has_key positions other) rows (row ∷ []))
    ∙ map-append period_of (filter (has_key positions other) rows) (filter (has_key positions other) (row ∷ []))
    ∙ by_test (has_key positions other row)
    ∙ ap (λ b. cond b (periods_of_key positions rows other ++ row.period ∷ []) (periods_of_key positions rows other)) (key_test (key_values positions row) other)
  where
    by_test : (b : Bool) → periods_of_key positions rows other ++ map period_of (cond b (row ∷ []) []) ≡ cond b (periods_of_key positions rows other ++ row.period ∷ []) (periods_of_key positions rows other)
    by_test true = refl
    by_test false = append-nil (periods_of_key positions rows other)

-- the index after one row was added
pub index_more : (positions : List ℕ) (rows : List PeriodRow) (row : PeriodRow) (old new : KeyedPeriods) (key : List Value) → key ≡ key_values positions row
    → ((other : List Value) → IsPermutation (periods_at new other) (cond (eq_by_cmp values_cmp key other) (periods_at old other ++ row.period ∷ []) (periods_at old other)))
    → IsIndexOf positions rows old → IsIndexOf positions (rows ++ row ∷ []) new
index_more positions rows row old new key key_is at is = λ other.
    let more : List Value → List Period = λ (k : List Value). cond (eq_by_cmp values_cmp k other) (periods_at old other ++ row.period ∷ []) (periods_at old other) in
    IsPermutation-trans (periods_at new other) (more (key_values positions row)) (periods_of_key positions (rows ++ row ∷ []) other)
    (subst (λ (k : List Value). IsPermutation (periods_at new other) (more k)) key_is (at other))
    (subst (IsPermutation (more (key_values positions row))) (sym (periods_of_more positions rows row other))
    (both (eq_by_cmp values_cmp (key_values positions row) other) (periods_at old other) (periods_of_key positions rows other) (is other)))
  where
    both : (b : Bool) (xs ys : List Period) → IsPermutation xs ys → IsPermutation (cond b (xs ++ row.period ∷ []) xs) (cond b (ys ++ row.period ∷ []) ys)
    both true xs ys p = IsPermutation-append_left (row.period ∷ []) xs ys p
    both false xs ys p = p

-- a step of the loop that makes an index: one row more
pub index_step : (positions : List ℕ) (rows : List PeriodRow) (i : ℕ) (row : PeriodRow) (old new : KeyedPeriods) (key : List Value) → i < length rows → row ≡ get_or rows i row → key ≡ key_values positions row
    → ((other : List Value) → IsPermutation (periods_at new other) (cond (eq_by_cmp values_cmp key other) (periods_at old other ++ row.period ∷ []) (periods_at old other)))
    → IsIndexOf positions (take i rows) old → IsIndexOf positions (take (i + 1) rows) new
index_step positions rows i row old new key below is key_is at so_far =
    subst (λ (list : List PeriodRow). IsIndexOf positions list new) (sym (take_more rows i row below ∙ ap (λ x. take i rows ++ x ∷ []) (sym is)))
    (index_more positions (take i rows) row old new key key_is at so_far)

pub index_same : (positions : List ℕ) (rows : List PeriodRow) (old new : KeyedPeriods) → ((other : List Value) → periods_at new other ≡ periods_at old other) → IsIndexOf positions rows old → IsIndexOf positions rows new
index_same positions rows old new same is = λ key. subst (λ (xs : List Period). IsPermutation xs (periods_of_key positions rows key)) (sym (same key)) (is key)

-- the periods at each key of rows are those of the rows in another order
pub at_keys_moved : (positions : List ℕ) (rows others : List PeriodRow) (at : List Value → List Period) → IsPermutation rows others → AreAtKeys positions rows at → AreAtKeys positions others at
at_keys_moved positions rows others at moved is = λ key.
    IsPermutation-trans (at key) (periods_of_key positions rows key) (periods_of_key positions others key) (is key)
    (IsPermutation-map period_of (filter (has_key positions key) rows) (filter (has_key positions key) others) (IsPermutation-filter (has_key positions key) rows others moved))

pub index_moved : (positions : List ℕ) (rows others : List PeriodRow) (index : KeyedPeriods) → IsPermutation rows others → IsIndexOf positions rows index → IsIndexOf positions others index
index_moved positions rows others index moved is = at_keys_moved positions rows others (periods_at index) moved is

-- the index after a row was taken out
pub index_less : (positions : List ℕ) (row : PeriodRow) (rest : List PeriodRow) (old new : KeyedPeriods) (key : List Value) → key ≡ key_values positions row
    → IsPermutation (periods_at old key) (row.period ∷ periods_at new key) → ((other : List Value) → (key ≡ other → ⊥) → periods_at new other ≡ periods_at old other)
    → IsIndexOf positions (row ∷ rest) old → IsIndexOf positions rest new
index_less positions row rest old new key key_is taken others is = λ other. by_test other (eq_by_cmp values_cmp other (key_values positions row)) refl
  where
    shown : (other : List Value) (b : Bool) → has_key positions other row ≡ b → IsPermutation (periods_at old other) (map period_of (cond b (row ∷ filter (has_key positions other) rest) (filter (has_key positions other) rest)))
    shown other b e = subst (λ b. IsPermutation (periods_at old other) (map period_of (cond b (row ∷ filter (has_key positions other) rest) (filter (has_key positions other) rest)))) e (is other)

    at_key : (other : List Value) → key ≡ other → IsPermutation (periods_at old other) (row.period ∷ periods_at new other)
    at_key other e = subst (λ (k : List Value). IsPermutation (periods_at old k) (row.period ∷ periods_at new k)) e taken

    by_test : (other : List Value) (b : Bool) → has_key positions other row ≡ b → IsPermutation (periods_at new other) (periods_of_key positions rest other)
    by_test other true e =
        let same : key ≡ other = key_is ∙ sym ((values_eq other (key_values positions row)).0 e) in
        IsPermutation-uncons row.period (periods_at new other) (periods_of_key positions rest other)
        (IsPermutation-trans (row.period ∷ periods_at new other) (periods_at old other) (row.period ∷ periods_of_key positions rest other) (IsPermutation-sym (periods_at old other) (row.period ∷ periods_at new other) (at_key other same)) (shown other true e))
    by_test other false e =
        let apart : key ≡ other → ⊥ = λ same. (let passes : has_key positions other row ≡ true = (values_eq other (key_values positions row)).1 (sym same ∙ key_is) in cc) in
        subst (λ (xs : List Period). IsPermutation xs (periods_of_key positions rest other)) (sym (others other apart)) (shown other false e)

-- a row that an index has is taken out, and one that it has not is missing
found : (r : Bool) (P Q : Type 0) → OnTrue r P → OnFalse r (Q → ⊥) → Q → P
found true P Q is not q = is
found false P Q is not q = absurd (not q)

-- the key that was worked out for a row
pub key_at : (positions : List ℕ) (keys : List (List Value)) (rows : List PeriodRow) (i : ℕ) (key : List Value) (row : PeriodRow) → keys ≡ map (key_values positions) rows → i < length rows
    → key ≡ get_or keys i key → row ≡ get_or rows i row → key ≡ key_values positions row
key_at positions keys rows i key row made below key_is row_is =
    key_is ∙ ap (λ (ks : List (List Value)). get_or ks i key) made ∙ get_or-map (key_values positions) rows i row key below ∙ ap (key_values positions) (sym row_is)

-- a loop's step: the first row of those left to take out is taken out
pub taken_step :
    (positions : List ℕ) (keys : List (List Value)) (rows : List PeriodRow) (count i : ℕ) (rest : List PeriodRow) (key : List Value) (row : PeriodRow) (old new : KeyedPeriods) (r : Bool)
    → keys ≡ map (key_values positions) rows → i < count → count ≤ length rows → key ≡ get_or keys i key → row ≡ get_or rows i row
    → OnTrue r (IsPermutation (periods_at old key) (row.period ∷ periods_at new key)) → OnFalse r (Contains (periods_at old key) row.period → ⊥)
    → ((other : List Value) → (key ≡ other → ⊥) → periods_at new other ≡ periods_at old other)
    → IsIndexOf positions (drop i (take count rows) ++ rest) old → IsIndexOf positions (drop (i + 1) (take count rows) ++ rest) new
taken_step positions keys rows count i rest key row old new r made lt fits key_is row_is taken absent others was =
    let xs : List PeriodRow = take count rows in
    let size : length xs ≡ count = length-take-le count rows fits in
    let more : drop i xs ≡ row ∷ drop (i + 1) xs = drop_more xs i row (omega arith) ∙ ap (λ x. x ∷ drop (i + 1) xs) (get_or-take count rows i row lt ∙ sym row_is) in
    let left : List PeriodRow = drop (i + 1) xs ++ rest in
    let now : IsIndexOf positions (row ∷ left) old = subst (λ (list : List PeriodRow). IsIndexOf positions (list ++ rest) old) more was in
    let own : key ≡ key_values positions row = key_at positions keys rows i key row made (omega arith) key_is row_is in
    let there : Contains (periods_at old key) row.period = (index_has positions (row ∷ left) old now key row.period).1 (in_key positions (row ∷ left) key row (Contains-here row left) own) in
    index_less positions row left old new key own (found r (IsPermutation (periods_at old key) (row.period ∷ periods_at new key)) (Contains (periods_at old key) row.period) taken absent there) others now

pub drop_all : {X : Type 0} (xs : List X) (n : ℕ) → length xs ≤ n → drop n xs ≡ []
drop_all [] zero h = refl
drop_all [] (suc n) h = refl
drop_all (x ∷ xs) zero h = absurd (omega arith)
drop_all (x ∷ xs) (suc n) h = drop_all xs n (omega arith)
