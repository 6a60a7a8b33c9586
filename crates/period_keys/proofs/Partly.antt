-- Indexes that follow a change one after another.
use Rattle.std.proofs.Common.{◌≡◌, ◌<◌, ◌≤◌, ◌+◌, ◌++◌, ◌∷◌, [], ◌∙◌, ℕ, ℤ, zero, suc, List, append-nil, drop, length, set, take, get_or, map, refl, sym, ap, subst, inl, inr, arith}
use Rattle.std.specs.Prelude.{IsPermutation}
use Rattle.std.proofs.lemmas.Bool.{cases_lt}
use Rattle.std.proofs.lemmas.List.{get_or-map, get_or-set_other, get_or-set_same, length-map, length-set, map-append, take_all}
use Rattle.std.proofs.lemmas.List.Sorted.{IsPermutation-map, IsPermutation-sym}
use Rattle.period_core.specs.declared.row.PeriodRow.{PeriodRow}
use Rattle.period_core.specs.declared.value.Value.{Value}
use Rattle.period_core.specs.declared.version.VersionRow.{VersionRow}
use Rattle.history_model.specs.Versions.{row_of}
use Rattle.period_keys.specs.declared.period_indexes.PeriodIndex.{PeriodIndex}
use Rattle.period_keys.specs.Keys.{key_values}
use Rattle.period_keys.specs.PeriodIndexes.{AreKeysByEach, EachIndexes, Indexes, PartlyIndex, positions_by}
use Rattle.period_keys.specs.Versions.{begun}
use Rattle.period_keys.proofs.Indexes.{index_moved}
use Rattle.period_keys.proofs.Loops.{none_left}

-- the keys by the index at a place
pub keys_at_place : (rows : List PeriodRow) (indexes : List PeriodIndex) (keys : List (List (List Value))) (i : ℕ) (index : PeriodIndex) (own : List (List Value)) → AreKeysByEach rows (map positions_by indexes) keys
    → i < length indexes → index ≡ get_or indexes i index → own ≡ get_or keys i own → own ≡ map (key_values index.positions) rows
keys_at_place rows indexes keys i index own made below index_is own_is =
    let by : List ℕ → List (List Value) = λ positions. map (key_values positions) rows in
    let inside : i < length (map positions_by indexes) = subst (λ n. i < n) (sym (length-map indexes positions_by)) below in
    own_is ∙ ap (λ (ks : List (List (List Value))). get_or ks i own) made ∙ get_or-map by (map positions_by indexes) i index.positions own inside
    ∙ ap by (get_or-map positions_by indexes i index index.positions below ∙ ap positions_by (sym index_is))

-- a write of an index with the same positions leaves the positions of the whole list
pub set_same : (xs : List PeriodIndex) (i : ℕ) (w d : PeriodIndex) → i < length xs → w.positions ≡ (get_or xs i d).positions → map positions_by (set xs i w) ≡ map positions_by xs
set_same [] i w d below same = refl
set_same (x ∷ xs) zero w d below same = ap (λ ps. ps ∷ map positions_by xs) same
set_same (x ∷ xs) (suc i) w d below same = ap (λ (each : List (List ℕ)). x.positions ∷ each) (set_same xs i w d (omega arith) same)

pub partly_up : (first second : List PeriodRow) (xs : List PeriodIndex) (i : ℕ) (w : PeriodIndex) → i < length xs → PartlyIndex first second xs i → Indexes first w → PartlyIndex first second (set xs i w) (i + 1)
partly_up first second xs i w inside partly new = λ k d below.
    let size : length (set xs i w) ≡ length xs = length-set xs i w in
    let there : k < length xs = omega arith in (
      λ less. elim (cases_lt k i) [
        | inl before ↦ subst (Indexes first) (sym (get_or-set_other xs i k w d (λ e. omega arith))) ((partly k d there).0 before)
        | inr ge ↦ let here : i ≡ k = omega arith in subst (λ n. Indexes first (get_or (set xs i w) n d)) here (subst (Indexes first) (sym (get_or-set_same xs i w d inside)) new)
      ],
      λ ge. subst (Indexes second) (sym (get_or-set_other xs i k w d (λ e. omega arith))) ((partly k d there).1 (omega arith)),
    )

pub partly_down : (first second : List PeriodRow) (xs : List PeriodIndex) (i : ℕ) (w : PeriodIndex) → i < length xs → PartlyIndex first second xs (i + 1) → Indexes second w → PartlyIndex first second (set xs i w) i
partly_down first second xs i w inside partly new = λ k d below.
    let size : length (set xs i w) ≡ length xs = length-set xs i w in
    let there : k < length xs = omega arith in (
      λ less. subst (Indexes first) (sym (get_or-set_other xs i k w d (λ e. omega arith))) ((partly k d there).0 (omega arith)),
      λ ge. elim (cases_lt i k) [
        | inl after ↦ subst (Indexes second) (sym (get_or-set_other xs i k w d (λ e. omega arith))) ((partly k d there).1 (omega arith))
        | inr le ↦ let here : i ≡ k = omega arith in subst (λ n. Indexes second (get_or (set xs i w) n d)) here (subst (Indexes second) (sym (get_or-set_same xs i w d inside)) new)
      ],
    )

pub partly_each : (first second : List PeriodRow) (xs : List PeriodIndex) (i : ℕ) → length xs ≤ i → EachIndexes first xs → PartlyIndex first second xs i
partly_each first second xs i all each = λ k d below. (λ less. each k d below, λ ge. absurd (omega arith))

pub each_first : (first second : List PeriodRow) (xs : List PeriodIndex) (i : ℕ) → length xs ≤ i → PartlyIndex first second xs i → EachIndexes first xs
each_first first second xs i all partly = λ k d below. (partly k d below).0 (omega arith)

pub each_second : (first second : List PeriodRow) (xs : List PeriodIndex) → PartlyIndex first second xs 0 → EachIndexes second xs
each_second first second xs partly = λ k d below. (partly k d below).1 (omega arith)

pub partly_moved : (first others second : List PeriodRow) (xs : List PeriodIndex) (i : ℕ) → IsPermutation first others → PartlyIndex first second xs i → PartlyIndex others second xs i
partly_moved first others second xs i moved partly = λ k d below.
    (λ less. index_moved (get_or xs k d).positions first others (get_or xs k d).periods moved ((partly k d below).0 less), (partly k d below).1)

pub each_moved : (rows others : List PeriodRow) (xs : List PeriodIndex) → IsPermutation rows others → EachIndexes rows xs → EachIndexes others xs
each_moved rows others xs moved each = λ k d below. index_moved (get_or xs k d).positions rows others (get_or xs k d).periods moved (each k d below)

-- a write at the place leaves the indexes before it, and those after it if it has the second rows
pub partly_kept : (first second : List PeriodRow) (xs : List PeriodIndex) (i : ℕ) (w : PeriodIndex) → i < length xs → PartlyIndex first second xs i → Indexes second w → PartlyIndex first second (set xs i w) i
partly_kept first second xs i w inside partly new = λ k d below.
    let size : length (set xs i w) ≡ length xs = length-set xs i w in
    let there : k < length xs = omega arith in (
      λ less. subst (Indexes first) (sym (get_or-set_other xs i k w d (λ e. omega arith))) ((partly k d there).0 less),
      λ ge. elim (cases_lt i k) [
        | inl after ↦ subst (Indexes second) (sym (get_or-set_other xs i k w d (λ e. omega arith))) ((partly k d there).1 ge)
        | inr le ↦ let here : i ≡ k = omega arith in subst (λ n. Indexes second (get_or (set xs i w) n d)) here (subst (Indexes second) (sym (get_or-set_same xs i w d inside)) new)
      ],
    )

-- a slice of all elements, written back to its vector
pub put_back : {X : Type 0} (n : ℕ) (items given new : List X) → given ≡ items → length given ≡ n → length new ≡ length given → take n (new ++ drop (length new) items) ≡ new
put_back {X} n items given new is size same =
    let of_items : length given ≡ length items = ap length is in
    ap (λ (rest : List X). take n (new ++ rest)) (none_left items (length new) (omega arith)) ∙ ap (take n) (append-nil new) ∙ take_all n new (omega arith)

pub written_back : (n : ℕ) (items given new : List PeriodIndex) → given ≡ items → length given ≡ n → map positions_by new ≡ map positions_by given → take n (new ++ drop (length new) items) ≡ new
written_back n items given new is size same = put_back n items given new is size (sym (length-map new positions_by) ∙ ap length same ∙ length-map given positions_by)

-- rows that begin are the rows that were added
pub begun_rows : (moment : ℤ) (rows : List PeriodRow) → map row_of (map (begun moment) rows) ≡ rows
begun_rows moment [] = refl
begun_rows moment (row ∷ rows) = ap (λ (more : List PeriodRow). row ∷ more) (begun_rows moment rows)

-- the rows of two lists of versions in another order
pub rows_joined : (all first second : List VersionRow) (rows : List PeriodRow) → IsPermutation all (first ++ second) → map row_of first ≡ rows → IsPermutation (map row_of all) (rows ++ map row_of second)
rows_joined all first second rows moved are =
    subst (λ (front : List PeriodRow). IsPermutation (map row_of all) (front ++ map row_of second)) are
    (subst (IsPermutation (map row_of all)) (map-append row_of first second) (IsPermutation-map row_of all (first ++ second) moved))

-- the indexes after rows are removed
pub each_after_taken :
    (old new first rest : List VersionRow) (rows : List PeriodRow) (given after : List PeriodIndex) → IsPermutation old (first ++ rest) → IsPermutation new rest → map row_of first ≡ rows
    → ((left : List PeriodRow) → EachIndexes (rows ++ left) given → EachIndexes left after) → EachIndexes (map row_of old) given → EachIndexes (map row_of new) after
each_after_taken old new first rest rows given after moved is are taken each =
    each_moved (map row_of rest) (map row_of new) after (IsPermutation-sym (map row_of new) (map row_of rest) (IsPermutation-map row_of new rest is))
    (taken (map row_of rest) (each_moved (map row_of old) (rows ++ map row_of rest) given (rows_joined old first rest rows moved are) each))
