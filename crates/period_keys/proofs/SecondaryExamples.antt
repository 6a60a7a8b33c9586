-- Worked rows: workers refer to departments by the second of their values. An index by it finds workers 1 and 3 of department 5.
use Rattle.std.proofs.Common.{◌≡◌, ◌&&◌, ◌∷◌, [], ◌∙◌, ℕ, ℤ, pos, true, false, List, ap, drop, filter, length, map, refl}
use Rattle.std.specs.List.{slice_get}
use Rattle.period_core.specs.declared.row.PeriodRow.{PeriodRow}
use Rattle.period_core.specs.declared.value.Value.{Value}
use Rattle.period_core.specs.declared.value.Value.TheVariants.{Int}
use Rattle.period_core.proofs.Periods.{period_over}
use Rattle.period_keys.specs.declared.key_range.KeyRange.{KeyRange}
use Rattle.period_keys.specs.declared.key_range.Limit.{Limit}
use Rattle.period_keys.specs.declared.key_range.Limit.TheVariants.{Unbounded}
use Rattle.period_keys.specs.declared.secondary_index.SecondaryIndex.{SecondaryIndex}
use Rattle.period_keys.specs.Ranges.{begins_with, is_above, is_below}
use Rattle.period_keys.specs.Secondary.{entries_of, is_of_some_key, keys_within}
use Rattle.period_keys.specs.Versions.{begun}

-- the department of each worker, and the worker
abbrev entries : List (List Value)
entries = (Int (pos 5) ∷ Int (pos 1) ∷ []) ∷ (Int (pos 5) ∷ Int (pos 3) ∷ []) ∷ (Int (pos 6) ∷ Int (pos 2) ∷ []) ∷ []

abbrev workers_1_and_3 : List (List Value)
workers_1_and_3 = (Int (pos 1) ∷ []) ∷ (Int (pos 3) ∷ []) ∷ []

abbrev cut_within : List ℕ → List Value → Limit → Limit → List (List Value) → List (List Value)
cut_within positions leading lower upper entries =
    map (drop (length positions)) (filter (λ entry. begins_with leading entry && (is_above lower (slice_get entry (length leading)) && is_below upper (slice_get entry (length leading)))) entries)

keys_of_department : (index : SecondaryIndex) (range : KeyRange) → index.positions ≡ 1 ∷ [] → entries_of index ≡ entries → range.leading.items ≡ Int (pos 5) ∷ [] → range.lower ≡ Unbounded → range.upper ≡ Unbounded
    → keys_within index range ≡ workers_1_and_3
keys_of_department index range by_second are led lower upper =
    ap (λ (ps : List ℕ). cut_within ps range.leading.items range.lower range.upper (entries_of index)) by_second
    ∙ ap (cut_within (1 ∷ []) range.leading.items range.lower range.upper) are
    ∙ ap (λ (vs : List Value). cut_within (1 ∷ []) vs range.lower range.upper entries) led
    ∙ ap (λ (l : Limit). cut_within (1 ∷ []) (Int (pos 5) ∷ []) l range.upper entries) lower
    ∙ ap (λ (l : Limit). cut_within (1 ∷ []) (Int (pos 5) ∷ []) Unbounded l entries) upper

-- a worker of a department
abbrev worker : ℤ → ℤ → PeriodRow
worker number department = record { values = Int number ∷ Int department ∷ []; period = period_over (pos 1) (pos 32) refl }

-- the rows of these workers are looked at, in whatever department they are by now
worker_3-is_found : is_of_some_key (0 ∷ []) workers_1_and_3 (begun (pos 0) (worker (pos 3) (pos 7))) ≡ true
worker_3-is_found = refl

worker_2-is_not : is_of_some_key (0 ∷ []) workers_1_and_3 (begun (pos 0) (worker (pos 2) (pos 5))) ≡ false
worker_2-is_not = refl
