-- A window sees of a version in moments what it saw of it in seconds.
use Rattle.std.proofs.Common.{◌≡◌, ◌&&◌, ◌<ℤ◌, ◌≤ℤ◌, ◌⊎◌, inl, inr, subst, ℕ, zero, suc, ℤ, Bool, true, false, cond, List, [], ◌∷◌, map, get_or, refl, sym, ◌∙◌, ap, ap₂, arith}
use Rattle.std.specs.Prelude.{int_lt, int_le}
use Rattle.std.specs.Ordering.{int_eq}
use Rattle.std.specs.List.{All}
use Rattle.std.proofs.lemmas.Int.{ints}
use Rattle.std.proofs.lemmas.List.Elements.{All-head, All-tail}
use Rattle.period_core.specs.Moments.{forever}
use Rattle.period_core.specs.Seconds.{last_second, moved_end, second_start}
use Rattle.period_core.specs.Windows.{window_sees}
use Rattle.period_core.specs.declared.version.VersionRow.{VersionRow}
use Rattle.period_core.specs.declared.window.Window.{Window}
use Rattle.period_core.specs.declared.window.Window.TheVariants.{AsOf, Between, FromTo, Now}
use Rattle.temporal_model.specs.Snapshot.{covers_day}
use Rattle.history_model.specs.Histories.{Database, versions_in}
use Rattle.history_model.specs.Moved.{BeginsBeforeOpenEnd, IsRecordedThen, MovedOpeningsAreInOrder, MovedStatesStay, MovedWindowsStay, moved, moved_version, moved_window, second_sees, values_seen_then}
use Rattle.history_model.specs.Versions.{IsRecorded, values_seen}
use Rattle.history_model.proofs.Lists.{All-nothing, All-put, filtered, flat_map-of_map, flat_map-same, one_if}
use Rattle.history_model.proofs.VersionFacts.{itself, not_true, same_number}

-- ---- numbers

less_same : (a b : ℤ) → int_lt (second_start a) (second_start b) ≡ int_lt a b
less_same a b = go (int_lt a b) refl
  where
    go : (t : Bool) → int_lt a b ≡ t → int_lt (second_start a) (second_start b) ≡ t
    go true e = grind (arith, ints)
    go false e = grind (arith, ints)

le_same : (a b : ℤ) → int_le (second_start a) (second_start b) ≡ int_le a b
le_same a b = go (int_le a b) refl
  where
    go : (t : Bool) → int_le a b ≡ t → int_le (second_start a) (second_start b) ≡ t
    go true e = grind (arith, ints)
    go false e = grind (arith, ints)

-- a second before the old open end precedes an end if its moment does
end_same : (a to : ℤ) → a <ℤ last_second → int_lt (second_start a) (moved_end to) ≡ int_lt a to
end_same a to before = go (int_eq to last_second) refl
  where
    go : (t : Bool) → int_eq to last_second ≡ t → int_lt (second_start a) (cond t forever (second_start to)) ≡ int_lt a to
    go true e =
        let same : to ≡ last_second = same_number to last_second e in
        let here : int_lt a to ≡ true = grind (arith, ints) in
        let there : int_lt (second_start a) forever ≡ true = grind (arith, ints) in
        there ∙ sym here
    go false e = less_same a to

-- an end is FOREVER if it was the old open end
open_same : (to : ℤ) → int_eq (moved_end to) forever ≡ int_eq to last_second
open_same to = go (int_eq to last_second) refl
  where
    go : (t : Bool) → int_eq to last_second ≡ t → int_eq (cond t forever (second_start to)) forever ≡ t
    go true e = itself forever
    go false e = not_true (int_eq (second_start to) forever) (λ same. let is : second_start to ≡ forever = same_number (second_start to) forever same in omega (arith, ints))

-- ---- versions

sees_same : (window : Window) → BeginsBeforeOpenEnd window → (from to : ℤ)
    → window_sees (moved_window window) (second_start from) (moved_end to) ≡ second_sees window from to
sees_same Now before from to = open_same to
sees_same (AsOf m) before from to = ap₂ (λ (s t : Bool). s && t) (le_same from m) (end_same m to before)
sees_same (FromTo a b) before from to =
    ap₂ (λ (s t : Bool). s && t) (less_same a b) (ap₂ (λ (s t : Bool). s && t) (less_same from b) (end_same a to before))
sees_same (Between a b) before from to =
    ap₂ (λ (s t : Bool). s && t) (le_same a b) (ap₂ (λ (s t : Bool). s && t) (le_same from b) (end_same a to before))

-- a window sees the same values after the move, version by version
seen_same : (window : Window) → BeginsBeforeOpenEnd window → (versions : List VersionRow) (day : ℤ)
    → values_seen (moved_window window) (map moved_version versions) day ≡ values_seen_then window versions day
seen_same window before versions day =
    let values = λ (v : VersionRow). v.values in
    let covers = λ (v : VersionRow). covers_day v.period.start v.period.end day in
    let now = λ (v : VersionRow). window_sees (moved_window window) v.from v.to && covers v in
    let once = λ (v : VersionRow). second_sees window v.from v.to && covers v in
    let given = λ (v : VersionRow). one_if (now v) v.values in
    filtered values now (map moved_version versions)
    ∙ flat_map-of_map given moved_version versions
    ∙ flat_map-same (λ (v : VersionRow). given (moved_version v)) (λ (v : VersionRow). one_if (once v) v.values)
    (λ (v : VersionRow). ap (λ (t : Bool). one_if (t && covers v) v.values) (sees_same window before v.from v.to)) versions
    ∙ sym (filtered values once versions)

-- ---- tables

at_place : (lists : List (List VersionRow)) (place : ℕ) → get_or (map (map moved_version) lists) place [] ≡ map moved_version (get_or lists place [])
at_place [] place = refl
at_place (list ∷ lists) zero = refl
at_place (list ∷ lists) (suc place) = at_place lists place

-- the versions of a moved table
versions_moved : (database : Database) (table : ℕ) → versions_in (moved database) table ≡ map moved_version (versions_in database table)
versions_moved database zero = refl
versions_moved database (suc place) = at_place database.versions place

-- windows see the same versions after the move
pub windows_stay : MovedWindowsStay
windows_stay database window before table day =
    ap (λ (versions : List VersionRow). values_seen (moved_window window) versions day) (versions_moved database table)
    ∙ seen_same window before (versions_in database table) day

pub states_stay : MovedStatesStay
states_stay database second before table day = windows_stay database (AsOf second) before table day

-- ---- as a store may have them

moment_le : (a b : ℤ) → a ≤ℤ b → second_start a ≤ℤ second_start b
moment_le a b h = omega (arith, ints, h)

moment_lt : (a b : ℤ) → a <ℤ b → second_start a <ℤ second_start b
moment_lt a b h = omega (arith, ints, h)

before_forever : (a : ℤ) → a <ℤ last_second → second_start a <ℤ forever
before_forever a h = omega (arith, ints, h)

recorded_moved : (clock : ℤ) → clock <ℤ last_second → (v : VersionRow) → IsRecordedThen clock v → IsRecorded (second_start clock) (moved_version v)
recorded_moved clock before v r = record {
  lasts = lasts (int_eq v.to last_second) refl;
  begun = moment_le v.from clock r.begun;
  ended = ended (int_eq v.to last_second) refl;
}
  where
    lasts : (t : Bool) → int_eq v.to last_second ≡ t → second_start v.from <ℤ cond t forever (second_start v.to)
    lasts true e = let begun : v.from ≤ℤ clock = r.begun in before_forever v.from (omega (arith, ints, begun, before))
    lasts false e = moment_lt v.from v.to r.lasts

    ended : (t : Bool) → int_eq v.to last_second ≡ t → (cond t forever (second_start v.to) ≡ forever) ⊎ (cond t forever (second_start v.to) ≤ℤ second_start clock)
    ended true e = inl refl
    ended false e = elim r.ended [
      | inl same ↦ absurd (let on : int_eq v.to last_second ≡ true = ap (λ (n : ℤ). int_eq n last_second) same ∙ itself last_second in cc)
      | inr h ↦ inr (moment_le v.to clock h)
    ]

all_moved : (clock : ℤ) → clock <ℤ last_second → (versions : List VersionRow) → All (IsRecordedThen clock) versions → All (IsRecorded (second_start clock)) (map moved_version versions)
all_moved clock before [] h = All-nothing (IsRecorded (second_start clock))
all_moved clock before (v ∷ versions) h =
    All-put (IsRecorded (second_start clock)) (moved_version v) (map moved_version versions)
    (recorded_moved clock before v (All-head (IsRecordedThen clock) v versions h))
    (all_moved clock before versions (All-tail (IsRecordedThen clock) v versions h))

pub in_order : MovedOpeningsAreInOrder
in_order database before recorded = record {
  before = before_forever database.clock before;
  recorded = λ (table : ℕ). subst (All (IsRecorded (second_start database.clock))) (sym (versions_moved database table))
      (all_moved database.clock before (versions_in database table) (recorded table));
  events = tt;
}
