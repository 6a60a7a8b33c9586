-- The versions that a history leaves hold its states, and are one list up to its order.
use Rattle.std.proofs.Common.{◌≡◌, ◌<ℤ◌, ◌≤ℤ◌, ◌++◌, ◌∷◌, ℕ, ℤ, Bool, true, false, List, [], Some, None, cond, fold, filter_map, map, nat_eq, refl, sym, subst, ap, ap₂, ◌∙◌, arith}
use Rattle.std.specs.Prelude.{int_le}
use Rattle.std.specs.List.{All, cons_option, filter, flat_map}
use Rattle.std.specs.List.Sorted.{IsPermutation}
use Rattle.std.proofs.lemmas.Int.{ints, by_lt_z}
use Rattle.std.proofs.lemmas.List.{map-append}
use Rattle.std.proofs.lemmas.List.Sums.{fold-append}
use Rattle.std.proofs.lemmas.List.Sorted.{IsPermutation-refl, IsPermutation-sym, IsPermutation-trans, IsPermutation-append_left, IsPermutation-append_right, IsPermutation-map}
use Rattle.period_core.proofs.Periods.{period_same}
use Rattle.temporal_model.proofs.Rearranged.{IsPermutation-filter, Rearranged, from_permutation, to_permutation}
use Rattle.period_core.specs.Moments.{forever}
use Rattle.period_core.specs.declared.value.Value.{Value}
use Rattle.period_core.specs.declared.version.VersionRow.{VersionRow}
use Rattle.catalog_core.specs.declared.change.Action.{Action}
use Rattle.catalog_core.specs.declared.change.Change.{Change}
use Rattle.history_model.specs.Effects.{effect, inserted_by, rows_after}
use Rattle.history_model.specs.Histories.{Advanced, AreInOrder, Queried, Changed, Created, Event, History, IsInOrder, changed_until, state_at, versions_in, with_event}
use Rattle.history_model.specs.HistoryVersions.{AreVersionsOf, AppliesActionIf, after_event, begun_at, is_touched, its_row, remains_of, touched_rows, versions_after, versions_of}
use Rattle.history_model.specs.Portions.{PlainRow, added, plain_given, replacements}
use Rattle.history_model.specs.Versions.{PlainVersion, plain_version, values_at}
use Rattle.history_model.proofs.Lists.{flat_map-permutation}
use Rattle.history_model.proofs.Moments.{Sound, after_earlier, after_later, after_sound, all_later_sound, plain_sound, rows_after-permutation, seen, values_at-seen}

-- ---- the states

-- a change shows in the state from its moment on
abbrev pub after_change : ℤ → ℕ → ℤ → ℤ → Change → List (List Value) → List (List Value)
after_change moment table day at change state = cond (int_le at moment) (effect change table day state) state

-- the versions after a change show the state, by whether the change is of their table and made by the moment
abbrev IsHeld : ℤ → ℤ → ℤ → Change → List PlainVersion → List (List Value) → Bool → Bool → Type 0
IsHeld at moment day change old state here late =
    IsPermutation (flat_map (seen moment day) (cond here (versions_after at change.action old) old)) (cond late (cond here (rows_after change.action day state) state) state)

-- the versions after a change show the state after it
made : (table : ℕ) (at moment day : ℤ) (change : Change) (old : List PlainVersion) (state : List (List Value)) → moment <ℤ forever → All (Sound at) old
    → IsPermutation (flat_map (seen moment day) old) state
    → IsPermutation (flat_map (seen moment day) (after_event table old (Changed at change))) (after_change moment table day at change state)
made table at moment day change old state before sound held = by_lt_z moment at earlier later
  where
    go_later : (b : Bool) → at ≤ℤ moment → IsHeld at moment day change old state b true
    go_later true late =
        IsPermutation-trans (flat_map (seen moment day) (versions_after at change.action old)) (rows_after change.action day (flat_map (seen moment day) old)) (rows_after change.action day state)
        (after_later at moment day late before change.action old sound)
        (rows_after-permutation change.action day (flat_map (seen moment day) old) state held)
    go_later false late = held

    go_earlier : (b : Bool) → moment <ℤ at → IsHeld at moment day change old state b false
    go_earlier true early = subst (λ l. IsPermutation l state) (sym (after_earlier at moment day early before change.action old)) held
    go_earlier false early = held

    later : at ≤ℤ moment → IsHeld at moment day change old state (nat_eq table change.table) (int_le at moment)
    later late = let t : int_le at moment ≡ true = grind (arith, ints) in subst (IsHeld at moment day change old state (nat_eq table change.table)) (sym t) (go_later (nat_eq table change.table) late)

    earlier : moment <ℤ at → IsHeld at moment day change old state (nat_eq table change.table) (int_le at moment)
    earlier early = let t : int_le at moment ≡ false = grind (arith, ints) in subst (IsHeld at moment day change old state (nat_eq table change.table)) (sym t) (go_earlier (nat_eq table change.table) early)

abbrev folded : ℤ → ℕ → ℤ → List Event → List (List Value) → List (List Value)
folded moment table day events state = fold (λ rows change. effect change table day rows) state (filter_map (changed_until moment) events)

folded-changed : (moment : ℤ) (table : ℕ) (day at : ℤ) (change : Change) (events : List Event) (state : List (List Value)) →
    folded moment table day (Changed at change ∷ events) state ≡ folded moment table day events (after_change moment table day at change state)
folded-changed moment table day at change events state = go (int_le at moment) (filter_map (changed_until moment) events)
  where
    go : (b : Bool) (rest : List Change) → fold (λ rows change. effect change table day rows) state (cons_option (cond b (Some change) None) rest) ≡ fold (λ rows change. effect change table day rows) (cond b (effect change table day state) state) rest
    go true rest = refl
    go false rest = refl

event_sound : (table : ℕ) (clock : ℤ) (change : Change) (old : List PlainVersion) → clock <ℤ forever → All (Sound clock) old → All (Sound clock) (after_event table old (Changed clock change))
event_sound table clock change old open_clock sound = go (nat_eq table change.table)
  where
    go : (b : Bool) → All (Sound clock) (cond b (versions_after clock change.action old) old)
    go true = after_sound clock open_clock change.action old sound
    go false = sound

-- event by event the versions show the state
follows : (table : ℕ) (moment day : ℤ) → moment <ℤ forever → (clock : ℤ) → clock <ℤ forever → (events : List Event) → AreInOrder clock events → (old : List PlainVersion) → All (Sound clock) old
    → (state : List (List Value)) → IsPermutation (flat_map (seen moment day) old) state
    → IsPermutation (flat_map (seen moment day) (fold (after_event table) old events)) (folded moment table day events state)
follows table moment day before clock open_clock [] order old sound state held = held
follows table moment day before clock open_clock (Advanced at ∷ events) order old sound state held =
    follows table moment day before at order.1 events order.2 old (all_later_sound clock at order.0 old sound) state held
follows table moment day before clock open_clock (Created definition ∷ events) order old sound state held = follows table moment day before clock open_clock events order old sound state held
follows table moment day before clock open_clock (Changed at change ∷ events) order old sound state held =
    let now : All (Sound at) old = subst (λ (c : ℤ). All (Sound c) old) (sym order.0) sound in
    let opens : at <ℤ forever = subst (λ (c : ℤ). c <ℤ forever) (sym order.0) open_clock in
    subst (IsPermutation (flat_map (seen moment day) (fold (after_event table) (after_event table old (Changed at change)) events))) (sym (folded-changed moment table day at change events state))
    (follows table moment day before at opens events (subst (λ (c : ℤ). AreInOrder c events) (sym order.0) order.1) (after_event table old (Changed at change)) (event_sound table at change old opens now)
    (after_change moment table day at change state) (made table at moment day change old state before now held))
follows table moment day before clock open_clock (Queried ∷ events) order old sound state held = follows table moment day before clock open_clock events order old sound state held

-- the versions that a history leaves hold at each moment its state on each day
pub left_hold : (history : History) (table : ℕ) (versions : List VersionRow) → IsInOrder history → AreVersionsOf history table versions → (moment day : ℤ) → moment <ℤ forever
    → IsPermutation (values_at versions moment day) (state_at history moment table day)
left_hold history table versions order left moment day before =
    let first : List VersionRow = versions_in history.opening table in
    subst (λ l. IsPermutation l (state_at history moment table day)) (sym (values_at-seen versions moment day))
    (IsPermutation-trans (flat_map (seen moment day) (map plain_version versions)) (flat_map (seen moment day) (versions_of history table)) (state_at history moment table day)
    (flat_map-permutation (seen moment day) (map plain_version versions) (versions_of history table) left)
    (follows table moment day before history.opening.clock order.before history.events order.events (map plain_version first) (plain_sound history.opening.clock first (order.recorded table))
    (values_at first moment day) (subst (λ l. IsPermutation l (values_at first moment day)) (values_at-seen first moment day) (IsPermutation-refl (values_at first moment day)))))

-- ---- the order of the versions is free

touched_rows-permutation : (action : Action) (xs ys : List PlainVersion) → IsPermutation xs ys → IsPermutation (touched_rows action xs) (touched_rows action ys)
touched_rows-permutation action xs ys p = IsPermutation-map its_row (filter (is_touched action) xs) (filter (is_touched action) ys) (IsPermutation-filter (is_touched action) xs ys p)

added-permutation : (action : Action) (xs ys : List PlainRow) → IsPermutation xs ys → IsPermutation (added action xs) (added action ys)
added-permutation action xs ys p =
    IsPermutation-append_right (map plain_given (inserted_by action)) (flat_map (replacements action) xs) (flat_map (replacements action) ys) (flat_map-permutation (replacements action) xs ys p)

-- the order of versions does not matter to a change
pub versions_after-permutation : (moment : ℤ) (action : Action) (xs ys : List PlainVersion) → IsPermutation xs ys → IsPermutation (versions_after moment action xs) (versions_after moment action ys)
versions_after-permutation moment action xs ys p =
    let A : List PlainVersion = map (begun_at moment) (added action (touched_rows action xs)) in
    let B : List PlainVersion = map (begun_at moment) (added action (touched_rows action ys)) in
    let L : List PlainVersion = flat_map (remains_of moment action) xs in
    let M : List PlainVersion = flat_map (remains_of moment action) ys in
    IsPermutation-trans (L ++ A) (M ++ A) (M ++ B)
    (IsPermutation-append_left A L M (flat_map-permutation (remains_of moment action) xs ys p))
    (IsPermutation-append_right M A B
    (IsPermutation-map (begun_at moment) (added action (touched_rows action xs)) (added action (touched_rows action ys))
    (added-permutation action (touched_rows action xs) (touched_rows action ys) (touched_rows-permutation action xs ys p))))

-- ---- one more change

-- the versions of a table after one more event
pub versions_of-event : (history : History) (event : Event) (table : ℕ) → versions_of (with_event history event) table ≡ after_event table (versions_of history table) event
versions_of-event history event table = fold-append (after_event table) (map plain_version (versions_in history.opening table)) history.events (event ∷ [])

-- versions that a change makes of a history's versions are the versions of the history after it
pub left_more : (history : History) (at : ℤ) (change : Change) (table : ℕ) (old new : List VersionRow) → AreVersionsOf history table old
    → AppliesActionIf (nat_eq table change.table) at change.action old new → AreVersionsOf (with_event history (Changed at change)) table new
left_more history at change table old new left makes =
    subst (IsPermutation (map plain_version new)) (sym (versions_of-event history (Changed at change) table)) (go (nat_eq table change.table) makes)
  where
    go : (b : Bool) → AppliesActionIf b at change.action old new → IsPermutation (map plain_version new) (cond b (versions_after at change.action (versions_of history table)) (versions_of history table))
    go true makes =
        IsPermutation-trans (map plain_version new) (versions_after at change.action (map plain_version old)) (versions_after at change.action (versions_of history table)) makes
        (versions_after-permutation at change.action (map plain_version old) (versions_of history table) left)
    go false makes =
        IsPermutation-trans (map plain_version new) (map plain_version old) (versions_of history table) (IsPermutation-map plain_version new old makes) left

-- ---- one list

-- versions with equal parts are equal
pub version_same : (v w : VersionRow) → plain_version v ≡ plain_version w → v ≡ w
version_same v w e =
    let a : v.values ≡ w.values = ap (λ (p : PlainVersion). p.values) e in
    let s : v.period.start ≡ w.period.start = ap (λ (p : PlainVersion). p.start) e in
    let t : v.period.end ≡ w.period.end = ap (λ (p : PlainVersion). p.end) e in
    let f : v.from ≡ w.from = ap (λ (p : PlainVersion). p.from) e in
    let u : v.to ≡ w.to = ap (λ (p : PlainVersion). p.to) e in
    λ i. record { values = a i; period = period_same v.period w.period s t i; from = f i; to = u i }

-- a list whose images are in two parts is in two parts
split_of : {X Y : Type 0} (f : X → Y) (xs : List X) (front : List Y) (y : Y) (back : List Y) → map f xs ≡ front ++ y ∷ back
    → (before : List X) × (x : X) × (after : List X) × (xs ≡ before ++ x ∷ after) × (f x ≡ y) × (map f before ≡ front) × (map f after ≡ back)
split_of f [] [] y back e = cc
split_of f [] (z ∷ front) y back e = cc
split_of f (x ∷ xs) [] y back e =
    let here : f x ≡ y = cc in
    let rest : map f xs ≡ back = cc in
    ([], x, xs, refl, here, refl, rest)
split_of f (x ∷ xs) (z ∷ front) y back e =
    let here : f x ≡ z = cc in
    let rest : map f xs ≡ front ++ y ∷ back = cc in
    let (before, w, after, is, its, low, high) = split_of f xs front y back rest in
    (x ∷ before, w, after, ap (λ l. x ∷ l) is, its, ap₂ (λ a l. a ∷ l) here low, high)

-- lists whose images are in one order up to a permutation are so too, if no two elements have one image
pub from_images : {X Y : Type 0} (f : X → Y) → ((x y : X) → f x ≡ f y → x ≡ y) → (xs ys : List X) → IsPermutation (map f xs) (map f ys) → IsPermutation xs ys
from_images {X} {Y} f one xs ys p = to_permutation xs ys (go xs ys (from_permutation (map f xs) (map f ys) p))
  where
    none : (ys : List X) → map f ys ≡ [] → ys ≡ []
    none [] e = refl
    none (y ∷ ys) e = cc

    go : (xs ys : List X) → Rearranged (map f xs) (map f ys) → Rearranged xs ys
    go [] ys e = none ys e
    go (x ∷ xs) ys (front, back, e, rest) =
        let (before, w, after, is, its, low, high) = split_of f ys front (f x) back e in
        let same : w ≡ x = one w x its in
        let joined : map f (before ++ after) ≡ front ++ back = map-append f before after ∙ ap₂ (λ (a b : List Y). a ++ b) low high in
        (before, after, is ∙ ap (λ (z : X). before ++ z ∷ after) same, go xs (before ++ after) (subst (Rearranged (map f xs)) (sym joined) rest))

-- two lists of a table's versions are one, up to their order
pub one_list : (history : History) (table : ℕ) (versions others : List VersionRow) → AreVersionsOf history table versions → AreVersionsOf history table others → IsPermutation versions others
one_list history table versions others left also =
    from_images plain_version version_same versions others
    (IsPermutation-trans (map plain_version versions) (versions_of history table) (map plain_version others) left (IsPermutation-sym (map plain_version others) (versions_of history table) also))
