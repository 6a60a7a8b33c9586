-- Versions after a change, as of each moment.
use Rattle.std.proofs.Common.{◌≡◌, ◌&&◌, ◌<ℤ◌, ◌≤ℤ◌, ◌⊎◌, ℤ, Bool, true, false, cond, List, [], ◌∷◌, ◌++◌, map, refl, sym, ◌∙◌, ap, ap₂, subst, inl, inr, arith, append-nil, append_assoc}
use Rattle.std.specs.Prelude.{int_lt, int_le}
use Rattle.std.specs.Ordering.{int_eq}
use Rattle.std.specs.List.{All, filter, flat_map}
use Rattle.std.specs.List.Sorted.{IsPermutation}
use Rattle.std.proofs.lemmas.Int.{ints}
use Rattle.std.proofs.lemmas.List.Concat.{flat_map-append}
use Rattle.std.proofs.lemmas.List.Elements.{All-head, All-tail}
use Rattle.std.proofs.lemmas.List.Sorted.{IsPermutation-refl, IsPermutation-sym, IsPermutation-trans, IsPermutation-append_left, IsPermutation-append_right, IsPermutation-append_comm}
use Rattle.period_core.specs.Moments.{forever}
use Rattle.period_core.specs.Windows.{window_sees}
use Rattle.period_core.specs.declared.value.Value.{Value}
use Rattle.period_core.specs.declared.version.VersionRow.{VersionRow}
use Rattle.period_core.specs.declared.window.Window.TheVariants.{AsOf, Now}
use Rattle.temporal_model.specs.Snapshot.{covers_day}
use Rattle.catalog_core.specs.declared.change.Action.{Action}
use Rattle.history_model.specs.Effects.{inserted_by, rows_after}
use Rattle.history_model.specs.HistoryVersions.{begun_at, closed_at, is_touched, its_row, remains_of, touched_rows, versions_after}
use Rattle.history_model.specs.Portions.{PlainRow, added, plain_given, replacements, touches}
use Rattle.history_model.specs.Versions.{IsRecorded, PlainVersion, is_seen, plain_version, values_at}
use Rattle.history_model.proofs.Days.{and_parts, made, rows_after-made, shown, spared_shown, touched_shown}
use Rattle.history_model.proofs.Lists.{All-joined, All-nothing, All-put, chosen, exchange, filtered, flat_map-nested, flat_map-none, flat_map-of_map, flat_map-permutation, flat_map-same, flat_map-same_of, one_if}
use Rattle.history_model.proofs.VersionFacts.{both, first_false, itself, not_true, same_number, second_false}

-- ---- one version as of a moment

-- the version's values, if they are seen as of the moment on the day
abbrev pub seen : ℤ → ℤ → PlainVersion → List (List Value)
seen moment day v = one_if (window_sees (AsOf moment) v.from v.to && covers_day v.start v.end day) v.values

pub values_at-seen : (versions : List VersionRow) (moment day : ℤ) → values_at versions moment day ≡ flat_map (seen moment day) (map plain_version versions)
values_at-seen versions moment day =
    filtered (λ (v : VersionRow). v.values) (is_seen (AsOf moment) day) versions
    ∙ sym (flat_map-of_map (seen moment day) plain_version versions)

-- a plain version as a store with this clock may have it
pub record Sound (clock : ℤ) (v : PlainVersion) : Type 0 where
  pub lasts : v.from <ℤ v.to
  pub begun : v.from ≤ℤ clock
  pub ended : (v.to ≡ forever) ⊎ (v.to ≤ℤ clock)

pub plain_sound : (clock : ℤ) (versions : List VersionRow) → All (IsRecorded clock) versions → All (Sound clock) (map plain_version versions)
plain_sound clock [] h = All-nothing (Sound clock)
plain_sound clock (v ∷ vs) h =
    let r : IsRecorded clock v = All-head (IsRecorded clock) v vs h in
    All-put (Sound clock) (plain_version v) (map plain_version vs) (record { lasts = r.lasts; begun = r.begun; ended = r.ended }) (plain_sound clock vs (All-tail (IsRecorded clock) v vs h))

pub sound_plain : (clock : ℤ) (versions : List VersionRow) → All (Sound clock) (map plain_version versions) → All (IsRecorded clock) versions
sound_plain clock [] h = All-nothing (IsRecorded clock)
sound_plain clock (v ∷ vs) h =
    let r : Sound clock (plain_version v) = All-head (Sound clock) (plain_version v) (map plain_version vs) h in
    All-put (IsRecorded clock) v vs (record { lasts = r.lasts; begun = r.begun; ended = r.ended }) (sound_plain clock vs (All-tail (Sound clock) (plain_version v) (map plain_version vs) h))

later_sound : (clock moment : ℤ) → clock ≤ℤ moment → (v : PlainVersion) → Sound clock v → Sound moment v
later_sound clock moment late v r = record {
  lasts = r.lasts;
  begun = (let b : v.from ≤ℤ clock = r.begun in omega (arith, ints));
  ended = elim r.ended [ inl e ↦ inl e | inr e ↦ inr (omega (arith, ints)) ];
}

pub all_later_sound : (clock moment : ℤ) → clock ≤ℤ moment → (vs : List PlainVersion) → All (Sound clock) vs → All (Sound moment) vs
all_later_sound clock moment late [] h = All-nothing (Sound moment)
all_later_sound clock moment late (v ∷ vs) h =
    All-put (Sound moment) v vs (later_sound clock moment late v (All-head (Sound clock) v vs h)) (all_later_sound clock moment late vs (All-tail (Sound clock) v vs h))

-- ---- rows that begin, and versions that are closed

begun_later : (clock moment day : ℤ) → clock ≤ℤ moment → moment <ℤ forever → (row : PlainRow) → seen moment day (begun_at clock row) ≡ shown day row
begun_later clock moment day late before row =
    let a : int_le clock moment ≡ true = grind (arith, ints) in
    let b : int_lt moment forever ≡ true = grind (arith, ints) in
    ap (λ b. one_if (b && covers_day row.start row.end day) row.values) (both (int_le clock moment) (int_lt moment forever) a b)

begun_earlier : (clock moment day : ℤ) → moment <ℤ clock → (row : PlainRow) → seen moment day (begun_at clock row) ≡ []
begun_earlier clock moment day early row =
    let a : int_le clock moment ≡ false = grind (arith, ints) in
    ap (λ b. one_if (b && covers_day row.start row.end day) row.values) (first_false (int_le clock moment) (int_lt moment forever) a)

closed_later : (clock moment day : ℤ) → clock ≤ℤ moment → (v : PlainVersion) → flat_map (seen moment day) (closed_at clock v) ≡ []
closed_later clock moment day late v = go (int_eq v.from clock)
  where
    go : (b : Bool) → flat_map (seen moment day) (cond b [] (record v { to = clock } ∷ [])) ≡ []
    go true = refl
    go false =
        let a : int_lt moment clock ≡ false = grind (arith, ints) in
        append-nil (one_if ((int_le v.from moment && int_lt moment clock) && covers_day v.start v.end day) v.values)
        ∙ ap (λ b. one_if (b && covers_day v.start v.end day) v.values) (second_false (int_le v.from moment) (int_lt moment clock) a)

closed_earlier : (clock moment day : ℤ) → moment <ℤ clock → moment <ℤ forever → (v : PlainVersion) → window_sees Now v.from v.to ≡ true → flat_map (seen moment day) (closed_at clock v) ≡ seen moment day v
closed_earlier clock moment day early before v now = go (int_eq v.from clock) refl
  where
    open_end : v.to ≡ forever
    open_end = same_number v.to forever now

    go : (b : Bool) → int_eq v.from clock ≡ b → flat_map (seen moment day) (cond b [] (record v { to = clock } ∷ [])) ≡ seen moment day v
    go true e =
        let from : v.from ≡ clock = same_number v.from clock e in
        let a : int_le v.from moment ≡ false = grind (arith, ints) in
        sym (ap (λ b. one_if (b && covers_day v.start v.end day) v.values) (first_false (int_le v.from moment) (int_lt moment v.to) a))
    go false e =
        let a : int_lt moment clock ≡ true = grind (arith, ints) in
        let b : int_lt moment v.to ≡ true = grind (arith, ints) in
        append-nil (one_if ((int_le v.from moment && int_lt moment clock) && covers_day v.start v.end day) v.values)
        ∙ ap (λ b. one_if ((int_le v.from moment && b) && covers_day v.start v.end day) v.values) (a ∙ sym b)

-- ---- the versions in the place of one

-- from the clock on a version is seen just if it is current
open_or_not : (clock moment day : ℤ) → clock ≤ℤ moment → moment <ℤ forever → (v : PlainVersion) → Sound clock v
    → ((window_sees Now v.from v.to ≡ true) × (seen moment day v ≡ shown day (its_row v))) ⊎ ((window_sees Now v.from v.to ≡ false) × (seen moment day v ≡ []))
open_or_not clock moment day late before v r = elim r.ended [ inl e ↦ inl (on e) | inr e ↦ inr (off e) ]
  where
    on : v.to ≡ forever → (window_sees Now v.from v.to ≡ true) × (seen moment day v ≡ shown day (its_row v))
    on e =
        let begun : v.from ≤ℤ clock = r.begun in
        let a : int_le v.from moment ≡ true = grind (arith, ints) in
        let b : int_lt moment v.to ≡ true = grind (arith, ints) in (
          ap (λ (t : ℤ). int_eq t forever) e ∙ itself forever,
          ap (λ b. one_if (b && covers_day v.start v.end day) v.values) (both (int_le v.from moment) (int_lt moment v.to) a b),
        )

    off : v.to ≤ℤ clock → (window_sees Now v.from v.to ≡ false) × (seen moment day v ≡ [])
    off e =
        let b : int_lt moment v.to ≡ false = grind (arith, ints) in (
          not_true (int_eq v.to forever) (λ t. let same : v.to ≡ forever = same_number v.to forever t in omega (arith, ints)),
          ap (λ b. one_if (b && covers_day v.start v.end day) v.values) (second_false (int_le v.from moment) (int_lt moment v.to) b),
        )

-- the rest of a version, and the rows in its place, by whether the action touches it
abbrev placed : ℤ → ℤ → ℤ → Action → PlainVersion → Bool → List (List Value)
placed clock moment day action v b =
    flat_map (seen moment day) (cond b (closed_at clock v) (v ∷ [])) ++ cond b (flat_map (shown day) (replacements action (its_row v))) []

-- the rest of a version, with the rows in its place, shows the rows that the action makes of its
-- own
in_its_place : (clock moment day : ℤ) → clock ≤ℤ moment → moment <ℤ forever → (action : Action) (v : PlainVersion) → Sound clock v
    → flat_map (seen moment day) (remains_of clock action v) ++ cond (is_touched action v) (flat_map (shown day) (replacements action (its_row v))) []
    ≡ flat_map (made action day) (seen moment day v)
in_its_place clock moment day late before action v r =
    elim (open_or_not clock moment day late before v r) [
      | inl (now, is) ↦ of_current now is (touches action (its_row v)) refl
      | inr (now, is) ↦ of_ended now is
    ]
  where
    of_ended : window_sees Now v.from v.to ≡ false → seen moment day v ≡ [] → placed clock moment day action v (is_touched action v) ≡ flat_map (made action day) (seen moment day v)
    of_ended now is =
        ap (placed clock moment day action v) (first_false (window_sees Now v.from v.to) (touches action (its_row v)) now)
        ∙ append-nil (seen moment day v ++ [])
        ∙ append-nil (seen moment day v)
        ∙ is
        ∙ sym (ap (flat_map (made action day)) is)

    of_current : window_sees Now v.from v.to ≡ true → seen moment day v ≡ shown day (its_row v) → (b : Bool) → touches action (its_row v) ≡ b → placed clock moment day action v (is_touched action v) ≡ flat_map (made action day) (seen moment day v)
    of_current now is true t =
        ap (placed clock moment day action v) (both (window_sees Now v.from v.to) (touches action (its_row v)) now t)
        ∙ ap (λ l. l ++ flat_map (shown day) (replacements action (its_row v))) (closed_later clock moment day late v)
        ∙ touched_shown action (its_row v) day t
        ∙ sym (ap (flat_map (made action day)) is)
    of_current now is false t =
        ap (placed clock moment day action v) (second_false (window_sees Now v.from v.to) (touches action (its_row v)) t)
        ∙ append-nil (seen moment day v ++ [])
        ∙ append-nil (seen moment day v)
        ∙ is
        ∙ spared_shown action (its_row v) day t
        ∙ sym (ap (flat_map (made action day)) is)

-- before the clock a version shows what it showed
left_earlier : (clock moment day : ℤ) → moment <ℤ clock → moment <ℤ forever → (action : Action) (v : PlainVersion) → flat_map (seen moment day) (remains_of clock action v) ≡ seen moment day v
left_earlier clock moment day early before action v = go (is_touched action v) refl
  where
    go : (b : Bool) → is_touched action v ≡ b → flat_map (seen moment day) (cond b (closed_at clock v) (v ∷ [])) ≡ seen moment day v
    go true t = closed_earlier clock moment day early before v (and_parts (window_sees Now v.from v.to) (touches action (its_row v)) t).0
    go false t = append-nil (seen moment day v)

-- ---- the versions after a change

-- two parts of the elements' values: all of the first, and then all of the second
apart : {X Y : Type 0} (f g : X → List Y) (xs : List X) → IsPermutation (flat_map (λ x. f x ++ g x) xs) (flat_map f xs ++ flat_map g xs)
apart f g [] = IsPermutation-refl []
apart {X} {Y} f g (x ∷ xs) =
    let F : List Y = flat_map f xs in
    let G : List Y = flat_map g xs in
    let rest : List Y = flat_map (λ x. f x ++ g x) xs in
    IsPermutation-trans ((f x ++ g x) ++ rest) ((f x ++ g x) ++ (F ++ G)) ((f x ++ F) ++ (g x ++ G))
    (IsPermutation-append_right (f x ++ g x) rest (F ++ G) (apart f g xs))
    (subst (λ l. IsPermutation l ((f x ++ F) ++ (g x ++ G))) (sym (append_assoc (f x) (g x) (F ++ G)))
    (subst (IsPermutation (f x ++ (g x ++ (F ++ G)))) (sym (append_assoc (f x) F (g x ++ G)))
    (IsPermutation-append_right (f x) (g x ++ (F ++ G)) (F ++ (g x ++ G)) (exchange (g x) F G))))

-- the values that the versions show after a change: of the rest, and of the added ones
after_seen : (clock moment day : ℤ) (action : Action) (old : List PlainVersion) → flat_map (seen moment day) (versions_after clock action old)
    ≡ flat_map (λ v. flat_map (seen moment day) (remains_of clock action v)) old ++ flat_map (λ row. seen moment day (begun_at clock row)) (added action (touched_rows action old))
after_seen clock moment day action old =
    flat_map-append (seen moment day) (flat_map (remains_of clock action) old) (map (begun_at clock) (added action (touched_rows action old)))
    ∙ ap₂ (λ (a b : List (List Value)). a ++ b) (flat_map-nested (seen moment day) (remains_of clock action) old) (flat_map-of_map (seen moment day) (begun_at clock) (added action (touched_rows action old)))

-- the values that the added rows show
added_shown : (day : ℤ) (action : Action) (old : List PlainVersion) → flat_map (shown day) (added action (touched_rows action old))
    ≡ flat_map (shown day) (map plain_given (inserted_by action)) ++ flat_map (λ v. cond (is_touched action v) (flat_map (shown day) (replacements action (its_row v))) []) old
added_shown day action old =
    flat_map-append (shown day) (map plain_given (inserted_by action)) (flat_map (replacements action) (touched_rows action old))
    ∙ ap (λ l. flat_map (shown day) (map plain_given (inserted_by action)) ++ l)
    (flat_map-nested (shown day) (replacements action) (touched_rows action old)
    ∙ flat_map-of_map (λ row. flat_map (shown day) (replacements action row)) its_row (filter (is_touched action) old)
    ∙ chosen (is_touched action) (λ v. flat_map (shown day) (replacements action (its_row v))) old)

-- from the clock on the versions show on each day what the action makes of that day's rows
pub after_later : (clock moment day : ℤ) → clock ≤ℤ moment → moment <ℤ forever → (action : Action) (old : List PlainVersion) → All (Sound clock) old
    → IsPermutation (flat_map (seen moment day) (versions_after clock action old)) (rows_after action day (flat_map (seen moment day) old))
after_later clock moment day late before action old sound =
    let left : PlainVersion → List (List Value) = λ v. flat_map (seen moment day) (remains_of clock action v) in
    let new : PlainVersion → List (List Value) = λ v. cond (is_touched action v) (flat_map (shown day) (replacements action (its_row v))) [] in
    let L : List (List Value) = flat_map left old in
    let R : List (List Value) = flat_map new old in
    let G : List (List Value) = flat_map (shown day) (map plain_given (inserted_by action)) in
    let W : List (List Value) = flat_map (made action day) (flat_map (seen moment day) old) in
    let parts : flat_map (seen moment day) (versions_after clock action old) ≡ L ++ (G ++ R) =
    after_seen clock moment day action old
    ∙ ap (λ l. L ++ l)
    (flat_map-same (λ row. seen moment day (begun_at clock row)) (shown day) (begun_later clock moment day late before) (added action (touched_rows action old))
    ∙ added_shown day action old) in
    let whole : W ≡ flat_map (λ v. left v ++ new v) old =
    flat_map-nested (made action day) (seen moment day) old
    ∙ sym (flat_map-same_of (Sound clock) (λ v. left v ++ new v) (λ v. flat_map (made action day) (seen moment day v)) (in_its_place clock moment day late before action) old sound) in
    let one : IsPermutation (L ++ (G ++ R)) (G ++ (L ++ R)) = exchange L G R in
    let two : IsPermutation (G ++ (L ++ R)) (G ++ W) =
    IsPermutation-append_right G (L ++ R) W (IsPermutation-sym W (L ++ R) (subst (λ l. IsPermutation l (L ++ R)) (sym whole) (apart left new old))) in
    let three : IsPermutation (G ++ W) (W ++ G) = IsPermutation-append_comm G W in
    subst (λ l. IsPermutation l (rows_after action day (flat_map (seen moment day) old))) (sym parts)
    (subst (IsPermutation (L ++ (G ++ R))) (sym (rows_after-made action day (flat_map (seen moment day) old)))
    (IsPermutation-trans (L ++ (G ++ R)) (G ++ (L ++ R)) (W ++ G) one
    (IsPermutation-trans (G ++ (L ++ R)) (G ++ W) (W ++ G) two three)))

-- before the clock the versions show what they showed
pub after_earlier : (clock moment day : ℤ) → moment <ℤ clock → moment <ℤ forever → (action : Action) (old : List PlainVersion)
    → flat_map (seen moment day) (versions_after clock action old) ≡ flat_map (seen moment day) old
after_earlier clock moment day early before action old =
    after_seen clock moment day action old
    ∙ ap₂ (λ (a b : List (List Value)). a ++ b)
    (flat_map-same (λ v. flat_map (seen moment day) (remains_of clock action v)) (seen moment day) (left_earlier clock moment day early before action) old)
    (flat_map-none (λ row. seen moment day (begun_at clock row)) (begun_earlier clock moment day early) (added action (touched_rows action old)))
    ∙ append-nil (flat_map (seen moment day) old)

-- the rows that an action makes of a day's rows in another order
pub rows_after-permutation : (action : Action) (day : ℤ) (xs ys : List (List Value)) → IsPermutation xs ys → IsPermutation (rows_after action day xs) (rows_after action day ys)
rows_after-permutation action day xs ys p =
    let G : List (List Value) = flat_map (shown day) (map plain_given (inserted_by action)) in
    subst (λ l. IsPermutation l (rows_after action day ys)) (sym (rows_after-made action day xs))
    (subst (IsPermutation (flat_map (made action day) xs ++ G)) (sym (rows_after-made action day ys))
    (IsPermutation-append_left G (flat_map (made action day) xs) (flat_map (made action day) ys) (flat_map-permutation (made action day) xs ys p)))

-- ---- the versions stay as a store may have them

closed_sound : (clock : ℤ) (v : PlainVersion) → Sound clock v → All (Sound clock) (closed_at clock v)
closed_sound clock v r = go (int_eq v.from clock) refl
  where
    go : (b : Bool) → int_eq v.from clock ≡ b → All (Sound clock) (cond b [] (record v { to = clock } ∷ []))
    go true e = All-nothing (Sound clock)
    go false e =
        let begun : v.from ≤ℤ clock = r.begun in
        let off : v.from ≡ clock → ⊥ = λ same. let t : int_eq v.from clock ≡ true = ap (λ (n : ℤ). int_eq n clock) same ∙ itself clock in cc in
        let lasts : v.from <ℤ clock = omega (arith, ints) in
        All-put (Sound clock) (record v { to = clock }) [] (record { lasts = lasts; begun = r.begun; ended = inr (omega (arith, ints)) }) (All-nothing (Sound clock))

left_sound : (clock : ℤ) (action : Action) (v : PlainVersion) → Sound clock v → All (Sound clock) (remains_of clock action v)
left_sound clock action v r = go (is_touched action v)
  where
    go : (b : Bool) → All (Sound clock) (cond b (closed_at clock v) (v ∷ []))
    go true = closed_sound clock v r
    go false = All-put (Sound clock) v [] r (All-nothing (Sound clock))

all_left_sound : (clock : ℤ) (action : Action) (vs : List PlainVersion) → All (Sound clock) vs → All (Sound clock) (flat_map (remains_of clock action) vs)
all_left_sound clock action [] h = h
all_left_sound clock action (v ∷ vs) h =
    All-joined (Sound clock) (remains_of clock action v) (flat_map (remains_of clock action) vs) (left_sound clock action v (All-head (Sound clock) v vs h)) (all_left_sound clock action vs (All-tail (Sound clock) v vs h))

begun_sound : (clock : ℤ) → clock <ℤ forever → (rows : List PlainRow) → All (Sound clock) (map (begun_at clock) rows)
begun_sound clock before [] = All-nothing (Sound clock)
begun_sound clock before (row ∷ rows) =
    All-put (Sound clock) (begun_at clock row) (map (begun_at clock) rows) (record { lasts = before; begun = omega (arith, ints); ended = inl refl }) (begun_sound clock before rows)

pub after_sound : (clock : ℤ) → clock <ℤ forever → (action : Action) (old : List PlainVersion) → All (Sound clock) old → All (Sound clock) (versions_after clock action old)
after_sound clock before action old sound =
    All-joined (Sound clock) (flat_map (remains_of clock action) old) (map (begun_at clock) (added action (touched_rows action old)))
    (all_left_sound clock action old sound) (begun_sound clock before (added action (touched_rows action old)))
