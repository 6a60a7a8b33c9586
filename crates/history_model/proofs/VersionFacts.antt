-- The values that versions hold as of a moment: those that began then, and those that have not
-- ended.
use Rattle.std.proofs.Common.{◌≡◌, ◌&&◌, ◌<ℤ◌, ◌≤ℤ◌, ℤ, Bool, true, false, cond, List, [], ◌∷◌, map, filter, inl, inr, refl, sym, ◌∙◌, ap, arith}
use Rattle.std.specs.Prelude.{int_lt, int_le}
use Rattle.std.specs.Ordering.{int_cmp, int_eq, is_eq}
use Rattle.std.specs.declared.cmp.Ordering.{Ordering}
use Rattle.std.specs.declared.cmp.Ordering.TheVariants.{Less, Equal, Greater}
use Rattle.std.specs.List.{All}
use Rattle.std.proofs.lemmas.Cmp.{int_ranked}
use Rattle.std.proofs.lemmas.Int.{ints}
use Rattle.std.proofs.lemmas.List.Elements.{All-head, All-tail}
use Rattle.std.specs.List.Sorted.{IsPermutation}
use Rattle.std.proofs.lemmas.List.Sorted.{IsPermutation-map}
use Rattle.temporal_model.proofs.Rearranged.{IsPermutation-filter}
use Rattle.period_core.specs.Moments.{forever}
use Rattle.period_core.specs.Windows.{window_sees}
use Rattle.period_core.specs.declared.row.PeriodRow.{PeriodRow}
use Rattle.period_core.specs.declared.version.VersionRow.{VersionRow}
use Rattle.period_core.specs.declared.window.Window.TheVariants.{AsOf, Now}
use Rattle.temporal_model.specs.Snapshot.{covers_day, values_on}
use Rattle.history_model.specs.Versions.{IsRecorded, current, is_seen, row_of, values_at}

pub values_at-permutation : (xs ys : List VersionRow) (moment day : ℤ) → IsPermutation xs ys → IsPermutation (values_at xs moment day) (values_at ys moment day)
values_at-permutation xs ys moment day p =
    IsPermutation-map (λ (v : VersionRow). v.values) (filter (is_seen (AsOf moment) day) xs) (filter (is_seen (AsOf moment) day) ys)
    (IsPermutation-filter (is_seen (AsOf moment) day) xs ys p)

-- ---- numbers and tests

pub same_number : (a b : ℤ) → int_eq a b ≡ true → a ≡ b
same_number a b h = go (int_cmp a b) refl h
  where
    go : (r : Ordering) → r ≡ int_cmp a b → is_eq r ≡ true → a ≡ b
    go Less e h = cc
    go Equal e h = int_ranked a b Equal e
    go Greater e h = cc

pub not_true : (b : Bool) → (b ≡ true → ⊥) → b ≡ false
not_true true h = absurd (h refl)
not_true false h = refl

pub both : (a b : Bool) → a ≡ true → b ≡ true → (a && b) ≡ true
both true b h k = k
both false b h k = cc

pub second_false : (a b : Bool) → b ≡ false → (a && b) ≡ false
second_false true b h = h
second_false false b h = refl

pub first_false : (a b : Bool) → a ≡ false → (a && b) ≡ false
first_false true b h = cc
first_false false b h = refl

pub itself : (a : ℤ) → int_eq a a ≡ true
itself a = go (int_eq a a) refl
  where
    go : (b : Bool) → int_eq a a ≡ b → b ≡ true
    go true e = refl
    go false e = grind (arith, ints)

-- ---- rows that begin at a moment

-- the values of a row in front of more values, if a test passes
one_more : {A B : Type 0} (f : A → B) (b : Bool) (x : A) (xs : List A) → map f (cond b (x ∷ xs) xs) ≡ cond b (f x ∷ map f xs) (map f xs)
one_more f true x xs = refl
one_more f false x xs = refl

-- ---- the last moment

-- from the clock on a version is seen if it has not ended
pub sees_later : (clock moment : ℤ) (v : VersionRow) → IsRecorded clock v → clock ≤ℤ moment → moment <ℤ forever → window_sees (AsOf moment) v.from v.to ≡ window_sees Now v.from v.to
sees_later clock moment v r late before = elim r.ended [ inl e ↦ sees_on e | inr e ↦ sees_off e ]
  where
    sees_on : v.to ≡ forever → window_sees (AsOf moment) v.from v.to ≡ window_sees Now v.from v.to
    sees_on e =
        let begun : v.from ≤ℤ clock = r.begun in
        let a : int_le v.from moment ≡ true = grind (arith, ints) in
        let b : int_lt moment v.to ≡ true = grind (arith, ints) in
        both (int_le v.from moment) (int_lt moment v.to) a b ∙ sym (ap (λ (t : ℤ). int_eq t forever) e)

    sees_off : v.to ≤ℤ clock → window_sees (AsOf moment) v.from v.to ≡ window_sees Now v.from v.to
    sees_off e =
        let b : int_lt moment v.to ≡ false = grind (arith, ints) in
        let off : int_eq v.to forever ≡ true → ⊥ = λ t. let same : v.to ≡ forever = same_number v.to forever t in omega (arith, ints) in
        second_false (int_le v.from moment) (int_lt moment v.to) b ∙ sym (not_true (int_eq v.to forever) off)

-- the values that rows in front of more rows hold, if a test passes
shown_current : (day : ℤ) (now : Bool) (v : VersionRow) (more : List VersionRow) →
    values_on (map row_of (cond now (v ∷ more) more)) day
    ≡ cond now (cond (covers_day v.period.start v.period.end day) (v.values ∷ values_on (map row_of more) day) (values_on (map row_of more) day)) (values_on (map row_of more) day)
shown_current day true v more = one_more (λ (r : PeriodRow). r.values) (covers_day v.period.start v.period.end day) (row_of v) (filter (λ (r : PeriodRow). covers_day r.period.start r.period.end day) (map row_of more))
shown_current day false v more = refl

-- from the clock on the versions hold what the current ones hold
pub current_hold : (clock moment day : ℤ) → clock ≤ℤ moment → moment <ℤ forever → (versions : List VersionRow) → All (IsRecorded clock) versions
    → values_at versions moment day ≡ values_on (map row_of (current versions)) day
current_hold clock moment day late before [] sound = refl
current_hold clock moment day late before (v ∷ versions) sound =
    let now = window_sees Now v.from v.to in
    let covers = covers_day v.period.start v.period.end day in
    let values = λ (w : VersionRow). w.values in
    let rest = filter (is_seen (AsOf moment) day) versions in
    let same = current_hold clock moment day late before versions (All-tail (IsRecorded clock) v versions sound) in
    ap (λ t. map values (cond (t && covers) (v ∷ rest) rest)) (sees_later clock moment v (All-head (IsRecorded clock) v versions sound) late before)
    ∙ go now rest same
    ∙ sym (shown_current day now v (current versions))
  where
    go : (b : Bool) (rest : List VersionRow) → map (λ (w : VersionRow). w.values) rest ≡ values_on (map row_of (current versions)) day
        → map (λ (w : VersionRow). w.values) (cond (b && covers_day v.period.start v.period.end day) (v ∷ rest) rest)
        ≡ cond b (cond (covers_day v.period.start v.period.end day) (v.values ∷ values_on (map row_of (current versions)) day) (values_on (map row_of (current versions)) day)) (values_on (map row_of (current versions)) day)
    go true rest same =
        one_more (λ (w : VersionRow). w.values) (covers_day v.period.start v.period.end day) v rest
        ∙ ap (λ vs. cond (covers_day v.period.start v.period.end day) (v.values ∷ vs) vs) same
    go false rest same = same
