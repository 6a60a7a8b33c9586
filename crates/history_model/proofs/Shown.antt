-- A window sees of the versions on a day the rows that a reference with that window sees.
use Rattle.std.proofs.Common.{◌≡◌, ◌↔◌, ◌⊎◌, ◌&&◌, ◌<ℤ◌, ◌≤ℤ◌, ℕ, ℤ, Bool, cond, List, [], ◌∷◌, true, false, refl, ◌∙◌, ap, subst, inl, inr, arith, map}
use Rattle.std.specs.Prelude.{int_le, int_lt}
use Rattle.std.specs.List.{All, Contains, filter}
use Rattle.std.specs.Ordering.{int_eq}
use Rattle.std.proofs.lemmas.Int.{ints, by_lt_z}
use Rattle.std.specs.List.Sorted.{IsPermutation}
use Rattle.std.proofs.lemmas.List.Sorted.{Contains-permutation, IsPermutation-sym}
use Rattle.std.proofs.lemmas.List.Elements.{All-head, All-tail}
use Rattle.temporal_model.proofs.Members.{Contains-here, Contains-there, Contains-nil, Contains-cons_cases}
use Rattle.period_core.specs.Moments.{forever}
use Rattle.period_core.specs.Windows.{window_sees}
use Rattle.period_core.specs.declared.value.Value.{Value}
use Rattle.period_core.specs.declared.version.VersionRow.{VersionRow}
use Rattle.period_core.specs.declared.window.Window.{Window}
use Rattle.period_core.specs.declared.window.Window.TheVariants.{Now, AsOf, FromTo, Between}
use Rattle.temporal_model.specs.Snapshot.{covers_day}
use Rattle.history_model.specs.Versions.{IsRecorded, is_seen, last_moment, values_at, values_seen}
use Rattle.history_model.proofs.Days.{and_parts}
use Rattle.history_model.proofs.VersionFacts.{both, same_number}
use Rattle.history_model.specs.Histories.{Database, History, state_at, versions_in}
use Rattle.history_model.specs.SystemWindows.{CoversMoment, SeesThrough}
use Rattle.history_model.specs.Represents.{IsRecord, Represents}

-- ---- members of what a window sees

-- a version of the list that the window sees, whose period holds the day
pub record SeenIn (window : Window) (versions : List VersionRow) (day : ℤ) (values : List Value) : Type 0 where
  pub version : VersionRow
  pub there : Contains versions version
  pub seen : is_seen window day version ≡ true
  pub its : version.values ≡ values

pub from_seen : (window : Window) (versions : List VersionRow) (day : ℤ) (values : List Value) → Contains (values_seen window versions day) values → SeenIn window versions day values
from_seen window [] day values c = absurd (Contains-nil values c)
from_seen window (v ∷ vs) day values c = go (is_seen window day v) refl c (from_seen window vs day values)
  where
    later : SeenIn window vs day values → SeenIn window (v ∷ vs) day values
    later s = record { version = s.version; there = Contains-there v vs s.version s.there; seen = s.seen; its = s.its }

    go : (b : Bool) → is_seen window day v ≡ b → Contains (map (λ (v : VersionRow). v.values) (cond b (v ∷ filter (is_seen window day) vs) (filter (is_seen window day) vs))) values
        → (Contains (values_seen window vs day) values → SeenIn window vs day values) → SeenIn window (v ∷ vs) day values
    go true e h rest =
        elim (Contains-cons_cases v.values (values_seen window vs day) values h) [
          | inl same ↦ record { version = v; there = Contains-here v vs; seen = e; its = same }
          | inr k ↦ later (rest k)
        ]
    go false e h rest = later (rest h)

pub in_seen : (window : Window) (versions : List VersionRow) (day : ℤ) (v : VersionRow) → Contains versions v → is_seen window day v ≡ true → Contains (values_seen window versions day) v.values
in_seen window [] day v c s = absurd (Contains-nil v c)
in_seen window (w ∷ ws) day v c s = go (is_seen window day w) refl (Contains-cons_cases w ws v c) (λ k. in_seen window ws day v k s)
  where
    go : (b : Bool) → is_seen window day w ≡ b → (w ≡ v) ⊎ Contains ws v → (Contains ws v → Contains (values_seen window ws day) v.values)
        → Contains (map (λ (v : VersionRow). v.values) (cond b (w ∷ filter (is_seen window day) ws) (filter (is_seen window day) ws))) v.values
    go true e (inl same) rest = subst (λ (x : VersionRow). Contains (w.values ∷ values_seen window ws day) x.values) same (Contains-here w.values (values_seen window ws day))
    go true e (inr k) rest = Contains-there w.values (values_seen window ws day) v.values (rest k)
    go false e (inl same) rest = absurd (let t : is_seen window day w ≡ true = ap (is_seen window day) same ∙ s in cc)
    go false e (inr k) rest = rest k

-- a fact of all versions is one of each member
member : (P : VersionRow → Type 0) (vs : List VersionRow) → All P vs → (v : VersionRow) → Contains vs v → P v
member P [] all v c = absurd (Contains-nil v c)
member P (w ∷ ws) all v c =
    elim (Contains-cons_cases w ws v c) [
      | inl same ↦ subst P same (All-head P w ws all)
      | inr k ↦ member P ws (All-tail P w ws all) v k
    ]

-- ---- windows and moments

le_test : (a b : ℤ) → a ≤ℤ b → int_le a b ≡ true
le_test a b h = grind (arith, ints)

lt_test : (a b : ℤ) → a <ℤ b → int_lt a b ≡ true
lt_test a b h = grind (arith, ints)

from_le : (a b : ℤ) → int_le a b ≡ true → a ≤ℤ b
from_le a b h = grind (arith, ints)

from_lt : (a b : ℤ) → int_lt a b ≡ true → a <ℤ b
from_lt a b h = grind (arith, ints)

-- a moment at which the window looks and the version is current
abbrev Meeting : Window → VersionRow → Type 0
Meeting window v = (m : ℤ) × (m <ℤ forever) × CoversMoment window m × (window_sees (AsOf m) v.from v.to ≡ true)

at_moment : (v : VersionRow) (m : ℤ) → v.from ≤ℤ m → m <ℤ v.to → window_sees (AsOf m) v.from v.to ≡ true
at_moment v m a b = both (int_le v.from m) (int_lt m v.to) (le_test v.from m a) (lt_test m v.to b)

later_of : (a b : ℤ) → (m : ℤ) × (a ≤ℤ m) × (b ≤ℤ m) × ((m ≡ a) ⊎ (m ≡ b))
later_of a b = by_lt_z a b (λ h. (b, omega (arith, ints), omega (arith, ints), inr refl)) (λ h. (a, omega (arith, ints), omega (arith, ints), inl refl))

ends : (clock : ℤ) (v : VersionRow) → clock <ℤ forever → IsRecorded clock v → v.to ≤ℤ forever
ends clock v before r = elim r.ended [ inl e ↦ omega (arith, ints) | inr e ↦ omega (arith, ints) ]

meeting : (clock : ℤ) (window : Window) (v : VersionRow) → clock <ℤ forever → IsRecorded clock v → window_sees window v.from v.to ≡ true → Meeting window v
meeting clock Now v before r h =
    let to : v.to ≡ forever = same_number v.to forever h in
    let begun : v.from ≤ℤ clock = r.begun in
    (last_moment, omega (arith, ints), refl, at_moment v last_moment (omega (arith, ints)) (omega (arith, ints)))
meeting clock (AsOf a) v before r h =
    let (p, q) = and_parts (int_le v.from a) (int_lt a v.to) h in
    let y : a <ℤ v.to = from_lt a v.to q in
    let top : v.to ≤ℤ forever = ends clock v before r in
    (a, omega (arith, ints), refl, h)
meeting clock (FromTo a b) v before r h =
    let (k, rest) = and_parts (int_lt a b) (int_lt v.from b && int_lt a v.to) h in
    let (p, q) = and_parts (int_lt v.from b) (int_lt a v.to) rest in
    let w : a <ℤ b = from_lt a b k in
    let x : v.from <ℤ b = from_lt v.from b p in
    let y : a <ℤ v.to = from_lt a v.to q in
    let lasts : v.from <ℤ v.to = r.lasts in
    let top : v.to ≤ℤ forever = ends clock v before r in
    let (m, i, j, is) = later_of a v.from in
    let mb : m <ℤ b = elim is [ inl e ↦ omega (arith, ints) | inr e ↦ omega (arith, ints) ] in
    let mt : m <ℤ v.to = elim is [ inl e ↦ omega (arith, ints) | inr e ↦ omega (arith, ints) ] in
    (m, omega (arith, ints), (i, mb), at_moment v m j mt)
meeting clock (Between a b) v before r h =
    let (k, rest) = and_parts (int_le a b) (int_le v.from b && int_lt a v.to) h in
    let (p, q) = and_parts (int_le v.from b) (int_lt a v.to) rest in
    let w : a ≤ℤ b = from_le a b k in
    let x : v.from ≤ℤ b = from_le v.from b p in
    let y : a <ℤ v.to = from_lt a v.to q in
    let lasts : v.from <ℤ v.to = r.lasts in
    let top : v.to ≤ℤ forever = ends clock v before r in
    let (m, i, j, is) = later_of a v.from in
    let mb : m ≤ℤ b = elim is [ inl e ↦ omega (arith, ints) | inr e ↦ omega (arith, ints) ] in
    let mt : m <ℤ v.to = elim is [ inl e ↦ omega (arith, ints) | inr e ↦ omega (arith, ints) ] in
    (m, omega (arith, ints), (i, mb), at_moment v m j mt)

looked : (clock : ℤ) (window : Window) (v : VersionRow) (m : ℤ) → clock <ℤ forever → IsRecorded clock v → CoversMoment window m → window_sees (AsOf m) v.from v.to ≡ true → window_sees window v.from v.to ≡ true
looked clock Now v m before r looks h =
    let last : m ≡ last_moment = looks in
    let (p, q) = and_parts (int_le v.from m) (int_lt m v.to) h in
    let y : m <ℤ v.to = from_lt m v.to q in
    let to : v.to ≡ forever = elim r.ended [ inl e ↦ e | inr e ↦ absurd (omega (arith, ints)) ] in
    ap (λ (t : ℤ). int_eq t forever) to
looked clock (AsOf a) v m before r looks h = subst (λ (z : ℤ). window_sees (AsOf z) v.from v.to ≡ true) looks h
looked clock (FromTo a b) v m before r (i, j) h =
    let (p, q) = and_parts (int_le v.from m) (int_lt m v.to) h in
    let x : v.from ≤ℤ m = from_le v.from m p in
    let y : m <ℤ v.to = from_lt m v.to q in
    both (int_lt a b) (int_lt v.from b && int_lt a v.to) (lt_test a b (omega (arith, ints)))
    (both (int_lt v.from b) (int_lt a v.to) (lt_test v.from b (omega (arith, ints))) (lt_test a v.to (omega (arith, ints))))
looked clock (Between a b) v m before r (i, j) h =
    let (p, q) = and_parts (int_le v.from m) (int_lt m v.to) h in
    let x : v.from ≤ℤ m = from_le v.from m p in
    let y : m <ℤ v.to = from_lt m v.to q in
    both (int_le a b) (int_le v.from b && int_lt a v.to) (le_test a b (omega (arith, ints)))
    (both (int_le v.from b) (int_lt a v.to) (le_test v.from b (omega (arith, ints))) (lt_test a v.to (omega (arith, ints))))

-- a window sees on a day the values that the versions hold at the moments that it covers
pub seen_at_moments : (clock : ℤ) (versions : List VersionRow) → clock <ℤ forever → All (IsRecorded clock) versions → (day : ℤ) (state : ℤ → List (List Value))
    → ((moment : ℤ) → moment <ℤ forever → IsPermutation (values_at versions moment day) (state moment)) → (window : Window) (values : List Value)
    → (Contains (values_seen window versions day) values ↔ ((moment : ℤ) × (moment <ℤ forever) × CoversMoment window moment × Contains (state moment) values))
seen_at_moments clock versions before recorded day state daily window values = (there, back)
  where
    of : (v : VersionRow) → Contains versions v → IsRecorded clock v
    of v c = member (IsRecorded clock) versions recorded v c

    there : Contains (values_seen window versions day) values → (moment : ℤ) × (moment <ℤ forever) × CoversMoment window moment × Contains (state moment) values
    there c =
        let s : SeenIn window versions day values = from_seen window versions day values c in
        let v : VersionRow = s.version in
        let (sees, covers) = and_parts (window_sees window v.from v.to) (covers_day v.period.start v.period.end day) s.seen in
        let (m, below, looks, stands) = meeting clock window v before (of v s.there) sees in
        let here : Contains (values_at versions m day) v.values =
        in_seen (AsOf m) versions day v s.there (both (window_sees (AsOf m) v.from v.to) (covers_day v.period.start v.period.end day) stands covers) in
        (m, below, looks, subst (λ (z : List Value). Contains (state m) z) s.its (Contains-permutation (values_at versions m day) (state m) v.values (daily m below) here))

    back : (moment : ℤ) × (moment <ℤ forever) × CoversMoment window moment × Contains (state moment) values → Contains (values_seen window versions day) values
    back (m, below, looks, held) =
        let here : Contains (values_at versions m day) values = Contains-permutation (state m) (values_at versions m day) values (IsPermutation-sym (values_at versions m day) (state m) (daily m below)) held in
        let s : SeenIn (AsOf m) versions day values = from_seen (AsOf m) versions day values here in
        let v : VersionRow = s.version in
        let (stands, covers) = and_parts (window_sees (AsOf m) v.from v.to) (covers_day v.period.start v.period.end day) s.seen in
        let sees : window_sees window v.from v.to ≡ true = looked clock window v m before (of v s.there) looks stands in
        subst (λ (z : List Value). Contains (values_seen window versions day) z) s.its
        (in_seen window versions day v s.there (both (window_sees window v.from v.to) (covers_day v.period.start v.period.end day) sees covers))

-- through its window a reference sees, on a day, the rows of the table's versions that the window sees
pub shown_is_seen : (history : History) (database : Database) → IsRecord database → Represents history database → (window : Window) (table : ℕ) (day : ℤ) (values : List Value)
    → (Contains (values_seen window (versions_in database table) day) values ↔ SeesThrough history window day table values)
shown_is_seen history database sound kept window table day values =
    seen_at_moments database.clock (versions_in database table) sound.before (sound.recorded table) day (λ moment. state_at history moment table day)
    (λ moment below. kept.daily table moment day below) window values
