-- Versions and the bytes of their values: each gives the other back.
use Rattle.std.proofs.Common.{◌≡◌, ◌++◌, ◌∷◌, [], ◌∙◌, ℕ, ℤ, Bool, List, true, false, cond, length, map, reverse, refl, sym, ap, subst, arith, ◌-◌}
use Rattle.std.specs.List.{All, filter}
use Rattle.std.proofs.lemmas.List.{append_assoc, get_or-reverse, length-reverse, map-append, reverse-append, reverse-reverse}
use Rattle.std.proofs.lemmas.List.Elements.{All-append, All-head, All-tail, All-filter}
use Rattle.period_core.specs.Encoding.{IsColumnValue}
use Rattle.period_core.specs.Windows.{window_sees}
use Rattle.period_core.specs.declared.period.Period.{Period}
use Rattle.period_core.specs.declared.value.Value.{Value}
use Rattle.period_core.specs.declared.version.VersionRow.{VersionRow}
use Rattle.period_core.specs.declared.window.Window.{Window}
use Rattle.period_core.proofs.EncodingOrder.{reads_back}
use Rattle.ended_versions.specs.Entries.{is_seen, packed_in}
use Rattle.ended_versions.specs.Packed.{AreOfColumns, Hold, PackedVersion, packed, seen_through}
use Rattle.ended_versions.specs.declared.blocks.VersionEntry.{VersionEntry}

-- ---- one spelling

of_parts : (v w : List Value) (p q : Period) (f g t u : ℤ) → v ≡ w → p ≡ q → f ≡ g → t ≡ u
    → (let a : VersionRow = record { values = v; period = p; from = f; to = t } in a) ≡ record { values = w; period = q; from = g; to = u }
of_parts v w p q f g t u a b c d = cc

pub same_version : (v w : VersionRow) → All IsColumnValue v.values → All IsColumnValue w.values → packed v ≡ packed w → v ≡ w
same_version v w h g e =
    of_parts v.values w.values v.period w.period v.from w.from v.to w.to
    (reads_back v.values w.values h g (ap (λ (p : PackedVersion). p.bytes) e))
    (ap (λ (p : PackedVersion). p.period) e) (ap (λ (p : PackedVersion). p.from) e) (ap (λ (p : PackedVersion). p.to) e)

same_first : (p q : PackedVersion) (ps qs : List PackedVersion) → p ∷ ps ≡ q ∷ qs → p ≡ q
same_first p q ps qs e = cc

same_rest : (p q : PackedVersion) (ps qs : List PackedVersion) → p ∷ ps ≡ q ∷ qs → ps ≡ qs
same_rest p q ps qs e = cc

-- the values of a version are columns' values
abbrev pub OfColumns : VersionRow → Type 0
OfColumns v = All IsColumnValue v.values

-- versions with the same bytes are the same
same_versions : (vs ws : List VersionRow) → AreOfColumns vs → AreOfColumns ws → map packed vs ≡ map packed ws → vs ≡ ws
same_versions [] [] h g e = refl
same_versions [] (w ∷ ws) h g e = absurd cc
same_versions (v ∷ vs) [] h g e = absurd cc
same_versions (v ∷ vs) (w ∷ ws) h g e =
    ap (λ x. x ∷ vs) (same_version v w (All-head OfColumns v vs h) (All-head OfColumns w ws g) (same_first (packed v) (packed w) (map packed vs) (map packed ws) e))
    ∙ ap (λ xs. w ∷ xs) (same_versions vs ws (All-tail OfColumns v vs h) (All-tail OfColumns w ws g) (same_rest (packed v) (packed w) (map packed vs) (map packed ws) e))

-- ---- the versions that a window sees

filter-map : {X Y : Type 0} (f : X → Y) (test : Y → Bool) (xs : List X) → filter test (map f xs) ≡ map f (filter (λ x. test (f x)) xs)
filter-map f test [] = refl
filter-map f test (x ∷ xs) = go (test (f x)) (filter-map f test xs)
  where
    go : (b : Bool) → filter test (map f xs) ≡ map f (filter (λ x. test (f x)) xs)
        → cond b (f x ∷ filter test (map f xs)) (filter test (map f xs)) ≡ map f (cond b (x ∷ filter (λ x. test (f x)) xs) (filter (λ x. test (f x)) xs))
    go true same = ap (λ ys. f x ∷ ys) same
    go false same = same

all_backwards : {X : Type 0} (P : X → Type 0) (xs : List X) → All P xs → All P (reverse xs)
all_backwards P xs all = λ k d below.
    let size : length (reverse xs) ≡ length xs = length-reverse xs in
    subst P (sym (get_or-reverse xs k d (omega arith))) (all (length xs - 1 - k) d (omega arith))

packed_is_seen : Window → PackedVersion → Bool
packed_is_seen window version = window_sees window version.from version.to

pub seen_is :
    (window : Window) (bytes : List ℕ) (entries : List VersionEntry) (versions seen : List VersionRow)
    → Hold (map (packed_in bytes) entries) versions → AreOfColumns seen
    → map (packed_in bytes) (filter (is_seen window) entries) ≡ map packed (reverse seen)
    → seen ≡ reverse (seen_through window versions)
unfolding packed_is_seen
seen_is window bytes entries versions seen hold held e =
    sym (ap reverse all ∙ reverse-reverse seen)
  where
    both : map packed (seen_through window versions) ≡ map packed (reverse seen)
    both =
        sym (filter-map packed (packed_is_seen window) versions)
        ∙ (ap (filter (packed_is_seen window)) hold.same
        ∙ (filter-map (packed_in bytes) (packed_is_seen window) entries ∙ e))

    all : seen_through window versions ≡ reverse seen
    all = same_versions (seen_through window versions) (reverse seen) (All-filter (λ (v : VersionRow). window_sees window v.from v.to) OfColumns versions hold.held) (all_backwards OfColumns seen held) both

-- one more, found before the rest
pub seen_more :
    (bytes : List ℕ) (all before rest : List VersionEntry) (entry : VersionEntry) (seen : List VersionRow) (version : VersionRow)
    → map (packed_in bytes) all ≡ map (packed_in bytes) before ++ map packed (reverse seen)
    → before ≡ rest ++ entry ∷ [] → packed version ≡ packed_in bytes entry
    → map (packed_in bytes) all ≡ map (packed_in bytes) rest ++ map packed (reverse (seen ++ version ∷ []))
seen_more bytes all before rest entry seen version same is one =
    same
    ∙ (ap (λ es. map (packed_in bytes) es ++ map packed (reverse seen)) is
    ∙ (ap (λ ps. ps ++ map packed (reverse seen)) (map-append (packed_in bytes) rest (entry ∷ []))
    ∙ (append_assoc (map (packed_in bytes) rest) (packed_in bytes entry ∷ []) (map packed (reverse seen))
    ∙ (ap (λ p. map (packed_in bytes) rest ++ (p ∷ map packed (reverse seen))) (sym one)
    ∙ ap (λ vs. map (packed_in bytes) rest ++ map packed vs) (sym (reverse-append seen (version ∷ [])))))))

-- ---- more versions

-- a list that holds versions, followed by more packed ones, holds these too
pub hold_more : (list : List PackedVersion) (versions more : List VersionRow) → Hold list versions → AreOfColumns more → Hold (list ++ map packed more) (versions ++ more)
hold_more list versions more hold held = record {
  same = map-append packed versions more ∙ ap (λ ps. ps ++ map packed more) hold.same;
  held = All-append OfColumns versions more hold.held held;
}
