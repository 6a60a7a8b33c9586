-- The order of two rows, by their abbreviated keys.
use Rattle.std.proofs.Common.{◌≡◌, ◌<◌, ◌+◌, ◌*◌, ◌∙◌, ℕ, ℤ, zero, suc, List, [], ◌∷◌, Some, refl, sym, ap, subst, arith, get_or, Ordering, Less, Equal, Greater, int_cmp, nat_cmp}
use Rattle.std.specs.Ordering.{MatchOrdering, ordering_reverse, ordering_then}
use Rattle.std.specs.Cmp.{ranks}
use Rattle.std.specs.Cmp.Lexicographic.{slice_cmp}
use Rattle.std.proofs.lemmas.Cmp.{nat_list_cmp_total}
use Rattle.sqlite_value.specs.declared.value.Value.{Value}
use Rattle.sqlite_value.specs.declared.value.Value.TheVariants.{Null, Int, Real, Text, Blob}
use Rattle.sqlite_value.specs.Order.{Row, bytes, column}
use Rattle.sqlite_value.specs.declared.keys.Order.{Order}
use Rattle.sqlite_value.specs.Keys.{entry_cmp, plain, prefix_cmp}
use Rattle.sqlite_value.proofs.KeyLemmas.{first_key-plain}
use Rattle.sqlite_value.proofs.OrderLemmas.{value_cmp-Blob, value_cmp-Int}
use Rattle.ordered_rows.specs.declared.abbreviated_key.AbbreviatedKey.{AbbreviatedKey}
use Rattle.ordered_rows.specs.declared.abbreviated_key.AbbreviatedKey.TheVariants.{Other, Integer, IntegerAndBlob}
use Rattle.ordered_rows.specs.AbbreviatedKeys.{IsAbbreviationOf, abbreviated_by, abbreviated_cmp, integer_of, spelled}

-- ---- bytes as the digits of a number

abbrev pub AreBytes : List ℕ → Type 0
AreBytes bs = (at : ℕ) → get_or bs at 0 < 256

no_bytes : AreBytes []
no_bytes at = omega arith

rises : (k a b : ℕ) (s t : List ℕ) → AreBytes s → a < b → spelled k a s < spelled k b t
rises zero a b s t fit less = less
rises (suc k) a b [] [] fit less = rises k (a * 256) (b * 256) [] [] fit (omega (arith, less))
rises (suc k) a b [] (y ∷ t) fit less = rises k (a * 256) (b * 256 + y) [] t fit (omega (arith, less))
rises (suc k) a b (x ∷ s) [] fit less =
    let small : x < 256 = fit 0 in
    rises k (a * 256 + x) (b * 256) s [] (λ at. fit (suc at)) (omega (arith, less, small))
rises (suc k) a b (x ∷ s) (y ∷ t) fit less =
    let small : x < 256 = fit 0 in
    rises k (a * 256 + x) (b * 256 + y) s t (λ at. fit (suc at)) (omega (arith, less, small))

-- a list that ends is not above one that continues
not_less : (s : List ℕ) → slice_cmp nat_cmp s [] ≡ Less → ⊥
not_less [] h = cc
not_less (x ∷ s) h = cc

less_by_number : (k a : ℕ) (s t : List ℕ) → AreBytes s → AreBytes t → spelled k a s < spelled k a t → slice_cmp nat_cmp s t ≡ Less
less_by_number zero a s t fit fits less = absurd (omega (arith, less))
less_by_number (suc k) a [] [] fit fits less = less_by_number k (a * 256) [] [] fit fits less
less_by_number (suc k) a [] (y ∷ t) fit fits less = refl
less_by_number (suc k) a (x ∷ s) [] fit fits less =
    by_first x refl (λ level. less_by_number k (a * 256) s [] (λ at. fit (suc at)) fits (subst (λ n. spelled k n s < spelled k (a * 256) []) level less))
  where
    by_first : (n : ℕ) → x ≡ n → (a * 256 + x ≡ a * 256 → slice_cmp nat_cmp s [] ≡ Less) → slice_cmp nat_cmp (x ∷ s) [] ≡ Less
    by_first zero e rest = absurd (not_less s (rest (omega (arith, e))))
    by_first (suc n) e rest =
        let more = rises k (a * 256) (a * 256 + x) [] s no_bytes (omega (arith, e)) in
        absurd (omega (arith, more, less))
less_by_number (suc k) a (x ∷ s) (y ∷ t) fit fits less =
    by_first (nat_cmp x y) refl (ranks x y)
    (λ same. less_by_number k (a * 256 + x) s t (λ at. fit (suc at)) (λ at. fits (suc at)) (subst (λ n. spelled k (a * 256 + x) s < spelled k (a * 256 + n) t) (sym same) less))
  where
    by_first : (r : Ordering) → nat_cmp x y ≡ r → MatchOrdering r (x < y) (x ≡ y) (y < x) → (x ≡ y → slice_cmp nat_cmp s t ≡ Less) → ordering_then (nat_cmp x y) (slice_cmp nat_cmp s t) ≡ Less
    by_first Less e h rest = ap (λ o. ordering_then o (slice_cmp nat_cmp s t)) e
    by_first Equal e h rest = ap (λ o. ordering_then o (slice_cmp nat_cmp s t)) e ∙ rest h
    by_first Greater e h rest =
        let below : y < x = h in
        let more = rises k (a * 256 + y) (a * 256 + x) t s (λ at. fits (suc at)) (omega (arith, below)) in
        absurd (omega (arith, more, less))

by_number : (k : ℕ) (s t : List ℕ) → AreBytes s → AreBytes t → (r : Ordering) → nat_cmp (spelled k 0 s) (spelled k 0 t) ≡ r → (r ≡ Equal → ⊥) → slice_cmp nat_cmp s t ≡ r
by_number k s t fit fits r e tells = by_rank r (subst (λ o. MatchOrdering o (spelled k 0 s < spelled k 0 t) (spelled k 0 s ≡ spelled k 0 t) (spelled k 0 t < spelled k 0 s)) e (ranks (spelled k 0 s) (spelled k 0 t))) tells
  where
    by_rank : (r : Ordering) → MatchOrdering r (spelled k 0 s < spelled k 0 t) (spelled k 0 s ≡ spelled k 0 t) (spelled k 0 t < spelled k 0 s) → (r ≡ Equal → ⊥) → slice_cmp nat_cmp s t ≡ r
    by_rank Less h tells = less_by_number k 0 s t fit fits h
    by_rank Equal h tells = absurd (tells refl)
    by_rank Greater h tells = nat_list_cmp_total.antisymm s t ∙ ap ordering_reverse (less_by_number k 0 t s fits fit h)

-- ---- rows by their abbreviated keys

-- the values that a row begins with, by its abbreviated key
record Begins (n : ℤ) (byte number : ℕ) (row : Row) : Type 0 where
  more : List ℕ
  others : Row
  is : row ≡ Int n ∷ Blob (byte ∷ more) ∷ others
  spells : number ≡ spelled 8 0 more
  fit : AreBytes more

-- if the abbreviated key decides, the values do
chain_decides : (first byte number bytes others o : Ordering) → ((number ≡ Equal → ⊥) → bytes ≡ number) → ordering_then (ordering_then first byte) number ≡ o → (o ≡ Equal → ⊥)
    → ordering_then first (ordering_then (ordering_then byte bytes) others) ≡ o
chain_decides Less byte number bytes others o step e tells = e
chain_decides Greater byte number bytes others o step e tells = e
chain_decides Equal Less number bytes others o step e tells = e
chain_decides Equal Greater number bytes others o step e tells = e
chain_decides Equal Equal Less bytes others o step e tells = ap (λ r. ordering_then r others) (step (λ h. cc)) ∙ e
chain_decides Equal Equal Equal bytes others o step e tells = absurd (tells (sym e))
chain_decides Equal Equal Greater bytes others o step e tells = ap (λ r. ordering_then r others) (step (λ h. cc)) ∙ e

begun : (row : Row) (n : ℤ) (byte number : ℕ) → abbreviated_by (column row 0) (column row 1) ≡ IntegerAndBlob byte n number → AreBytes (bytes (column row 1)) → Begins n byte number row
begun [] n byte number e fit = absurd (cc)
begun (Null ∷ row) n byte number e fit = absurd (cc)
begun (Real x ∷ row) n byte number e fit = absurd (cc)
begun (Text t ∷ row) n byte number e fit = absurd (cc)
begun (Blob b ∷ row) n byte number e fit = absurd (cc)
begun (Int m ∷ []) n byte number e fit = absurd (cc)
begun (Int m ∷ Null ∷ row) n byte number e fit = absurd (cc)
begun (Int m ∷ Int k ∷ row) n byte number e fit = absurd (cc)
begun (Int m ∷ Real x ∷ row) n byte number e fit = absurd (cc)
begun (Int m ∷ Text t ∷ row) n byte number e fit = absurd (cc)
begun (Int m ∷ Blob [] ∷ row) n byte number e fit = absurd (cc)
begun (Int m ∷ Blob (x ∷ more) ∷ row) n byte number e fit = record { more = more; others = row; is = cc; spells = cc; fit = λ at. fit (suc at) }

entry_begun : (m n : ℤ) (s t : List ℕ) (a b : Row) → entry_cmp plain (Int m ∷ Blob s ∷ a) (Int n ∷ Blob t ∷ b) ≡ ordering_then (int_cmp m n) (ordering_then (slice_cmp nat_cmp s t) (entry_cmp plain a b))
entry_begun m n s t a b = rw (first_key-plain, value_cmp-Int, value_cmp-Blob) refl

prefix_begun : (m n : ℤ) (s t : List ℕ) (a b : Row) → prefix_cmp plain (Int m ∷ Blob s ∷ a) (Int n ∷ Blob t ∷ b) ≡ ordering_then (int_cmp m n) (ordering_then (slice_cmp nat_cmp s t) (prefix_cmp plain a b))
prefix_begun m n s t a b = rw (first_key-plain, value_cmp-Int, value_cmp-Blob) refl

abbrev pub DecidedBy : Ordering → Row → Row → Type 0
DecidedBy o a b = (entry_cmp plain a b ≡ o) × (prefix_cmp plain a b ≡ o)

both_begun : {m n : ℤ} {x y p q : ℕ} (a b : Row) (o : Ordering) → Begins m x p a → Begins n y q b → ordering_then (ordering_then (int_cmp m n) (nat_cmp x y)) (nat_cmp p q) ≡ o → (o ≡ Equal → ⊥) → DecidedBy o a b
both_begun {m} {n} {x} {y} {p} {q} a b o begins starts e tells =
    let step : (nat_cmp p q ≡ Equal → ⊥) → slice_cmp nat_cmp begins.more starts.more ≡ nat_cmp p q =
    λ apart. by_number 8 begins.more starts.more begins.fit starts.fit (nat_cmp p q) ((λ i. nat_cmp (sym begins.spells i) (sym starts.spells i))) apart in (
      rw (begins.is, starts.is) (entry_begun m n (x ∷ begins.more) (y ∷ starts.more) begins.others starts.others ∙ chain_decides (int_cmp m n) (nat_cmp x y) (nat_cmp p q) _ _ o step e tells),
      rw (begins.is, starts.is) (prefix_begun m n (x ∷ begins.more) (y ∷ starts.more) begins.others starts.others ∙ chain_decides (int_cmp m n) (nat_cmp x y) (nat_cmp p q) _ _ o step e tells),
    )

-- if the abbreviated keys of two rows differ, they decide the order of the rows
pub heads_decide : (h k : AbbreviatedKey) (a b : Row) → IsAbbreviationOf h a → IsAbbreviationOf k b → (o : Ordering) → abbreviated_cmp h k ≡ o → (o ≡ Equal → ⊥) → DecidedBy o a b
heads_decide Other k a b of_a of_b o e tells = absurd (tells (sym e))
heads_decide (Integer m) k a b of_a of_b o e tells = absurd (tells (sym e))
heads_decide (IntegerAndBlob x m p) Other a b of_a of_b o e tells = absurd (tells (sym e))
heads_decide (IntegerAndBlob x m p) (Integer n) a b of_a of_b o e tells = absurd (tells (sym e))
heads_decide (IntegerAndBlob x m p) (IntegerAndBlob y n q) a b of_a of_b o e tells =
    both_begun a b o (begun a m x p (sym of_a.value) (of_a.bounded x m p refl)) (begun b n y q (sym of_b.value) (of_b.bounded y n q refl)) e tells

pub is_plain : (o : Order) → o.digits ≡ 0 → o ≡ plain
is_plain o e = λ i. record { digits = e i }

by_first : (v w : Value) (n : ℤ) → integer_of (abbreviated_by v w) ≡ Some n → v ≡ Int n
by_first Null w n h = absurd (cc)
by_first (Real x) w n h = absurd (cc)
by_first (Text t) w n h = absurd (cc)
by_first (Blob b) w n h = absurd (cc)
by_first (Int m) Null n h = cc
by_first (Int m) (Int k) n h = cc
by_first (Int m) (Real x) n h = cc
by_first (Int m) (Text t) n h = cc
by_first (Int m) (Blob []) n h = cc
by_first (Int m) (Blob (x ∷ more)) n h = cc

-- the integer of the abbreviated key is the row's rowid
pub integer_kept : (n : ℤ) (h : AbbreviatedKey) (row : Row) → IsAbbreviationOf h row → integer_of h ≡ Some n → column row 0 ≡ Int n
integer_kept n h row of_row e = by_first (column row 0) (column row 1) n (sym (ap integer_of of_row.value) ∙ e)
