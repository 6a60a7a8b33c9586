-- The numbers that the database gives to rows that are added to bt_version, if its rows are in the order of their numbers.
use Rattle.std.proofs.Common.{◌≡◌, ◌∙◌, ℕ, ℤ, pos, suc, ◌+◌, ◌-◌, ◌≤◌, ◌<◌, ◌+ℤ◌, ◌<ℤ◌, ◌≤ℤ◌, List, [], ◌∷◌, ◌++◌, map, filter, fold, length, Bool, true, false, Some, refl, sym, ap, subst, arith, Less}
use Rattle.std.specs.Prelude.{slice_get, option_map}
use Rattle.std.specs.List.{AllByRecursion}
use Rattle.std.proofs.lemmas.Int.{ints}
use Rattle.std.proofs.lemmas.List.Sums.{fold-append}
use Rattle.period_core.specs.Encoding.{greatest_integer, least_integer}
use Rattle.sqlite.specs.Edit.{are_fresh, id_in, is_taken, next_rowid, numbered, put_all}
use Rattle.sqlite.specs.Order.{Row}
use Rattle.sqlite.specs.Rows.{last_id}
use Rattle.sqlite.specs.Rowids.TheVariants.{Chosen}
use Rattle.sqlite.specs.Tree.{IsTable, put_row, rowid}
use Rattle.sqlite.specs.View.{is_int}
use Rattle.sqlite.specs.declared.types.Value.TheVariants.{Int, Null}
use Rattle.sqlite_rules.proofs.TableLemmas.{int_is, next_after}
use Rattle.sqlite_trees.proofs.ListLemmas.{all-filter, all_weaker, ascending-filter}
use Rattle.sqlite_trees.proofs.TreeLemmas.{IsTable-put_row, all-put_row}
use Rattle.sqlite_value.specs.Order.{value_cmp}
use Rattle.sqlite_value.proofs.OrderLemmas.{value_cmp-Int}
use Rattle.version_tables.specs.Healthy.{HaveRoomFor}
use Rattle.version_tables.specs.Represents.{Version, stored}
use Rattle.version_tables.proofs.Goes.{rid}
use Rattle.version_tables.proofs.Ordered.{int_less, rid_below}

-- a row whose rowid is chosen
abbrev pub unnumbered : Version → Row
unnumbered v = Null ∷ stored v

-- rows with numbers from the first number on
abbrev pub number_from : ℤ → List Version → List Row
number_from first [] = []
number_from first (v ∷ vs) = (Int first ∷ stored v) ∷ number_from (first +ℤ pos 1) vs

abbrev pub AreKeyed : List Row → Type 0
AreKeyed = AllByRecursion (λ r. is_int (rowid r) ≡ true)

abbrev pub AreBelow : ℤ → List Row → Type 0
AreBelow n = AllByRecursion (λ r. rid r <ℤ n)

-- ---- a number above all

less_than : (r : Row) (n : ℤ) → is_int (rowid r) ≡ true → rid r <ℤ n → value_cmp (rowid r) (Int n) ≡ Less
less_than r n int low = ap (λ v. value_cmp v (Int n)) (int_is (rowid r) int) ∙ value_cmp-Int (rid r) n ∙ int_less (rid r) n low

free_above : (rows : List Row) (n : ℤ) (rest : Row) → AreKeyed rows → AreBelow n rows → is_taken rows (Int n ∷ rest) ≡ false
free_above [] n rest keyed below = refl
free_above (r ∷ rows) n rest keyed below = rw (less_than r n keyed.0 below.0) (free_above rows n rest keyed.1 below.1)

put_last : (rows : List Row) (n : ℤ) (rest : Row) → AreKeyed rows → AreBelow n rows → put_row (Int n ∷ rest) rows ≡ rows ++ (Int n ∷ rest) ∷ []
put_last [] n rest keyed below = refl
put_last (r ∷ rows) n rest keyed below = rw (less_than r n keyed.0 below.0) (ap (λ l. r ∷ l) (put_last rows n rest keyed.1 below.1))

abbrev next_from : ℤ → List Row → ℤ
next_from = fold (λ _ r. id_in (rowid r) +ℤ pos 1)

int_next : (n : ℤ) → n <ℤ (n +ℤ pos 1)
int_next n = omega (arith, ints)

int_through : (a b n : ℤ) → a <ℤ b → b <ℤ n → a <ℤ n
int_through a b n low high = omega (arith, ints, low, high)

all_below : (z : ℤ) (rows : List Row) → IsTable rows → AreKeyed rows → AreBelow (next_from z rows) rows
all_below z [] table keyed = tt
all_below z (x ∷ []) table keyed = (int_next (rid x), tt)
all_below z (x ∷ y ∷ rows) table keyed =
    let rest = all_below (rid x +ℤ pos 1) (y ∷ rows) table.1 keyed.1 in
    (int_through (rid x) (rid y) _ (rid_below x y keyed.0 keyed.1.0 table.0.0) rest.0, rest)

-- the next number is above all
pub next_is_above : (rows : List Row) → IsTable rows → AreKeyed rows → AreBelow (next_rowid rows) rows
next_is_above = all_below (pos 1)

-- ---- the rows that are put get the next numbers

pub numbered_chosen : (vs : List Version) (rows : List Row) → IsTable rows → AreKeyed rows → numbered Chosen rows (map unnumbered vs) ≡ number_from (next_rowid rows) vs
numbered_chosen [] rows table keyed = refl
numbered_chosen (v ∷ vs) rows table keyed =
    let n = next_rowid rows in
    let new : Row = Int n ∷ stored v in
    let put : put_row new rows ≡ rows ++ new ∷ [] = put_last rows n (stored v) keyed (next_is_above rows table keyed) in
    let next : next_rowid (put_row new rows) ≡ n +ℤ pos 1 = ap next_rowid put ∙ next_after rows new in
    ap (λ l. new ∷ l) (numbered_chosen vs (put_row new rows) (IsTable-put_row new rows table) (all-put_row (λ r. is_int (rowid r) ≡ true) new rows refl keyed) ∙ ap (λ k. number_from k vs) next)

pub numbered_as_given : (first : ℤ) (vs : List Version) (rows : List Row) → numbered Chosen rows (number_from first vs) ≡ number_from first vs
numbered_as_given first [] rows = refl
numbered_as_given first (v ∷ vs) rows = ap (λ l. (Int first ∷ stored v) ∷ l) (numbered_as_given (first +ℤ pos 1) vs (put_row (Int first ∷ stored v) rows))

all_next : (first : ℤ) (new : Row) (rows : List Row) → rid new ≡ first → AreBelow first rows → AreBelow (first +ℤ pos 1) (put_row new rows)
all_next first new rows is below =
    all-put_row (λ r. rid r <ℤ (first +ℤ pos 1)) new rows (subst (λ n. n <ℤ (first +ℤ pos 1)) (sym is) (int_next first))
    (all_weaker (λ r. rid r <ℤ first) (λ r. rid r <ℤ (first +ℤ pos 1)) (λ r low. int_through (rid r) first _ low (int_next first)) rows below)

pub numbers_fresh : (first : ℤ) (vs : List Version) (rows : List Row) → AreKeyed rows → AreBelow first rows → are_fresh rows (number_from first vs) ≡ true
numbers_fresh first [] rows keyed below = refl
numbers_fresh first (v ∷ vs) rows keyed below =
    let new : Row = Int first ∷ stored v in
    rw (free_above rows first (stored v) keyed below) (numbers_fresh (first +ℤ pos 1) vs (put_row new rows) (all-put_row (λ r. is_int (rowid r) ≡ true) new rows refl keyed) (all_next first new rows refl below))

pub numbers_keyed : (first : ℤ) (vs : List Version) → AreKeyed (number_from first vs)
numbers_keyed first [] = tt
numbers_keyed first (v ∷ vs) = (refl, numbers_keyed (first +ℤ pos 1) vs)

push : (rows : List Row) (x : Row) (more : List Row) → (rows ++ x ∷ []) ++ more ≡ rows ++ x ∷ more
push [] x more = refl
push (r ∷ rows) x more = ap (λ l. r ∷ l) (push rows x more)

put_after : (first : ℤ) (vs : List Version) (rows : List Row) → AreKeyed rows → AreBelow first rows → put_all rows (number_from first vs) ≡ rows ++ number_from first vs
put_after first [] rows keyed below = (nothing rows)
  where
    nothing : (rows : List Row) → rows ≡ rows ++ []
    nothing [] = refl
    nothing (r ∷ rows) = ap (λ l. r ∷ l) (nothing rows)
put_after first (v ∷ vs) rows keyed below =
    let new : Row = Int first ∷ stored v in
    let one = put_last rows first (stored v) keyed below in
    put_after (first +ℤ pos 1) vs (put_row new rows) (all-put_row (λ r. is_int (rowid r) ≡ true) new rows refl keyed) (all_next first new rows refl below)
    ∙ ap (λ l. l ++ number_from (first +ℤ pos 1) vs) one ∙ push rows new (number_from (first +ℤ pos 1) vs)

pub table_put_all : (news rows : List Row) → IsTable rows → IsTable (put_all rows news)
table_put_all [] rows table = table
table_put_all (r ∷ news) rows table = table_put_all news (put_row r rows) (IsTable-put_row r rows table)

pub all-put_all : (P : Row → Type 0) (news rows : List Row) → AllByRecursion P news → AllByRecursion P rows → AllByRecursion P (put_all rows news)
all-put_all P [] rows new old = old
all-put_all P (r ∷ news) rows new old = all-put_all P news (put_row r rows) new.1 (all-put_row P r rows new.0 old)

-- ---- the last of them

one_further : (first : ℤ) (n : ℕ) → (first +ℤ pos 1) +ℤ pos n ≡ first +ℤ pos (n + 1)
one_further first n = grind (arith, ints)

pub next_above : (z first : ℤ) (v : Version) (vs : List Version) → fold (λ _ r. id_in (rowid r) +ℤ pos 1) z (number_from first (v ∷ vs)) ≡ first +ℤ pos (length vs + 1)
next_above z first v [] = refl
next_above z first v (u ∷ vs) =
    let n : length vs + 1 + 1 ≡ length (u ∷ vs) + 1 = omega arith in
    next_above (first +ℤ pos 1) (first +ℤ pos 1) u vs ∙ one_further first (length vs + 1) ∙ ap (λ k. first +ℤ pos k) n

last_after : (a b : Row) (more : List Row) → last_id (a ∷ b ∷ more) ≡ last_id (b ∷ more)
last_after a b more =
    let n = length more in
    let long : length (a ∷ b ∷ more) - 1 ≡ suc n = omega arith in
    let short : length (b ∷ more) - 1 ≡ n = omega arith in
    ap (λ k. option_map (λ (r : Row). rid r) (slice_get (a ∷ b ∷ more) k)) long ∙ sym (ap (λ k. option_map (λ (r : Row). rid r) (slice_get (b ∷ more) k)) short)

pub last_number : (first : ℤ) (v : Version) (vs : List Version) → last_id (number_from first (v ∷ vs)) ≡ Some (first +ℤ pos (length vs))
last_number first v [] = let e : first +ℤ pos 0 ≡ first = grind (arith, ints) in rw e refl
last_number first v (u ∷ vs) =
    let n : length vs + 1 ≡ length (u ∷ vs) = omega arith in
    last_after (Int first ∷ stored v) (Int (first +ℤ pos 1) ∷ stored u) (number_from ((first +ℤ pos 1) +ℤ pos 1) vs) ∙ last_number (first +ℤ pos 1) u vs
    ∙ ap Some (one_further first (length vs) ∙ ap (λ k. first +ℤ pos k) n)

-- ---- there is room

pub room_next : (count : ℕ) (z : ℤ) (rows : List Row) → (z +ℤ pos count) ≤ℤ (greatest_integer +ℤ pos 1) → AllByRecursion (λ r. (rid r +ℤ pos count) ≤ℤ greatest_integer) rows
    → (fold (λ _ r. id_in (rowid r) +ℤ pos 1) z rows +ℤ pos count) ≤ℤ (greatest_integer +ℤ pos 1)
room_next count z [] so high = so
room_next count z (r ∷ rows) so high = let here = high.0 in room_next count (rid r +ℤ pos 1) rows (omega (arith, ints, here)) high.1

pub low_next : (z : ℤ) (rows : List Row) → least_integer ≤ℤ z → AllByRecursion (λ r. least_integer ≤ℤ rid r) rows → least_integer ≤ℤ fold (λ _ r. id_in (rowid r) +ℤ pos 1) z rows
low_next z [] so low = so
low_next z (r ∷ rows) so low = let here = low.0 in low_next (rid r +ℤ pos 1) rows (omega (arith, ints, here)) low.1

low_after : (n : ℤ) → least_integer ≤ℤ n → least_integer ≤ℤ (n +ℤ pos 1)
low_after n low = omega (arith, ints, low)

pub numbers_low : (first : ℤ) (vs : List Version) → least_integer ≤ℤ first → AllByRecursion (λ r. least_integer ≤ℤ rid r) (number_from first vs)
numbers_low first [] low = tt
numbers_low first (v ∷ vs) low = (low, numbers_low (first +ℤ pos 1) vs (low_after first low))

pub numbers_high : (left : ℕ) (first : ℤ) (vs : List Version) → (first +ℤ pos (length vs + left)) ≤ℤ (greatest_integer +ℤ pos 1) → AllByRecursion (λ r. (rid r +ℤ pos left) ≤ℤ greatest_integer) (number_from first vs)
numbers_high left first [] high = tt
numbers_high left first (v ∷ vs) high = (omega (arith, ints, high), numbers_high left (first +ℤ pos 1) vs (omega (arith, ints, high)))

-- the last of the new rows has the number before the next one
pub next_and_last : (first : ℤ) (rows : List Row) (vs : List Version) → (0 < length vs) → AreKeyed rows → AreBelow first rows
    → (last : ℤ) × (last_id (number_from first vs) ≡ Some last) × (next_rowid (put_all rows (number_from first vs)) ≡ last +ℤ pos 1)
next_and_last first rows [] some keyed below = absurd (omega (arith, some))
next_and_last first rows (v ∷ vs) some keyed below = (
  first +ℤ pos (length vs),
  last_number first v vs,
  ap next_rowid (put_after first (v ∷ vs) rows keyed below) ∙ fold-append (λ _ r. id_in (rowid r) +ℤ pos 1) (pos 1) rows (number_from first (v ∷ vs)) ∙ next_above (next_rowid rows) first v vs ∙ further first (length vs),
)
  where
    further : (n : ℤ) (k : ℕ) → n +ℤ pos (k + 1) ≡ (n +ℤ pos k) +ℤ pos 1
    further n k = grind (arith, ints)

pub room_after : (left : ℕ) (rows : List Row) (vs : List Version) → AreKeyed rows → HaveRoomFor (length vs + left) rows → HaveRoomFor left (put_all rows (number_from (next_rowid rows) vs))
room_after left rows vs keyed room =
    let first = next_rowid rows in
    let low = low_next (pos 1) rows (omega (arith, ints)) room.low in
    let start : (pos 1 +ℤ pos (length vs + left)) ≤ℤ (greatest_integer +ℤ pos 1) = let few = room.few in omega (arith, ints, few) in
    let high = room_next (length vs + left) (pos 1) rows start room.high in
    record {
      rise = table_put_all (number_from first vs) rows room.rise;
      low = all-put_all (λ r. least_integer ≤ℤ rid r) (number_from first vs) rows (numbers_low first vs low) room.low;
      high = all-put_all (λ r. (rid r +ℤ pos left) ≤ℤ greatest_integer) (number_from first vs) rows (numbers_high left first vs high)
          (all_weaker (λ r. (rid r +ℤ pos (length vs + left)) ≤ℤ greatest_integer) (λ r. (rid r +ℤ pos left) ≤ℤ greatest_integer) (λ r there. fewer (rid r) (length vs) left there) rows room.high);
      few = (let few = room.few in omega (arith, few));
    }
  where
    fewer : (n : ℤ) (k left : ℕ) → (n +ℤ pos (k + left)) ≤ℤ greatest_integer → (n +ℤ pos left) ≤ℤ greatest_integer
    fewer n k left h = omega (arith, ints, h)

pub less_room : (few many : ℕ) (rows : List Row) → few ≤ many → HaveRoomFor many rows → HaveRoomFor few rows
less_room few many rows less room = record {
  rise = room.rise;
  low = room.low;
  high = all_weaker (λ r. (rid r +ℤ pos many) ≤ℤ greatest_integer) (λ r. (rid r +ℤ pos few) ≤ℤ greatest_integer) (λ r there. nearer (rid r) there) rows room.high;
  few = (let most = room.few in omega (arith, most, less));
}
  where
    nearer : (n : ℤ) → (n +ℤ pos many) ≤ℤ greatest_integer → (n +ℤ pos few) ≤ℤ greatest_integer
    nearer n h = omega (arith, ints, h, less)

pub filtered_room : (count : ℕ) (p : Row → Bool) (rows : List Row) → HaveRoomFor count rows → HaveRoomFor count (filter p rows)
filtered_room count p rows room = record {
  rise = ascending-filter (λ a b. value_cmp (rowid a) (rowid b) ≡ Less) p rows room.rise;
  low = all-filter (λ r. least_integer ≤ℤ rid r) p rows room.low;
  high = all-filter (λ r. (rid r +ℤ pos count) ≤ℤ greatest_integer) p rows room.high;
  few = room.few;
}
