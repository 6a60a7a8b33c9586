-- The rows that a query answers, as they are read.
use Rattle.std.specs.Prelude.{◌≡◌, true, ℕ, ◌<◌, ℤ, ◌<ℤ◌, List, [], ◌+◌, map, length}
use Rattle.std.specs.Prelude.{slice_index_or}
use Rattle.std.specs.Prelude.{IsPermutation, IsSorted}
use Rattle.std.specs.declared.cmp.Ordering.{Ordering}
use Rattle.sqlite.specs.View.{is_int}
use Rattle.sqlite_value.specs.Order.{column, value_cmp}
use Rattle.sqlite.specs.Tree.{rowid}
use Rattle.sqlite.specs.declared.types.Value.TheVariants.{Int, Blob}
use Rattle.sqlite.specs.Order.{Row}

-- the row has this integer at the place
abbrev pub IsNumberAt : Row → ℕ → ℤ → Type 0
IsNumberAt row at n = (at < length row) × (column row at ≡ Int n)

-- the row has these bytes at the place
abbrev pub AreBytesAt : Row → ℕ → List ℕ → Type 0
AreBytesAt row at b = (at < length row) × (column row at ≡ Blob b)

-- the shown rows of a table, each once, in an order that ORDER BY allows
abbrev pub InOrder : (Row → Row) → (Row → Row → Ordering) → List Row → List Row → Type 0
InOrder show cmp tree rows =
    (to : List Row) × IsPermutation tree to × (rows ≡ map show to) × IsSorted cmp to

-- the order by the rowid, which is a row's first value
abbrev pub by_rowid : Row → Row → Ordering
by_rowid a b = value_cmp (rowid a) (rowid b)

-- each row begins with an integer
abbrev pub AreNumbered : List Row → Type 0
AreNumbered rows =
    (k : ℕ) → k < length rows → is_int (rowid (slice_index_or rows k [])) ≡ true

-- both rows begin with integers, the second with the greater one
pub record Rise (first second : Row) : Type 0 where
  pub low : ℤ
  pub high : ℤ
  pub low_is : IsNumberAt first 0 low
  pub high_is : IsNumberAt second 0 high
  pub rises : low <ℤ high

-- each row and the row after it rise
abbrev pub AreRising : List Row → Type 0
AreRising rows =
    (k : ℕ) → k + 1 < length rows
    → Rise (slice_index_or rows k []) (slice_index_or rows (k + 1) [])

-- ---- the keys of bt_version

-- both rows have one integer at the place
abbrev pub ShareNumber : Row → Row → ℕ → Type 0
ShareNumber a b at = (n : ℤ) × IsNumberAt a at n × IsNumberAt b at n

-- both rows have the same bytes at the place
abbrev pub ShareBytes : Row → Row → ℕ → Type 0
ShareBytes a b at = (bytes : List ℕ) × AreBytesAt a at bytes × AreBytesAt b at bytes

-- two rows are one key of bt_version: table, values, period start, system start
pub record AreOneKey (a b : Row) : Type 0 where
  pub table : ShareNumber a b 0
  pub values : ShareBytes a b 1
  pub start : ShareNumber a b 2
  pub from : ShareNumber a b 3

-- a row and the row after it are one key
abbrev pub RepeatKey : List Row → Type 0
RepeatKey rows =
    (k : ℕ) × (k + 1 < length rows)
    × AreOneKey (slice_index_or rows k []) (slice_index_or rows (k + 1) [])
