-- Abbreviated keys: the beginning of a row, which is stored with it.
use Rattle.std.specs.Prelude.{◌≡◌, ◌+◌, ◌*◌, ◌<◌, ℕ, ℤ, zero, suc, List, [], ◌∷◌}
use Rattle.std.specs.Prelude.{Option, Some, None, slice_index_or}
use Rattle.std.specs.declared.cmp.Ordering.{Ordering}
use Rattle.std.specs.declared.cmp.Ordering.TheVariants.{Equal}
use Rattle.std.specs.Ordering.{int_cmp, nat_cmp, ordering_then}
use Rattle.sqlite_value.specs.declared.value.Value.{Value}
use Rattle.sqlite_value.specs.declared.value.Value.TheVariants.{Null, Int, Real, Text, Blob}
use Rattle.sqlite_value.specs.Order.{Row, bytes, column}
use Rattle.ordered_rows.specs.declared.abbreviated_key.AbbreviatedKey.{AbbreviatedKey}
use Rattle.ordered_rows.specs.declared.abbreviated_key.AbbreviatedKey.TheVariants.{Integer}
use Rattle.ordered_rows.specs.declared.abbreviated_key.AbbreviatedKey.TheVariants.{IntegerAndBlob}
use Rattle.ordered_rows.specs.declared.abbreviated_key.AbbreviatedKey.TheVariants.{Other}

-- the number whose digits to base 256 are those of `number` and then the first `left` bytes; a byte
-- that is missing is a zero
abbrev pub spelled : ℕ → ℕ → List ℕ → ℕ
spelled zero number more = number
spelled (suc left) number [] = spelled left (number * 256) []
spelled (suc left) number (byte ∷ more) = spelled left (number * 256 + byte) more

-- an integer, and the start of what follows
abbrev pub abbreviated_after : ℤ → Value → AbbreviatedKey
abbreviated_after n Null = Integer n
abbreviated_after n (Int m) = Integer n
abbreviated_after n (Real x) = Integer n
abbreviated_after n (Text t) = Integer n
abbreviated_after n (Blob []) = Integer n
abbreviated_after n (Blob (byte ∷ more)) = IntegerAndBlob byte n (spelled 8 0 more)

-- the abbreviated key of a row with these two values first
abbrev pub abbreviated_by : Value → Value → AbbreviatedKey
abbreviated_by Null next = Other
abbreviated_by (Int n) next = abbreviated_after n next
abbreviated_by (Real x) next = Other
abbreviated_by (Text t) next = Other
abbreviated_by (Blob b) next = Other

-- the abbreviated key is this row's, whose blob is of bytes
pub record IsAbbreviationOf (key : AbbreviatedKey) (row : Row) : Type 0 where
  pub value : key ≡ abbreviated_by (column row 0) (column row 1)
  pub bounded : (byte : ℕ) (n : ℤ) (number : ℕ) → key ≡ IntegerAndBlob byte n number
      → (at : ℕ) → slice_index_or (bytes (column row 1)) at 0 < 256

-- the integer that the row begins with, if it begins with one
abbrev pub integer_of : AbbreviatedKey → Option ℤ
integer_of Other = None
integer_of (Integer n) = Some n
integer_of (IntegerAndBlob byte n number) = Some n

-- the order of keys: by the integer, then by the first byte, then by the number
abbrev pub abbreviated_cmp : AbbreviatedKey → AbbreviatedKey → Ordering
abbreviated_cmp (IntegerAndBlob x m a) (IntegerAndBlob y n b) =
    ordering_then (ordering_then (int_cmp m n) (nat_cmp x y)) (nat_cmp a b)
abbreviated_cmp _ _ = Equal
