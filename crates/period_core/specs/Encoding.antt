-- Values as bytes, one after the other, so that the bytes are in the order of the values.
use Rattle.std.specs.Prelude.{◌≡◌, ◌++◌, [], ◌∷◌, zero, suc, ℕ, ℤ, pos, neg_ℤ, unsigned_abs, ◌-ℤ◌}
use Rattle.std.specs.Prelude.{◌≤ℤ◌, List}
use Rattle.std.specs.Int.{bytes_high_first}
use Rattle.std.specs.List.{All, flat_map}
use Rattle.std.specs.Str.{IsUtf8}
use Rattle.period_core.specs.Calendar.{IsDayNumber, first_day}
use Rattle.period_core.specs.declared.value.Value.{Value}
use Rattle.period_core.specs.declared.value.Value.TheVariants.{Int, Text, Date}

-- the number of whole numbers from the least on that come before the number; of 64 bits signed this
-- is two's complement with the top bit flipped
abbrev pub places_above : ℤ → ℤ → ℕ
places_above least n = unsigned_abs (n -ℤ least)

-- the least integer of 64 bits signed
abbrev pub least_integer : ℤ
least_integer = neg_ℤ (pos 9_223_372_036_854_775_808)

-- the greatest number of 64 bits signed
abbrev pub greatest_number : ℕ
greatest_number = 9_223_372_036_854_775_807

-- the greatest integer, as an integer without bound
abbrev pub greatest_integer : ℤ
greatest_integer = pos greatest_number

-- a byte of a text: 00 is written 00 ff
abbrev pub escaped_byte : ℕ → List ℕ
escaped_byte zero = 0 ∷ 255 ∷ []
escaped_byte (suc b) = suc b ∷ []

-- the bytes of a text, and 00 00 at its end
abbrev pub escaped_text : List ℕ → List ℕ
escaped_text text = flat_map escaped_byte text ++ 0 ∷ 0 ∷ []

-- integers from 01, texts from 02, dates from 03; numbers have their highest byte first
abbrev pub encoded_value : Value → List ℕ
encoded_value (Int n) = 1 ∷ bytes_high_first 8 (places_above least_integer n)
encoded_value (Text text) = 2 ∷ escaped_text text
encoded_value (Date day) = 3 ∷ bytes_high_first 4 (places_above first_day day)

-- the bytes of values, one after the other
abbrev pub encoded : List Value → List ℕ
encoded values = flat_map encoded_value values

-- a value that a column holds: an integer of 64 bits, a text in UTF-8, a day of the calendar
abbrev pub IsColumnValue : Value → Type 0
IsColumnValue (Int n) = (least_integer ≤ℤ n) × (n ≤ℤ greatest_integer)
IsColumnValue (Text text) = IsUtf8 text
IsColumnValue (Date day) = IsDayNumber day

-- the bytes are the encoding of some values
abbrev pub IsEncoding : List ℕ → Type 0
IsEncoding bytes = (values : List Value) × All IsColumnValue values × (encoded values ≡ bytes)
