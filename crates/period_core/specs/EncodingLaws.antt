-- The laws of the encoding. Each is the contract of a function of this crate.
use Rattle.std.specs.Prelude.{◌≡◌, List}
use Rattle.std.specs.List.{All}
use Rattle.std.specs.Cmp.Lexicographic.{slice_cmp}
use Rattle.std.specs.Ordering.{nat_cmp}
use Rattle.period_core.specs.Encoding.{IsColumnValue, encoded}
use Rattle.period_core.specs.Order.{values_cmp}
use Rattle.period_core.specs.declared.value.Value.{Value}

-- the bytes of two lists compare as the lists do
abbrev pub EncodingKeepsOrder : Type 0
EncodingKeepsOrder =
    (a b : List Value) → All IsColumnValue a → All IsColumnValue b
    → slice_cmp nat_cmp (encoded a) (encoded b) ≡ values_cmp a b

-- lists with the same bytes are the same list
abbrev pub EncodingReadsBack : Type 0
EncodingReadsBack =
    (a b : List Value) → All IsColumnValue a → All IsColumnValue b → encoded a ≡ encoded b → a ≡ b
