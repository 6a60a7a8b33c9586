-- Bytes that are read as values, and what may be at their front, for the decoder's private
-- functions.
use Rattle.std.specs.Prelude.{◌≡◌, ◌++◌, ℕ, List}
use Rattle.period_core.specs.Encoding.{IsColumnValue, encoded_value}
use Rattle.period_core.specs.declared.value.Value.{Value}

-- the bytes begin with the bytes of some value that a column holds
pub record HasFirst (bytes : List ℕ) : Type 0 where
  pub value : Value
  pub rest : List ℕ
  pub held : IsColumnValue value
  pub spelled : encoded_value value ++ rest ≡ bytes
