-- Worked values and their bytes, by computation.
use Rattle.std.specs.Prelude.{◌≡◌, refl, codes, [], ◌∷◌, pos, neg_ℤ}
use Rattle.period_core.specs.Encoding.{encoded, encoded_value}
use Rattle.period_core.specs.declared.value.Value.TheVariants.{Int, Text, Date}

text-and-date :
    encoded (Text (codes "a") ∷ Date (pos 0) ∷ []) ≡
    2 ∷ 97 ∷ 0 ∷ 0 ∷ 3 ∷ 0 ∷ 10 ∷ 249 ∷ 58 ∷ []
text-and-date = refl

-- a text of the bytes 00, 'a', 00
zeros-in-text :
    encoded_value (Text (0 ∷ 97 ∷ 0 ∷ [])) ≡ 2 ∷ 0 ∷ 255 ∷ 97 ∷ 0 ∷ 255 ∷ 0 ∷ 0 ∷ []
zeros-in-text = refl

-- two's complement has it as ff..: the top bit is flipped
minus-one :
    encoded_value (Int (neg_ℤ (pos 1))) ≡
    1 ∷ 127 ∷ 255 ∷ 255 ∷ 255 ∷ 255 ∷ 255 ∷ 255 ∷ 255 ∷ []
minus-one = refl
