-- The bytes of a value can be read in one way only, whatever is after them.
use Rattle.std.proofs.Common.{◌≡◌, ◌∙◌, ℕ, zero, suc, ◌+◌, ◌<◌, ◌⊎◌, inl, inr, List, [], ◌∷◌, ◌++◌, length, get_or, take, drop, refl, sym, ap, ap₂, subst, arith, append_assoc, length-append, length-take, ℤ, pos, ◌+ℤ◌, ◌-ℤ◌, unsigned_abs, w32, w64}
use Rattle.std.proofs.lemmas.List.{append-nil, take-append-drop}
use Rattle.std.proofs.lemmas.List.Concat.{flat_map-append}
use Rattle.std.proofs.lemmas.List.Elements.{All-head, All-tail}
use Rattle.std.proofs.lemmas.Nat.{be_bytes_4, be_bytes_8}
use Rattle.std.specs.Int.{bytes_high_first, from_be_bytes}
use Rattle.std.specs.List.{All, flat_map}
use Rattle.std.specs.Str.{IsUtf8}
use Rattle.jiff_core.proofs.SignedLemmas.{signed_arith}
use Rattle.period_core.specs.Decoding.{HasFirst}
use Rattle.period_core.specs.Calendar.{first_day}
use Rattle.period_core.specs.Encoding.{IsColumnValue, IsEncoding, encoded, encoded_value, escaped_byte, escaped_text, least_integer, places_above}
use Rattle.period_core.specs.declared.value.Value.{Value}
use Rattle.period_core.specs.declared.value.Value.TheVariants.{Int, Text, Date}

-- a text that begins as other bytes do has them at its front, and the rest of it after
record SplitsAt (front text rest behind : List ℕ) : Type 0 where
  more : List ℕ
  text_is : text ≡ front ++ more
  rest_is : rest ≡ flat_map escaped_byte more ++ 0 ∷ 0 ∷ behind

text_splits : (front text rest behind : List ℕ) →
    flat_map escaped_byte front ++ rest ≡ flat_map escaped_byte text ++ 0 ∷ 0 ∷ behind →
    SplitsAt front text rest behind
text_splits [] text rest behind e = record { more = text; text_is = refl; rest_is = e }
text_splits (zero ∷ front) [] rest behind e = absurd (cc)
text_splits (suc b ∷ front) [] rest behind e = absurd (cc)
text_splits (zero ∷ front) (zero ∷ text) rest behind e =
    let tail : flat_map escaped_byte front ++ rest ≡ flat_map escaped_byte text ++ 0 ∷ 0 ∷ behind = cc in
    let split = text_splits front text rest behind tail in
    record { more = split.more; text_is = cc; rest_is = split.rest_is }
text_splits (zero ∷ front) (suc b ∷ text) rest behind e = absurd (cc)
text_splits (suc a ∷ front) (zero ∷ text) rest behind e = absurd (cc)
text_splits (suc a ∷ front) (suc b ∷ text) rest behind e =
    let tail : flat_map escaped_byte front ++ rest ≡ flat_map escaped_byte text ++ 0 ∷ 0 ∷ behind = cc in
    let head : suc a ≡ suc b = cc in
    let split = text_splits front text rest behind tail in
    record { more = split.more; text_is = cc; rest_is = split.rest_is }

ended : (text x behind : List ℕ) → 0 ∷ 0 ∷ x ≡ flat_map escaped_byte text ++ 0 ∷ 0 ∷ behind →
    (text ≡ []) × (x ≡ behind)
ended [] x behind e = (refl, cc)
ended (zero ∷ text) x behind e = absurd (cc)
ended (suc b ∷ text) x behind e = absurd (cc)

-- a text ends at its first 00 00 alone
pub text-one_way : (s t x y : List ℕ) →
    escaped_text s ++ x ≡ escaped_text t ++ y → (s ≡ t) × (x ≡ y)
text-one_way s t x y e =
    let plain : flat_map escaped_byte s ++ 0 ∷ 0 ∷ x ≡ flat_map escaped_byte t ++ 0 ∷ 0 ∷ y =
    simp append_assoc at e in
    let split = text_splits s t (0 ∷ 0 ∷ x) y plain in
    let (none, same) = ended split.more x y split.rest_is in
    (sym (append-nil s) ∙ sym (split.text_is ∙ ap (λ (m : List ℕ). s ++ m) none), same)

-- the bytes of a text go on here: with a byte, an escaped 00, or the end
pub record GoesOn (rest : List ℕ) : Type 0 where
  pub one : 0 < length rest
  pub two : get_or rest 0 0 ≡ 0 → 1 < length rest
  pub which : get_or rest 0 0 ≡ 0 → (get_or rest 1 0 ≡ 0) ⊎ (get_or rest 1 0 ≡ 255)

goes_on : (more behind rest : List ℕ) →
    rest ≡ flat_map escaped_byte more ++ 0 ∷ 0 ∷ behind → GoesOn rest
goes_on [] behind rest e =
    rw e record { one = omega arith; two = λ z. omega arith; which = λ z. inl refl }
goes_on (zero ∷ more) behind rest e =
    rw e record { one = omega arith; two = λ z. omega arith; which = λ z. inr refl }
goes_on (suc b ∷ more) behind rest e =
    rw e record { one = omega arith; two = λ z. absurd (omega arith); which = λ z. absurd (omega arith) }

-- after the front of a text it continues
pub text-goes_on : (front text rest behind bytes : List ℕ) →
    flat_map escaped_byte front ++ rest ≡ bytes → escaped_text text ++ behind ≡ bytes → GoesOn rest
text-goes_on front text rest behind bytes h e =
    let plain : flat_map escaped_byte text ++ 0 ∷ 0 ∷ behind ≡ bytes = simp append_assoc at e in
    let split = text_splits front text rest behind (h ∙ sym plain) in
    goes_on split.more behind rest split.rest_is

small-take : (m : ℕ) (bytes : List ℕ) → ((i : ℕ) → get_or bytes i 0 < 256) →
    (i : ℕ) → get_or (take m bytes) i 0 < 256
small-take zero bytes small i = omega arith
small-take (suc m) [] small i = omega arith
small-take (suc m) (b ∷ bytes) small zero = small 0
small-take (suc m) (b ∷ bytes) small (suc i) = small-take m bytes (λ k. small (suc k)) i

-- a number made from its place has this place
places-back : (least n : ℤ) (places : ℕ) → n ≡ least +ℤ pos places → places_above least n ≡ places
places-back least n places e =
    let above : n -ℤ least ≡ pos places = omega (arith, signed_arith) in
    ap unsigned_abs above

-- an integer that is read from its first bytes has these bytes
pub integer-read : (places : ℕ) (n : ℤ) (first rest bytes : List ℕ) →
    ((i : ℕ) → get_or bytes i 0 < 256) →
    first ≡ take 8 bytes → rest ≡ drop 8 bytes → length rest + 8 ≡ length bytes →
    places ≡ from_be_bytes w64 first → n ≡ least_integer +ℤ pos places →
    bytes_high_first 8 (places_above least_integer n) ++ rest ≡ bytes
integer-read places n first rest bytes small front behind long p e =
    let whole = rw (← front) at (small-take 8 bytes small) in
    let count : length first ≡ 8 = rw front (omega (arith, length-take {A = ℕ})) in
    let same : bytes_high_first 8 places ≡ first = be_bytes_8 first places count whole p in
    ap (λ (k : ℕ). bytes_high_first 8 k ++ rest) (places-back least_integer n places e)
    ∙ ap₂ (λ (a b : List ℕ). a ++ b) (same ∙ front) behind ∙ take-append-drop 8 bytes

-- the bytes of a date are read as the date
pub date-read : (places : ℕ) (n : ℤ) (first rest bytes : List ℕ) →
    ((i : ℕ) → get_or bytes i 0 < 256) →
    first ≡ take 4 bytes → rest ≡ drop 4 bytes → length rest + 4 ≡ length bytes →
    places ≡ from_be_bytes w32 first → n ≡ first_day +ℤ pos places →
    bytes_high_first 4 (places_above first_day n) ++ rest ≡ bytes
date-read places n first rest bytes small front behind long p e =
    let whole = rw (← front) at (small-take 4 bytes small) in
    let count : length first ≡ 4 = rw front (omega (arith, length-take {A = ℕ})) in
    let same : bytes_high_first 4 places ≡ first = be_bytes_4 first places count whole p in
    ap (λ (k : ℕ). bytes_high_first 4 k ++ rest) (places-back first_day n places e)
    ∙ ap₂ (λ (a b : List ℕ). a ++ b) (same ∙ front) behind ∙ take-append-drop 4 bytes

-- whatever is after two values with the same bytes is the same
pub rest-one_way : (v w : Value) (x y : List ℕ) →
    encoded_value v ++ x ≡ encoded_value w ++ y → x ≡ y
rest-one_way (Int m) (Int n) x y e = cc
rest-one_way (Int m) (Text t) x y e = absurd (cc)
rest-one_way (Int m) (Date d) x y e = absurd (cc)
rest-one_way (Text s) (Int n) x y e = absurd (cc)
rest-one_way (Text s) (Text t) x y e =
    let tail : escaped_text s ++ x ≡ escaped_text t ++ y = cc in
    (text-one_way s t x y tail).1
rest-one_way (Text s) (Date d) x y e = absurd (cc)
rest-one_way (Date c) (Int n) x y e = absurd (cc)
rest-one_way (Date c) (Text t) x y e = absurd (cc)
rest-one_way (Date c) (Date d) x y e = cc

-- the bytes of a value are not empty
pub value-shortens : (v : Value) (rest bytes : List ℕ) →
    encoded_value v ++ rest ≡ bytes → length rest < length bytes
value-shortens (Int n) rest bytes e = rw (← e) (omega arith)
value-shortens (Text t) rest bytes e = omega (arith, simp length-append at (ap length e))
value-shortens (Date d) rest bytes e = rw (← e) (omega arith)

-- one value more was read from the bytes
pub values-read : (values : List Value) (v : Value) (after rest bytes : List ℕ) →
    encoded values ++ rest ≡ bytes → encoded_value v ++ after ≡ rest →
    encoded (values ++ v ∷ []) ++ after ≡ bytes
values-read values v after rest bytes h e =
    ap (λ (front : List ℕ). front ++ after) (flat_map-append encoded_value values (v ∷ []))
    ∙ append_assoc (encoded values) (encoded_value v ++ []) after
    ∙ ap (λ (front : List ℕ). encoded values ++ (front ++ after)) (append-nil (encoded_value v))
    ∙ ap (λ (behind : List ℕ). encoded values ++ behind) e ∙ h

-- after the first value the encoding of the rest follows
pub rest-is_encoding : (v : Value) (rest bytes : List ℕ) →
    encoded_value v ++ rest ≡ bytes → IsEncoding bytes → IsEncoding rest
rest-is_encoding v rest bytes e is = by is.0 is.1 is.2
  where
    by : (values : List Value) → All IsColumnValue values → encoded values ≡ bytes → IsEncoding rest
    by [] all same =
        let less = value-shortens v rest bytes e in
        let none : 0 ≡ length bytes = ap length same in
        absurd (omega arith)
    by (w ∷ values) all same =
        (values, All-tail IsColumnValue w values all, sym (rest-one_way v w rest (encoded values) (e ∙ sym same)))

-- some bytes of values begin with the first of them
pub first-of_encoding : (bytes : List ℕ) → 0 < length bytes → IsEncoding bytes → HasFirst bytes
first-of_encoding bytes some is = by is.0 is.1 is.2
  where
    by : (values : List Value) → All IsColumnValue values → encoded values ≡ bytes → HasFirst bytes
    by [] all same = let none : 0 ≡ length bytes = ap length same in absurd (omega arith)
    by (w ∷ values) all same =
        record { value = w; rest = encoded values; held = All-head IsColumnValue w values all; spelled = same }

-- bytes that no UTF-8 text spells are no value's bytes
pub text-not_utf8 : (text rest bytes : List ℕ) →
    escaped_text text ++ rest ≡ bytes → (IsUtf8 text → ⊥) → HasFirst (2 ∷ bytes) → ⊥
text-not_utf8 text rest bytes e bad first = by first.value first.held first.spelled
  where
    by : (value : Value) → IsColumnValue value → encoded_value value ++ first.rest ≡ 2 ∷ bytes → ⊥
    by (Int n) held same = cc
    by (Text t) held same =
        let tail : escaped_text t ++ first.rest ≡ bytes = cc in
        bad (subst IsUtf8 (text-one_way t text first.rest rest (tail ∙ sym e)).0 held)
    by (Date d) held same = cc
