-- The mark at the start of a script ends between characters.
use Rattle.std.proofs.Common.{◌≡◌, ℕ, List, drop, true, refl, arith, inl, inr}
use Rattle.std.specs.Prelude.{nat_eq}
use Rattle.std.specs.List.{starts_with}
use lib.Utf8.{encode}
use Rattle.std.specs.Str.{IsUtf8, IsCharBoundary}
use Rattle.std.proofs.lemmas.Bool.{cases_Bool}
use Rattle.std.proofs.lemmas.Bool.Decides.{Decides-eqb}
use Rattle.std.proofs.lemmas.Slice.Eq.{starts_is}
use Rattle.std.proofs.lemmas.Str.{IsCharBoundary-past_char, IsCharBoundary-start}
use Rattle.sql_statements.specs.Lexis.{byte_order_mark, byte_order_mark_size}

-- the mark is U+FEFF
mark_is : encode 65279 ≡ byte_order_mark
unfolding encode
mark_is = refl

marked_boundary : (script : List ℕ) → IsUtf8 script → starts_with nat_eq script byte_order_mark ≡ true → IsCharBoundary script 3
unfolding encode
marked_boundary script utf8 e =
    let m = (starts_is Decides-eqb script byte_order_mark (starts_with nat_eq script byte_order_mark) refl).0 e in
    IsCharBoundary-past_char script (drop 3 script) 0 65279 (omega arith) utf8 m

pub mark_boundary : (script : List ℕ) → IsUtf8 script → IsCharBoundary script (byte_order_mark_size script)
mark_boundary script utf8 =
    elim (cases_Bool (starts_with nat_eq script byte_order_mark)) [
      | inl e ↦ rw e (marked_boundary script utf8 e)
      | inr e ↦ rw e (IsCharBoundary-start script utf8)
    ]
