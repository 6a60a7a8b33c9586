use Rattle.std.proofs.Common.{◌≡◌, ◌∷◌, ◌-◌, ◌≤◌, ℤ, pos, unsigned_abs, Some, length, get_or, take, drop, refl, sym, ◌∙◌, ap, subst, to_z, of_z, w32, w64, arith}
use Rattle.std.specs.Prelude.{slice_get}
use Rattle.std.proofs.lemmas.Option.{slice_get_past, slice_get_read}
use Rattle.std.proofs.lemmas.Int.{to_z-of_z, fits_signed_from_abs}
use Rattle.std.specs.Int.Signed.{nat_abs-le}
use Rattle.period_core.specs.declared.value.Value.{Value}
use Rattle.period_core.specs.declared.value.Value.TheVariants.{Int, Text, Date}
use Rattle.period_core.proofs.CalendarFacts.{day-bits}
use Rattle.sequenced_ops.proofs.Fronts.{first_at}
use Rattle.sequenced_ops.proofs.Logic.{if_ok_weaker}
use Rattle.sequenced_ops.proofs.Keys.{RestRead, KeyRead, integer_first, other_first, no_value}
use Rattle.sequenced_ops.proofs.keyed.read_key.Goals as goal

pub returns-in-Some-Int : goal.returns-in-Some-Int
returns-in-Some-Int c =
    let values = c.args.values.now in
    let columns = c.args.columns.now in
    let first = get_or columns 0 0 in
    let others = take (length columns - 1) (drop 1 columns) in
    let is : columns ≡ first ∷ others = first_at columns 0 c.in-len1-up.len_at_least in
    let value : Value = c.in-Some-Int.field-0.now in
    let there : slice_get values first ≡ Some value =
    slice_get_read values (length values) first value refl c.in-Some-Int.ensures.lookup.3.0 c.in-Some-Int.ensures.lookup.1 in
    let number : slice_get values first ≡ Some (Int c.in-Some-Int.number) = there ∙ ap (λ (v : Value). Some v) c.in-Some-Int.field-0-is in
    if_ok_weaker c.read_rest-in-Some-Int.result (RestRead others values c.in-Some-Int.number) (KeyRead columns values)
    (λ found p. subst (λ cs. KeyRead cs values found) (sym is) (integer_first first others values c.in-Some-Int.number number found p))
    c.read_rest-in-Some-Int.ensures

pub returns-in-Some-Text : goal.returns-in-Some-Text
returns-in-Some-Text c =
    let values = c.args.values.now in
    let columns = c.args.columns.now in
    let first = get_or columns 0 0 in
    let others = take (length columns - 1) (drop 1 columns) in
    let is : columns ≡ first ∷ others = first_at columns 0 c.in-len1-up.len_at_least in
    let value : Value = c.in-Some-Text.field-0.now in
    let there : slice_get values first ≡ Some value =
    slice_get_read values (length values) first value refl c.in-Some-Text.ensures.lookup.3.0 c.in-Some-Text.ensures.lookup.1 in
    let text : slice_get values first ≡ Some (Text c.in-Some-Text.field-0-0) = there ∙ ap (λ (v : Value). Some v) c.in-Some-Text.field-0-is in
    if_ok_weaker c.read_rest-in-Some-Text.result (RestRead columns values (pos 0)) (KeyRead columns values)
    (λ found p. subst (λ cs. KeyRead cs values found) (sym is)
    (other_first first others values (Text c.in-Some-Text.field-0-0) (pos 0) (λ vs. refl) text found (subst (λ cs. RestRead cs values (pos 0) found) is p)))
    c.read_rest-in-Some-Text.ensures

pub returns-in-Some-Date : goal.returns-in-Some-Date
returns-in-Some-Date c =
    let values = c.args.values.now in
    let columns = c.args.columns.now in
    let first = get_or columns 0 0 in
    let others = take (length columns - 1) (drop 1 columns) in
    let is : columns ≡ first ∷ others = first_at columns 0 c.in-len1-up.len_at_least in
    let value : Value = c.in-Some-Date.field-0.now in
    let day : ℤ = c.in-Some-Date.day in
    let there : slice_get values first ≡ Some value =
    slice_get_read values (length values) first value refl c.in-Some-Date.ensures.lookup.3.0 c.in-Some-Date.ensures.lookup.1 in
    let date : slice_get values first ≡ Some (Date day) = there ∙ ap (λ (v : Value). Some v) c.in-Some-Date.field-0-is in
    let number : c.from-number.result ≡ day =
    c.from-number.ensures ∙ ap (λ (n : ℤ). to_z w32 (of_z w32 n)) c.number.ensures.value ∙ day-bits day c.number.ensures.in_range in
    let small : unsigned_abs c.number.result ≤ 2_147_483_648 = nat_abs-le c.number.result c.number.type_inv in
    let lead : to_z w64 (of_z w64 c.from-number.result) ≡ day =
    ap (λ (n : ℤ). to_z w64 (of_z w64 n)) (number ∙ sym c.number.ensures.value)
    ∙ to_z-of_z w64 c.number.result (fits_signed_from_abs w64 c.number.result (omega (arith, small))) ∙ c.number.ensures.value in
    if_ok_weaker c.read_rest-in-Some-Date.result (RestRead columns values (to_z w64 (of_z w64 c.from-number.result))) (KeyRead columns values)
    (λ found p. subst (λ cs. KeyRead cs values found) (sym is)
    (other_first first others values (Date day) day (λ vs. refl) date found (subst (λ cs. RestRead cs values day found) is (subst (λ n. RestRead columns values n found) lead p))))
    c.read_rest-in-Some-Date.ensures

pub returns-in-None : goal.returns-in-None
returns-in-None c = λ read its.
    let values = c.args.values.now in
    let columns = c.args.columns.now in
    no_value columns values read 0 c.in-len1-up.len_at_least (slice_get_past values (get_or columns 0 0) c.in-None.ensures.lookup.3) its
