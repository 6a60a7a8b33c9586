-- Plans in plain cases: nothing touched, a whole period touched, leftovers with their values.
use Rattle.std.proofs.Common.{◌≡◌, ◌++◌, ℤ, Bool, true, false, cond, List, [], ◌∷◌, Some, None, map, refl, sym, ◌∙◌, ap, ap₂, inl, inr, arith}
use Rattle.std.specs.Prelude.{int_lt}
use Rattle.std.specs.Int.{int_max, int_min}
use Rattle.std.specs.List.{All, Contains, filter, flat_map}
use Rattle.std.proofs.lemmas.Int.{ints}
use Rattle.std.proofs.lemmas.List.Elements.{All-head, All-tail, Contains-append_cases}
use Rattle.period_core.specs.declared.row.PeriodRow.{PeriodRow}
use Rattle.period_core.specs.declared.value.Value.{Value}
use Rattle.temporal_model.proofs.Members.{Contains-cons_cases, Contains-nil}
use Rattle.history_model.specs.Effects.{with_set}
use Rattle.history_model.specs.Portions.{PlainRow, part, plain_given, plain_row, replacements, touches}
use Rattle.portion_dml.specs.Plans.{version_row}
use Rattle.portion_dml.specs.Laws.{InsidesAreWhole, LeftoversKeepValues, UntouchedPlansAreEmpty}

none_pass : {X : Type 0} (p : X → Bool) (xs : List X) → All (λ x. p x ≡ false) xs → filter p xs ≡ []
none_pass p [] h = refl
none_pass p (x ∷ xs) h = go (p x) (All-head (λ x. p x ≡ false) x xs h) (none_pass p xs (All-tail (λ x. p x ≡ false) x xs h))
  where
    go : (b : Bool) → b ≡ false → filter p xs ≡ [] → cond b (x ∷ filter p xs) (filter p xs) ≡ []
    go true e ih = cc
    go false e ih = ih

nothing : (rows : List PeriodRow) → map plain_row rows ≡ [] → rows ≡ []
nothing [] e = refl
nothing (row ∷ rows) e = cc

pub untouched : UntouchedPlansAreEmpty
untouched action current plan plans none spared =
    let ended : plan.ended ≡ [] = plans.ended ∙ none_pass (λ v. touches action (version_row v)) current spared in
    (ended, nothing plan.added (plans.added ∙ ap₂ (λ given touched. map plain_given given ++ flat_map (replacements action) (map version_row touched)) none ended))

pub whole : InsidesAreWhole
whole portion assignments condition row days low high =
    let v : List Value = with_set assignments row.values in
    let before : int_lt row.start (int_min row.end portion.start) ≡ false = grind (arith, ints) in
    let after : int_lt (int_max row.start portion.end) row.end ≡ false = grind (arith, ints) in
    let start : int_max row.start portion.start ≡ row.start = grind (arith, ints) in
    let end : int_min row.end portion.end ≡ row.end = grind (arith, ints) in
    let some : int_lt row.start row.end ≡ true = grind (arith, ints) in
    ap₂ (λ b c. (cond b (record { values = row.values; start = row.start; end = int_min row.end portion.start } ∷ []) [] ++ cond c (record { values = row.values; start = int_max row.start portion.end; end = row.end } ∷ []) [])
    ++ part v (int_max row.start portion.start) (int_min row.end portion.end)) before after
    ∙ ap₂ (λ s e. part v s e) start end
    ∙ ap (λ b. cond b (record { values = v; start = row.start; end = row.end } ∷ []) []) some

of_part : (values : List Value) (start end : ℤ) (left : PlainRow) → Contains (part values start end) left → left.values ≡ values
of_part values start end left c = go (int_lt start end) c
  where
    go : (b : Bool) → Contains (cond b (record { values = values; start = start; end = end } ∷ []) []) left → left.values ≡ values
    go true h =
        elim (Contains-cons_cases (record { values = values; start = start; end = end }) [] left h) [
          | inl same ↦ sym (ap (λ (r : PlainRow). r.values) same)
          | inr k ↦ absurd (Contains-nil left k)
        ]
    go false h = absurd (Contains-nil left h)

pub keep : LeftoversKeepValues
keep None row left c = absurd (Contains-nil left c)
keep (Some portion) row left c =
    elim (Contains-append_cases (part row.values row.start (int_min row.end portion.start)) (part row.values (int_max row.start portion.end) row.end) left c) [
      | inl h ↦ of_part row.values row.start (int_min row.end portion.start) left h
      | inr h ↦ of_part row.values (int_max row.start portion.end) row.end left h
    ]
