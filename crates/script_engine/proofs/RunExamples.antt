-- Worked rows: which refusal a whole script has, a refused statement, moments, and an answer of one row.
use Rattle.std.proofs.Common.{◌≡◌, ◌<◌, ◌≤◌, ◌<ℤ◌, ◌≤ℤ◌, ◌-ℤ◌, ◌∙◌, ◌∷◌, [], ℤ, pos, List, Some, Err, true, codes, refl, ap, inl, inr, arith, ◌++◌, lit≤}
use Rattle.std.proofs.lemmas.Int.{ints}
use Rattle.period_core.specs.Codes.{code_of}
use Rattle.period_core.proofs.Periods.{are_ends, period_over}
use Rattle.period_core.specs.declared.answer.Answer.{Answer}
use Rattle.period_core.specs.declared.refusal.Refusal.TheVariants.{Memory, MomentBack, Store, UnknownTable}
use Rattle.period_core.specs.declared.row.PeriodRow.{PeriodRow}
use Rattle.period_core.specs.declared.value.Value.{Value}
use Rattle.period_core.specs.declared.value.Value.TheVariants.{Int}
use Rattle.temporal_model.specs.Answer.{IsCertified}
use Rattle.temporal_model.proofs.Certificate.{shortest}
use Rattle.temporal_model.proofs.Members.{Contains-here, Contains-one}
use Rattle.temporal_model.proofs.Snapshots.{held, in_snapshot}
use Rattle.sql_statements.specs.Trees.{Delete}
use Rattle.sql_statements.specs.Trees as statement
use Rattle.statement_resolution.specs.change.Resolution.{change_conditions, empty_period}
use Rattle.catalog_core.specs.table.TableWords.{number_of, table_of_name}
use Rattle.catalog_core.proofs.lemmas.judged.Least.{first_least}
use Rattle.history_model.specs.Histories.{new_database, opened}
use Rattle.script_engine.specs.Headline.{IsSequencedAnswer}
use Rattle.script_engine.specs.engine.Runs.{MayRefuseMoment, Step}

-- ---- a refused statement

-- a DELETE from a table that is missing is refused by 23, and the history stays
no_table : (rows : Delete) → Step (opened new_database) (statement.delete rows) (Err UnknownTable) (opened new_database)
unfolding number_of table_of_name
no_table rows = (
  inl (inl (inl (first_least (change_conditions [] (statement.delete rows) ++ empty_period [] (statement.delete rows) ∷ []) UnknownTable (lit≤ tt, (lit≤ tt, (lit≤ tt, (lit≤ tt, (lit≤ tt, (lit≤ tt, (lit≤ tt, (lit≤ tt, (lit≤ tt, (lit≤ tt, tt)))))))))) refl))),
  refl,
)

-- the database is not blamed for the refusal
not_the_database : (rows : Delete) → Step (opened new_database) (statement.delete rows) (Err Store) (opened new_database) → ⊥
unfolding number_of table_of_name
not_the_database rows step =
    elim step.0 [
      | inl refused ↦ elim refused [
        | inl may ↦ elim may [
          | inl least ↦ let low : code_of Store ≤ 23 = least.least UnknownTable (inl (refl, refl)) in omega arith
          | inr memory ↦ absurd cc
        ]
        | inr failed ↦ let late : 40 < 23 = failed.1 UnknownTable (inl (refl, refl)) in omega arith
      ]
      | inr unlawful ↦ unlawful.fault
    ]

-- ---- moments

-- 40 for a moment before the clock, and not out of memory in place of it
back_refused : MayRefuseMoment (pos 5) (pos 4) MomentBack
back_refused = inr (inl (refl, omega (arith, ints)))

back_not_for_memory : MayRefuseMoment (pos 5) (pos 4) Memory → ⊥
back_not_for_memory (inl bad) = absurd cc
back_not_for_memory (inr (inl back)) = absurd cc
back_not_for_memory (inr (inr failed)) = let late : pos 5 ≤ℤ pos 4 = failed.1 in omega (arith, ints)

-- ---- answers

-- the values of a row: 7
abbrev seven : List Value
seven = Int (pos 7) ∷ []

-- on each day from 5 to 7 the set has the value 7 alone, and on no other day it has a value
abbrev Sets : ℤ → List Value → Type 0
Sets day values = (seven ≡ values) × (pos 5 ≤ℤ day) × (day <ℤ pos 8)

abbrev seven_over : (start end : ℤ) → are_ends start end ≡ true → PeriodRow
seven_over start end ends = record { values = seven; period = period_over start end ends }

-- the value 7 from day 5 on and before day 8
abbrev whole : PeriodRow
whole = seven_over (pos 5) (pos 8) refl

whole-certified : IsCertified (whole ∷ [])
whole-certified = record {
  absent_before = λ row c before.
      let (other, k, v, (from, to)) = held (whole ∷ []) (row.period.start -ℤ pos 1) row.values before in
      let starts : pos 5 ≡ row.period.start = ap (λ (r : PeriodRow). r.period.start) (Contains-one whole row c) in
      let first : pos 5 ≡ other.period.start = ap (λ (r : PeriodRow). r.period.start) (Contains-one whole other k) in
      omega (arith, ints);
  distinct = λ i j d lt below same. omega arith;
}

-- the row with the days 5 and 4 as its witness
abbrev one_row : Answer
one_row = record { columns = codes "V" ∷ []; rows = whole ∷ []; witnesses = record { held = pos 5; absent = Some (pos 4) } ∷ [] }

is_answer : IsSequencedAnswer Sets one_row
is_answer = record {
  daily = λ day values. (
    λ there.
        let (row, c, v, (from, to)) = held (whole ∷ []) day values there in
        let same : whole ≡ row = Contains-one whole row c in
        let starts : pos 5 ≡ row.period.start = ap (λ (r : PeriodRow). r.period.start) same in
        let ends : pos 8 ≡ row.period.end = ap (λ (r : PeriodRow). r.period.end) same in
        (ap (λ (r : PeriodRow). r.values) same ∙ v, omega (arith, ints), omega (arith, ints)),
    λ among.
        let (values_same, from, to) = among in
        in_snapshot (whole ∷ []) day values (whole, Contains-here whole [], values_same, (from, to)),
  );
  shortest = shortest (whole ∷ []) whole-certified;
  ordered = λ i j d lt below. let inside : j < 1 = below in let none : ⊥ = omega arith in absurd none;
  witnessed = (
    record {
      days = refl;
      held = (refl, omega (arith, ints), omega (arith, ints));
      absent = λ among. let (values_same, from, to) = among in omega (arith, ints);
    },
    tt,
  );
}

-- the row cut in two on day 6: the day before is its witness, on which the second row's values hold
abbrev two_rows : Answer
two_rows = record {
  columns = codes "V" ∷ [];
  rows = seven_over (pos 5) (pos 6) refl ∷ seven_over (pos 6) (pos 8) refl ∷ [];
  witnesses = record { held = pos 5; absent = Some (pos 4) } ∷ record { held = pos 6; absent = Some (pos 5) } ∷ [];
}

is_no_answer : IsSequencedAnswer Sets two_rows → ⊥
is_no_answer right = right.witnessed.1.0.absent (refl, omega (arith, ints), omega (arith, ints))
