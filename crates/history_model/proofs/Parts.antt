-- Answers of a query over tables that are cut to slices.
use Rattle.std.proofs.Common.{◌↔◌, ◌⊎◌, ◌≢◌, ◌≤ℤ◌, ◌<ℤ◌, ◌++◌, inl, inr, refl, sym, subst, ℤ, List, [], ◌∷◌}
use Rattle.std.specs.List.{AllZip, Contains}
use Rattle.std.proofs.lemmas.Int.{by_lt_z}
use Rattle.std.proofs.lemmas.List.Elements.{Contains-append_left, Contains-append_right, Contains-append_cases}
use Rattle.period_core.specs.Calendar.{last_day}
use Rattle.period_core.specs.declared.row.PeriodRow.{PeriodRow}
use Rattle.period_core.specs.declared.value.Value.{Value}
use Rattle.temporal_model.specs.Snapshot.{InSnapshot, values_on}
use Rattle.temporal_model.proofs.Days.{InSnapshot-IsDay}
use Rattle.temporal_model.proofs.Members.{Contains-nil}
use Rattle.temporal_model.proofs.Snapshots.{values_on-append}
use Rattle.sql_statements.specs.declared.tree.SetOperator.{SetOperator}
use Rattle.sql_statements.specs.declared.tree.SetOperator.TheVariants.{Union, Except, Intersect}
use Rattle.catalog_core.specs.declared.query.resolved.QueryReference.{QueryReference}
use Rattle.catalog_core.specs.query.Queries.{Query, one, both, rows_for}
use Rattle.history_model.specs.OrdinaryQuery.{InAnswerOver, InCombined, InProduct, InQuery, VisibleRows, VisibleInTables}
use Rattle.history_model.specs.Slices.{AreCutTo, HasReferences, InSlice, IsPartOver, Slice, SlicesMakeTheWhole, all_rows, slices_from}
use Rattle.history_model.proofs.Visible.{query_seen}

-- ---- a query gives nothing if none of its references sees anything

-- some reference sees some row
abbrev SeesSome : VisibleRows → Type 0
SeesSome Sees = (reference : QueryReference) × (values : List Value) × Sees reference values

of_product
    : (Sees : VisibleRows) (references : List QueryReference) → references ≢ [] → (values : List Value)
    → InProduct Sees references values → SeesSome Sees
of_product Sees [] named values h = absurd (named refl)
of_product Sees (reference ∷ more) named values (first, rest, sees, others, is) = (reference, first, sees)

of_combined
    : (operator : SetOperator) (A B : List Value → Type 0) (row : List Value) (X : Type 0)
    → (A row → X) → (B row → X) → InCombined operator A B row → X
of_combined Union A B row X left right h = elim h [ inl a ↦ left a | inr b ↦ right b ]
of_combined Except A B row X left right (a, none) = left a
of_combined Intersect A B row X left right (a, b) = left a

of_query
    : (Sees : VisibleRows) (query : Query) → HasReferences query → (row : List Value)
    → InQuery Sees query row → SeesSome Sees
of_query Sees (one select) named row (values, product, met, its) = of_product Sees select.references named values product
of_query Sees (both operator left right) (a, b) row h =
    of_combined operator (InQuery Sees left) (InQuery Sees right) row (SeesSome Sees)
    (of_query Sees left a row) (of_query Sees right b row) h

-- ---- over one slice

module _ (query : Query) (named : HasReferences query) (tables : List (List PeriodRow)) where
  -- on the slice's days the set is the whole tables' set
  same_inside
      : (slice : Slice) (cuts : List (List PeriodRow)) → AreCutTo slice tables cuts
      → (day : ℤ) → InSlice slice day → (row : List Value)
      → (InAnswerOver query cuts day row ↔ InAnswerOver query tables day row)
  same_inside slice cuts cut day inside row =
      query_seen (VisibleInTables cuts day) (VisibleInTables tables day) query
      (λ reference among values. (
        λ h. ((cut reference day values).0 h).1,
        λ h. (cut reference day values).1 (inside, h),
      )) row

  -- a row is given on the slice's days alone
  given_inside
      : (slice : Slice) (cuts : List (List PeriodRow)) → AreCutTo slice tables cuts
      → (day : ℤ) (row : List Value) → InAnswerOver query cuts day row → InSlice slice day
  given_inside slice cuts cut day row h =
      let (reference, values, sees) = of_query (VisibleInTables cuts day) query named row h in
      ((cut reference day values).0 sees).0

  of_part
      : (slice : Slice) (part : List PeriodRow) → IsPartOver query tables slice part
      → (day : ℤ) (row : List Value) → InSnapshot part day row → InAnswerOver query tables day row
  of_part slice part is day row h =
      let given = (is.daily day row).0 h in
      (same_inside slice is.cuts is.are_cut day (given_inside slice is.cuts is.are_cut day row given) row).0 given

  in_part
      : (slice : Slice) (part : List PeriodRow) → IsPartOver query tables slice part
      → (day : ℤ) → InSlice slice day → (row : List Value)
      → InAnswerOver query tables day row → InSnapshot part day row
  in_part slice part is day inside row h =
      (is.daily day row).1 ((same_inside slice is.cuts is.are_cut day inside row).1 h)

-- ---- over all slices

-- values that two lists hold together are held by one of them
of_both
    : (xs ys : List PeriodRow) (day : ℤ) (row : List Value)
    → InSnapshot (xs ++ ys) day row → InSnapshot xs day row ⊎ InSnapshot ys day row
of_both xs ys day row h =
    Contains-append_cases (values_on xs day) (values_on ys day) row
    (subst (λ (l : List (List Value)). Contains l row) (values_on-append xs ys day) h)

in_left
    : (xs ys : List PeriodRow) (day : ℤ) (row : List Value)
    → InSnapshot xs day row → InSnapshot (xs ++ ys) day row
in_left xs ys day row h =
    subst (λ (l : List (List Value)). Contains l row) (sym (values_on-append xs ys day))
    (Contains-append_left (values_on xs day) (values_on ys day) row h)

in_right
    : (xs ys : List PeriodRow) (day : ℤ) (row : List Value)
    → InSnapshot ys day row → InSnapshot (xs ++ ys) day row
in_right xs ys day row h =
    subst (λ (l : List (List Value)). Contains l row) (sym (values_on-append xs ys day))
    (Contains-append_right (values_on xs day) (values_on ys day) row h)

module _ (query : Query) (named : HasReferences query) (tables : List (List PeriodRow)) where
  of_parts
      : (slices : List Slice) (parts : List (List PeriodRow))
      → AllZip (IsPartOver query tables) slices parts → (day : ℤ) (row : List Value)
      → InSnapshot (all_rows parts) day row → InAnswerOver query tables day row
  of_parts [] [] each day row h = absurd (Contains-nil row h)
  of_parts [] (part ∷ parts) each day row h = absurd each
  of_parts (slice ∷ slices) [] each day row h = absurd each
  of_parts (slice ∷ slices) (part ∷ parts) (is, each) day row h =
      elim (of_both part (all_rows parts) day row h) [
        | inl here ↦ of_part query named tables slice part is day row here
        | inr later ↦ of_parts slices parts each day row later
      ]

  -- each day from the first on is in a slice
  in_parts
      : (borders : List ℤ) (first : ℤ) (parts : List (List PeriodRow))
      → AllZip (IsPartOver query tables) (slices_from first borders) parts
      → (day : ℤ) → first ≤ℤ day → day <ℤ last_day → (row : List Value)
      → InAnswerOver query tables day row → InSnapshot (all_rows parts) day row
  in_parts [] first [] each day from to row h = absurd each
  in_parts [] first (part ∷ parts) (is, each) day from to row h =
      in_left part (all_rows parts) day row
      (in_part query named tables (record { first = first; next = last_day }) part is day (from, to) row h)
  in_parts (border ∷ more) first [] each day from to row h = absurd each
  in_parts (border ∷ more) first (part ∷ parts) (is, each) day from to row h =
      by_lt_z {P = InSnapshot (all_rows (part ∷ parts)) day row} day border
      (λ before. in_left part (all_rows parts) day row
      (in_part query named tables (record { first = first; next = border }) part is day (from, before) row h))
      (λ behind. in_right part (all_rows parts) day row
      (in_parts more border parts each day behind to row h))

-- the answers of a query over slices are together its answer over the whole tables
pub slices_make_the_whole : SlicesMakeTheWhole
slices_make_the_whole query tables parts borders named each day row = (
  of_parts query named tables (slices_from _ borders) parts each day row,
  λ h.
      let (reference, values, sees) = of_query (VisibleInTables tables day) query named row h in
      let is_day = InSnapshot-IsDay (rows_for tables reference) day values sees in
      in_parts query named tables borders _ parts each day is_day.0 is_day.1 row h,
)
