-- Worked examples: which refusal a stored query gets, and which versions it shows.
use Rattle.std.proofs.Common.{◌≡◌, ◌∷◌, ℕ, pos, Bool, true, false, [], Option, Some, None, refl}
use Rattle.std.specs.Prelude.{codes}
use Rattle.period_core.proofs.Periods.{period_over}
use Rattle.period_core.specs.declared.refusal.Refusal.{Refusal}
use Rattle.period_core.specs.declared.refusal.Refusal.TheVariants.{UnknownColumn}
use Rattle.period_core.specs.declared.value.Value.{Value}
use Rattle.period_core.specs.declared.value.Value.TheVariants.{Int}
use Rattle.period_core.specs.declared.version.VersionRow.{VersionRow}
use Rattle.period_core.specs.declared.window.Window.{Window}
use Rattle.period_core.specs.declared.window.Window.TheVariants as window
use Rattle.sql_statements.specs.Trees.{Condition, negated, test}
use Rattle.sql_statements.specs.declared.statement.Comparison.{Comparison}
use Rattle.sql_statements.specs.declared.statement.Comparison.TheVariants as compared
use Rattle.sql_statements.specs.declared.statement.Operand.TheVariants.{Column, Literal}
use Rattle.sql_statements.specs.declared.statement.PeriodOperand.{PeriodOperand}
use Rattle.sql_statements.specs.declared.statement.PeriodOperand.TheVariants.{Named, Dates}
use Rattle.sql_statements.specs.declared.statement.PeriodPredicate.TheVariants.{Overlaps}
use Rattle.sql_statements.specs.declared.statement.StoredTest.{StoredTest}
use Rattle.sql_statements.specs.declared.statement.StoredTest.TheVariants as asked
use Rattle.catalog_core.proofs.lemmas.examples.Tables.{dep}
use Rattle.catalog_core.specs.Conditions.{is_satisfied}
use Rattle.statement_resolution.specs.TableFaults.{period_faults, test_faults}
use Rattle.statement_resolution.specs.query.Faults.{compare_faults, match_faults}
use Rattle.catalog_core.specs.RefusalConditions.{first_holding}
use Rattle.catalog_core.specs.stored.StoredAnswers.{is_shown, passes_test}
use Rattle.statement_resolution.specs.stored.StoredQueries.{stored_query_conditions}
use Rattle.catalog_core.specs.table.Kinds.{differ, kind_of_column, same_kind}
use Rattle.catalog_core.specs.table.Matches.{is_matching}
use Rattle.catalog_core.specs.table.Naming.{Name, find_among, matches_among}
use Rattle.catalog_core.specs.table.TableWords.{def_kind, is_value_column, number_of, table_of_name}
use Rattle.catalog_core.specs.declared.condition.Comparand.TheVariants as comparand
use Rattle.catalog_core.specs.declared.stored.PeriodSide.TheVariants.{Row}
use Rattle.catalog_core.specs.declared.stored.VersionTest.{VersionTest}
use Rattle.catalog_core.specs.declared.stored.VersionTest.TheVariants.{ContainsDay, Values}

-- ---- refusals

abbrev refusal : Name → Option (Condition StoredTest) → Option Refusal
refusal table condition = first_holding (stored_query_conditions (dep ∷ []) (record { table = table; window = None; condition = condition }))

abbrev period : Name → PeriodOperand
period name = Named (record { qualifier = None; name = name })

abbrev equal : Name → Value → Condition StoredTest
equal name value = test (asked.Values (record { left = Column (record { qualifier = None; name = name }); comparison = compared.Equal; right = Literal value }))

abbrev overlaps : PeriodOperand → PeriodOperand → Condition StoredTest
overlaps left right = test (asked.Periods left Overlaps right)

abbrev DEP : Name
DEP = codes "DEP"

record Refusals : Type 0 where
  accepted : refusal DEP (Some (overlaps (period (codes "DP")) (Dates (pos 1) (pos 2)))) ≡ None
  -- a column in the place of a period
  column_as_period : refusal DEP (Some (overlaps (period (codes "S")) (Dates (pos 1) (pos 2)))) ≡ Some UnknownColumn

refusals : Refusals
unfolding test_faults compare_faults match_faults period_faults is_matching find_among matches_among differ same_kind kind_of_column def_kind is_value_column number_of table_of_name
refusals = record {
  accepted = refl;
  column_as_period = refl;
}

-- ---- the versions that are shown

-- department 5 on the days 10 to 19, recorded from moment 3 on and closed at moment 7
abbrev closed : VersionRow
closed = record { values = Int (pos 5) ∷ []; period = period_over (pos 10) (pos 20) refl; from = pos 3; to = pos 7 }

abbrev shown : Window → Bool
shown w = is_shown (record { table = 1; window = w; condition = None }) closed

record Shown : Type 0 where
  at_its_start : shown (window.AsOf (pos 3)) ≡ true
  at_its_end : shown (window.AsOf (pos 7)) ≡ false

shown_in : Shown
shown_in = record { at_its_start = refl; at_its_end = refl }

abbrev holds_of_it : Condition VersionTest → Bool
holds_of_it condition = is_satisfied (passes_test closed) condition

abbrev number : Comparison → ℕ → Condition VersionTest
number comparison n = test (Values (record { left = comparand.Position 0; comparison = comparison; right = comparand.Literal (Int (pos n)) }))

record Meets : Type 0 where
  not_equal : holds_of_it (negated (number compared.Equal 5)) ≡ false
  its_end : holds_of_it (test (ContainsDay Row (pos 20))) ≡ false

meets : Meets
meets = record {
  not_equal = refl;
  its_end = refl;
}
