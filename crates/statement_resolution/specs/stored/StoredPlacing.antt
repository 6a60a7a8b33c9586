-- For private functions: tests by positions, where a name without a position has 0 and a period
-- without a day is the row's. No statement that is accepted has such a name or period.
use Rattle.std.specs.Prelude.{ℕ, if◌then◌else◌, int_lt}
use Rattle.sql_statements.specs.declared.statement.PeriodOperand.{PeriodOperand}
use Rattle.sql_statements.specs.declared.statement.PeriodOperand.TheVariants.{Named, Dates}
use Rattle.sql_statements.specs.declared.statement.StoredTest.{StoredTest}
use Rattle.sql_statements.specs.declared.statement.StoredTest.TheVariants.{Values, Periods}
use Rattle.sql_statements.specs.declared.statement.StoredTest.TheVariants.{ContainsDay}
use Rattle.sql_statements.specs.declared.statement.ColumnReference.{ColumnReference}
use Rattle.statement_resolution.specs.Placing.{place_compare}
use Rattle.statement_resolution.specs.stored.StoredQueries.{PlainSide, PlainTest, RowPeriod, FromTo}
use Rattle.statement_resolution.specs.stored.StoredQueries.{Compared, Related, HasDay}

-- a side of a period predicate: the row's period, or one of two days
abbrev pub placed_days : PeriodOperand → PlainSide
placed_days (Named name) = RowPeriod
placed_days (Dates start end) = if int_lt start end then FromTo start end else RowPeriod

-- a test by the places of columns
abbrev pub placed_test : (ColumnReference → ℕ) → StoredTest → PlainTest
placed_test place (Values c) = Compared (place_compare place c)
placed_test place (Periods left predicate right) =
    Related (placed_days left) predicate (placed_days right)
placed_test place (ContainsDay side day) = HasDay (placed_days side) day
