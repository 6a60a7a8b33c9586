-- The versions that a stored query shows: those that its window sees and that its condition holds
-- of.
use Rattle.std.specs.Prelude.{◌&&◌, ℤ, Bool, true, List, Option, Some, None, filter}
use Rattle.period_core.specs.PeriodPredicates as period
use Rattle.period_core.specs.Windows.{window_sees}
use Rattle.period_core.specs.declared.period.Period.{Period}
use Rattle.period_core.specs.declared.version.VersionRow.{VersionRow}
use Rattle.sql_statements.specs.Plain.{plain_condition}
use Rattle.sql_statements.specs.declared.tree.Tree.{Tree}
use Rattle.sql_statements.specs.declared.statement.PeriodPredicate.{PeriodPredicate}
use Rattle.sql_statements.specs.declared.statement.PeriodPredicate.TheVariants.{Overlaps, Equals}
use Rattle.sql_statements.specs.declared.statement.PeriodPredicate.TheVariants.{Contains}
use Rattle.sql_statements.specs.declared.statement.PeriodPredicate.TheVariants.{Precedes}
use Rattle.sql_statements.specs.declared.statement.PeriodPredicate.TheVariants.{Succeeds}
use Rattle.sql_statements.specs.declared.statement.PeriodPredicate.TheVariants.{ImmediatelyPrecedes}
use Rattle.sql_statements.specs.declared.statement.PeriodPredicate.TheVariants.{ImmediatelySucceeds}
use Rattle.catalog_core.specs.Conditions.{compares, is_satisfied}
use Rattle.catalog_core.specs.declared.stored.PeriodSide.{PeriodSide}
use Rattle.catalog_core.specs.declared.stored.PeriodSide.TheVariants.{Row, Days}
use Rattle.catalog_core.specs.declared.stored.Stored.{Stored}
use Rattle.catalog_core.specs.declared.stored.VersionTest.{VersionTest}
use Rattle.catalog_core.specs.declared.stored.VersionTest.TheVariants.{Values, Periods, ContainsDay}

-- a side of a period predicate: the version's period, or a literal's
abbrev pub side_period : VersionRow → PeriodSide → Period
side_period v Row = v.period
side_period v (Days days) = days

-- a period predicate
abbrev pub relates : PeriodPredicate → Period → Period → Bool
relates Overlaps x y = period.overlaps x y
relates Equals x y = period.equals x y
relates Contains x y = period.contains x y
relates Precedes x y = period.precedes x y
relates Succeeds x y = period.succeeds x y
relates ImmediatelyPrecedes x y = period.immediately_precedes x y
relates ImmediatelySucceeds x y = period.immediately_succeeds x y

-- the period has the day
abbrev pub has_day : Period → ℤ → Bool
has_day p day = period.covers_day p.start p.end day

-- a test holds of a version
abbrev pub passes_test : VersionRow → VersionTest → Bool
passes_test v (Values c) = compares v.values c
passes_test v (Periods left predicate right) =
    relates predicate (side_period v left) (side_period v right)
passes_test v (ContainsDay side day) = has_day (side_period v side) day

-- a condition that may be absent holds of a version
abbrev pub meets_tests : Option (Tree VersionTest) → VersionRow → Bool
meets_tests None v = true
meets_tests (Some condition) v = is_satisfied (passes_test v) (plain_condition condition)

-- the query shows the version
abbrev pub is_shown : Stored → VersionRow → Bool
is_shown s v = window_sees s.window v.from v.to && meets_tests s.condition v

-- the versions that it shows
abbrev pub shown_versions : Stored → List VersionRow → List VersionRow
shown_versions s versions = filter (is_shown s) versions
