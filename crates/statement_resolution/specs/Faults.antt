-- The faults of a statement, collected over its parts: they are the conditions of its refusals.
use Rattle.std.specs.Prelude.{◌||◌, ◌∷◌, false, List, [], Option, None, Some}
use Rattle.period_core.specs.declared.refusal.Refusal.TheVariants.{AmbiguousColumn, ColumnCount}
use Rattle.period_core.specs.declared.refusal.Refusal.TheVariants.{DuplicateName, EmptyPeriod}
use Rattle.period_core.specs.declared.refusal.Refusal.TheVariants.{PeriodColumn, TextTooLong}
use Rattle.period_core.specs.declared.refusal.Refusal.TheVariants.{TypeMismatch, UnknownColumn}
use Rattle.period_core.specs.declared.refusal.Refusal.TheVariants.{UnknownTable}
use Rattle.sql_statements.specs.Trees.{Condition}
use Rattle.catalog_core.specs.RefusalConditions.{RefusalCondition}
use Rattle.catalog_core.specs.Conditions.{tests_of}
use Rattle.statement_resolution.specs.declared.faults.Faults.{Faults}

-- no condition of a refusal holds
abbrev pub no_faults : Faults
no_faults = record {
  table = false;
  unknown = false;
  ambiguous = false;
  twice = false;
  period = false;
  count = false;
  kinds = false;
  long = false;
  empty = false;
}

-- the union of the faults of two
abbrev pub either : Faults → Faults → Faults
either f g = record {
  table = f.table || g.table;
  unknown = f.unknown || g.unknown;
  ambiguous = f.ambiguous || g.ambiguous;
  twice = f.twice || g.twice;
  period = f.period || g.period;
  count = f.count || g.count;
  kinds = f.kinds || g.kinds;
  long = f.long || g.long;
  empty = f.empty || g.empty;
}

-- the union of the faults of elements
abbrev pub faults_among : {X : Type 0} → (X → Faults) → List X → Faults
faults_among f [] = no_faults
faults_among f (x ∷ xs) = either (f x) (faults_among f xs)

-- the faults of a condition, by its tests' faults
abbrev pub condition_faults : {T : Type 0} → (T → Faults) → Condition T → Faults
condition_faults f condition = faults_among f (tests_of condition)

-- the faults of a condition that may be absent
abbrev pub where_faults : {T : Type 0} → (T → Faults) → Option (Condition T) → Faults
where_faults f None = no_faults
where_faults f (Some condition) = condition_faults f condition

-- the refusals with their conditions
abbrev pub fault_conditions : Faults → List RefusalCondition
fault_conditions f =
    (UnknownTable, f.table)
    ∷ (UnknownColumn, f.unknown)
    ∷ (AmbiguousColumn, f.ambiguous)
    ∷ (DuplicateName, f.twice)
    ∷ (PeriodColumn, f.period)
    ∷ (ColumnCount, f.count)
    ∷ (TypeMismatch, f.kinds)
    ∷ (TextTooLong, f.long)
    ∷ (EmptyPeriod, f.empty)
    ∷ []
