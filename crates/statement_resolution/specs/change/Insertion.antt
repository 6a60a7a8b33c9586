-- INSERT: when it is refused by its statement and the catalog alone.
-- Values are judged by the names of the columns that they are given for. A name that matches no
-- column, or a value past the last name, makes no condition of a value hold: 24 or 29 is lower.
use Rattle.std.specs.Prelude.{◌==◌, ◌&&◌, ◌||◌, ◌∷◌, ℕ, Bool, false, not, List, [], Option, Some}
use Rattle.std.specs.Prelude.{None, filter, find, length, map, bytes_eq, nat_lt, is_none, slice_get}
use Rattle.std.specs.Prelude.{int_le}
use Rattle.std.specs.List.{list_any, zip}
use Rattle.std.specs.Option.{option_and_then, option_map}
use Rattle.std.specs.Str.{chars}
use Rattle.period_core.specs.declared.refusal.Refusal.TheVariants.{UnknownTable, UnknownColumn}
use Rattle.period_core.specs.declared.refusal.Refusal.TheVariants.{AmbiguousColumn, DuplicateName}
use Rattle.period_core.specs.declared.refusal.Refusal.TheVariants.{PeriodColumn, ColumnCount}
use Rattle.period_core.specs.declared.refusal.Refusal.TheVariants.{TypeMismatch, TextTooLong}
use Rattle.period_core.specs.declared.value.Value.{Value}
use Rattle.period_core.specs.declared.value.Value.TheVariants.{Text, Date}
use Rattle.sql_statements.specs.declared.statement.InsertRows.{InsertRows}
use Rattle.catalog_core.specs.table.Kinds.{differ, kind_of_value}
use Rattle.catalog_core.specs.RefusalConditions.{RefusalCondition}
use Rattle.catalog_core.specs.table.Naming.{Name, match_count, passes, repeats}
use Rattle.catalog_core.specs.table.TableWords.{def_kind, is_system, some_def_match, table_of_name}
use Rattle.catalog_core.specs.declared.table.match_counts.MatchCount.TheVariants.{Zero, Many}
use Rattle.statement_resolution.specs.declared.change.insert_values.ValueFault.{ValueFault}
use Rattle.statement_resolution.specs.declared.change.insert_values.ValueFault.TheVariants as fault
use Rattle.catalog_core.specs.declared.table.Column.{Column}
use Rattle.catalog_core.specs.declared.table.ColumnKind.{ColumnKind}
use Rattle.catalog_core.specs.declared.table.ColumnKind.TheVariants as kind
use Rattle.catalog_core.specs.declared.table.TableDef.{TableDef}

-- ==== words ====

-- the columns that a row is to give: all but the system ones
unfoldable pub wanted_names : TableDef → List Name
wanted_names t =
    map (λ (x : Column). x.name) (filter (λ (x : Column). not (is_system x.kind)) t.columns)

-- the names of the columns that a row's values are given for, in order
unfoldable pub given_names : TableDef → Option (List Name) → List Name
given_names t None = wanted_names t
given_names t (Some names) = names

-- the values of a row, each with its column's name
abbrev pub given_values : TableDef → Option (List Name) → List Value → List (Name × Value)
given_values t list row = zip (given_names t list) row

-- a condition on the table, if it exists, and the names in the list, if one is written
abbrev pub of_table : (TableDef → Bool) → List TableDef → InsertRows → Bool
of_table test catalog i = passes test (table_of_name catalog i.table)

-- ==== the conditions, by the numbers of their refusals ====

-- 23: the table is missing
unfoldable pub lacks_table : List TableDef → InsertRows → Bool
lacks_table catalog i = is_none (table_of_name catalog i.table)

-- 24 and 25: a name in the list that matches no column, or several
unfoldable pub lists_unknown : TableDef → InsertRows → Bool
lists_unknown t i = passes (some_def_match t Zero) i.columns

-- 25: a name in the list that several columns match
unfoldable pub lists_ambiguous : TableDef → InsertRows → Bool
lists_ambiguous t i = passes (some_def_match t Many) i.columns

-- 26: the list repeats a name
unfoldable pub repeats_column : InsertRows → Bool
repeats_column i = passes repeats i.columns

-- 27: a system column in the list
unfoldable pub is_system_name : TableDef → Name → Bool
is_system_name t name =
    list_any (λ (x : Column). bytes_eq name x.name && is_system x.kind) t.columns

-- one of the names names a system column
unfoldable pub some_system_name : TableDef → List Name → Bool
some_system_name t names = list_any (λ name. is_system_name t name) names

-- 27: the list has the name of a system column
unfoldable pub lists_system : TableDef → InsertRows → Bool
lists_system t i = passes (some_system_name t) i.columns

-- 29: the list lacks a column; a row has another number of values than there are names
unfoldable pub omits_column : TableDef → List Name → Bool
omits_column t names =
    list_any (λ (x : Column). not (is_system x.kind) && match_count names x.name == 0) t.columns

-- some row has another number of values
unfoldable pub has_row_of_other_length : ℕ → List (List Value) → Bool
has_row_of_other_length count rows = list_any (λ (row : List Value). not (length row == count)) rows

-- 29: the list lacks a column, or a row has another number of values
unfoldable pub has_other_count : TableDef → InsertRows → Bool
has_other_count t i =
    passes (omits_column t) i.columns
    || has_row_of_other_length (length (given_names t i.columns)) i.rows

-- 30: a value of another kind than its column
unfoldable pub is_of_other_kind : TableDef → Name × Value → Bool
is_of_other_kind t given = differ (def_kind t given.0) (Some (kind_of_value given.1))

-- 31: a text of more code points than its column takes
unfoldable pub is_longer : ColumnKind → Value → Bool
is_longer (kind.Varchar n) (Text t) = nat_lt n (length (chars t))
is_longer _ _ = false

-- a text that is too long for the column of the value's name
unfoldable pub is_too_long : TableDef → Name × Value → Bool
is_too_long t given =
    list_any (λ (x : Column). bytes_eq given.0 x.name && is_longer x.kind given.1) t.columns

-- a value that is wrong in one of the two ways, among the values of a row, and of the rows
unfoldable pub is_faulty : ValueFault → TableDef → Name × Value → Bool
is_faulty fault.Kind t given = is_of_other_kind t given
is_faulty fault.Length t given = is_too_long t given

-- a value of the row is wrong in one of the two ways
unfoldable pub gives_faulty_value : ValueFault → TableDef → Option (List Name) → List Value → Bool
gives_faulty_value way t list row =
    list_any (λ (given : Name × Value). is_faulty way t given) (given_values t list row)

-- 30 and 31: some row gives a wrong value
unfoldable pub has_faulty_value : ValueFault → TableDef → InsertRows → Bool
has_faulty_value way t i =
    list_any (λ (row : List Value). gives_faulty_value way t i.columns row) i.rows

-- 41: the row's period does not end after its start
unfoldable pub given_value : TableDef → Option (List Name) → List Value → Name → Option Value
given_value t list row name =
    option_map (λ (given : Name × Value). given.1)
    (find (λ (given : Name × Value). bytes_eq name given.0) (given_values t list row))

-- the value that a row gives for the column at a place
unfoldable pub value_for : TableDef → Option (List Name) → List Value → ℕ → Option Value
value_for t list row place =
    option_and_then (λ (x : Column). given_value t list row x.name) (slice_get t.columns place)

-- two dates, of which the second is not after the first
unfoldable pub is_no_period : Option Value → Option Value → Bool
is_no_period (Some (Date start)) (Some (Date end)) = int_le end start
is_no_period _ _ = false

-- the row gives dates without a day between them for the start and the end of its period
unfoldable pub gives_no_period : TableDef → Option (List Name) → List Value → Bool
gives_no_period t list row =
    is_no_period (value_for t list row t.period.start) (value_for t list row t.period.end)

-- 41: some row gives a period without a day
unfoldable pub has_no_period : TableDef → InsertRows → Bool
has_no_period t i = list_any (λ (row : List Value). gives_no_period t i.columns row) i.rows

-- ==== the whole ====

-- 24 to 29, over the table that exists: the list of columns and the lengths of the rows
abbrev pub shape_conditions : TableDef → InsertRows → List RefusalCondition
shape_conditions t i =
    (UnknownColumn, lists_unknown t i)
    ∷ (AmbiguousColumn, lists_ambiguous t i)
    ∷ (DuplicateName, repeats_column i)
    ∷ (PeriodColumn, lists_system t i)
    ∷ (ColumnCount, has_other_count t i)
    ∷ []

-- 30 and 31: the values
abbrev pub value_conditions : TableDef → InsertRows → List RefusalCondition
value_conditions t i =
    (TypeMismatch, has_faulty_value fault.Kind t i)
    ∷ (TextTooLong, has_faulty_value fault.Length t i)
    ∷ []

-- the refusals that INSERT may get by its statement and the catalog, each with its condition, but
-- for an empty period. The limit on its tokens is judged on the text; no other limit is about
-- INSERT.
abbrev pub insert_conditions : List TableDef → InsertRows → List RefusalCondition
insert_conditions catalog i =
    (UnknownTable, lacks_table catalog i)
    ∷ (UnknownColumn, of_table (λ t. lists_unknown t i) catalog i)
    ∷ (AmbiguousColumn, of_table (λ t. lists_ambiguous t i) catalog i)
    ∷ (DuplicateName, repeats_column i)
    ∷ (PeriodColumn, of_table (λ t. lists_system t i) catalog i)
    ∷ (ColumnCount, of_table (λ t. has_other_count t i) catalog i)
    ∷ (TypeMismatch, of_table (λ t. has_faulty_value fault.Kind t i) catalog i)
    ∷ (TextTooLong, of_table (λ t. has_faulty_value fault.Length t i) catalog i)
    ∷ []

-- 41: a row whose period does not end after its start; the given rows decide it
abbrev pub gives_empty_row : List TableDef → InsertRows → Bool
gives_empty_row catalog i = of_table (λ t. has_no_period t i) catalog i
