-- Sequenced queries: when they are refused.
use Rattle.std.specs.Prelude.{◌||◌, Bool, List, ◌∷◌, length, nat_lt}
use Rattle.std.specs.List.{list_any}
use Rattle.period_core.specs.declared.refusal.Refusal.TheVariants.{LimitReached}
use Rattle.sql_statements.specs.Trees.{Query, Select}
use Rattle.statement_resolution.specs.Faults.{fault_conditions}
use Rattle.statement_resolution.specs.Limits.{most_items, most_operators, most_select_tables}
use Rattle.catalog_core.specs.RefusalConditions.{RefusalCondition}
use Rattle.statement_resolution.specs.query.Faults.{query_faults}
use Rattle.statement_resolution.specs.query.QueryParts.{operator_count, selects_of}
use Rattle.statement_resolution.specs.query.Scopes.{tables_of}
use Rattle.catalog_core.specs.declared.table.TableDef.{TableDef}

-- more than 4 table references or 32 items
unfoldable pub is_too_long : Select → Bool
is_too_long select =
    nat_lt most_select_tables (length (tables_of select))
    || nat_lt most_items (length select.items)

-- 21: more than 16 set operators, or a select that is above a limit
abbrev pub is_above_limit : Query → Bool
is_above_limit query =
    nat_lt most_operators (operator_count query) || list_any is_too_long (selects_of query)

-- the refusals that a query may get, each with its condition: no query has a text that is too long
-- or an empty period. The condition of too many tokens is judged on the text.
abbrev pub refusals_of : List TableDef → Query → List RefusalCondition
refusals_of catalog query =
    (LimitReached, is_above_limit query) ∷ fault_conditions (query_faults catalog query)
