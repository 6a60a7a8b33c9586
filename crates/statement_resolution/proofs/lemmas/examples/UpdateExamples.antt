-- Worked examples: which refusal an UPDATE gets.
use Rattle.std.proofs.Common.{◌≡◌, ◌∷◌, ℕ, pos, List, [], Option, Some, None, refl}
use Rattle.std.specs.Prelude.{codes}
use Rattle.std.specs.Str.{chars}
use Rattle.period_core.specs.declared.refusal.Refusal.{Refusal}
use Rattle.period_core.specs.declared.refusal.Refusal.TheVariants.{UnknownColumn}
use Rattle.period_core.specs.declared.value.Value.{Value}
use Rattle.period_core.specs.declared.value.Value.TheVariants.{Int, Text}
use Rattle.sql_statements.specs.Trees.{Condition, Update, test, negated}
use Rattle.sql_statements.specs.declared.statement.Assignment.{Assignment}
use Rattle.sql_statements.specs.declared.statement.Compare.{Compare}
use Rattle.sql_statements.specs.declared.statement.Comparison.TheVariants.{Equal}
use Rattle.sql_statements.specs.declared.statement.Operand.TheVariants.{Column, Literal}
use Rattle.sql_statements.specs.declared.statement.Portion.{Portion}
use Rattle.catalog_core.proofs.lemmas.examples.Tables.{dep}
use Rattle.statement_resolution.specs.TableFaults.{is_set_again, portion_faults, set_faults, sets_twice}
use Rattle.statement_resolution.specs.query.Faults.{compare_faults, match_faults}
use Rattle.statement_resolution.specs.change.Insertion.{is_longer, is_of_other_kind, is_too_long}
use Rattle.catalog_core.specs.RefusalConditions.{first_holding}
use Rattle.catalog_core.specs.table.Kinds.{kind_of_column, same_kind, differ}
use Rattle.catalog_core.specs.table.Matches.{is_matching}
use Rattle.catalog_core.specs.table.Naming.{Name, find_among, matches_among}
use Rattle.statement_resolution.specs.change.PortionChanges.{update_conditions, update_faults}
use Rattle.catalog_core.specs.query.Selection.{names_non_value_column}
use Rattle.catalog_core.specs.table.TableWords.{def_kind, is_value_column, number_of, table_of_name}

abbrev set : Name → Value → Assignment
set name value = record { column = name; value = value }

abbrev equal : Option Name → Name → Value → Condition Compare
equal qualifier name value = test (record { left = Column (record { qualifier = qualifier; name = name }); comparison = Equal; right = Literal value })

abbrev update : Name → Option Portion → List Assignment → Option (Condition Compare) → Update
update table portion assignments condition = record { table = table; portion = portion; assignments = assignments; condition = condition }

abbrev refusal : Update → Option Refusal
refusal u = first_holding (update_conditions (dep ∷ []) u)

abbrev named : Assignment
named = set (codes "NAME") (Text (codes "AB"))

abbrev over : Name → ℕ → ℕ → Option Portion
over name from to = Some (record { period = name; from = pos from; to = pos to })

abbrev of_dep : List Assignment → Option (Condition Compare) → Update
of_dep assignments condition = update (codes "DEP") (over (codes "DP") 1 2) assignments condition

record Updates : Type 0 where
  accepted : refusal (of_dep (named ∷ []) (Some (equal (Some (codes "DEP")) (codes "DNO") (Int (pos 5))))) ≡ None
  -- a qualifier that is not the table's name, under NOT
  other_qualifier : refusal (of_dep (named ∷ []) (Some (negated (equal (Some (codes "D")) (codes "DNO") (Int (pos 5)))))) ≡ Some UnknownColumn

updates : Updates
unfolding match_faults compare_faults portion_faults set_faults is_set_again sets_twice is_longer is_of_other_kind is_too_long kind_of_column same_kind differ is_matching update_faults names_non_value_column def_kind find_among matches_among is_value_column number_of table_of_name chars
updates = record {
  accepted = refl;
  other_qualifier = refl;
}
