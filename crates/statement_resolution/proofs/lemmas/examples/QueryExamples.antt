-- Worked examples: which refusal a sequenced query of several tables gets, and what it is with positions for names.
use Rattle.std.proofs.Common.{◌≡◌, ◌∷◌, ℕ, List, [], Option, Some, None, map, refl}
use Rattle.std.specs.Prelude.{codes}
use Rattle.period_core.specs.declared.refusal.Refusal.{Refusal}
use Rattle.period_core.specs.declared.refusal.Refusal.TheVariants.{TypeMismatch, UnknownColumn}
use Rattle.sql_statements.specs.Trees as written
use Rattle.sql_statements.specs.Trees.{Condition, JoinChain, Query, all, combined, conditions_of, last, simple, step, test}
use Rattle.sql_statements.specs.declared.statement.ColumnReference.{ColumnReference}
use Rattle.sql_statements.specs.declared.statement.Compare.{Compare}
use Rattle.sql_statements.specs.declared.statement.Comparison.TheVariants as comparison
use Rattle.sql_statements.specs.declared.statement.Operand.{Operand}
use Rattle.sql_statements.specs.declared.statement.Operand.TheVariants as operand
use Rattle.sql_statements.specs.declared.statement.SelectItem.{SelectItem}
use Rattle.sql_statements.specs.declared.statement.TableReference.{TableReference}
use Rattle.sql_statements.specs.declared.tree.SetOperator.TheVariants.{Union, Except}
use Rattle.catalog_core.proofs.lemmas.examples.Tables.{dep}
use Rattle.catalog_core.specs.RefusalConditions.{first_holding}
use Rattle.catalog_core.specs.table.Kinds.{differ, kind_of_column, same_kind}
use Rattle.catalog_core.specs.table.Matches.{is_matching}
use Rattle.catalog_core.specs.table.Naming.{Name, matches_among, repeats}
use Rattle.catalog_core.specs.table.TableWords.{is_value_column, number_of, table_of_name}
use Rattle.catalog_core.specs.query.Queries.{both, one}
use Rattle.statement_resolution.specs.query.Faults.{compare_faults, match_faults, select_faults}
use Rattle.statement_resolution.specs.query.Refusals.{is_too_long, refusals_of}
use Rattle.statement_resolution.specs.query.Resolving.{ResolvesSelect, Placed, ResolvesTree, written_item, written_conjuncts}
use Rattle.catalog_core.specs.declared.condition.Comparand.TheVariants.{Position}
use Rattle.catalog_core.specs.declared.query.resolved.Select.{Select}
use Rattle.catalog_core.specs.declared.table.TableDef.{TableDef}

abbrev DEP : Name
DEP = codes "DEP"

abbrev catalog : List TableDef
catalog = dep ∷ []

-- a column without its table's name, and with it
abbrev column : Name → ColumnReference
column name = record { qualifier = None; name = name }

abbrev of : Name → Name → ColumnReference
of table name = record { qualifier = Some table; name = name }

abbrev item : ColumnReference → SelectItem
item c = record { column = c; new_name = None }

abbrev table : Name → TableReference
table name = record { table = name; window = None; new_name = None }

-- the table DEP by a new name
abbrev known_as : Name → TableReference
known_as name = record { table = DEP; window = None; new_name = Some name }

abbrev alone : TableReference → JoinChain
alone reference = record { first = reference; joins = [] }

abbrev equal : Operand → Operand → Condition Compare
equal left right = test (record { left = left; comparison = comparison.Equal; right = right })

abbrev same : ColumnReference → ColumnReference → Condition Compare
same left right = equal (operand.Column left) (operand.Column right)

abbrev joined : TableReference → TableReference → Condition Compare → JoinChain
joined left right condition = record { first = left; joins = record { reference = right; condition = condition } ∷ [] }

abbrev select : List ColumnReference → List JoinChain → Option (Condition Compare) → written.Select
select columns chains condition = record { items = map item columns; chains = chains; condition = condition }

abbrev X : Name
X = codes "X"

abbrev Y : Name
Y = codes "Y"

abbrev Z : Name
Z = codes "Z"

abbrev DNO : Name
DNO = codes "DNO"

abbrev NAME : Name
NAME = codes "NAME"

abbrev refusal : Query → Option Refusal
refusal query = first_holding (refusals_of catalog query)

abbrev numbers : written.Select
numbers = select (column DNO ∷ []) (alone (table DEP) ∷ []) None

abbrev names : written.Select
names = select (column NAME ∷ []) (alone (table DEP) ∷ []) None

-- FROM DEP Z, DEP X JOIN DEP Y ON ..
abbrev three : Condition Compare → Option (Condition Compare) → written.Select
three condition where_condition =
    select (of Y NAME ∷ of Z NAME ∷ []) (alone (known_as Z) ∷ joined (known_as X) (known_as Y) condition ∷ []) where_condition

record Refused : Type 0 where
  accepted : refusal (simple (three (same (of X DNO) (of Y DNO)) (Some (same (of Z DNO) (of Y DNO))))) ≡ None
  -- ON does not see an earlier chain
  other_chain : refusal (simple (three (same (of Z DNO) (of Y DNO)) None)) ≡ Some UnknownColumn
  other_kind : refusal (combined (simple numbers) (step Except (simple names) last)) ≡ Some TypeMismatch

refused : Refused
unfolding is_too_long select_faults compare_faults match_faults number_of table_of_name is_value_column matches_among repeats is_matching differ same_kind kind_of_column
refused = record {
  accepted = refl;
  other_chain = refl;
  other_kind = refl;
}

abbrev at : ℕ → ℕ → Placed
at left right = test (Some (record { left = Position left; comparison = comparison.Equal; right = Position right }))

record Positions : Type 0 where
  -- Z has the positions 0 and 1, X has 2 and 3, Y has 4 and 5; WHERE is cut at its AND
  conjuncts : written_conjuncts catalog (three (same (of X DNO) (of Y DNO)) (Some (all (conditions_of (same (of Z DNO) (of Y DNO) ∷ same (of X NAME) (of Z NAME) ∷ [])))))
      ≡ at 2 4 ∷ at 0 4 ∷ at 3 1 ∷ []
  items : map (written_item catalog (three (same (of X DNO) (of Y DNO)) None)) (map item (of Y NAME ∷ of Z NAME ∷ [])) ≡ (Some 5, NAME) ∷ (Some 1, NAME) ∷ []

positions : Positions
unfolding number_of table_of_name is_value_column kind_of_column
positions = record { conjuncts = refl; items = refl }

-- set operators apply from left to right: a EXCEPT b UNION c is the union of c with what EXCEPT leaves
from_left : (a b c : written.Select) (x y z : Select) → ResolvesSelect catalog a x → ResolvesSelect catalog b y → ResolvesSelect catalog c z
    → ResolvesTree catalog (combined (simple a) (step Except (simple b) (step Union (simple c) last))) (both Union (both Except (one x) (one y)) (one z))
from_left a b c x y z at_a at_b at_c = (one x, at_a, (one y, at_b, (one z, at_c, refl)))
