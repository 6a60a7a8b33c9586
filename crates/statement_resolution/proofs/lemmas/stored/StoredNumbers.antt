-- The tests of an accepted stored query have positions, and their periods have days.
use Rattle.std.proofs.Common.{◌≡◌, ◌∙◌, true, false, List, [], Option, Some, ap, arith, refl, subst, sym}
use Rattle.std.specs.Prelude.{int_le, int_lt}
use Rattle.std.specs.Option.{option_map}
use Rattle.sql_statements.specs.Trees.{Condition}
use Rattle.sql_statements.specs.declared.statement.ColumnReference.{ColumnReference}
use Rattle.sql_statements.specs.declared.statement.PeriodOperand.{PeriodOperand}
use Rattle.sql_statements.specs.declared.statement.PeriodOperand.TheVariants.{Named, Dates}
use Rattle.sql_statements.specs.declared.statement.StoredTest.{StoredTest}
use Rattle.sql_statements.specs.declared.tree.Tree.{Tree}
use Rattle.sql_statements.specs.declared.statement.StoredTest.TheVariants.{Values, Periods, ContainsDay}
use Rattle.catalog_core.specs.query.Selection.{value_position}
use Rattle.statement_resolution.proofs.lemmas.conditions.Numbers.{compare_placed, where_agrees}
use Rattle.statement_resolution.proofs.lemmas.judged.FaultSums.{both_clear}
use Rattle.statement_resolution.specs.Faults.{no_faults, where_faults}
use Rattle.statement_resolution.proofs.lemmas.query.SeenColumns.{own_place, own_there}
use Rattle.statement_resolution.specs.Positions.{ReplacesWhere}
use Rattle.statement_resolution.specs.TableFaults.{period_faults, test_faults}
use Rattle.statement_resolution.specs.query.Faults.{matches_among}
use Rattle.statement_resolution.specs.query.Places.{place_among}
use Rattle.statement_resolution.specs.query.Scopes.{SeenColumn, own_columns}
use Rattle.statement_resolution.specs.stored.StoredPlacing.{placed_days, placed_test}
use Rattle.statement_resolution.specs.stored.StoredQueries.{PlainSide, Compared, HasDay, Related, ResolvesStoredWhere, test_parts, written_parts, written_side}
use Rattle.catalog_core.specs.declared.condition.CompareValues.{CompareValues}
use Rattle.catalog_core.specs.declared.stored.VersionTest.{VersionTest}
use Rattle.statement_resolution.specs.declared.faults.Faults.{Faults}
use Rattle.catalog_core.specs.declared.table.TableDef.{TableDef}

days_placed : (t : TableDef) (side : PeriodOperand) → period_faults t side ≡ no_faults → placed_days side ≡ written_side side
unfolding period_faults
days_placed t (Named name) clean = refl
days_placed t (Dates start end) clean =
    let days : int_le end start ≡ false = ap (λ (f : Faults). f.empty) clean in
    let lasts : int_lt start end ≡ true = grind (arith, days) in
    rw lasts refl

test_placed : (t : TableDef) (leaf : StoredTest) → test_faults t (own_columns t) leaf ≡ no_faults → written_parts t leaf ≡ Some (placed_test (own_place t) leaf)
unfolding test_faults
test_placed t (Values c) clean =
    ap (option_map (λ (n : CompareValues). Compared n)) (compare_placed (matches_among (own_columns t)) (λ (r : ColumnReference). value_position t r.name) (own_place t) (own_there t) c clean)
test_placed t (Periods left predicate right) clean =
    let both = both_clear (period_faults t left) (period_faults t right) clean in
    ap (λ (side : PlainSide). Some (Related side predicate (written_side right))) (sym (days_placed t left both.0))
    ∙ ap (λ (side : PlainSide). Some (Related (placed_days left) predicate side)) (sym (days_placed t right both.1))
test_placed t (ContainsDay side day) clean =
    ap (λ (s : PlainSide). Some (HasDay s day)) (sym (days_placed t side clean))

pub stored_placed : (t : TableDef) (columns : List SeenColumn) (condition : Option (Condition StoredTest)) (numbered : Option (Tree VersionTest)) → columns ≡ own_columns t
    → where_faults (test_faults t (own_columns t)) condition ≡ no_faults → ReplacesWhere (λ leaf. Some (placed_test (place_among [] columns) leaf)) (λ leaf. Some (test_parts leaf)) condition numbered
    → ResolvesStoredWhere t condition numbered
stored_placed t columns condition numbered seen clean same =
    where_agrees (test_faults t (own_columns t)) (written_parts t) (λ leaf. Some (placed_test (own_place t) leaf)) (test_placed t) (λ leaf. Some (test_parts leaf)) condition numbered clean
    (subst (λ (cs : List SeenColumn). ReplacesWhere (λ leaf. Some (placed_test (place_among [] cs) leaf)) (λ leaf. Some (test_parts leaf)) condition numbered) seen same)
