use Rattle.std.proofs.Common.{◌≡◌, ◌++◌, ℕ, List, true, subst}
use Rattle.std.specs.Prelude.{slice_get}
use Rattle.std.proofs.lemmas.Option.{IfSome_then}
use Rattle.period_core.specs.declared.value.Value.{Value}
use Rattle.sql_statements.specs.declared.statement.Comparison.{Comparison}
use Rattle.sql_statements.specs.declared.statement.Comparison.TheVariants.{Equal}
use Rattle.catalog_core.specs.Conditions.{compared, compares, side_value}
use Rattle.catalog_core.specs.declared.condition.Comparand.{Comparand}
use Rattle.catalog_core.specs.declared.condition.Comparand.TheVariants.{Position}
use Rattle.catalog_core.specs.declared.condition.CompareValues.{CompareValues}
use Rattle.sequenced_ops.proofs.JoinKeys.{pair_equal, pair_equal_back}
use Rattle.sequenced_ops.proofs.key_joins.equality_of.Goals as goal

-- the comparison of two positions, in a row
positions_compared
    : (test : CompareValues) (left right : ℕ) (row : List Value) → test.comparison ≡ Equal
    → test.left ≡ Position left → test.right ≡ Position right → compares row test ≡ true
    → compared Equal (slice_get row left) (slice_get row right) ≡ true
positions_compared test left right row is one two met =
    subst (λ (r : Comparand). compared Equal (slice_get row left) (side_value r row) ≡ true) two
    (subst (λ (l : Comparand).
    compared Equal (side_value l row) (side_value test.right row) ≡ true) one
    (subst (λ (k : Comparison).
    compared k (side_value test.left row) (side_value test.right row) ≡ true) is met))

pub returns-in-Some : goal.returns-in-Some
returns-in-Some c = λ first second rest e f met.
    let arm = c.in-Equal-Position-Position in
    let row = (first ++ second) ++ rest in
    pair_equal c.args.width c.args.more arm.left arm.right c.in-Some.pair c.in-Some.ensures first
    second rest e f
    (positions_compared c.args.test.now arm.left arm.right row arm.is-0 arm.is-1 arm.is-2 met)

pub returns-in-None : goal.returns-in-None
returns-in-None c =
    let arm = c.in-Equal-Position-Position in
    IfSome_then c.column_pair-in-None.result c.column_pair-in-None.ensures
    (λ pair is first second rest e f met.
    let row = (first ++ second) ++ rest in
    pair_equal_back c.args.width c.args.more arm.right arm.left pair is first second rest e f
    (positions_compared c.args.test.now arm.left arm.right row arm.is-0 arm.is-1 arm.is-2 met))
