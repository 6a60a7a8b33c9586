use Rattle.std.proofs.Common.{◌≡◌, [], List, ℕ, subst, ◌∙◌}
use Rattle.std.specs.Global.{Vec}
use Rattle.period_core.specs.declared.row.PeriodRow.{PeriodRow}
use Rattle.sequenced_ops.specs.declared.keyed.KeyedRow.{KeyedRow}
use Rattle.sequenced_ops.specs.declared.keyed.Side.TheVariants.{Left, Right}
use Rattle.sequenced_ops.specs.Joining.{columns_on}
use Rattle.sequenced_ops.proofs.Gathered.{gives_weaker}
use Rattle.sequenced_ops.proofs.Logic.{if_ok_weaker}
use Rattle.sequenced_ops.proofs.JoinRows.{sorted_rows, joined_rows, both_keyed, AreBothSides, KeyedMore}
use Rattle.sequenced_ops.proofs.joins.join_equal.Goals as goal

pub pairs_of-requires : goal.pairs_of-requires
pairs_of-requires c = sorted_rows c.sort.new.self.items c.in_ok-sort.ensures.sorted

pub returns : goal.returns
returns c =
    let es = c.args.equalities.now in
    let left : List PeriodRow = c.args.left.now in
    let right : List PeriodRow = c.args.right.now in
    let first : List KeyedRow = c.push_keyed.new.keyed.items in
    let keyed : List KeyedRow = c.push_keyed-2.new.keyed.items in
    let sorted : List KeyedRow = c.sort.new.self.items in
    let left_is : c.as_slice.result.now ≡ columns_on Left es = c.as_slice.ensures.value ∙ c.in_ok-left_columns.ensures in
    let right_is : c.as_slice-2.result.now ≡ columns_on Right es = c.as_slice-2.ensures.value ∙ c.in_ok-right_columns.ensures in
    let made_left : KeyedMore Left c.as_slice.result.now c.new-sorted.result.items first left = record {
      kept = c.in_ok-push_keyed.ensures.kept;
      added = c.in_ok-push_keyed.ensures.added;
      others = c.in_ok-push_keyed.ensures.others;
    } in
    let made_right : KeyedMore Right c.as_slice-2.result.now first keyed right = record {
      kept = c.in_ok-push_keyed-2.ensures.kept;
      added = c.in_ok-push_keyed-2.ensures.added;
      others = c.in_ok-push_keyed-2.ensures.others;
    } in
    let lefts : KeyedMore Left (columns_on Left es) [] first left =
    subst (λ (l : List KeyedRow). KeyedMore Left (columns_on Left es) l first left) c.new-sorted.ensures.items
    (subst (λ (l : List ℕ). KeyedMore Left l c.new-sorted.result.items first left) left_is made_left) in
    let rights : KeyedMore Right (columns_on Right es) first keyed right =
    subst (λ (l : List ℕ). KeyedMore Right l first keyed right) right_is made_right in
    let both : AreBothSides es left right keyed = both_keyed es left right first keyed lefts rights in
    if_ok_weaker c.pairs_of.result _ _
    (λ (rows : Vec PeriodRow). gives_weaker _ _ c.args.conjuncts.now c.args.output rows.items
    (λ (pairs : List PeriodRow). joined_rows c.args.conjuncts.now es left right pairs keyed sorted both c.in_ok-sort.ensures.permutation))
    c.pairs_of.ensures
