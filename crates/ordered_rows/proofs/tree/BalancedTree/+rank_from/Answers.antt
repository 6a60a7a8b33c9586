use Rattle.std.proofs.Common.{◌≡◌, true, false, is_lt, rules}
use Rattle.sqlite_value.specs.Keys.{prefix_cmp}
use Rattle.ordered_rows.proofs.Forked.{forked, shorter}
use Rattle.ordered_rows.proofs.Numbers.{told}
use Rattle.ordered_rows.proofs.Walks.{from_left, from_right, seekable_lower, seekable_upper}
use Rattle.ordered_rows.proofs.tree.BalancedTree.+rank_from.Goals as goal

pub rank_from-at-requires : goal.rank_from-at-requires
rank_from-at-requires t c =
    let is = forked c.self.view_is c.in-Fork.is c.as_ref-fork.ensures in
    let less = shorter _ _ _ is in
    (search rules, seekable_upper _ _ _ _ is c.args.probe.now.order c.args.probe.now.row.now c.requires)

pub rank_from-requires : goal.rank_from-requires
rank_from-requires t c =
    let is = forked c.self.view_is c.in-Fork.is c.as_ref-fork.ensures in
    let less = shorter _ _ _ is in
    (search rules, seekable_lower _ _ _ _ is c.args.probe.now.order c.args.probe.now.row.now c.requires)

pub returns-then-is_lt-clause-is : goal.returns-then-is_lt-clause-is
returns-then-is_lt-clause-is t c = λ low.
    let is = forked c.self.view_is c.in-Fork.is c.as_ref-fork.ensures in
    let here : is_lt (prefix_cmp c.args.probe.now.order c.as_ref-fork.result.now.row c.args.probe.now.row.now) ≡ true = cc in
    let number = told _ _ _ c.number_right.ensures low in
    from_right _ _ _ _ is c.args.probe.now.order c.args.probe.now.row.now c.requires _ _ here number.0 (c.rank_from-at.ensures.is number.1)

pub returns-else-is_lt-clause-is : goal.returns-else-is_lt-clause-is
returns-else-is_lt-clause-is t c = λ low.
    let is = forked c.self.view_is c.in-Fork.is c.as_ref-fork.ensures in
    let here : is_lt (prefix_cmp c.args.probe.now.order c.as_ref-fork.result.now.row c.args.probe.now.row.now) ≡ false = cc in
    from_left _ _ _ _ is c.args.probe.now.order c.args.probe.now.row.now c.requires _ here c.rank_from.ensures.within (c.rank_from.ensures.is low)
