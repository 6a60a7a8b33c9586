use Rattle.std.proofs.Common.{◌≡◌, Less, Equal, Greater, rules}
use Rattle.std.proofs.lemmas.Result.{IfOk-weaker}
use Rattle.ordered_rows.specs.Targets.{side}
use Rattle.ordered_rows.proofs.Cuts.{at_here, at_lower, at_upper, cut_lower, cut_upper}
use Rattle.ordered_rows.proofs.Forked.{forked, shorter}
use Rattle.ordered_rows.proofs.tree.BalancedTree.+find.Goals as goal

pub find-requires : goal.find-requires
find-requires t c =
    let is = forked c.self.view_is c.in-Fork.is c.as_ref-fork.ensures in
    let less = shorter _ _ _ is in
    (search rules, cut_upper (side c.args.target) _ _ _ _ is c.requires)

pub find-requires-in-Greater : goal.find-requires-in-Greater
find-requires-in-Greater t c =
    let is = forked c.self.view_is c.in-Fork.is c.as_ref-fork.ensures in
    let less = shorter _ _ _ is in
    (search rules, cut_lower (side c.args.target) _ _ _ _ is c.requires)

pub returns-in-Less : goal.returns-in-Less
returns-in-Less t c =
    let is = forked c.self.view_is c.in-Fork.is c.as_ref-fork.ensures in
    let here : side c.args.target c.as_ref-fork.result.now.row ≡ Less = cc in
    IfOk-weaker _ _ _ (λ found. at_upper (side c.args.target) _ _ _ _ is c.requires _ found here) c.find.ensures

pub returns-in-Greater : goal.returns-in-Greater
returns-in-Greater t c =
    let is = forked c.self.view_is c.in-Fork.is c.as_ref-fork.ensures in
    let here : side c.args.target c.as_ref-fork.result.now.row ≡ Greater = cc in
    IfOk-weaker _ _ _ (λ found. at_lower (side c.args.target) _ _ _ _ is c.requires _ found here) c.find-in-Greater.ensures

pub returns-in_ok-copy_from-in-Equal : goal.returns-in_ok-copy_from-in-Equal
returns-in_ok-copy_from-in-Equal t c =
    let is = forked c.self.view_is c.in-Fork.is c.as_ref-fork.ensures in
    let here : side c.args.target c.as_ref-fork.result.now.row ≡ Equal = cc in
    at_here (side c.args.target) _ _ _ _ is c.requires _ here (cc (c.in_ok-copy_from-in-Equal.ensures.ok))
