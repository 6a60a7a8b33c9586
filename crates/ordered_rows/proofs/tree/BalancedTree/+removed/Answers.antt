use Rattle.std.proofs.Common.{◌≡◌, ◌<◌, ◌≤◌, ◌+◌, ◌-◌, ◌∷◌, ◌∙◌, drop, length, refl, rules, subst, sym}
use Rattle.std.specs.Option.{MatchOption}
use Rattle.ordered_rows.proofs.Forked.{forked}
use Rattle.ordered_rows.proofs.Numbers.{beyond, counted, nth_here, nth_right, option_weaker, past, removed_here, removed_right}
use Rattle.ordered_rows.proofs.tree.BalancedTree.+removed.Goals as goal

pub returns-in-Equal-clause-rest : goal.returns-in-Equal-clause-rest
returns-in-Equal-clause-rest t c =
    let is = forked c.self.view_is c.in-Fork.is refl in
    let same : c.args.at ≡ c.count-left.result = search rules in
    let here = counted _ _ (rw (c.deref.ensures, c.in-Fork.fork-is) at c.count-left.ensures) (rw same at c.requires) ∙ sym same in
    let made = removed_here _ _ _ _ is c.args.at here in
    search rules

pub returns-in-Equal-clause-taken : goal.returns-in-Equal-clause-taken
returns-in-Equal-clause-taken t c =
    let is = forked c.self.view_is c.in-Fork.is refl in
    let same : c.args.at ≡ c.count-left.result = search rules in
    let here = counted _ _ (rw (c.deref.ensures, c.in-Fork.fork-is) at c.count-left.ensures) (rw same at c.requires) ∙ sym same in
    let found = nth_here _ _ _ _ is c.args.at here in
    search rules

pub returns-in-Greater-clause-rest : goal.returns-in-Greater-clause-rest
returns-in-Greater-clause-rest t c =
    let is = forked c.self.view_is c.in-Fork.is refl in
    let over : c.count-left.result < c.args.at = search rules in
    let number = past _ _ c.args.at (rw (c.deref.ensures, c.in-Fork.fork-is) at c.count-left.ensures) over c.requires in
    let made = removed_right _ _ _ _ is c.args.at _ number.0 in
    search rules

pub returns-in-Greater-clause-taken : goal.returns-in-Greater-clause-taken
returns-in-Greater-clause-taken t c =
    let is = forked c.self.view_is c.in-Fork.is refl in
    let over : c.count-left.result < c.args.at = search rules in
    let number = past _ _ c.args.at (rw (c.deref.ensures, c.in-Fork.fork-is) at c.count-left.ensures) over c.requires in
    let k = c.args.at - c.count-left.result - 1 in
    let right : c.take-in-Greater.result.rows ≡ c.in-Fork.fork.value.right.rows = search rules in
    option_weaker _ _ _ _ _ (beyond _ _ _ _ is c.args.at _ number.0) (λ fork. nth_right _ _ _ _ is c.args.at _ fork.value.row number.0)
    (subst (λ side. MatchOption c.removed-rest-in-Greater.result.1 (length side ≤ k) (λ fork. drop k side ≡ fork.value.row ∷ drop (k + 1) side))
    right c.removed-rest-in-Greater.ensures.taken)
