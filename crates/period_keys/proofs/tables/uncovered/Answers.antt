use Rattle.std.proofs.Common.{◌≡◌, ◌∙◌, ℕ, List, ap, subst}
use Rattle.period_keys.specs.Keys.{IsLeastOf, IsUncovered}
use Rattle.period_keys.specs.Positions.{positions_of_places}
use Rattle.period_keys.proofs.tables.uncovered.Goals as goal

pub returns : goal.returns
returns c =
    let own : c.as_slice-3.result.now ≡ positions_of_places c.args.child.now c.args.reference.now.own =
    c.as_slice-3.ensures.value ∙ c.in_ok-own.ensures ∙ ap (positions_of_places c.args.child.now) c.as_slice.ensures in
    let keys : c.as_slice-4.result.now ≡ positions_of_places c.args.parent.now c.args.reference.now.keys =
    c.as_slice-4.ensures.value ∙ c.in_ok-keys.ensures ∙ ap (positions_of_places c.args.parent.now) c.as_slice-2.ensures in
    subst (λ (positions : List ℕ). IsLeastOf (IsUncovered positions c.args.children.now (positions_of_places c.args.parent.now c.args.reference.now.keys) c.args.parents.now) c.in_ok-found.found) own
    (subst (λ (positions : List ℕ). IsLeastOf (IsUncovered c.as_slice-3.result.now c.args.children.now positions c.args.parents.now) c.in_ok-found.found) keys c.in_ok-found.ensures)
