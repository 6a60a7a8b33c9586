use Rattle.std.proofs.Common.{◌≡◌, ◌∙◌, ℕ, List, ap, subst}
use Rattle.period_keys.specs.Keys.{IsKeyClash, IsLeastOf}
use Rattle.period_keys.specs.Positions.{positions_of_places}
use Rattle.period_keys.proofs.tables.key_clash.Goals as goal

pub returns : goal.returns
returns c =
    let key : c.as_slice-2.result.now ≡ positions_of_places c.args.def.now c.args.def.now.key =
    c.as_slice-2.ensures.value ∙ c.in_ok-key.ensures ∙ ap (positions_of_places c.args.def.now) c.as_slice.ensures in
    subst (λ (positions : List ℕ). IsLeastOf (IsKeyClash positions c.args.rows.now) c.in_ok-found.found) key c.in_ok-found.ensures
