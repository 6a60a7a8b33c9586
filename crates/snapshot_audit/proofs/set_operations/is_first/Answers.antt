use Rattle.std.proofs.Common.{◌≡◌, ◌∷◌, [], ◌-◌, List, length, take, drop, sym, subst, arith}
use Rattle.std.specs.List.{Contains}
use Rattle.std.proofs.lemmas.List.{nil_from_length}
use Rattle.period_core.specs.declared.value.Value.{Value}
use Rattle.temporal_model.proofs.Members.{Contains-here, Contains-nil}
use Rattle.snapshot_audit.specs.Sets.{IsAscending, NoneBelow}
use Rattle.snapshot_audit.proofs.SetSteps.{first_alone}
use Rattle.snapshot_audit.proofs.SelectSteps.{first_of}
use Rattle.snapshot_audit.proofs.set_operations.is_first.Goals as goal

pub returns-in_default : goal.returns-in_default
returns-in_default c =
    let none : c.args.others.now ≡ [] = nil_from_length c.args.others.now (omega (arith, c.in_default.len_below)) in
    (λ e. cc, λ h. absurd (Contains-nil c.args.values.now (subst (λ l. Contains l c.args.values.now) none h)))

pub returns : goal.returns
returns c =
    let others : List (List Value) = c.args.others.now in
    let values : List Value = c.args.values.now in
    let after : List (List Value) = take (length others - 1) (drop 1 others) in
    let is : others ≡ c.other-item.result ∷ after = first_of others c.other-item.result c.in-len1-up.len_at_least c.other-item.is in (
      λ e. subst (λ l. Contains l values) (sym is) (subst (Contains (c.other-item.result ∷ after)) (c.eq.ensures.same.0 e) (Contains-here c.other-item.result after)),
      λ h. c.eq.ensures.same.1 (first_alone values c.other-item.result after (subst IsAscending is c.requires.ascending) (subst (NoneBelow values) is c.requires.bound) (subst (λ l. Contains l values) is h)),
    )
