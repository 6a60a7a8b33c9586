use Rattle.std.proofs.Common.{◌≡◌, ◌∷◌, ◌-◌, List, length, take, drop, refl, sym, subst}
use Rattle.period_core.specs.declared.value.Value.{Value}
use Rattle.snapshot_audit.specs.Sets.{IsAscending, NoneBelow}
use Rattle.snapshot_audit.proofs.SetSteps.{ArePassed, passed_none, passed_more, none_below_from}
use Rattle.snapshot_audit.proofs.SelectSteps.{first_of}
use Rattle.snapshot_audit.proofs.set_operations.not_below.Goals as goal

pub loop-rest-init : goal.loop-rest-init
loop-rest-init c = passed_none c.args.values.now c.args.others.now c.requires

pub loop-rest-preserved : goal.loop-rest-preserved
loop-rest-preserved c =
    let rest : List (List Value) = c.loop-rest.rest.now in
    let after : List (List Value) = take (length rest - 1) (drop 1 rest) in
    let is : rest ≡ c.other-item.result ∷ after = first_of rest c.other-item.result c.in-len1-up.len_at_least c.other-item.is in
    passed_more c.args.values.now c.other-item.result c.args.others.now after (c.if-not-is_below.ensures.0 refl)
    (subst (ArePassed c.args.values.now c.args.others.now) is c.loop-rest.invariant)

pub returns-then-not-is_below-clause-bound : goal.returns-then-not-is_below-clause-bound
returns-then-not-is_below-clause-bound c =
    let rest : List (List Value) = c.loop-rest.rest.now in
    let after : List (List Value) = take (length rest - 1) (drop 1 rest) in
    let is : rest ≡ c.other-item.result ∷ after = first_of rest c.other-item.result c.in-len1-up.len_at_least c.other-item.is in
    subst (NoneBelow c.args.values.now) (sym is)
    (none_below_from c.args.values.now c.other-item.result after (λ less. let wrong = c.if-not-is_below.ensures.1 less in cc) (subst IsAscending is c.loop-rest.invariant.ascending))
