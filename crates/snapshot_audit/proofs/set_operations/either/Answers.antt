use Rattle.std.proofs.Common.{◌≡◌, ◌⊎◌, ◌++◌, List, inl, inr, sym, subst}
use Rattle.std.specs.List.{Contains}
use Rattle.std.proofs.lemmas.List.Elements.{Contains-append_left, Contains-append_right, Contains-append_cases}
use Rattle.std.proofs.lemmas.Result.{IfOk-weaker}
use Rattle.period_core.specs.declared.value.Value.{Value}
use Rattle.snapshot_audit.proofs.Once.{set_from_once}
use Rattle.snapshot_audit.proofs.set_operations.either.Goals as goal

pub returns : goal.returns
returns c =
    let left : List (List Value) = c.args.left.items in
    let right : List (List Value) = c.args.right.items in
    let both : List (List Value) = c.append.new.self.items in
    let is : both ≡ left ++ right = c.in_ok-append.ensures.items in
    IfOk-weaker c.sorted_once.result _ _ (λ once sorted. set_from_once (λ values. Contains left values ⊎ Contains right values) both once.items (λ values. (
      λ h. Contains-append_cases left right values (subst (λ l. Contains l values) is h),
      λ h. subst (λ l. Contains l values) (sym is) (elim h [ inl l ↦ Contains-append_left left right values l | inr r ↦ Contains-append_right left right values r ]),
    )) sorted) c.sorted_once.ensures
