use Rattle.std.proofs.Common.{List, Option, Some, refl, subst}
use Rattle.std.specs.Prelude.{MatchOption}
use Rattle.period_core.specs.declared.value.Value.{Value}
use Rattle.sequenced_ops.specs.Operations.{ReadsColumns}
use Rattle.sequenced_ops.proofs.Projections.{projection_pushed}
use Rattle.sequenced_ops.proofs.projection.project_into.Goals as goal

-- the values that were read are the row's
read : (c : goal.In_ok-push) → ReadsColumns c.args.columns.now c.args.row.now.values c.in-Some.values
read c =
    let columns = c.args.columns.now in
    let row = c.args.row.now in
    let found = subst (λ (l : List Value). MatchOption c.in_ok-values.field-0 ((r : List Value) → ReadsColumns columns l r → ⊥) (ReadsColumns columns l)) c.as_slice.ensures c.in_ok-values.ensures in
    subst (λ (o : Option (List Value)). MatchOption o ((r : List Value) → ReadsColumns columns row.values r → ⊥) (ReadsColumns columns row.values)) c.in-Some.is found

pub returns-in_ok-push-clause-added : goal.returns-in_ok-push-clause-added
returns-in_ok-push-clause-added c = λ day vs.
    rw c.in_ok-push.ensures.items (projection_pushed c.args.columns.now c.args.row.now c.in-Some.values c.args.rows.now.items (read c) day vs)

pub returns-in_ok-push-clause-behind : goal.returns-in_ok-push-clause-behind
returns-in_ok-push-clause-behind c = record {
  added = Some (record { values = c.in-Some.values; period = c.args.row.now.period });
  behind = c.in_ok-push.ensures.items;
  is = (refl, read c, refl);
}
