use Rattle.std.proofs.Common.{sym, subst}
use Rattle.std.specs.List.{Contains}
use Rattle.std.proofs.lemmas.Result.{IfOk-weaker}
use Rattle.sql_statements.specs.declared.tree.SetOperator.{SetOperator}
use Rattle.sql_statements.specs.declared.tree.SetOperator.TheVariants.{Except, Intersect}
use Rattle.history_model.specs.OrdinaryQuery.{InCombined}
use Rattle.snapshot_audit.specs.Sets.{ListsSet}
use Rattle.snapshot_audit.proofs.set_operations.combined.Goals as goal

pub returns-in-Union : goal.returns-in-Union
returns-in-Union c =
    IfOk-weaker c.either.result _ _ (λ set is. subst (λ (o : SetOperator). ListsSet (InCombined o (Contains c.args.left.items) (Contains c.args.right.items)) set.items) (sym c.in-Union.is) is) c.either.ensures

pub returns-in-Except : goal.returns-in-Except
returns-in-Except c =
    IfOk-weaker c.without.result _ _ (λ set is. subst (λ (o : SetOperator). ListsSet (InCombined o (Contains c.args.left.items) (Contains c.args.right.items)) set.items) (sym c.in-Except.is)
    (subst (λ right. ListsSet (InCombined Except (Contains c.args.left.items) (Contains right)) set.items) c.as_slice.ensures.value is)) c.without.ensures

pub returns-in-Intersect : goal.returns-in-Intersect
returns-in-Intersect c =
    IfOk-weaker c.common.result _ _ (λ set is. subst (λ (o : SetOperator). ListsSet (InCombined o (Contains c.args.left.items) (Contains c.args.right.items)) set.items) (sym c.in-Intersect.is)
    (subst (λ right. ListsSet (InCombined Intersect (Contains c.args.left.items) (Contains right)) set.items) c.as_slice-in-Intersect.ensures.value is)) c.common.ensures
