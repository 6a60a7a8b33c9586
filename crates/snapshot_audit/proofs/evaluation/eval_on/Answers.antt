use Rattle.std.proofs.Common.{◌↔◌, sym, subst}
use Rattle.std.proofs.lemmas.Result.{IfOk-weaker}
use Rattle.catalog_core.specs.query.Queries.{Query, plain_query}
use Rattle.history_model.specs.OrdinaryQuery.{InAnswerOver, InQuery}
use Rattle.snapshot_audit.specs.ActiveRows.{VisibleInActive}
use Rattle.snapshot_audit.proofs.ActiveFacts.{answered_alike}
use Rattle.snapshot_audit.proofs.Once.{set_by}
use Rattle.snapshot_audit.proofs.evaluation.eval_on.Goals as goal

pub returns : goal.returns
returns c =
    let query : Query = plain_query c.args.query.now in
    IfOk-weaker c.evaluated.result _ _ (λ set is. set_by (InQuery (VisibleInActive c.as_slice.result.now) query) (InAnswerOver query c.args.tables.now c.args.day) set.items is
    (λ row. subst (λ seen. InQuery (VisibleInActive seen) query row ↔ InAnswerOver query c.args.tables.now c.args.day row) (sym c.as_slice.ensures.value)
    (answered_alike c.args.tables.now c.in_ok-seen.seen.items c.args.day c.in_ok-seen.ensures query row))) c.evaluated.ensures
