use Rattle.std.proofs.Common.{◌≡◌, List, sym, ap, subst}
use Rattle.std.proofs.lemmas.Result.{IfOk-weaker}
use Rattle.period_core.specs.declared.value.Value.{Value}
use Rattle.catalog_core.specs.declared.query.resolved.Query as code
use Rattle.catalog_core.specs.query.Queries.{Query, both, plain_query}
use Rattle.history_model.specs.OrdinaryQuery.{InQuery}
use Rattle.snapshot_audit.specs.ActiveRows.{VisibleInActive}
use Rattle.snapshot_audit.specs.Sets.{ListsSet}
use Rattle.snapshot_audit.proofs.SetSteps.{combined_lists}
use Rattle.snapshot_audit.proofs.evaluation.+evaluated.Goals as goal

pub returns-in-Select : goal.returns-in-Select
returns-in-Select t c =
    IfOk-weaker c.selected_set.result _ _ (λ set is. subst (λ (q : code.Query). ListsSet (InQuery (VisibleInActive c.args.seen.now) (plain_query q)) set.items) (sym c.in-Select.is) is) c.selected_set.ensures

pub combined-requires : goal.combined-requires
combined-requires t c = record {
  left = c.in_ok-first-in-Combined.ensures.ascending;
  right = c.in_ok-second-in-Combined.ensures.ascending;
}

pub returns-in_ok-second-in-Combined : goal.returns-in_ok-second-in-Combined
returns-in_ok-second-in-Combined t c =
    let InSet : Query → List Value → Type 0 = InQuery (VisibleInActive c.args.seen.now) in
    let first : List (List Value) = c.in_ok-first-in-Combined.first.items in
    let second : List (List Value) = c.in_ok-second-in-Combined.second.items in
    let is : plain_query c.args.query.now ≡ both c.in-Combined.operator (plain_query c.in-Combined.left.value) (plain_query c.in-Combined.right.value) = ap plain_query c.in-Combined.is in
    let left : ListsSet (InSet (plain_query c.in-Combined.left.value)) first = subst (λ (q : code.Query). ListsSet (InSet (plain_query q)) first) c.deref.ensures c.in_ok-first-in-Combined.ensures in
    let right : ListsSet (InSet (plain_query c.in-Combined.right.value)) second = subst (λ (q : code.Query). ListsSet (InSet (plain_query q)) second) c.deref-in-Combined.ensures c.in_ok-second-in-Combined.ensures in
    IfOk-weaker c.combined.result _ _ (λ set lists. subst (λ (q : Query). ListsSet (InSet q) set.items) (sym is)
    (combined_lists c.in-Combined.operator (InSet (plain_query c.in-Combined.left.value)) (InSet (plain_query c.in-Combined.right.value)) first second set.items left right lists)) c.combined.ensures
