use Rattle.std.proofs.Common.{◌≡◌, ◌∙◌, List, ap, map, subst, sym}
use Rattle.period_core.specs.declared.row.PeriodRow.{PeriodRow}
use Rattle.temporal_model.specs.Answer.{IsCertified, IsInAnswerOrder, IsShortest}
use Rattle.temporal_model.specs.Snapshot.{Equivalent}
use Rattle.temporal_model.specs.Witness.{witness_of}
use Rattle.catalog_core.specs.query.Queries.{plain_query}
use Rattle.history_model.specs.OrdinaryQuery.{InAnswerOver}
use Rattle.script_engine.proofs.Answering.{made_answer}
use Rattle.script_engine.proofs.engine.sequenced_queries.evaluate.Goals as goal

pub returns-clause-right : goal.returns-clause-right
returns-clause-right c =
    let found = c.in_ok-rows-2.ensures in
    let made : List PeriodRow = c.in_ok-rows.rows.items in
    let rows : c.in_ok-rows-2.rows.items ≡ c.from_vec.result = sym c.from_vec.ensures in
    made_answer (InAnswerOver (plain_query c.args.query.now) c.args.tables.now) made _ c.in_ok-rows.ensures
    (subst (λ (r : List PeriodRow). Equivalent made r) rows found.equivalent)
    (subst IsShortest rows found.shortest)
    (subst IsInAnswerOrder rows found.ordered)
    (subst IsCertified rows found.certified)
    (c.from_vec-2.ensures ∙ c.in_ok-witnesses.ensures.days ∙ ap (map witness_of) (c.as_slice.ensures.value ∙ rows))
