use Rattle.std.proofs.Common.{◌≡◌, sym, ◌∙◌, ap, subst}
use Rattle.std.specs.Global.{Vec}
use Rattle.period_core.specs.declared.row.PeriodRow.{PeriodRow}
use Rattle.sql_statements.specs.declared.tree.SetOperator.{SetOperator}
use Rattle.sql_statements.specs.declared.tree.SetOperator.TheVariants.{Union, Except, Intersect}
use Rattle.sequenced_ops.specs.Operations.{InDifference, InIntersection, InUnion, SnapshotsAre}
use Rattle.sequenced_ops.proofs.Logic.{if_ok_weaker}
use Rattle.history_model.specs.OrdinaryQuery.{InAnswerOver}
use Rattle.catalog_core.specs.query.Queries.{Query, both, one, plain_query}
use Rattle.catalog_core.specs.declared.query.resolved.Query as code
use Rattle.sequenced_ops.proofs.SelectRows.{difference_rows, intersection_rows, union_rows}
use Rattle.sequenced_ops.proofs.query_run.+run_part.Goals as goal

pub returns-in-Select : goal.returns-in-Select
returns-in-Select t c =
    let tables = c.args.tables.now in
    if_ok_weaker c.run_select.result
    (λ (rows : Vec PeriodRow). SnapshotsAre (InAnswerOver (one c.in-Select.select) tables) rows.items)
    (λ (rows : Vec PeriodRow). SnapshotsAre (InAnswerOver (plain_query c.args.query.now) tables) rows.items)
    (λ rows p. subst (λ (q : code.Query). SnapshotsAre (InAnswerOver (plain_query q) tables) rows.items) (sym c.in-Select.is) p)
    c.run_select.ensures

pub returns-in-Union : goal.returns-in-Union
returns-in-Union t c =
    let tables = c.args.tables.now in
    let left = c.in-Combined.left.value in
    let right = c.in-Combined.right.value in
    let first = c.in_ok-first-in-Combined.first.items in
    let second = c.in_ok-second-in-Combined.second.items in
    let is : plain_query c.args.query.now ≡ both Union (plain_query left) (plain_query right) =
    ap plain_query c.in-Combined.is ∙ ap (λ (o : SetOperator). both o (plain_query left) (plain_query right)) c.in-Union.is in
    let lefts : SnapshotsAre (InAnswerOver (plain_query left) tables) first =
    subst (λ (q : code.Query). SnapshotsAre (InAnswerOver (plain_query q) tables) first) c.deref.ensures c.in_ok-first-in-Combined.ensures in
    let rights : SnapshotsAre (InAnswerOver (plain_query right) tables) second =
    subst (λ (q : code.Query). SnapshotsAre (InAnswerOver (plain_query q) tables) second) c.deref-in-Combined.ensures c.in_ok-second-in-Combined.ensures in
    if_ok_weaker c.union.result
    (λ (rows : Vec PeriodRow). SnapshotsAre (InUnion first second) rows.items)
    (λ (rows : Vec PeriodRow). SnapshotsAre (InAnswerOver (plain_query c.args.query.now) tables) rows.items)
    (λ rows p. subst (λ (q : Query). SnapshotsAre (InAnswerOver q tables) rows.items) (sym is)
    (union_rows tables (plain_query left) (plain_query right) first second rows.items lefts rights p))
    c.union.ensures

pub returns-in-Except : goal.returns-in-Except
returns-in-Except t c =
    let tables = c.args.tables.now in
    let left = c.in-Combined.left.value in
    let right = c.in-Combined.right.value in
    let first = c.in_ok-first-in-Combined.first.items in
    let second = c.in_ok-second-in-Combined.second.items in
    let is : plain_query c.args.query.now ≡ both Except (plain_query left) (plain_query right) =
    ap plain_query c.in-Combined.is ∙ ap (λ (o : SetOperator). both o (plain_query left) (plain_query right)) c.in-Except.is in
    let lefts : SnapshotsAre (InAnswerOver (plain_query left) tables) first =
    subst (λ (q : code.Query). SnapshotsAre (InAnswerOver (plain_query q) tables) first) c.deref.ensures c.in_ok-first-in-Combined.ensures in
    let rights : SnapshotsAre (InAnswerOver (plain_query right) tables) second =
    subst (λ (q : code.Query). SnapshotsAre (InAnswerOver (plain_query q) tables) second) c.deref-in-Combined.ensures c.in_ok-second-in-Combined.ensures in
    if_ok_weaker c.difference.result
    (λ (rows : Vec PeriodRow). SnapshotsAre (InDifference first second) rows.items)
    (λ (rows : Vec PeriodRow). SnapshotsAre (InAnswerOver (plain_query c.args.query.now) tables) rows.items)
    (λ rows p. subst (λ (q : Query). SnapshotsAre (InAnswerOver q tables) rows.items) (sym is)
    (difference_rows tables (plain_query left) (plain_query right) first second rows.items lefts rights p))
    c.difference.ensures

pub returns-in-Intersect : goal.returns-in-Intersect
returns-in-Intersect t c =
    let tables = c.args.tables.now in
    let left = c.in-Combined.left.value in
    let right = c.in-Combined.right.value in
    let first = c.in_ok-first-in-Combined.first.items in
    let second = c.in_ok-second-in-Combined.second.items in
    let is : plain_query c.args.query.now ≡ both Intersect (plain_query left) (plain_query right) =
    ap plain_query c.in-Combined.is ∙ ap (λ (o : SetOperator). both o (plain_query left) (plain_query right)) c.in-Intersect.is in
    let lefts : SnapshotsAre (InAnswerOver (plain_query left) tables) first =
    subst (λ (q : code.Query). SnapshotsAre (InAnswerOver (plain_query q) tables) first) c.deref.ensures c.in_ok-first-in-Combined.ensures in
    let rights : SnapshotsAre (InAnswerOver (plain_query right) tables) second =
    subst (λ (q : code.Query). SnapshotsAre (InAnswerOver (plain_query q) tables) second) c.deref-in-Combined.ensures c.in_ok-second-in-Combined.ensures in
    if_ok_weaker c.intersection.result
    (λ (rows : Vec PeriodRow). SnapshotsAre (InIntersection first second) rows.items)
    (λ (rows : Vec PeriodRow). SnapshotsAre (InAnswerOver (plain_query c.args.query.now) tables) rows.items)
    (λ rows p. subst (λ (q : Query). SnapshotsAre (InAnswerOver q tables) rows.items) (sym is)
    (intersection_rows tables (plain_query left) (plain_query right) first second rows.items lefts rights p))
    c.intersection.ensures
