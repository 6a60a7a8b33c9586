-- Two lists with the same snapshots, of which one is a sequenced answer, and answers over slices of
-- the days. Each law is the contract of a function of this crate.
use Rattle.std.specs.Prelude.{◌≡◌, ℤ, List}
use Rattle.std.specs.List.{AllZip}
use Rattle.period_core.specs.declared.answer.Answer.{Answer}
use Rattle.period_core.specs.declared.row.PeriodRow.{PeriodRow}
use Rattle.temporal_model.specs.Answer.{IsUniqueUpToOrder}
use Rattle.temporal_model.specs.Laws.{MapsOneToOne}
use Rattle.temporal_model.specs.Snapshot.{Equivalent, InSnapshot}
use Rattle.catalog_core.specs.query.Queries.{Query}
use Rattle.history_model.specs.Histories.{History}
use Rattle.history_model.specs.OrdinaryQuery.{InAnswerOn, InAnswerOver}
use Rattle.history_model.specs.Slices.{HasReferences, IsPartOver, all_rows, slices_of}
use Rattle.script_engine.specs.Headline.{IsSequencedAnswer}

-- a list with the same snapshots has a row of its own for each row of the answer,
-- of the same values and first day
abbrev pub AnswersMapOneToOne : Type 0
AnswersMapOneToOne =
    (history : History) (query : Query) (answer : Answer) (others : List PeriodRow)
    → IsSequencedAnswer (InAnswerOn history query) answer
    → Equivalent answer.rows others → MapsOneToOne answer.rows others

-- a list with the same snapshots and as many rows is the answer in another order
abbrev pub AnswersAreUnique : Type 0
AnswersAreUnique =
    (history : History) (query : Query) (answer : Answer)
    → IsSequencedAnswer (InAnswerOn history query) answer → IsUniqueUpToOrder answer.rows

-- two answers with the same snapshots have the same rows
abbrev pub SameSnapshotsSameAnswers : Type 0
SameSnapshotsSameAnswers =
    (history later : History) (query other : Query) (answer another : Answer)
    → IsSequencedAnswer (InAnswerOn history query) answer
    → IsSequencedAnswer (InAnswerOn later other) another
    → Equivalent answer.rows another.rows → answer.rows ≡ another.rows

-- whatever the borders: the shortest list of what a query gives over the slices is the query's
-- sequenced answer over the whole tables
abbrev pub SlicesJoinToTheAnswer : Type 0
SlicesJoinToTheAnswer =
    (query : Query) (tables parts : List (List PeriodRow)) (borders : List ℤ) (answer : Answer)
    → HasReferences query → AllZip (IsPartOver query tables) (slices_of borders) parts
    → IsSequencedAnswer (InSnapshot (all_rows parts)) answer
    → IsSequencedAnswer (InAnswerOver query tables) answer
