-- A sequenced answer is certified by its witnesses, so the laws of certified lists are its laws.
use Rattle.std.proofs.Common.{ℤ, List, [], ◌∷◌, inl, inr, subst}
use Rattle.std.specs.List.{Contains}
use Rattle.period_core.specs.declared.answer.Answer.{Answer}
use Rattle.period_core.specs.declared.answer.Witness.{Witness}
use Rattle.period_core.specs.declared.row.PeriodRow.{PeriodRow}
use Rattle.period_core.specs.declared.value.Value.{Value}
use Rattle.temporal_model.specs.Answer.{IsCertified}
use Rattle.temporal_model.specs.Witness.{IsWitness, WitnessEachRow, witness_of}
use Rattle.temporal_model.proofs.Certificate.{same_rows, unique}
use Rattle.temporal_model.proofs.Members.{Contains-nil, Contains-cons_cases}
use Rattle.temporal_model.proofs.OneToOne.{maps_one_to_one}
use Rattle.temporal_model.proofs.Witnesses.{certified_by_witnesses}
use Rattle.temporal_model.specs.Snapshot.{InSnapshot}
use Rattle.history_model.specs.OrdinaryQuery.{InAnswerOn, InAnswerOver}
use Rattle.history_model.specs.Slices.{all_rows}
use Rattle.history_model.proofs.Parts.{slices_make_the_whole}
use Rattle.script_engine.specs.Headline.{IsSequencedAnswer}
use Rattle.script_engine.specs.Laws.{AnswersAreUnique, AnswersMapOneToOne, SameSnapshotsSameAnswers, SlicesJoinToTheAnswer}
use Rattle.script_engine.proofs.Answering.{answer_along}

-- a row's witness is its first day and the day before
its_witness : (sets : ℤ → List Value → Type 0) (rows : List PeriodRow) (witnesses : List Witness) → WitnessEachRow sets rows witnesses → (row : PeriodRow) → Contains rows row → IsWitness sets row (witness_of row)
its_witness sets [] witnesses each row c = absurd (Contains-nil row c)
its_witness sets (first ∷ rows) [] each row c = absurd each
its_witness sets (first ∷ rows) (witness ∷ witnesses) each row c =
    elim (Contains-cons_cases first rows row c) [
      | inl same ↦ subst (λ (r : PeriodRow). IsWitness sets r (witness_of r)) same (subst (λ (w : Witness). IsWitness sets first w) each.0.days each.0)
      | inr k ↦ its_witness sets rows witnesses each.1 row k
    ]

pub certified : (sets : ℤ → List Value → Type 0) (answer : Answer) → IsSequencedAnswer sets answer → IsCertified answer.rows
certified sets answer right =
    certified_by_witnesses sets answer.rows right.ordered (λ day values. (right.daily day values).0) (its_witness sets answer.rows answer.witnesses right.witnessed)

pub map_one_to_one : AnswersMapOneToOne
map_one_to_one history query answer others right = maps_one_to_one answer.rows others (certified (InAnswerOn history query) answer right)

pub are_unique : AnswersAreUnique
are_unique history query answer right = unique answer.rows (certified (InAnswerOn history query) answer right)

pub same_answers : SameSnapshotsSameAnswers
same_answers history later query other answer another right also =
    same_rows answer.rows another.rows (certified (InAnswerOn history query) answer right) right.ordered also.shortest also.ordered

pub join_to_the_answer : SlicesJoinToTheAnswer
join_to_the_answer query tables parts borders answer named each right =
    answer_along (InSnapshot (all_rows parts)) (InAnswerOver query tables)
    (slices_make_the_whole query tables parts borders named each) answer right
