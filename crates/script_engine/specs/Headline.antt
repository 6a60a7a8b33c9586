-- The theorem of the project, of each sequenced answer: by the sets of the ordinary query on each
-- day.
use Rattle.std.specs.Prelude.{◌↔◌, ℤ, List}
use Rattle.period_core.specs.declared.answer.Answer.{Answer}
use Rattle.period_core.specs.declared.value.Value.{Value}
use Rattle.temporal_model.specs.Snapshot.{InSnapshot}
use Rattle.temporal_model.specs.Answer.{IsShortest, IsInAnswerOrder}
use Rattle.temporal_model.specs.Witness.{WitnessEachRow}

-- the answer has on each day exactly the set of that day; no list of period rows with the same
-- snapshots is shorter; its rows are in order; and each row has its witness against the sets
pub record IsSequencedAnswer (InSet : ℤ → List Value → Type 0) (answer : Answer) : Type 0 where
  pub daily : (day : ℤ) (values : List Value)
      → (InSnapshot answer.rows day values ↔ InSet day values)
  pub shortest : IsShortest answer.rows
  pub ordered : IsInAnswerOrder answer.rows
  pub witnessed : WitnessEachRow InSet answer.rows answer.witnesses
