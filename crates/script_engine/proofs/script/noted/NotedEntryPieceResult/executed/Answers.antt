use Rattle.std.proofs.Common.{inr}
use Rattle.sql_statements.specs.Plain.{plain}
use Rattle.script_engine.specs.script.Noted.{ending_table, touched_in}
use Rattle.script_engine.specs.script.Script.{PieceStep}
use Rattle.script_engine.proofs.NotedFacts.{counted_in, none_told, piece_told}
use Rattle.script_engine.proofs.script.noted.NotedEntryPieceResult.executed.Goals as goal

pub returns-clause-step : goal.returns-clause-step
returns-clause-step g c = λ usable history kept piece none spelled.
    let s = plain c.args.statement.now in
    let result = c.execute_audited-kept.result.result in
    let (last, step, after) = c.execute_audited-kept.ensures.step usable history kept in
    let own : PieceStep history piece result last = inr (s, none, spelled, step.step) in
    let count = counted_in c.forgotten_since-forgotten.result (touched_in result) c.past_before-past.result.table c.past_before-past.result.ended (ending_table c.args.engine.now.catalog.tables s) c.args.engine.now.ended c.execute_audited-kept.new.self.ended c.past_before-past.ensures.table c.past_before-past.ensures.ended c.forgotten_since-forgotten.ensures in (
      last,
      record {
        step = inr (s, none, spelled, step);
        none = none_told result c.forgotten_since-forgotten.result _ _ c.forgotten_since-forgotten.ensures;
        told = piece_told g.S.Store history last c.args.engine.now c.execute_audited-kept.new.self kept after piece s result c.forgotten_since-forgotten.result spelled own count;
      },
      after,
    )

pub returns-clause-over : goal.returns-clause-over
returns-clause-over g c piece none spelled = (
  inr (plain c.args.statement.now, none, spelled, c.execute_audited-kept.ensures.runs),
  none_told c.execute_audited-kept.result.result c.forgotten_since-forgotten.result _ _ c.forgotten_since-forgotten.ensures,
)
