use Rattle.std.proofs.Common.{inr}
use Rattle.sql_statements.specs.Plain.{plain}
use Rattle.script_engine.proofs.PieceSteps.{stated_piece}
use Rattle.script_engine.proofs.script.piece_result.ResultOutcomeRefusalPieceResult.executed.Goals as goal

pub returns-clause-step : goal.returns-clause-step
returns-clause-step g c = λ usable history kept piece none spelled.
    stated_piece g.S.Store history piece (plain c.args.statement.now) c.execute.result c.execute.new.self none spelled (c.execute.ensures.runs.step usable history kept)

pub returns-clause-over : goal.returns-clause-over
returns-clause-over g c piece none spelled =
    inr (plain c.args.statement.now, none, spelled, c.execute.ensures.runs)
