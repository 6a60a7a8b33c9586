use Rattle.std.proofs.Common.{inr}
use Rattle.sql_statements.specs.Plain.{plain}
use Rattle.script_engine.proofs.PieceSteps.{audited_piece}
use Rattle.script_engine.proofs.script.piece_result.EntryPieceResult.executed.Goals as goal

pub returns-clause-step : goal.returns-clause-step
returns-clause-step g c = λ usable history kept piece none spelled.
    audited_piece g.S.Store history piece (plain c.args.statement.now) c.execute_audited.result c.execute_audited.new.self none spelled (c.execute_audited.ensures.step usable history kept)

pub returns-clause-over : goal.returns-clause-over
returns-clause-over g c piece none spelled =
    inr (plain c.args.statement.now, none, spelled, c.execute_audited.ensures.runs)
