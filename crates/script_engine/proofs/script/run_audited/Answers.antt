use Rattle.statement_reports.specs.declared.entry.Entry.{Entry}
use Rattle.script_engine.proofs.PieceSteps.{kept_run, unaudited_run}
use Rattle.script_engine.proofs.script.run_audited.Goals as goal

pub returns-in-Ok-clause-audited : goal.returns-in-Ok-clause-audited
returns-in-Ok-clause-audited g c = λ usable history stands. (c.in-Ok.ensures.run (usable c.in-Ok._engine.connection) history stands).0

pub returns-in-Ok-clause-run : goal.returns-in-Ok-clause-run
returns-in-Ok-clause-run g c = λ usable history stands.
    unaudited_run history c.args.script.now c.in-Ok.entries.items (c.in-Ok.ensures.run (usable c.in-Ok._engine.connection) history stands).0

pub returns-in-Ok-clause-over : goal.returns-in-Ok-clause-over
returns-in-Ok-clause-over g c =
    let (opening, opened, (made, last)) = c.in-Ok.ensures.over in
    (opening, opened, kept_run g.S.Store (λ (entry : Entry). entry.result) opening c.args.script.now c.in-Ok.entries.items made)
