use Rattle.script_engine.proofs.script.run_script.Goals as goal

pub returns-in-Ok-clause-run : goal.returns-in-Ok-clause-run
returns-in-Ok-clause-run g c = λ usable history stands. (c.in-Ok.ensures.run (usable c.in-Ok._engine.connection) history stands).0

pub returns-in-Ok-clause-over : goal.returns-in-Ok-clause-over
returns-in-Ok-clause-over g c =
    let (opening, opened, (made, last)) = c.in-Ok.ensures.over in
    (opening, opened, made)
