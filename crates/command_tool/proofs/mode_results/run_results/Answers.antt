use Rattle.std.proofs.Common.{inl, inr, refl}
use Rattle.memory_store.specs.Connected.{memory_is_usable}
use Rattle.history_model.specs.Histories.{new_database, opened}
use Rattle.command_tool.proofs.NewStore.{never_bad}
use Rattle.command_tool.proofs.mode_results.run_results.Goals as goal

pub returns-in-Ok-run-clause-run : goal.returns-in-Ok-run-clause-run
returns-in-Ok-run-clause-run g c =
    (c.in-Ok-run.ensures.run (memory_is_usable c.in-Ok-run.engine.connection) (opened new_database) (inl (c.in-Ok.ensures.empty.2, refl))).0

pub returns-in-Err-clause-refused : goal.returns-in-Err-clause-refused
returns-in-Err-clause-refused g c =
    inr (c.in-Err.refusal, refl, never_bad c.args.script.now c.in-Err.refusal _ c.in-Ok.ensures.empty.2 c.in-Err.ensures.refused (c.in-Err.ensures.bad (memory_is_usable c.in-Err._connection)))
