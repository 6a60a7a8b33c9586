use Rattle.sqlite_disk.specs.Memory.{memory_bytes}
use Rattle.version_store.proofs.Beside.{spares_then}
use Rattle.bitemporal_file.proofs.commands.backup_text.Goals as goal

pub returns-in-Ok-back_up-clause-made : goal.returns-in-Ok-back_up-clause-made
returns-in-Ok-back_up-clause-made g c usable history stands =
    let before = c.back_up.ensures.usable usable in
    let same = c.done_text.ensures.same before history stands in
    (memory_bytes c.in-Ok-back_up.field-0, c.in-Ok-back_up.ensures.copied usable history same, c.in-Ok-back_up.ensures.made, c.in-Ok.ensures.report before history stands)

pub returns-in-Ok-back_up-clause-others : goal.returns-in-Ok-back_up-clause-others
returns-in-Ok-back_up-clause-others g c =
    spares_then g.S.Store c.args.engine.now.connection c.done_text.new.engine.connection c.back_up.new.engine.connection c.done_text.ensures.others c.back_up.ensures.usable c.back_up.ensures.others

pub returns-in-Err-back_up-clause-others : goal.returns-in-Err-back_up-clause-others
returns-in-Err-back_up-clause-others g c =
    spares_then g.S.Store c.args.engine.now.connection c.done_text.new.engine.connection c.back_up.new.engine.connection c.done_text.ensures.others c.back_up.ensures.usable c.back_up.ensures.others
