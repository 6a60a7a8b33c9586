use Rattle.std.proofs.Common.{ap, sym, ◌∙◌}
use Rattle.sql_statements.specs.Plain.{plain_form}
use Rattle.statement_resolution.proofs.change.resolution.resolve_change.Goals as goal

pub returns-in-Insert-clause-sound : goal.returns-in-Insert-clause-sound
returns-in-Insert-clause-sound c = rw (sym c.form.ensures ∙ ap plain_form c.in-Insert.is) c.resolve_insert.ensures.sound

pub returns-in-Update-clause-sound : goal.returns-in-Update-clause-sound
returns-in-Update-clause-sound c = rw (sym c.form.ensures ∙ ap plain_form c.in-Update.is) c.resolve_update.ensures.sound

pub returns-in-Delete-clause-sound : goal.returns-in-Delete-clause-sound
returns-in-Delete-clause-sound c = rw (sym c.form.ensures ∙ ap plain_form c.in-Delete.is) c.resolve_delete.ensures.sound
