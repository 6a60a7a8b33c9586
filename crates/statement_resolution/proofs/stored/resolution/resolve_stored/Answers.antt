use Rattle.std.proofs.Common.{ap, sym, ◌∙◌}
use Rattle.sql_statements.specs.Plain.{plain_form}
use Rattle.statement_resolution.proofs.stored.resolution.resolve_stored.Goals as goal

pub returns-clause-sound : goal.returns-clause-sound
returns-clause-sound c = rw (sym c.form.ensures ∙ ap plain_form c.in-Stored.is) c.resolve_stored_query.ensures.sound
