use Rattle.std.proofs.Common.{ap, sym, ◌∙◌}
use Rattle.sql_statements.specs.Plain.{plain_form}
use Rattle.statement_resolution.proofs.query.resolution.resolve_query.Goals as goal

pub returns-clause-sound : goal.returns-clause-sound
returns-clause-sound c = rw (sym c.form.ensures ∙ ap plain_form c.in-Sequenced.is) c.resolve_sequenced.ensures.sound
