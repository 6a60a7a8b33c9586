use Rattle.std.proofs.Common.{pos}
use Rattle.version_tables.proofs.ColumnFacts.{never, definition_columns}
use Rattle.version_tables.proofs.row_checks.is_definition.Goals as goal

pub returns-in_default : goal.returns-in_default
returns-in_default c = (never, λ h. absurd (c.in_default.ensures (pos c.args.id, (definition_columns c.args.row.now c.args.id h).number)))
