use Rattle.std.proofs.Common.{◌∙◌, sym}
use Rattle.std.proofs.lemmas.Option.{none-some}
use Rattle.statement_resolution.proofs.lemmas.change.GivenValues.{date_column, date_parts}
use Rattle.statement_resolution.proofs.change.row_positions.row_positions.Goals as goal

pub unreachable-requires : goal.unreachable-requires
unreachable-requires c =
    let t = c.args.table.now in
    let at = date_column t t.period.start (date_parts t c.requires.dated).start in
    let position = c.requires.given t.period.start at.found at.there at.plain in
    none-some position.0 (sym c.in_default.is ∙ c.position_for.ensures ∙ position.1)

pub unreachable-requires-in_default-position_for :
    goal.unreachable-requires-in_default-position_for
unreachable-requires-in_default-position_for c =
    let t = c.args.table.now in
    let at = date_column t t.period.end (date_parts t c.requires.dated).end in
    let position = c.requires.given t.period.end at.found at.there at.plain in
    none-some position.0 (sym c.in_default-position_for.is ∙ c.position_for-2.ensures ∙ position.1)
