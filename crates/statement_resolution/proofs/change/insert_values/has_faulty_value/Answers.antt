use Rattle.std.proofs.Common.{◌∙◌}
use Rattle.statement_resolution.proofs.lemmas.change.GivenPlaces.{wrong_rows}
use Rattle.statement_resolution.proofs.change.insert_values.has_faulty_value.Goals as goal

pub returns : goal.returns
returns c =
    rw (c.as_slice.ensures, c.as_slice-2.ensures.value) at c.has_faulty_value_at.ensures
    ∙ wrong_rows c.args.fault c.args.table.now c.args.insert.now c.args.places.now c.requires.distinct c.requires.placed
