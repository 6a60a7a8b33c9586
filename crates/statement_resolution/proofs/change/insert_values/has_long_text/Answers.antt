use Rattle.std.proofs.Common.{◌∙◌, ap, sym}
use Rattle.statement_resolution.proofs.lemmas.change.GivenPlaces.{no_long_text}
use Rattle.statement_resolution.specs.change.InsertPlaces.{gives_text}
use Rattle.catalog_core.specs.declared.table.Column.{Column}
use Rattle.std.specs.Prelude.{List}
use Rattle.statement_resolution.proofs.change.insert_values.has_long_text.Goals as goal

pub returns-else-gives_text : goal.returns-else-gives_text
returns-else-gives_text c =
    let places = c.args.places.now in
    let none = ap (λ (xs : List Column). gives_text xs places) (sym c.as_slice.ensures) ∙ sym c.gives_text.ensures ∙ c.if-gives_text.false in
    c.if-gives_text.false ∙ sym (no_long_text c.args.table.now c.args.insert.now places c.requires.distinct c.requires.placed none)
