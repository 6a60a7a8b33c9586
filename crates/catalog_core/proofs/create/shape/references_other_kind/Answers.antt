use Rattle.std.proofs.Common.{◌∙◌, List, ap, sym}
use Rattle.std.specs.List.{list_any}
use Rattle.catalog_core.proofs.lemmas.create.Alike.{other_kinds_alike}
use Rattle.catalog_core.specs.create.Places.{refers_to_other_kind}
use Rattle.catalog_core.specs.declared.table.Column.{Column}
use Rattle.catalog_core.proofs.create.shape.references_other_kind.Goals as goal

pub returns : goal.returns
returns c =
    let tables = c.args.catalog.now.tables in
    let references = c.args.references.now in
    c.some_refer_to_other_kind.ensures
    ∙ ap (λ (columns : List Column). list_any (refers_to_other_kind tables columns) references) c.requires.columns
    ∙ sym (other_kinds_alike tables c.args.create.now references c.requires.references)
