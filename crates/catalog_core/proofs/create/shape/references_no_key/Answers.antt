use Rattle.std.proofs.Common.{◌∙◌, sym}
use Rattle.catalog_core.proofs.lemmas.create.Alike.{no_keys_alike}
use Rattle.catalog_core.proofs.create.shape.references_no_key.Goals as goal

pub returns : goal.returns
returns c = c.some_refer_to_no_key.ensures ∙ sym (no_keys_alike c.args.catalog.now.tables c.args.create.now c.args.references.now c.requires)
