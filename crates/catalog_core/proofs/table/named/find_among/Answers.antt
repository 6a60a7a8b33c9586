use Rattle.std.proofs.Common.{◌∙◌, ap, bytes_eq, refl, sym}
use Rattle.catalog_core.proofs.lemmas.lists.Finds.{found_by, none_by}
use Rattle.catalog_core.specs.table.Naming.{find_among}
use Rattle.catalog_core.proofs.table.named.find_among.Goals as goal

pub returns-then-is : goal.returns-then-is
unfolding find_among
returns-then-is g c =
    sym (found_by (λ x. bytes_eq c.args.name.now (g.T.Named.named x)) c.args.elements.now c.args.elements.now c.loop-x.x-index c.x-item.result refl c.loop-x-test.true c.loop-x.invariant c.x-item.is
    (ap (bytes_eq c.args.name.now) (sym c.name.ensures) ∙ sym c.is.ensures ∙ c.if-is.true))

pub loop-x-preserved : goal.loop-x-preserved
loop-x-preserved g c =
    none_by (λ x. bytes_eq c.args.name.now (g.T.Named.named x)) c.args.elements.now c.loop-x.x-index c.x-item.result c.loop-x-test.true c.loop-x.invariant c.x-item.is
    (ap (bytes_eq c.args.name.now) (sym c.name.ensures) ∙ sym c.is.ensures ∙ c.if-is.false)
