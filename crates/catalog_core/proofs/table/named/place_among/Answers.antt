use Rattle.std.proofs.Common.{◌∙◌, ap, bytes_eq, refl, sym}
use Rattle.catalog_core.proofs.lemmas.lists.Places.{place_by}
use Rattle.catalog_core.specs.table.Naming.{place_among}
use Rattle.catalog_core.proofs.table.named.place_among.Goals as goal

pub returns-then-is-clause-value : goal.returns-then-is-clause-value
unfolding place_among
returns-then-is-clause-value g c =
    place_by (λ x. bytes_eq c.args.name.now (g.T.Named.named x)) c.args.elements.now c.args.elements.now c.loop-i.i c.index-elements-i.result refl c.loop-i-test.true c.loop-i.invariant c.index-elements-i.is
    (ap (bytes_eq c.args.name.now) (sym c.name.ensures) ∙ sym c.is.ensures ∙ c.if-is.true)
