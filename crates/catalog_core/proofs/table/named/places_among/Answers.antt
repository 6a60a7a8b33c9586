use Rattle.std.proofs.Common.{◌∙◌, Bool, bytes_eq, sym}
use Rattle.catalog_core.proofs.lemmas.table.Positions.{placed}
use Rattle.catalog_core.proofs.lemmas.judged.Sound.{fails_at}
use Rattle.catalog_core.specs.table.Matches.{is_matching}
use Rattle.catalog_core.specs.table.Naming.{Name, matches_among, place_among, some_match_among}
use Rattle.catalog_core.specs.declared.table.match_counts.MatchCount.TheVariants.{Zero}
use Rattle.catalog_core.proofs.table.named.places_among.Goals as goal

pub unreachable-requires : goal.unreachable-requires
unfolding some_match_among matches_among place_among
unreachable-requires g c =
    let some : Name → Bool = λ name. is_matching Zero (matches_among g.T.Named.named c.args.elements.now name) in
    placed (λ x. bytes_eq c.name-item.result (g.T.Named.named x)) c.args.elements.now
    (fails_at some c.args.names.now c.loop-name.name-index c.name-item.result c.loop-name-test.true c.name-item.is c.requires)
    (sym c.place_among.ensures.value ∙ c.in_default.is)
