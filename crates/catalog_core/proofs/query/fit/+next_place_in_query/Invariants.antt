use Rattle.catalog_core.proofs.query.fit.+next_place_in_query.Given as goal

abbrev pub decreases-next_place_in_query : goal.decreases-next_place_in_query
decreases-next_place_in_query l = goal.size-next_place_in_query l
