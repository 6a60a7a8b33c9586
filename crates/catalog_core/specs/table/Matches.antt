-- The numbers of matches that tests want.
use Rattle.std.specs.Prelude.{◌==◌, ℕ, Bool, nat_lt}
use Rattle.catalog_core.specs.declared.table.match_counts.MatchCount.{MatchCount}
use Rattle.catalog_core.specs.declared.table.match_counts.MatchCount.TheVariants.{Zero, Many}

-- the number of matches is the one that is wanted: none, or several
unfoldable pub is_matching : MatchCount → ℕ → Bool
is_matching Zero count = count == 0
is_matching Many count = nat_lt 1 count
