-- The report of a store that is verified: how many versions each table has, and the sum of its
-- history.
use Rattle.std.specs.Prelude.{◌≡◌, ◌++◌, ◌∷◌, ℕ, List, [], codes, flat_map, length}
use Rattle.std.specs.Fmt.{decimal}
use Rattle.std.specs.List.{zip}
use Rattle.catalog_core.specs.declared.table.TableDef.{TableDef}
use Rattle.history_model.specs.Histories.{History, catalog_of}
use Rattle.history_sums.specs.Sums.{AreAlike, sum_of, up_to}
use Rattle.bitemporal_file.specs.Listing.{record_line, version_count}

-- a table, and how many versions it has
abbrev pub verified_line : TableDef × ℕ → List ℕ
verified_line (table, versions) =
    record_line (codes "verified") (table.name ∷ decimal versions ∷ [])

-- tables, each with how many versions it has
abbrev pub verified_lines : List TableDef → List ℕ → List ℕ
verified_lines tables counts = flat_map verified_line (zip tables counts)

-- the sum of a history
abbrev pub sum_line : List ℕ → List ℕ
sum_line sum = record_line (codes "sum") (sum ∷ [])

-- the counts of the versions that a history leaves of as many tables, in the order of their numbers
abbrev pub version_counts : History → ℕ → List ℕ
version_counts history count = up_to (λ table. version_count history table ∷ []) count

-- the report of a store that represents the history
abbrev pub verification_of : History → List ℕ
verification_of history =
    verified_lines (catalog_of history) (version_counts history (length (catalog_of history)))
    ++ sum_line (sum_of history)

-- histories that have the same clock, the same definitions and, in whatever order, the same
-- versions have one report
abbrev pub AlikeAreVerifiedAlike : Type 0
AlikeAreVerifiedAlike =
    (one other : History) → AreAlike one other → verification_of one ≡ verification_of other
