-- Lists of versions in order, and what a stored query shows of them.
use Rattle.std.proofs.Common.{◌≡◌, ◌∷◌, ℕ, Bool, false, List, [], length, map, sym, subst₂, arith}
use Rattle.std.specs.Prelude.{IsSorted, ◌+◌, ◌<◌}
use Rattle.std.specs.List.Sorted.{IsSortedBy}
use Rattle.std.specs.Ordering.{is_lt}
use Rattle.std.proofs.lemmas.List.{get_or-map, length-map}
use Rattle.period_core.specs.declared.version.VersionRow.{VersionRow}
use Rattle.version_store.specs.Contents.{TableVersion, version_cmp, version_in}

-- ---- the order

-- version rows by the order of what they are in a table
abbrev pub below : ℕ → VersionRow → VersionRow → Bool
below table a b = is_lt (version_cmp (version_in table a) (version_in table b))

pub versions_sorted : (table : ℕ) (rows : List VersionRow) → IsSortedBy (below table) rows → IsSorted version_cmp (map (version_in table) rows)
versions_sorted table [] h k d low high = absurd (omega arith)
versions_sorted table (row ∷ rows) h k d low high =
    let long = length-map (row ∷ rows) (version_in table) in
    let inside : k + 1 < length (row ∷ rows) = omega arith in
    subst₂ (λ (a b : TableVersion). is_lt (version_cmp a b) ≡ false)
    (sym (get_or-map (version_in table) (row ∷ rows) (k + 1) row d inside)) (sym (get_or-map (version_in table) (row ∷ rows) k row d (omega arith)))
    (h k row low inside)
