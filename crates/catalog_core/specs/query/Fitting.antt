-- The tables of a query: a list for each of its references, of rows of that table.
use Rattle.std.specs.Prelude.{◌==◌, ◌&&◌, ◌+◌, ℕ, Bool, true, false, List, [], ◌∷◌, length}
use Rattle.std.specs.List.{list_all}
use Rattle.period_core.specs.declared.row.PeriodRow.{PeriodRow}
use Rattle.period_core.specs.declared.value.Value.{Value}
use Rattle.catalog_core.specs.declared.query.resolved.QueryReference.{QueryReference}
use Rattle.catalog_core.specs.declared.table.ValueKind.{ValueKind}
use Rattle.catalog_core.specs.query.Queries.{Query, references_of, rows_for}
use Rattle.catalog_core.specs.table.Kinds.{kind_of_value, same_kind}

-- the values have the kinds given, in order
abbrev pub has_kinds : List ValueKind → List Value → Bool
has_kinds [] [] = true
has_kinds [] (value ∷ values) = false
has_kinds (kind ∷ kinds) [] = false
has_kinds (kind ∷ kinds) (value ∷ values) =
    same_kind kind (kind_of_value value) && has_kinds kinds values

-- each row that the reference sees has its table's kinds
abbrev pub sees_its_kinds : List (List PeriodRow) → QueryReference → Bool
sees_its_kinds tables reference =
    list_all (λ (row : PeriodRow). has_kinds reference.kinds row.values) (rows_for tables reference)

-- the places of the references count up from this one
abbrev pub are_in_place : ℕ → List QueryReference → Bool
are_in_place place [] = true
are_in_place place (reference ∷ references) =
    (reference.place == place) && are_in_place (place + 1) references

-- one list for each reference, in its place, each row with that reference's kinds
abbrev pub fits : Query → List (List PeriodRow) → Bool
fits query tables =
    are_in_place 0 (references_of query)
    && (length tables == length (references_of query))
    && list_all (sees_its_kinds tables) (references_of query)
