-- The values that the statements that add versions are given.
use Rattle.std.specs.Prelude.{◌≡◌, ◌⊎◌, ℕ, ℤ, pos, ◌+ℤ◌, List, [], ◌∷◌, ◌++◌}
use Rattle.std.specs.List.{flat_map}
use Rattle.sqlite.specs.declared.types.Value.TheVariants.{Int, Blob}
use Rattle.sqlite.specs.Order.{Row}
use Rattle.version_tables.specs.declared.version_key.NewRow.{NewRow}

-- a statement adds one, two, four, eight or thirty-two rows
abbrev pub IsBatch : ℕ → Type 0
IsBatch rows = (rows ≡ 1) ⊎ ((rows ≡ 2) ⊎ ((rows ≡ 4) ⊎ ((rows ≡ 8) ⊎ (rows ≡ 32))))

-- the parameters of one row
abbrev pub cells : NewRow → Row
cells row = Blob row.key.values.items ∷ Int row.key.start ∷ Int row.end ∷ []

-- the parameters of a statement
abbrev pub given_rows : ℕ → ℤ → ℤ → List NewRow → Row
given_rows table from to rows =
    Int (pos table) ∷ Int from ∷ Int to ∷ flat_map cells rows

-- the parameters of rows that are numbered from the first number on
abbrev pub numbered_cells : ℤ → List NewRow → Row
numbered_cells first [] = []
numbered_cells first (row ∷ rows) = Int first ∷ cells row ++ numbered_cells (first +ℤ pos 1) rows

-- the parameters of a statement that gives its rows numbers
abbrev pub given_numbered : ℕ → ℤ → ℤ → ℤ → List NewRow → Row
given_numbered table from to first rows =
    Int (pos table) ∷ Int from ∷ Int to ∷ numbered_cells first rows
