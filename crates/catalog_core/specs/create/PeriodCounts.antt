-- The number of a statement's periods that each name matches, counted once for the statement.
use Rattle.std.specs.Prelude.{◌≡◌, ℕ, unwrap_or}
use Rattle.std.specs.Borrow.{Bor}
use Rattle.std.specs.Ordering.{nat_cmp}
use Rattle.std.specs.BTreeMap.{BTreeMap, get_by}
use Rattle.std.specs.Cmp.Lexicographic.{slice_cmp}
use Rattle.sql_statements.specs.declared.create.CreateTable.{CreateTable}
use Rattle.catalog_core.specs.create.Creation.{period_matches}
use Rattle.catalog_core.specs.table.Naming.{Name}

-- the count of a name: 0 if the map has none
abbrev pub count_of : BTreeMap (Bor Name) ℕ → Name → ℕ
count_of counts name = unwrap_or (get_by (λ (k : Bor Name). slice_cmp nat_cmp name k.now) counts) 0

-- the counts are of the statement's periods
abbrev pub AreCounts : CreateTable → BTreeMap (Bor Name) ℕ → Type 0
AreCounts c counts = (name : Name) → count_of counts name ≡ period_matches c name
