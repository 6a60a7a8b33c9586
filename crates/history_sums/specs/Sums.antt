-- The sum of a history: the digest of bytes that spell its clock, its definitions and its versions.
use Rattle.std.specs.Prelude.{◌++◌, ◌≡◌, ℕ, zero, suc, ℤ, List, [], flat_map, length}
use Rattle.std.specs.Prelude.{IsPermutation}
use Rattle.std.specs.Int.{cast_unsigned, to_be_bytes, w64}
use Rattle.hex.specs.Hex.{encode_lower}
use Rattle.md5.specs.Md5.{md5}
use Rattle.period_core.specs.Encoding.{encoded}
use Rattle.catalog_core.specs.bytes.DefinitionValues.{definition_values}
use Rattle.catalog_core.specs.declared.table.TableDef.{TableDef}
use Rattle.history_model.specs.Histories.{History, catalog_of, clock_of}
use Rattle.history_model.specs.HistoryVersions.{versions_of}
use Rattle.history_model.specs.Versions.{PlainVersion}
use Rattle.history_sums.specs.Sorting.{plain_cmp, sorted_by}

-- ---- the bytes

-- a count: eight bytes, the highest first
unfoldable pub count_bytes : ℕ → List ℕ
count_bytes n = to_be_bytes w64 n

-- a day or a moment: eight bytes too, in two's complement
unfoldable pub number_bytes : ℤ → List ℕ
number_bytes n = to_be_bytes w64 (cast_unsigned w64 n)

-- bytes, after their count
abbrev pub counted_bytes : List ℕ → List ℕ
counted_bytes bytes = count_bytes (length bytes) ++ bytes

-- a definition, as a store keeps it
abbrev pub definition_bytes : TableDef → List ℕ
definition_bytes table = counted_bytes (encoded (definition_values table))

-- definitions: their count, then each
abbrev pub definitions_bytes : List TableDef → List ℕ
definitions_bytes tables = count_bytes (length tables) ++ flat_map definition_bytes tables

-- a version: its values as a store keeps them, its first day and its end, and the moments from
-- which and to which it is recorded
abbrev pub version_bytes : PlainVersion → List ℕ
version_bytes v = counted_bytes (encoded v.values)
    ++ (number_bytes v.start ++ (number_bytes v.end ++ (number_bytes v.from ++ number_bytes v.to)))

-- the versions of a table: their count, then each, in order
abbrev pub versions_bytes : List PlainVersion → List ℕ
versions_bytes versions =
    count_bytes (length versions) ++ flat_map version_bytes (sorted_by plain_cmp versions)

-- the lists that are made of the numbers from 1 up to this, one after the other
abbrev pub up_to : {X : Type 0} → (ℕ → List X) → ℕ → List X
up_to make zero = []
up_to make (suc n) = up_to make n ++ make (suc n)

-- the versions of as many tables of a history, in the order of their numbers
abbrev pub tables_bytes : History → ℕ → List ℕ
tables_bytes history count = up_to (λ table. versions_bytes (versions_of history table)) count

-- a history: its clock, its definitions, and the versions of each table, current and ended
abbrev pub history_bytes : History → List ℕ
history_bytes history =
    number_bytes (clock_of history)
    ++ (definitions_bytes (catalog_of history)
    ++ tables_bytes history (length (catalog_of history)))

-- ---- the sum

-- the digest, in hexadecimal digits
abbrev pub sum_text : List ℕ → List ℕ
sum_text bytes = encode_lower (md5 bytes)

-- the sum of a history
abbrev pub sum_of : History → List ℕ
sum_of history = sum_text (history_bytes history)

-- ---- the law of sums

-- histories have the same clock and the same definitions, and leave the same versions of each
-- table, in whatever order
pub record AreAlike (one other : History) : Type 0 where
  pub clock : clock_of one ≡ clock_of other
  pub tables : catalog_of one ≡ catalog_of other
  pub versions : (table : ℕ) → IsPermutation (versions_of one table) (versions_of other table)

-- two histories that are alike have one sum
abbrev pub AlikeHaveOneSum : Type 0
AlikeHaveOneSum = (one other : History) → AreAlike one other → sum_of one ≡ sum_of other
