-- A worked database with another table, of notes, and changes that keep it or do not.
use Rattle.std.proofs.Common.{ℕ, List, [], ◌∷◌, length, pos, ap, refl, arith}
use Rattle.std.specs.Prelude.{codes}
use Rattle.sqlite.specs.Change.{with_index, with_view}
use Rattle.sqlite.specs.Effect.{Database}
use Rattle.sqlite.specs.Order.{Row}
use Rattle.sqlite.specs.Schema.{Schema}
use Rattle.sqlite.specs.Table.{Table}
use Rattle.sqlite.specs.Tree.{no_trees, with_tree}
use Rattle.sqlite.specs.declared.types.Value.TheVariants.{Blob, Int, Null}
use Rattle.sqlite_schema.specs.declared.schema.Index.{Index}
use Rattle.sqlite_schema.specs.declared.schema.View.{View}
use Rattle.version_tables.specs.Keeping.{KeepsOthers}
use Rattle.version_tables.specs.Tables.{definition_table, nothing_else, schema_with}

-- the notes, a table with the columns of bt_table, which follows the three
abbrev notes : Table
notes = record (definition_table 4) { name = codes "notes" }

abbrev beside_notes : Schema
beside_notes = schema_with (record nothing_else { tables = notes ∷ [] })

-- row 1 of either, with its bytes
abbrev row : List ℕ → Row
row bytes = Int (pos 1) ∷ Null ∷ Blob bytes ∷ []

-- a database with one definition and one note
abbrev with_bytes : List ℕ → List ℕ → Database
with_bytes definition note = record {
  schema = beside_notes;
  trees = with_tree (with_tree no_trees 1 (row definition ∷ [])) 4 (row note ∷ []);
}

abbrev filled : Database
filled = with_bytes (2 ∷ []) (97 ∷ [])

-- another definition: the notes are as they were, and so are the schema's objects
definition_changed : KeepsOthers filled (with_bytes (3 ∷ []) (97 ∷ []))
definition_changed = record { schema_is = refl; others = (refl, tt) }

-- the note is empty, or is gone
note_changed : KeepsOthers filled (with_bytes (2 ∷ []) []) → ⊥
note_changed keeps = absurd (let e = keeps.others.0 in cc)

note_removed : KeepsOthers filled (record filled { trees = with_tree filled.trees 4 [] }) → ⊥
note_removed keeps = absurd (omega (arith, ap length keeps.others.0))

-- an index or a view more, whatever it is
index_added : (index : Index) → KeepsOthers filled (record filled { schema = with_index beside_notes index }) → ⊥
index_added index keeps = absurd (omega (arith, ap (λ (s : Schema). length s.indexes) keeps.schema_is))

view_added : (view : View) → KeepsOthers filled (record filled { schema = with_view beside_notes view }) → ⊥
view_added view keeps = absurd (omega (arith, ap (λ (s : Schema). length s.views) keeps.schema_is))
