-- Moves of a store and of a database of the model, both in whole seconds, to microseconds:
-- both come to one. The law is the contract of a function of this crate.
use Rattle.std.specs.Prelude.{◌≡◌, ℕ, map, IsPermutation}
use Rattle.version_tables.specs.declared.form.Form.TheVariants.{Seconds}
use Rattle.version_store.specs.Contents.{Contents, of_table, version_in}
use Rattle.version_store.specs.Units.{in_microseconds}
use Rattle.history_model.specs.Histories.{Database, versions_in}
use Rattle.history_model.specs.Moved.{moved}

-- the store has what the database keeps: its clock, its tables and, in any order, the versions of
-- each table
pub record AreOfDatabase (database : Database) (c : Contents) : Type 0 where
  pub clock : c.clock ≡ database.clock
  pub tables : c.tables ≡ database.catalog
  pub versions : (table : ℕ) → IsPermutation (of_table table c.versions)
      (map (version_in table) (versions_in database table))

-- the store's contents, in microseconds, are those that the moved database keeps
abbrev pub StoresMoveAsTheModel : Type 0
StoresMoveAsTheModel =
    (database : Database) (c : Contents) → AreOfDatabase database c
    → AreOfDatabase (moved database) (in_microseconds Seconds c)
