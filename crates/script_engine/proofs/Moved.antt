-- A store in seconds and a database of the model are moved alike.
use Rattle.std.proofs.Common.{◌≡◌, ◌==◌, ℕ, zero, suc, List, [], ◌∷◌, get_or, map, refl, sym, ◌∙◌, ap, subst}
use Rattle.std.specs.List.Sorted.{IsPermutation}
use Rattle.std.proofs.lemmas.List.Sorted.{IsPermutation-map}
use Rattle.sqlite_trees.proofs.ListLemmas.{filter-map}
use Rattle.period_core.specs.declared.version.VersionRow.{VersionRow}
use Rattle.period_core.specs.Seconds.{second_start}
use Rattle.version_tables.specs.declared.form.Form.TheVariants.{Seconds}
use Rattle.version_store.specs.Contents.{Contents, TableVersion, of_table, version_in}
use Rattle.version_store.specs.Units.{version_of}
use Rattle.history_model.specs.Histories.{Database, versions_in}
use Rattle.history_model.specs.Moved.{moved, moved_version}
use Rattle.script_engine.specs.engine.Moved.{StoresMoveAsTheModel}

at_place : (lists : List (List VersionRow)) (place : ℕ) → get_or (map (map moved_version) lists) place [] ≡ map moved_version (get_or lists place [])
at_place [] place = refl
at_place (list ∷ lists) zero = refl
at_place (list ∷ lists) (suc place) = at_place lists place

-- the versions of a moved table
rows_moved : (database : Database) (table : ℕ) → versions_in (moved database) table ≡ map moved_version (versions_in database table)
rows_moved database zero = refl
rows_moved database (suc place) = at_place database.versions place

-- a version is moved the same as a row of the store
moved_alike : (table : ℕ) (rows : List VersionRow) → map (version_of Seconds) (map (version_in table) rows) ≡ map (version_in table) (map moved_version rows)
moved_alike table [] = refl
moved_alike table (row ∷ rows) = ap (λ (l : List TableVersion). version_in table (moved_version row) ∷ l) (moved_alike table rows)

alike : (database : Database) (c : Contents) (table : ℕ)
    → IsPermutation (of_table table c.versions) (map (version_in table) (versions_in database table))
    → IsPermutation (of_table table (map (version_of Seconds) c.versions)) (map (version_in table) (versions_in (moved database) table))
alike database c table all =
    let rows = versions_in database table in
    let ours : IsPermutation (map (version_of Seconds) (of_table table c.versions)) (map (version_of Seconds) (map (version_in table) rows)) =
    IsPermutation-map (version_of Seconds) (of_table table c.versions) (map (version_in table) rows) all in
    let there : map (version_of Seconds) (map (version_in table) rows) ≡ map (version_in table) (versions_in (moved database) table) =
    moved_alike table rows ∙ sym (ap (map (version_in table)) (rows_moved database table)) in
    subst (λ (l : List TableVersion). IsPermutation l (map (version_in table) (versions_in (moved database) table)))
    (sym (filter-map (λ (v : TableVersion). v.table == table) (version_of Seconds) c.versions))
    (subst (IsPermutation (map (version_of Seconds) (of_table table c.versions))) there ours)

pub move_alike : StoresMoveAsTheModel
move_alike database c same = record {
  clock = ap (λ n. second_start n) same.clock;
  tables = same.tables;
  versions = λ (table : ℕ). alike database c table (same.versions table);
}
