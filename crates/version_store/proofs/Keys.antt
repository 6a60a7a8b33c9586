-- A database whose index is unique has no two versions of one key.
use Rattle.std.proofs.Common.{◌≡◌, ◌∙◌, ◌∷◌, true, false, List, [], map, subst, sym}
use Rattle.std.specs.List.{AllByRecursion}
use Rattle.std.specs.List.Sorted.{IsPermutation}
use Rattle.sqlite_trees.proofs.ListLemmas.{ascending_from_map}
use Rattle.sqlite.specs.Effect.{Database, IsDatabase}
use Rattle.sqlite.specs.Order.{Row}
use Rattle.sqlite.specs.Tree.{IsAscending, rowid}
use Rattle.sqlite.specs.View.{is_int}
use Rattle.version_tables.proofs.Clashes.{alike, alike-stored, database_apart, shown_differ}
use Rattle.version_tables.specs.Represents.{HaveDistinctRowids, version_shown}
use Rattle.version_tables.specs.Tables.{HasStoreTables}
use Rattle.version_store.proofs.Opens.{KeepsKeys, stored_version, twice}
use Rattle.version_store.proofs.Sweeps.{same_bytes}
use Rattle.version_store.specs.Contents.{Contents, HaveColumnValues, TableVersion, same_version}
use Rattle.version_store.specs.DistinctKeys.{HaveDistinctKeys}
use Rattle.version_store.specs.Written.{Has, written_version}

versions_apart : (vs : List TableVersion) → HaveColumnValues vs → IsAscending (λ a b. alike (stored_version b) (stored_version a) ≡ false) vs → IsAscending (λ (a b : TableVersion). same_version a b ≡ false) vs
versions_apart [] held apart = tt
versions_apart (v ∷ vs) held apart = (go vs held.1 apart.0, versions_apart vs held.1 apart.1)
  where
    go : (ws : List TableVersion) → HaveColumnValues ws → AllByRecursion (λ w. alike (stored_version w) (stored_version v) ≡ false) ws → AllByRecursion (λ (w : TableVersion). same_version v w ≡ false) ws
    go [] held apart = tt
    go (w ∷ ws) held2 apart = (sym (same_bytes v w held.0 held2.0) ∙ sym (alike-stored (written_version v) (written_version w)) ∙ apart.0, go ws held2.1 apart.1)

-- the versions of a store's database have distinct keys
pub keys_kept : (db : Database) → HasStoreTables db.schema → IsDatabase db → HaveDistinctRowids (db.trees 2) → AllByRecursion (λ r. is_int (rowid r) ≡ true) (db.trees 2) → KeepsKeys db
keys_kept db has sound untied ints vs held same =
    versions_apart vs held (ascending_from_map (λ a b. alike b a ≡ false) stored_version vs (shown_differ (db.trees 2) (map stored_version vs) untied ints (database_apart db has sound) same))

-- the versions of a database's contents have distinct keys
pub keys_of : (db : Database) (c : Contents) → Has db c → IsDatabase db → HaveDistinctKeys c.versions
keys_of db c has sound =
    keys_kept db has.rows.schema sound has.rows.untied has.rows.keyed c.versions has.values
    (subst (λ (l : List Row). IsPermutation l (map version_shown (db.trees 2))) (twice c.versions) has.rows.says.versions)
