-- The opening of a database that has no object.
use Rattle.std.proofs.Common.{◌≡◌, ◌∙◌, List, [], ◌∷◌, inl, inr, refl, subst}
use Rattle.std.specs.List.{AllZip}
use Rattle.sqlite_trees.specs.declared.error.StoreError.{StoreError}
use Rattle.sqlite_trees.specs.declared.error.StoreError.TheVariants.{Broken, Corrupt, Full, Io, OutOfMemory, Unstorable}
use Rattle.sqlite_trees.specs.Objects.{catalog_tree}
use Rattle.sqlite_trees.specs.Tree.{Trees}
use Rattle.sqlite_schema.specs.declared.schema.Schema.{Schema}
use Rattle.sqlite_catalog.specs.Listing.{AreListed, IsIndexRow, IsSound, IsTableRow, IsViewRow}
use Rattle.sqlite_rules.specs.Calls.{Excuses}
use Rattle.sqlite.specs.declared.error.Error.{Error}
use Rattle.sqlite.specs.declared.error.Error.TheVariants.{SqliteFailure}
use Rattle.sqlite.specs.declared.error.ErrorCode.TheVariants as code
use Rattle.sqlite.specs.State.{store_error}
use Rattle.sqlite.specs.Steps.{FailsToOpen}
use Rattle.sqlite.proofs.ListingLemmas.{empty_is_sound}

abbrev none : Schema
none = record { tables = []; indexes = []; views = [] }

zip_none : {A B : Type 0} (R : A → B → Type 0) (ys : List B) → AllZip R [] ys → ys ≡ []
zip_none R [] h = refl
zip_none R (y ∷ ys) h = absurd h

-- the schema lists no table, no index and no view
pub lists_none : (schema : Schema) (db : Trees) → db catalog_tree ≡ [] → IsSound schema db → schema ≡ none
lists_none schema db empty sound =
    let listed = subst (λ objects. AreListed objects schema) empty sound.lists.listed in
    λ i. record {
      tables = zip_none IsTableRow _ listed.tables i;
      indexes = zip_none (IsIndexRow schema.tables) _ listed.indexes i;
      views = zip_none IsViewRow _ listed.views i;
    }

only_memory : (fault : Type 0) (cause : StoreError) → (fault → ⊥) → Excuses fault ⊥ cause → store_error cause ≡ SqliteFailure code.OutOfMemory
only_memory fault OutOfMemory never h = refl
only_memory fault Io never h = absurd (never h)
only_memory fault Corrupt never h = absurd (never h)
only_memory fault Full never h = absurd (never h)
only_memory fault Broken never h = absurd h
only_memory fault Unstorable never h = absurd h

-- the store opens, unless it is out of memory
pub fails_for_memory : (db : Trees) (fault : Type 0) (e : Error) → db catalog_tree ≡ [] → (fault → ⊥) → FailsToOpen db fault e → e ≡ SqliteFailure code.OutOfMemory
fails_for_memory db fault e empty never fails = elim fails [
  | inl refused ↦ absurd (refused.1 none (empty_is_sound db empty))
  | inr failed ↦ failed.1 ∙ only_memory fault failed.0 never failed.2
]
