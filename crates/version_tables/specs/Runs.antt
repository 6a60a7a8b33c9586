-- Versions that end together, since their numbers follow one another.
use Rattle.std.specs.Prelude.{◌++◌, ◌∷◌, [], ℕ, ℤ, Bool, true, false, pos, not, List, Result}
use Rattle.std.specs.Prelude.{IfOk, IsTrue, filter, map}
use Rattle.std.specs.List.{list_any}
use Rattle.sqlite.specs.Store.{Ghosts}
use Rattle.sqlite.specs.Effect.{IsDatabase}
use Rattle.sqlite.specs.Held.{Held, state}
use Rattle.sqlite.specs.Order.{Row}
use Rattle.sqlite.specs.State.{HasCleanDisk}
use Rattle.sqlite.specs.declared.types.Value.TheVariants.{Int, Blob}
use Rattle.version_tables.specs.Represents.{Records, Represents, Version, closing, key_of}
use Rattle.version_tables.specs.Represents.{same_key}
use Rattle.version_tables.specs.declared.version_key.RecordedKey.{RecordedKey}

-- the key of a version of the table
abbrev pub recorded : ℕ → RecordedKey → Version
recorded table key = key_of table key.key.values.items key.key.start key.from

-- a key as a query shows it
abbrev pub key_shown : Version → Row
key_shown k = Int (pos k.table) ∷ Blob k.values ∷ Int k.start ∷ Int k.from ∷ []

-- whether a version has one of the keys
abbrev pub is_one_of : List Version → Version → Bool
is_one_of keys v = list_any (λ k. same_key k v) keys

-- the versions with one of the keys end at the moment
abbrev pub all_ended : List Version → ℤ → Records → Records
all_ended keys to records = record records {
  versions =
      map (closing to) (filter (is_one_of keys) records.versions)
      ++ filter (λ v. not (is_one_of keys v)) records.versions;
}

-- so they are if they were ended, and else the records are as before
abbrev pub run_ended : Bool → List Version → ℤ → Records → Records
run_ended true keys to records = all_ended keys to records
run_ended false keys to records = records

-- on Ok the transaction goes on; a database that obeyed its schema still does, and its versions
-- with the keys are ended if the answer is yes
abbrev pub EndsRun : {S E : Type 0} → Ghosts S → Held S → Held S → Result Bool E → List Version
    → ℤ → Type 0
EndsRun g old new result keys to =
    HasCleanDisk (state g new) → IsTrue old.in_transaction
    → IfOk result (λ done. IsTrue new.in_transaction × (IsDatabase (state g old).now
    → (records : Records) → Represents (state g old).now records → IsDatabase (state g new).now
    × Represents (state g new).now (run_ended done keys to records)))
