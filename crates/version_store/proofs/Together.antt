-- Rows that end together, as their keys are written.
use Rattle.std.proofs.Common.{◌≡◌, ◌≢◌, ◌++◌, ◌+◌, ◌-◌, ◌<◌, ℕ, zero, suc, ℤ, List, [], ◌∷◌, get_or, map, drop, take, length, Bool, true, false, sym, ap, ap₂, subst, ◌∙◌, arith, length-append}
use Rattle.std.specs.Prelude.{if◌then◌else◌}
use Rattle.std.specs.List.{All, AllByRecursion}
use Rattle.std.specs.Ordering.{int_cmp, is_eq}
use Rattle.std.proofs.lemmas.List.{length-drop, map-append, take_at, take_more}
use Rattle.std.proofs.Math.Seq.{take-length}
use Rattle.sqlite_trees.proofs.ListLemmas.{all-append, all_weaker}
use Rattle.sqlite.specs.Effect.{Database, IsDatabase}
use Rattle.period_core.specs.Encoding.{IsColumnValue, encoded}
use Rattle.period_core.specs.declared.version.VersionRow.{VersionRow}
use Rattle.version_tables.specs.Healthy.{AreShort, IsShort}
use Rattle.version_tables.specs.Represents.{Records, Represents, key_of}
use Rattle.version_tables.specs.Runs.{all_ended, recorded, run_ended}
use Rattle.version_tables.specs.declared.version_key.RecordedKey.{RecordedKey}
use Rattle.version_tables.specs.declared.version_key.VersionKey.{VersionKey}
use Rattle.version_store.specs.Changed.{ended_at}
use Rattle.version_store.specs.Contents.{Contents}
use Rattle.version_store.specs.PendingRemovals.{HasExcept}
use Rattle.version_store.specs.Runs.{AreKeysOf, row_key}
use Rattle.version_store.proofs.Leaves.{close_together}
use Rattle.version_store.proofs.Sweeps.{other_moment}

module _ (table : ℕ) (moment : ℤ) (rows : List VersionRow) (keys : List RecordedKey) (are : AreKeysOf moment rows keys) where
  -- the rows are ended by their keys, or nothing is changed
  pub rows_ended : (old new : Database) (done : Bool) (pending : List VersionKey) (c : Contents) → HasExcept old table moment pending c
      → ((m : Records) → Represents old m → IsDatabase new × Represents new (run_ended done (map (recorded table) keys) moment m)) → IsDatabase new × HasExcept new table moment pending (if done then ended_at table moment rows c else c)
  rows_ended old new true pending c was made = (
    (made _ was.rows).0,
    close_together table moment rows are.held (all_weaker (λ (row : VersionRow). row.from ≢ moment) (λ (row : VersionRow). is_eq (int_cmp row.from moment) ≡ false) (λ row apart. other_moment row.from moment apart) rows are.earlier) old new pending c was
        (λ m is. subst (λ ks. Represents new (all_ended ks moment m)) (are.keyed table) (made m is).1),
  )
  rows_ended old new false pending c was made =
      ((made _ was.rows).0, record { versions = was.versions; rows = (made _ was.rows).1; others = was.others; definitions = was.definitions; values = was.values })

  -- the keys of short rows are short
  pub keys_short : AllByRecursion (λ (row : VersionRow). IsShort (encoded row.values)) rows → AreShort (map (recorded table) keys)
  keys_short short = subst AreShort (sym (are.keyed table)) (each rows short)
    where
      each : (rows : List VersionRow) → AllByRecursion (λ (row : VersionRow). IsShort (encoded row.values)) rows → AreShort (map (row_key table) rows)
      each [] all = tt
      each (row ∷ rows) all = (all.0, each rows all.1)

-- the rows before the rest are so many of the first
pub first_rows : (rows done rest : List VersionRow) → rows ≡ done ++ rest → take (length rows - length rest) rows ≡ done
first_rows rows done rest is =
    let count : length done ≡ length rows - length rest = let all : length rows ≡ length (done ++ rest) = ap length is in omega (arith, all, length-append done rest) in
    ap (take (length rows - length rest)) is ∙ take_at done rest (length rows - length rest) count

-- one more row and its key
pub keys_more : (moment : ℤ) (rows : List VersionRow) (i : ℕ) (row : VersionRow) (keys : List RecordedKey) (key : RecordedKey) → i < length rows → row ≡ get_or rows i row → AreKeysOf moment (take i rows) keys
    → key.key.values.items ≡ encoded row.values → key.key.start ≡ row.period.start → key.from ≡ row.from → All IsColumnValue row.values → row.from ≢ moment → AreKeysOf moment (take (i + 1) rows) (keys ++ key ∷ [])
keys_more moment rows i row keys key low same was bytes start from values apart =
    let more : take (i + 1) rows ≡ take i rows ++ row ∷ [] = take_more rows i row low ∙ ap (λ r. take i rows ++ r ∷ []) (sym same) in
    record {
      keyed = λ table. map-append (recorded table) keys (key ∷ [])
          ∙ ap₂ (λ a b. a ++ b ∷ []) (was.keyed table) (λ j. key_of table (bytes j) (start j) (from j))
          ∙ sym (map-append (row_key table) (take i rows) (row ∷ [])) ∙ ap (map (row_key table)) (sym more);
      held = subst (AllByRecursion (λ (r : VersionRow). All IsColumnValue r.values)) (sym more) (all-append (λ (r : VersionRow). All IsColumnValue r.values) (take i rows) (row ∷ []) was.held (values, tt));
      earlier = subst (AllByRecursion (λ (r : VersionRow). r.from ≢ moment)) (sym more) (all-append (λ (r : VersionRow). r.from ≢ moment) (take i rows) (row ∷ []) was.earlier (apart, tt));
    }

-- a fact of all rows is one of those in the middle
pub middle_all : {X : Type 0} (P : X → Type 0) (xs ys zs : List X) → AllByRecursion P (xs ++ (ys ++ zs)) → AllByRecursion P ys
middle_all P (x ∷ xs) ys zs all = middle_all P xs ys zs all.1
middle_all P [] [] zs all = tt
middle_all P [] (y ∷ ys) zs all = (all.0, middle_all P [] ys zs all.1)

-- and of those that are left
pub rest_all : {X : Type 0} (P : X → Type 0) (n : ℕ) (xs : List X) → AllByRecursion P xs → AllByRecursion P (drop n xs)
rest_all P zero xs all = all
rest_all P (suc n) [] all = tt
rest_all P (suc n) (x ∷ xs) all = rest_all P n xs all.1

pub to_end : {X : Type 0} (n : ℕ) (xs : List X) → take (length xs - n) (drop n xs) ≡ drop n xs
to_end n xs = ap (λ k. take k (drop n xs)) (sym (length-drop n xs)) ∙ take-length (drop n xs)
