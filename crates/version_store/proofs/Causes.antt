-- Why the steps of a plan fail, and that a plan that can be made meets nothing else.
use Rattle.std.proofs.Common.{◌≡◌, ◌∙◌, ◌++◌, ◌∷◌, ◌<◌, ◌||◌, ℕ, ℤ, zero, suc, List, [], Bool, true, false, not, cond, Result, Ok, Err, IfErr, filter, map, take, drop, get_or, length, refl, sym, ap, ap₂, subst, append_assoc, arith}
use Rattle.std.specs.List.{All, AllByRecursion}
use Rattle.std.specs.List.Sorted.{IsPermutation}
use Rattle.std.proofs.lemmas.List.{map-append}
use Rattle.std.proofs.lemmas.List.Sorted.{IsPermutation-append_comm, IsPermutation-append_right, IsPermutation-sym, IsPermutation-trans}
use Rattle.sqlite_trees.proofs.ListLemmas.{all-append, all-permutation}
use Rattle.sqlite.specs.Effect.{Database}
use Rattle.sqlite.specs.State.{HasCleanDisk, State, Survives}
use Rattle.sqlite.specs.Tree.{IsAscending}
use Rattle.period_core.specs.Encoding.{IsColumnValue, encoded}
use Rattle.period_core.specs.Moments.{forever}
use Rattle.period_core.specs.declared.row.PeriodRow.{PeriodRow}
use Rattle.version_tables.specs.Healthy.{CanAdd, HaveOwnKeys, IsShort}
use Rattle.version_tables.specs.Represents.{Version, same_key}
use Rattle.version_tables.specs.declared.version_key.VersionKey.{VersionKey}
use Rattle.version_tables.proofs.Clashes.{same_key-turned}
use Rattle.version_tables.proofs.OwnKeys.{key_same, own_along}
use Rattle.version_tables.proofs.Steps.{reason_then}
use Rattle.version_store.specs.Changed.{added_at}
use Rattle.version_store.specs.Contents.{Contents, HaveColumnValues, TableVersion, added_in, same_version}
use Rattle.version_store.specs.DistinctKeys.{HaveDistinctKeys}
use Rattle.version_store.specs.Faults.{IsCaused}
use Rattle.version_store.specs.PendingRemovals.{HasExcept, is_pending, key_at}
use Rattle.version_store.specs.Written.{written, written_version}
use Rattle.version_store.specs.declared.fault.StoreFault.{StoreFault}
use Rattle.version_store.specs.declared.fault.StoreFault.TheVariants.{Memory}
use Rattle.version_store.proofs.Leaves.{new_of}
use Rattle.version_store.proofs.Sweeps.{same_bytes}

-- the cause of a step is a cause of all steps so far
pub caused_then : (a b c : State) → HasCleanDisk b → Survives a b (λ _. ⊥) → Survives b c (λ _. ⊥) → (fault : StoreFault) → IsCaused b c fault → IsCaused a c fault
caused_then a b c clean first next fault = reason_then (fault ≡ Memory) a b c clean first next

pub if_err : {X E : Type 0} (P Q : E → Type 0) (r : Result X E) → ((e : E) → P e → Q e) → IfErr r P → IfErr r Q
if_err P Q (Ok x) f h = tt
if_err P Q (Err e) f h = f e h

-- ---- parts of lists

front_all : {X : Type 0} (P : X → Type 0) (xs ys : List X) → AllByRecursion P (xs ++ ys) → AllByRecursion P xs
front_all P [] ys all = tt
front_all P (x ∷ xs) ys all = (all.0, front_all P xs ys all.1)

front : {X : Type 0} (R : X → X → Type 0) (xs ys : List X) → IsAscending R (xs ++ ys) → IsAscending R xs
front R [] ys up = tt
front R (x ∷ xs) ys up = (front_all (R x) xs ys up.0, front R xs ys up.1)

last_of : {X : Type 0} (P : X → Type 0) (xs : List X) (y : X) → AllByRecursion P (xs ++ y ∷ []) → P y
last_of P [] y all = all.0
last_of P (x ∷ xs) y all = last_of P xs y all.1

before_last : {X : Type 0} (R : X → X → Type 0) (xs : List X) (y : X) → IsAscending R (xs ++ y ∷ []) → AllByRecursion (λ x. R x y) xs
before_last R [] y up = tt
before_last R (x ∷ xs) y up = (last_of (R x) xs y up.0, before_last R xs y up.1)

from_filter : {X : Type 0} (p : X → Bool) (Q : X → Type 0) (xs : List X) → AllByRecursion Q (filter (λ x. not (p x)) xs) → ((x : X) → p x ≡ true → Q x) → AllByRecursion Q xs
from_filter p Q [] rest holds = tt
from_filter p Q (x ∷ xs) rest holds = go (p x) refl rest (λ left. from_filter p Q xs left holds)
  where
    go : (b : Bool) → p x ≡ b → AllByRecursion Q (cond (not b) (x ∷ filter (λ x. not (p x)) xs) (filter (λ x. not (p x)) xs)) → (AllByRecursion Q (filter (λ x. not (p x)) xs) → AllByRecursion Q xs) → AllByRecursion Q (x ∷ xs)
    go true is rest more = (holds x is, more rest)
    go false is rest more = (rest.0, more rest.1)

pub not_filtered : (k : Version) (vs : List Version) → AllByRecursion (λ w. same_key k w ≡ false) (filter (λ v. not (same_key k v)) vs)
not_filtered k [] = tt
not_filtered k (v ∷ vs) = go (same_key k v) refl (not_filtered k vs)
  where
    go : (b : Bool) → same_key k v ≡ b → AllByRecursion (λ w. same_key k w ≡ false) (filter (λ v. not (same_key k v)) vs) → AllByRecursion (λ w. same_key k w ≡ false) (cond (not b) (v ∷ filter (λ v. not (same_key k v)) vs) (filter (λ v. not (same_key k v)) vs))
    go true is rest = rest
    go false is rest = (is, rest)

all_kept : (vs : List Version) → filter (λ v. not false) vs ≡ vs
all_kept [] = refl
all_kept (v ∷ vs) = ap (λ l. v ∷ l) (all_kept vs)

pub all_at : {X : Type 0} (P : X → Type 0) (xs : List X) (i : ℕ) (x : X) → i < length xs → x ≡ get_or xs i x → AllByRecursion P xs → P x
all_at P [] i x low is all = absurd (omega (arith, low))
all_at P (y ∷ xs) zero x low is all = subst P (sym is) all.0
all_at P (y ∷ xs) (suc i) x low is all = all_at P xs i x (omega (arith, low)) is all.1

-- ---- versions of distinct keys as they are written

pub written_own : (vs : List TableVersion) → HaveColumnValues vs → HaveDistinctKeys vs → HaveOwnKeys (map written_version vs)
written_own [] held distinct = tt
written_own (v ∷ vs) held distinct = (go vs held.1 distinct.0, written_own vs held.1 distinct.1)
  where
    go : (ws : List TableVersion) → HaveColumnValues ws → AllByRecursion (λ (w : TableVersion). same_version v w ≡ false) ws → AllByRecursion (λ w. same_key (written_version v) w ≡ false) (map written_version ws)
    go [] held2 apart = tt
    go (w ∷ ws) held2 apart = (same_bytes v w held.0 held2.0 ∙ apart.0, go ws held2.1 apart.1)

-- ---- a row that is added while versions are still to be removed

module _ (table : ℕ) (moment : ℤ) where
  pending_same : (keys : List VersionKey) (v w : Version) → same_key v w ≡ true → is_pending table moment keys w ≡ is_pending table moment keys v
  pending_same [] v w same = refl
  pending_same (key ∷ keys) v w same =
      let k = key_at table moment key in
      let turned : same_key w v ≡ true = same_key-turned w v ∙ same in
      ap₂ (λ a b. a || b) (same_key-turned k w ∙ key_same w v k turned ∙ same_key-turned v k) (pending_same keys v w same)

  other_pending : (keys : List VersionKey) (v : Version) → is_pending table moment keys v ≡ false → (w : Version) → is_pending table moment keys w ≡ true → same_key v w ≡ false
  other_pending keys v none w is = go (same_key v w) refl
    where
      go : (b : Bool) → same_key v w ≡ b → b ≡ false
      go true same = sym is ∙ pending_same keys v w same ∙ none
      go false same = refl

  module _ (row : PeriodRow) (held : All IsColumnValue row.values) (db : Database) (keys : List VersionKey) (c : Contents) (has : HasExcept db table moment keys c) where
    new : Version
    new = new_of table moment row

    other_bytes : (vs : List TableVersion) → HaveColumnValues vs → AllByRecursion (λ (v : TableVersion). same_version v (added_in table moment forever row) ≡ false) vs → AllByRecursion (λ w. same_key (new_of table moment row) w ≡ false) (map written_version vs)
    other_bytes [] values apart = tt
    other_bytes (v ∷ vs) values apart =
        let u = added_in table moment forever row in
        (same_key-turned (written_version u) (written_version v) ∙ same_bytes v u values.0 held ∙ apart.0, other_bytes vs values.1 apart.1)

    pub none_there : is_pending table moment keys (new_of table moment row) ≡ false → HaveDistinctKeys (added_at table moment (row ∷ []) c).versions → AllByRecursion (λ w. same_key (new_of table moment row) w ≡ false) has.versions
    none_there none distinct =
        let u = added_in table moment forever row in
        let apart = before_last (λ (a b : TableVersion). same_version a b ≡ false) c.versions u distinct in
        let kept = all-permutation (λ w. same_key (new_of table moment row) w ≡ false) _ _ (IsPermutation-sym _ _ has.others) (other_bytes c.versions has.values apart) in
        from_filter (is_pending table moment keys) (λ w. same_key (new_of table moment row) w ≡ false) has.versions kept (other_pending keys (new_of table moment row) none)

  -- rows that are added if none is to be removed
  module _ (rows : List PeriodRow) (held : AllByRecursion (λ (row : PeriodRow). All IsColumnValue row.values) rows) (db : Database) (c : Contents) (has : HasExcept db table moment [] c) where
    short_new : (rows : List PeriodRow) → AllByRecursion (λ (row : PeriodRow). IsShort (encoded row.values)) rows → AllByRecursion (λ (v : Version). IsShort v.values) (map (new_of table moment) rows)
    short_new [] short = tt
    short_new (row ∷ rows) short = (short.0, short_new rows short.1)

    all_new : (rows : List PeriodRow) → map written_version (map (added_in table moment forever) rows) ≡ map (new_of table moment) rows
    all_new [] = refl
    all_new (row ∷ rows) = ap (λ l. new_of table moment row ∷ l) (all_new rows)

    new_held : (rows : List PeriodRow) → AllByRecursion (λ (row : PeriodRow). All IsColumnValue row.values) rows → HaveColumnValues (map (added_in table moment forever) rows)
    new_held [] held = tt
    new_held (row ∷ rows) held = (held.0, new_held rows held.1)

    pub can_add_all : AllByRecursion (λ (row : PeriodRow). IsShort (encoded row.values)) rows → HaveDistinctKeys (added_at table moment rows c).versions → CanAdd (map (new_of table moment) rows) (record (written c) { versions = has.versions })
    can_add_all short distinct =
        let values = all-append (λ (v : TableVersion). All IsColumnValue v.values) c.versions (map (added_in table moment forever) rows) has.values (new_held rows held) in
        let own = subst HaveOwnKeys (map-append written_version c.versions (map (added_in table moment forever) rows) ∙ ap (λ l. map written_version c.versions ++ l) (all_new rows)) (written_own _ values distinct) in
        let there : IsPermutation (map written_version c.versions) has.versions = IsPermutation-sym _ _ (subst (λ l. IsPermutation l (map written_version c.versions)) (all_kept has.versions) has.others) in
        let moved = IsPermutation-trans _ _ _ (IsPermutation-append_comm (map written_version c.versions) (map (new_of table moment) rows)) (IsPermutation-append_right (map (new_of table moment) rows) _ _ there) in
        record { short = short_new rows short; own = own_along _ _ moved own }

-- ---- a part of the rows leaves the keys distinct

take_drop : {X : Type 0} (i : ℕ) (xs : List X) → take i xs ++ drop i xs ≡ xs
take_drop zero xs = refl
take_drop (suc i) [] = refl
take_drop (suc i) (x ∷ xs) = ap (λ l. x ∷ l) (take_drop i xs)

pub distinct_part : (table : ℕ) (moment : ℤ) (rows : List PeriodRow) (i : ℕ) (c : Contents) → HaveDistinctKeys (added_at table moment rows c).versions → HaveDistinctKeys (added_at table moment (take i rows) c).versions
distinct_part table moment rows i c distinct =
    let f = added_in table moment forever in
    let parts : c.versions ++ map f rows ≡ (c.versions ++ map f (take i rows)) ++ map f (drop i rows) =
    ap (λ l. c.versions ++ map f l) (sym (take_drop i rows)) ∙ ap (λ l. c.versions ++ l) (map-append f (take i rows) (drop i rows)) ∙ sym (append_assoc c.versions (map f (take i rows)) (map f (drop i rows))) in
    front (λ (a b : TableVersion). same_version a b ≡ false) (c.versions ++ map f (take i rows)) (map f (drop i rows)) (subst HaveDistinctKeys parts distinct)
