-- The versions that a plan leaves as they were.
use Rattle.std.proofs.Common.{◌≡◌, ◌&&◌, ◌||◌, ℕ, ℤ, Bool, true, false, not, cond, nat_eq, List, [], ◌∷◌, ◌++◌, map, refl, sym, ap, ap₂, ◌∙◌, arith, append-nil}
use Rattle.std.specs.List.{filter, flat_map}
use Rattle.std.specs.Ordering.{int_cmp, is_eq}
use Rattle.std.proofs.lemmas.Bool.Decides.{nat_tests}
use Rattle.std.proofs.lemmas.List.Elements.{filter-append}
use Rattle.period_core.specs.Moments.{forever}
use Rattle.period_core.specs.Order.{values_cmp}
use Rattle.period_core.specs.declared.row.PeriodRow.{PeriodRow}
use Rattle.period_core.specs.declared.version.VersionRow.{VersionRow}
use Rattle.version_store.specs.Contents.{Contents, TableVersion, added_in, of_table}
use Rattle.version_store.specs.Changed.{closed_at, ended_at, is_ended, remains_of, planned}

-- a test that no ended version passes, and that reads no end of a version, finds what it found before
spared : (table : ℕ) (moment : ℤ) (ended : List VersionRow) (p : TableVersion → Bool) → ((v : TableVersion) → is_ended table ended v ≡ true → p v ≡ false)
    → ((v : TableVersion) → p (record v { to = moment }) ≡ p v) → (vs : List TableVersion) → filter p (flat_map (remains_of table moment ended) vs) ≡ filter p vs
spared table moment ended p off keeps [] = refl
spared table moment ended p off keeps (v ∷ vs) =
    filter-append p (remains_of table moment ended v) (flat_map (remains_of table moment ended) vs)
    ∙ ap₂ (λ (a b : List TableVersion). a ++ b) (one (is_ended table ended v) refl) (spared table moment ended p off keeps vs)
    ∙ joined (p v)
  where
    none : p v ≡ false → (b : Bool) → filter p (cond b [] (record v { to = moment } ∷ [])) ≡ cond (p v) (v ∷ []) []
    none h true = sym (ap (λ t. cond t (v ∷ []) []) h)
    none h false = ap (λ t. cond t (record v { to = moment } ∷ []) []) (keeps v ∙ h) ∙ sym (ap (λ t. cond t (v ∷ []) []) h)

    one : (b : Bool) → is_ended table ended v ≡ b → filter p (cond b (closed_at moment v) (v ∷ [])) ≡ cond (p v) (v ∷ []) []
    one true e = none (off v e) (is_eq (int_cmp v.from moment))
    one false e = refl

    joined : (b : Bool) → cond b (v ∷ []) [] ++ filter p vs ≡ cond b (v ∷ filter p vs) (filter p vs)
    joined true = refl
    joined false = refl

-- no version of another table is one of the ended rows
elsewhere : (table : ℕ) (ended : List VersionRow) (v : TableVersion) → nat_eq v.table table ≡ false → is_ended table ended v ≡ false
elsewhere table [] v e = refl
elsewhere table (row ∷ rows) v e = go (nat_eq v.table table) e (elsewhere table rows v e)
  where
    go : (b : Bool) → b ≡ false → is_ended table rows v ≡ false
        → (b && (is_eq (values_cmp v.values row.values) && (is_eq (int_cmp v.start row.period.start) && is_eq (int_cmp v.from row.from)))) || is_ended table rows v ≡ false
    go true e rest = cc
    go false e rest = rest

ended_here : (table other : ℕ) (ended : List VersionRow) → (other ≡ table → ⊥) → (v : TableVersion) → is_ended table ended v ≡ true → nat_eq v.table other ≡ false
ended_here table other ended apart v e = go (nat_eq v.table table) refl
  where
    go : (b : Bool) → nat_eq v.table table ≡ b → nat_eq v.table other ≡ false
    go true same =
        let here : v.table ≡ table = grind (arith, nat_tests, same) in
        away (nat_eq v.table other) refl here
      where
        away : (b : Bool) → nat_eq v.table other ≡ b → v.table ≡ table → b ≡ false
        away true t here = let there : v.table ≡ other = grind (arith, nat_tests, t) in absurd (apart (sym there ∙ here))
        away false t here = refl
    go false off = let none : is_ended table ended v ≡ false = elsewhere table ended v off in cc

none_added : (table other : ℕ) (moment : ℤ) → nat_eq table other ≡ false → (added : List PeriodRow) → of_table other (map (added_in table moment forever) added) ≡ []
none_added table other moment off [] = refl
none_added table other moment off (row ∷ rows) =
    ap (λ b. cond b (added_in table moment forever row ∷ of_table other (map (added_in table moment forever) rows)) (of_table other (map (added_in table moment forever) rows))) off
    ∙ none_added table other moment off rows

-- a plan leaves the versions of the other tables
pub other_tables : (table other : ℕ) (moment : ℤ) (ended : List VersionRow) (added : List PeriodRow) (c : Contents) → (other ≡ table → ⊥)
    → of_table other (planned table moment ended added c).versions ≡ of_table other c.versions
other_tables table other moment ended added c apart =
    filter-append (λ (v : TableVersion). nat_eq v.table other) (flat_map (remains_of table moment ended) c.versions) (map (added_in table moment forever) added)
    ∙ ap₂ (λ (a b : List TableVersion). a ++ b)
    (spared table moment ended (λ (v : TableVersion). nat_eq v.table other) (ended_here table other ended apart) (λ v. refl) c.versions)
    (none_added table other moment (off (nat_eq table other) refl) added)
    ∙ append-nil (of_table other c.versions)
  where
    off : (b : Bool) → nat_eq table other ≡ b → b ≡ false
    off true t = let same : table ≡ other = grind (arith, nat_tests, t) in absurd (apart (sym same))
    off false t = refl

pub rest_stays : (table : ℕ) (moment : ℤ) (ended : List VersionRow) (c : Contents)
    → filter (λ v. not (is_ended table ended v)) (ended_at table moment ended c).versions ≡ filter (λ v. not (is_ended table ended v)) c.versions
rest_stays table moment ended c =
    spared table moment ended (λ v. not (is_ended table ended v)) (λ v e. ap not e) (λ v. ap not (same ended v)) c.versions
  where
    same : (rows : List VersionRow) (v : TableVersion) → is_ended table rows (record v { to = moment }) ≡ is_ended table rows v
    same rows v = refl
