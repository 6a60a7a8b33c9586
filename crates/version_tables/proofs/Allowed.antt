-- The edits of one of the three tables that the database allows: the rules of its columns, its
-- size, and the references.
use Rattle.std.proofs.Common.{◌≡◌, ◌≢◌, ◌∙◌, inl, inr, ℕ, ℤ, pos, negsuc, zero, suc, ◌+◌, ◌^◌, ◌≤◌, ◌<◌, ◌&&◌, ◌||◌, ◌≤ℤ◌, ◌+ℤ◌, List, [], ◌∷◌, length, Bool, true, false, not, Some, None, refl, sym, ap, subst, true≢false, arith, codes}
use Rattle.std.specs.Prelude.{All, nat_lt}
use Rattle.std.specs.Float.{NotNan}
use Rattle.std.specs.Float.Ieee
use Rattle.std.specs.Int.{bit_at}
use Rattle.std.specs.List.{AllByRecursion, list_all, sum_by}
use Rattle.std.proofs.lemmas.Bool.{and_parts, or_parts}
use Rattle.std.proofs.lemmas.Int.{ints}
use Rattle.std.proofs.lemmas.Bool.Decides.{nat_tests}
use Rattle.std.proofs.lemmas.Nat.Bits.{bit_at-zero}
use Rattle.period_core.specs.Encoding.{greatest_integer, least_integer}
use Rattle.sqlite_schema.specs.declared.schema.Index.{Index}
use Rattle.sqlite.specs.Order.{Row}
use Rattle.sqlite.specs.Table.{Table}
use Rattle.sqlite.specs.Tree.{Trees, rowid, with_tree}
use Rattle.sqlite.specs.declared.types.Value.{Value}
use Rattle.sqlite.specs.declared.types.Value.TheVariants.{Blob, Int, Null}
use Rattle.sqlite_rules.proofs.ListLemmas.{all_has}
use Rattle.sqlite_rules.specs.Edit.{Applies, Edit, IsOversized, IsRefused, are_fresh, edited, have_rowids, id_in, left_by}
use Rattle.sqlite_rules.specs.Lists.{Has}
use Rattle.sqlite_rules.specs.declared.error.Refusal.{Refusal}
use Rattle.sqlite_rules.specs.declared.error.Refusal.TheVariants.{BadReference, Mismatch, NoRowid, TooDeep, Violates}
use Rattle.sqlite_schema.specs.Names.{same_name}
use Rattle.sqlite_schema.specs.Rules.{Keeps, Refers, has_parent, is_among, is_held, is_key_if_to, parent_key, passes}
use Rattle.sqlite_schema.specs.declared.schema.Among.TheVariants as among
use Rattle.sqlite_schema.specs.declared.schema.Constraint.TheVariants.{Check, Datatype, ForeignKey, NotNull, PrimaryKey, Unique}
use Rattle.sqlite_schema.specs.declared.schema.Keys.{Keys}
use Rattle.sqlite_schema.specs.declared.schema.Keys.TheVariants.{Enforced}
use Rattle.sqlite_schema.specs.declared.schema.Reference.{Reference}
use Rattle.sqlite_sql.specs.Catalog.{entry_of}
use Rattle.sqlite_sql.specs.Ops.{fits_i64}
use Rattle.sqlite_trees.proofs.ListLemmas.{all_both, all_weaker}
use Rattle.sqlite_trees.specs.View.{IsStorable}
use Rattle.sqlite_value.specs.Order.{bytes, number}
use Rattle.version_tables.specs.Healthy.{IsShort}
use Rattle.version_tables.specs.Represents.{Version, stored}
use Rattle.version_tables.specs.Tables.{IsApart, Others, definition_table, is_own_name, meta_table, schema_with, version_table}
use Rattle.version_tables.proofs.Apart.{IsKeyOf, parent_of}
use Rattle.version_tables.proofs.Clashes.{each}
use Rattle.version_tables.proofs.Numbers.{number_from}

-- ---- a row of numbers and few bytes can be stored

all_places : {X : Type 0} (P : X → Type 0) (xs : List X) → AllByRecursion P xs → All P xs
all_places P [] all i d low = absurd (omega (arith, low))
all_places P (x ∷ xs) all zero d low = all.0
all_places P (x ∷ xs) all (suc i) d low = all_places P xs all.1 i d (omega (arith, low))

abbrev IsFine : Value → Type 0
IsFine v = NotNan (number v)

fine_int : (n : ℤ) → IsFine (Int n)
unfolding Ieee.is_nan
fine_int (pos n) = tt
fine_int (negsuc n) = tt

fine_blob : (b : List ℕ) → IsFine (Blob b)
unfolding Ieee.is_nan
fine_blob b = tt

fine_null : IsFine Null
unfolding Ieee.is_nan
fine_null = tt

no_real : (c : ℕ) → bit_at 0 c ≡ 1 → ⊥
no_real c one = let none = bit_at-zero c in absurd cc

storable : (entry : Row) → 0 < length entry → length entry ≤ 2001 → AllByRecursion IsFine entry → sum_by (λ v. 18 + length (bytes v)) entry ≤ 10 ^ 9 → IsStorable 0 entry
storable entry some few fine short = record { typed = λ c one. absurd (no_real c one); columns = (some, few); numbers = all_places IsFine entry fine; short = short }

module _ (others : Others) (bare : AllByRecursion (λ i. 4 ≤ i.table) others.indexes) where
  not_theirs : (i : Index) (tree : ℕ) → tree < 4 → Has others.indexes i → i.table ≡ tree → ⊥
  not_theirs i tree low there is = let far = all_has (λ (i : Index). 4 ≤ i.table) others.indexes i bare there in absurd (omega (arith, low, far, is))

  pub version_small : (id : ℤ) (v : Version) → IsShort v.values → IsOversized (schema_with others) (version_table 2) (Int id ∷ stored v) → ⊥
  version_small id v short (inl not_row) =
      not_row (
        storable (Int id ∷ stored v) (omega arith) (omega arith) (fine_int id, (fine_int (pos v.table), (fine_blob v.values, (fine_int v.start, (fine_int v.end, (fine_int v.from, (fine_int v.to, tt))))))) (omega (arith, short)),
        omega arith,
      )
  version_small id v short (inr (i, inl first, is, not_entry)) =
      not_entry (rw first (storable (entry_of (1 ∷ 2 ∷ 3 ∷ 5 ∷ []) (Int id ∷ stored v)) (omega arith) (omega arith) (fine_int (pos v.table), (fine_blob v.values, (fine_int v.start, (fine_int v.from, (fine_int id, tt))))) (omega (arith, short))))
  version_small id v short (inr (i, inr there, is, not_entry)) = not_theirs i 2 (omega arith) there is

  pub definition_small : (id : ℤ) (d : List ℕ) → IsShort d → IsOversized (schema_with others) (definition_table 1) (Int id ∷ Null ∷ Blob d ∷ []) → ⊥
  definition_small id d short (inl not_row) =
      not_row (storable (Int id ∷ Null ∷ Blob d ∷ []) (omega arith) (omega arith) (fine_int id, (fine_null, (fine_blob d, tt))) (omega (arith, short)), omega arith)
  definition_small id d short (inr (i, inl first, is, not_entry)) = absurd (let other = ap (λ (i : Index). i.table) first in omega (arith, is, other))
  definition_small id d short (inr (i, inr there, is, not_entry)) = not_theirs i 1 (omega arith) there is

  pub meta_small : (id form clock : ℤ) → IsOversized (schema_with others) (meta_table 0) (Int id ∷ Null ∷ Int form ∷ Int clock ∷ []) → ⊥
  meta_small id form clock (inl not_row) =
      not_row (storable (Int id ∷ Null ∷ Int form ∷ Int clock ∷ []) (omega arith) (omega arith) (fine_int id, (fine_null, (fine_int form, (fine_int clock, tt)))) (omega arith), omega arith)
  meta_small id form clock (inr (i, inl first, is, not_entry)) = absurd (let other = ap (λ (i : Index). i.table) first in omega (arith, is, other))
  meta_small id form clock (inr (i, inr there, is, not_entry)) = not_theirs i 0 (omega arith) there is

-- ---- the references of other tables hold as they did

module _ (others : Others) (apart : AllByRecursion IsApart others.tables) (db next : Trees) (same : AllByRecursion (λ t. next t.tree ≡ db t.tree) others.tables) where
  held_same : (places : List ℕ) (row : Row) (key : _) → IsKeyOf (λ t. next t ≡ db t) key → is_held next places row key ≡ is_held db places row key
  held_same places row None there = refl
  held_same places row (Some key) there = rw there refl

  still_held : (row : Row) (refs : List Reference) → AllByRecursion (λ ref. is_own_name ref.parent ≡ false) refs → list_all (has_parent (schema_with others).tables db row) refs ≡ true
      → list_all (λ ref. not (is_among among.All ref) || has_parent (schema_with others).tables next row ref) refs ≡ true
  still_held row [] away was = refl
  still_held row (ref ∷ refs) away was =
      let parts = and_parts (has_parent (schema_with others).tables db row ref) (list_all (has_parent (schema_with others).tables db row) refs) was in
      let one = held_same ref.columns row (parent_key (schema_with others).tables ref) (parent_of (λ t. next t ≡ db t) others ref same away.0) in
      rw (one, parts.0) (still_held row refs away.1 parts.1)

  theirs : (ts : List Table) → AllByRecursion IsApart ts → AllByRecursion (λ t. next t.tree ≡ db t.tree) ts → AllByRecursion (λ t. AllByRecursion (λ row. passes ForeignKey (schema_with others) db t row ≡ true) (db t.tree)) ts
      → AllByRecursion (λ t. AllByRecursion (λ row. list_all (λ ref. not (is_among among.All ref) || has_parent (schema_with others).tables next row ref) t.references ≡ true) (next t.tree)) ts
  theirs [] away same was = tt
  theirs (t ∷ ts) away same was = (
    subst (AllByRecursion (λ row. list_all (λ ref. not (is_among among.All ref) || has_parent (schema_with others).tables next row ref) t.references ≡ true)) (sym same.0)
        (all_weaker _ (λ row. list_all (λ ref. not (is_among among.All ref) || has_parent (schema_with others).tables next row ref) t.references ≡ true) (λ row holds. still_held row t.references away.0.refers holds) (db t.tree) was.0),
    theirs ts away.1 same.1 was.1,
  )

  pub refers_kept : Keeps ForeignKey (schema_with others) db → Refers among.All (schema_with others) next
  refers_kept was = (each _ (λ row. refl) (next 0), (each _ (λ row. refl) (next 1), (each _ (λ row. refl) (next 2), theirs others.tables apart same was.1.1.1)))

pub others_same : (others : Others) → AllByRecursion IsApart others.tables → (keys : Keys) (db next : Trees) (edit : Edit) → edit.table.tree < 4 → Applies (schema_with others) keys db edit next → AllByRecursion (λ t. next t.tree ≡ db t.tree) others.tables
others_same others apart keys db next edit low applies =
    all_both IsApart (λ t. t.tree ≢ edit.table.tree → next t.tree ≡ db t.tree) (λ t. next t.tree ≡ db t.tree) (λ t one kept. kept (λ e. absurd (let far = one.tree in omega (arith, low, far, e)))) others.tables apart applies.tables.1.1.1

-- ---- no reference is to one of the three

refers_elsewhere : (name : List ℕ) → ((other : List ℕ) → is_own_name other ≡ false → same_name name other ≡ false) → (others : Others) (t : Table) → t.name ≡ name → (refs : List Reference) → AllByRecursion (λ ref. is_own_name ref.parent ≡ false) refs
    → list_all (is_key_if_to (schema_with others) t) refs ≡ true
refers_elsewhere name own others t is [] away = refl
refers_elsewhere name own others t is (ref ∷ refs) away = rw (is, own ref.parent away.0) (refers_elsewhere name own others t is refs away.1)

none_to : (name : List ℕ) → ((other : List ℕ) → is_own_name other ≡ false → same_name name other ≡ false) → (others : Others) (t : Table) → t.name ≡ name → (ts : List Table) → AllByRecursion IsApart ts
    → list_all (λ u. list_all (is_key_if_to (schema_with others) t) u.references) ts ≡ true
none_to name own others t is [] apart = refl
none_to name own others t is (u ∷ ts) apart = rw (refers_elsewhere name own others t is u.references apart.0.refers) (none_to name own others t is ts apart.1)

own_meta : (other : List ℕ) → is_own_name other ≡ false → same_name (codes "bt_meta") other ≡ false
own_meta other away = (or_parts (same_name (codes "bt_meta") other) _ away).0

own_version : (other : List ℕ) → is_own_name other ≡ false → same_name (codes "bt_version") other ≡ false
own_version other away = (or_parts (same_name (codes "bt_table") other) _ (or_parts (same_name (codes "bt_meta") other) _ away).1).1

both_hold : (adds removes : Bool) → ((not adds || true) && (not removes || true)) ≡ true
both_hold true true = refl
both_hold true false = refl
both_hold false true = refl
both_hold false false = refl

-- ---- an edit of bt_version

-- rows of bt_version, with numbers of 64 bits
abbrev pub IsOwnRow : Row → Type 0
IsOwnRow r = (id : ℤ) × (v : Version) × (r ≡ Int id ∷ stored v) × IsShort v.values × (fits_i64 id ≡ true)

own_typed : (db : Trees) (others : Others) (rows : List Row) → AllByRecursion IsOwnRow rows → list_all (passes Datatype (schema_with others) db (version_table 2)) rows ≡ true
own_typed db others [] own = refl
own_typed db others (r ∷ rows) own = rw own.0.2 (own_typed db others rows own.1)

own_present : (db : Trees) (others : Others) (rows : List Row) → AllByRecursion IsOwnRow rows → list_all (passes NotNull (schema_with others) db (version_table 2)) rows ≡ true
own_present db others [] own = refl
own_present db others (r ∷ rows) own = rw own.0.2 (own_present db others rows own.1)

own_checked : (db : Trees) (others : Others) (rows : List Row) → list_all (passes Check (schema_with others) db (version_table 2)) rows ≡ true
own_checked db others [] = refl
own_checked db others (r ∷ rows) = own_checked db others rows

own_keyed : (rows : List Row) → AllByRecursion IsOwnRow rows → have_rowids rows ≡ true
own_keyed [] own = refl
own_keyed (r ∷ rows) own = rw own.0.2 (own_keyed rows own.1)

own_numbers : (rows : List Row) → AllByRecursion IsOwnRow rows → list_all (λ r. fits_i64 (id_in (rowid r))) rows ≡ true
own_numbers [] own = refl
own_numbers (r ∷ rows) own = let fits = own.0.4 in rw (own.0.2, fits) (own_numbers rows own.1)

abbrev pub version_edit : List ℤ → List Row → Edit
version_edit gone news = record { table = version_table 2; gone = gone; news = news }

module _ (others : Others) (apart : AllByRecursion IsApart others.tables) (db : Trees) (gone : List ℤ) (news : List Row) (own : AllByRecursion IsOwnRow news) where
  pub version_allowed : are_fresh (left_by db (version_edit gone news)) news ≡ true → Keeps Unique (schema_with others) (with_tree db 2 (edited db (version_edit gone news))) → (why : Refusal) → IsRefused (schema_with others) Enforced db (version_edit gone news) why → ⊥
  version_allowed fresh unique (Violates Datatype) h = true≢false (sym (own_typed db others news own) ∙ h)
  version_allowed fresh unique (Violates NotNull) h = true≢false (sym (own_present db others news own) ∙ h)
  version_allowed fresh unique (Violates Check) h = true≢false (sym (own_checked db others news) ∙ h)
  version_allowed fresh unique (Violates PrimaryKey) h = true≢false (sym fresh ∙ h)
  version_allowed fresh unique (Violates Unique) h = h unique
  version_allowed fresh unique (Violates ForeignKey) h = h
  version_allowed fresh unique Mismatch h = true≢false (sym (own_keyed news own) ∙ h)
  version_allowed fresh unique NoRowid h = true≢false (sym (own_numbers news own) ∙ h)
  version_allowed fresh unique BadReference h =
      let none = none_to (codes "bt_version") own_version others (version_table 2) refl others.tables apart in
      true≢false (sym (rw none (both_hold _ _)) ∙ h)
  version_allowed fresh unique TooDeep h = h

  pub version_sized : AllByRecursion (λ i. 4 ≤ i.table) others.indexes → (row : Row) → Has news row → IsOversized (schema_with others) (version_table 2) row → ⊥
  version_sized bare row there big =
      let one = all_has IsOwnRow news row own there in
      version_small others bare one.0 one.1 one.3 (subst (IsOversized (schema_with others) (version_table 2)) one.2 big)

pub fits_64 : (n : ℤ) → least_integer ≤ℤ n → n ≤ℤ greatest_integer → fits_i64 n ≡ true
fits_64 (pos n) low high = grind (arith, nat_tests, ints)
fits_64 (negsuc n) low high = grind (arith, nat_tests, ints)

-- new rows with their numbers are rows that the three tables may have
pub numbers_own : (first : ℤ) (vs : List Version) → AllByRecursion (λ (v : Version). IsShort v.values) vs → least_integer ≤ℤ first → (first +ℤ pos (length vs)) ≤ℤ (greatest_integer +ℤ pos 1) → AllByRecursion IsOwnRow (number_from first vs)
numbers_own first [] short low high = tt
numbers_own first (v ∷ vs) short low high =
    ((first, v, refl, short.0, fits_64 first low (omega (arith, ints, high))), numbers_own (first +ℤ pos 1) vs short.1 (omega (arith, ints, low)) (omega (arith, ints, high)))

-- ---- an edit of bt_meta, and one of bt_table

abbrev pub meta_edit : List ℤ → Row → Edit
meta_edit gone row = record { table = meta_table 0; gone = gone; news = row ∷ [] }

abbrev pub definition_edit : Row → Edit
definition_edit row = record { table = definition_table 1; gone = []; news = row ∷ [] }

module _ (others : Others) (apart : AllByRecursion IsApart others.tables) (db : Trees) where
  pub meta_allowed : (gone : List ℤ) (id form clock : ℤ) → let edit = meta_edit gone (Int id ∷ Null ∷ Int form ∷ Int clock ∷ []) in fits_i64 id ≡ true → are_fresh (left_by db edit) edit.news ≡ true
      → Keeps Unique (schema_with others) (with_tree db 0 (edited db edit)) → (why : Refusal) → IsRefused (schema_with others) Enforced db edit why → ⊥
  meta_allowed gone id form clock fits fresh unique (Violates Datatype) h = true≢false h
  meta_allowed gone id form clock fits fresh unique (Violates NotNull) h = true≢false h
  meta_allowed gone id form clock fits fresh unique (Violates Check) h = true≢false h
  meta_allowed gone id form clock fits fresh unique (Violates PrimaryKey) h = true≢false (sym fresh ∙ h)
  meta_allowed gone id form clock fits fresh unique (Violates Unique) h = h unique
  meta_allowed gone id form clock fits fresh unique (Violates ForeignKey) h = h
  meta_allowed gone id form clock fits fresh unique Mismatch h = true≢false h
  meta_allowed gone id form clock fits fresh unique NoRowid h = true≢false (rw fits at h)
  meta_allowed gone id form clock fits fresh unique BadReference h =
      let none = none_to (codes "bt_meta") own_meta others (meta_table 0) refl others.tables apart in
      true≢false (sym (rw none (both_hold true (nat_lt 0 (length gone)))) ∙ h)
  meta_allowed gone id form clock fits fresh unique TooDeep h = h

  pub definition_allowed : (id : ℤ) (d : List ℕ) → let edit = definition_edit (Int id ∷ Null ∷ Blob d ∷ []) in fits_i64 id ≡ true → are_fresh (left_by db edit) edit.news ≡ true
      → Keeps Unique (schema_with others) (with_tree db 1 (edited db edit)) → (why : Refusal) → IsRefused (schema_with others) Enforced db edit why → ⊥
  definition_allowed id d fits fresh unique (Violates Datatype) h = true≢false h
  definition_allowed id d fits fresh unique (Violates NotNull) h = true≢false h
  definition_allowed id d fits fresh unique (Violates Check) h = true≢false h
  definition_allowed id d fits fresh unique (Violates PrimaryKey) h = true≢false (sym fresh ∙ h)
  definition_allowed id d fits fresh unique (Violates Unique) h = h unique
  definition_allowed id d fits fresh unique (Violates ForeignKey) h = h
  definition_allowed id d fits fresh unique Mismatch h = true≢false h
  definition_allowed id d fits fresh unique NoRowid h = true≢false (rw fits at h)
  definition_allowed id d fits fresh unique BadReference h = true≢false h
  definition_allowed id d fits fresh unique TooDeep h = h
