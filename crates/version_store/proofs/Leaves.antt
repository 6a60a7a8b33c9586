-- The steps of a plan over a database that still has versions to leave.
use Rattle.std.proofs.Common.{◌≡◌, ℕ, ℤ, List, [], ◌∷◌, ◌++◌, map, filter, length, Bool, true, false, not, cond, ◌&&◌, ◌||◌, ◌==◌, eqb-true, refl, sym, ap, subst, subst₂, ◌∙◌, arith}
use Rattle.std.specs.List.{All, AllByRecursion, flat_map}
use Rattle.std.specs.List.Sorted.{IsPermutation}
use Rattle.std.specs.Ordering.{int_cmp, is_eq, nat_cmp}
use Rattle.std.specs.Cmp.Lexicographic.{slice_cmp}
use Rattle.std.proofs.Math.Path.{fun_ext}
use Rattle.std.proofs.lemmas.Bool.{and_parts}
use Rattle.std.proofs.lemmas.List.{map-append}
use Rattle.std.proofs.lemmas.List.Elements.{filter-append}
use Rattle.std.proofs.lemmas.List.Sorted.{IsPermutation-refl, IsPermutation-sym, IsPermutation-trans, IsPermutation-cons, IsPermutation-map, IsPermutation-append, IsPermutation-append_comm, IsPermutation-to_front}
use Rattle.std.proofs.lemmas.Map.Lookups.{exact_bytes, exact_signed}
use Rattle.sqlite_trees.proofs.ListLemmas.{all-append, filter-map, IsPermutation-filter}
use Rattle.sqlite.specs.Effect.{Database}
use Rattle.period_core.specs.Encoding.{IsColumnValue, encoded}
use Rattle.period_core.specs.Moments.{forever}
use Rattle.period_core.specs.declared.row.PeriodRow.{PeriodRow}
use Rattle.period_core.specs.declared.version.VersionRow.{VersionRow}
use Rattle.version_tables.specs.Represents.{Records, Represents, Version, added, all_added, changed, closing, ended, key_of, new_version, removed, same_key, version, with_ends}
use Rattle.version_tables.proofs.Goes.{de_morgan, twice}
use Rattle.version_tables.specs.declared.version_key.NewRow.{NewRow}
use Rattle.version_tables.specs.declared.version_key.VersionKey.{VersionKey}
use Rattle.version_store.specs.Contents.{Contents, TableVersion, added_in, version_in}
use Rattle.version_store.specs.Changed.{added_at, ended_at}
use Rattle.version_store.specs.PendingRemovals.{HasExcept, is_pending, key_at}
use Rattle.version_store.specs.Runs.{row_key}
use Rattle.version_store.specs.Written.{Has, written, written_version}
use Rattle.version_tables.specs.Runs.{all_ended, is_one_of}
use Rattle.version_store.proofs.Sweeps.{ended_held, ending, equal, one_ended, one_row, taken}
use Rattle.version_tables.proofs.Rows.{permuted}

-- ---- tests and lists

kept : {A : Type 0} (xs : List A) → filter (λ _. true) xs ≡ xs
kept [] = refl
kept (x ∷ xs) = ap (λ l. x ∷ l) (kept xs)

and_turned : (a b : Bool) → (a && b) ≡ (b && a)
and_turned true true = refl
and_turned true false = refl
and_turned false true = refl
and_turned false false = refl

exchanged : {A : Type 0} (p q : A → Bool) (xs : List A) → filter p (filter q xs) ≡ filter q (filter p xs)
exchanged p q xs = twice p q xs ∙ ap (λ t. filter t xs) (fun_ext (λ x. and_turned (q x) (p x))) ∙ sym (twice q p xs)

-- the elements that pass neither of two tests
neither : {A : Type 0} (s l more : A → Bool) → ((x : A) → more x ≡ (s x || l x)) → (xs : List A) → filter (λ x. not (l x)) (filter (λ x. not (s x)) xs) ≡ filter (λ x. not (more x)) xs
neither s l more both xs = twice (λ x. not (l x)) (λ x. not (s x)) xs ∙ ap (λ t. filter t xs) (fun_ext (λ x. de_morgan (s x) (l x) ∙ ap not (sym (both x))))

-- ---- the first and the last

pub begins : (db : Database) (table : ℕ) (moment : ℤ) (c : Contents) → Has db c → HasExcept db table moment [] c
begins db table moment c was = record {
  versions = map written_version c.versions;
  rows = was.rows;
  others = subst (λ vs. IsPermutation vs (map written_version c.versions)) (sym (kept _)) (IsPermutation-refl _);
  definitions = was.definitions;
  values = was.values;
}

pub settles : (db : Database) (table : ℕ) (moment : ℤ) (c : Contents) → HasExcept db table moment [] c → Has db c
settles db table moment c was = record {
  rows = permuted db (record (written c) { versions = was.versions }) (map written_version c.versions) (subst (λ vs. IsPermutation vs (map written_version c.versions)) (kept _) was.others) was.rows;
  definitions = was.definitions;
  values = was.values;
}

-- ---- a row ends

module _ (table : ℕ) (moment : ℤ) (row : VersionRow) (values : All IsColumnValue row.values) where
  abbrev key : Version
  key = written_version (version_in table row)

  -- a version that began at the moment is one more to leave
  pub notes : (db : Database) (before after : List VersionKey) (c : Contents) → HasExcept db table moment before c → is_eq (int_cmp row.from moment) ≡ true
      → ((v : Version) → is_pending table moment after v ≡ (same_key key v || is_pending table moment before v)) → HasExcept db table moment after (ended_at table moment (row ∷ []) c)
  notes db before after c was began more = record {
    versions = was.versions;
    rows = was.rows;
    others = subst₂ IsPermutation
        (exchanged (λ v. not (same_key key v)) (λ v. not (is_pending table moment before v)) was.versions ∙ neither (same_key key) (is_pending table moment before) (is_pending table moment after) more was.versions)
        (sym (ap (λ f. map written_version (flat_map f c.versions)) (one_row table moment row) ∙ taken (version_in table row) moment values began c.versions was.values))
        (IsPermutation-filter (λ v. not (same_key key v)) _ _ was.others);
    definitions = was.definitions;
    values = ended_held table moment (row ∷ []) c.versions was.values;
  }

-- ---- rows that began earlier are closed

module _ (table : ℕ) (moment : ℤ) where
  pub close_together : (rows : List VersionRow) (held : AllByRecursion (λ (row : VersionRow). All IsColumnValue row.values) rows) (earlier : AllByRecursion (λ (row : VersionRow). is_eq (int_cmp row.from moment) ≡ false) rows)
      (old new : Database) (pending : List VersionKey) (c : Contents) → HasExcept old table moment pending c
      → ((m : Records) → Represents old m → Represents new (all_ended (map (row_key table) rows) moment m)) → HasExcept new table moment pending (ended_at table moment rows c)
  close_together rows held earlier old new pending c was made =
      let s = is_one_of (map (row_key table) rows) in
      let q = λ (v : Version). not (is_pending table moment pending v) in
      let vs = was.versions in
      let first : filter q (map (closing moment) (filter s vs)) ≡ map (closing moment) (filter s (filter q vs)) = filter-map q (closing moment) (filter s vs) ∙ ap (map (closing moment)) (exchanged q s vs) in
      let parts : filter q (map (closing moment) (filter s vs) ++ filter (λ v. not (s v)) vs) ≡ map (closing moment) (filter s (filter q vs)) ++ filter (λ v. not (s v)) (filter q vs) =
      filter-append q (map (closing moment) (filter s vs)) (filter (λ v. not (s v)) vs) ∙ ap (λ l. l ++ filter q (filter (λ v. not (s v)) vs)) first ∙ ap (λ l. map (closing moment) (filter s (filter q vs)) ++ l) (exchanged q (λ v. not (s v)) vs) in
      record {
        versions = map (closing moment) (filter s vs) ++ filter (λ v. not (s v)) vs;
        rows = made (record (written c) { versions = vs }) was.rows;
        others = subst (λ l. IsPermutation l (map written_version (ended_at table moment rows c).versions)) (sym parts)
            (IsPermutation-trans _ _ _
            (IsPermutation-append _ _ _ _ (IsPermutation-map (closing moment) _ _ (IsPermutation-filter s _ _ was.others)) (IsPermutation-filter (λ v. not (s v)) _ _ was.others))
            (ending table moment rows held earlier c.versions was.values));
        definitions = was.definitions;
        values = ended_held table moment rows c.versions was.values;
      }

  -- and so is one
  pub closes : (row : VersionRow) → All IsColumnValue row.values → (old new : Database) (pending : List VersionKey) (c : Contents) → HasExcept old table moment pending c → is_eq (int_cmp row.from moment) ≡ false
      → ((m : Records) → Represents old m → Represents new (ended (written_version (version_in table row)) moment m)) → HasExcept new table moment pending (ended_at table moment (row ∷ []) c)
  closes row values old new pending c was began made =
      close_together (row ∷ []) (values, tt) (began, tt) old new pending c was (λ m is. subst (Represents new) (sym (one_ended (row_key table row) moment m)) (made m is))

-- ---- a row is added

module _ (table : ℕ) (moment : ℤ) (row : PeriodRow) (values : All IsColumnValue row.values) where
  abbrev new : Version
  new = written_version (added_in table moment forever row)

  more_written : (c : Contents) (vs : List Version) → IsPermutation vs (map written_version c.versions) → IsPermutation (new ∷ vs) (map written_version (added_at table moment (row ∷ []) c).versions)
  more_written c vs same = subst (IsPermutation (new ∷ vs)) (sym (map-append written_version c.versions (added_in table moment forever row ∷ [])))
      (IsPermutation-trans _ _ _ (IsPermutation-cons new _ _ same) (IsPermutation-sym _ _ (IsPermutation-to_front (map written_version c.versions) new)))

  more_held : (c : Contents) → AllByRecursion (λ (v : TableVersion). All IsColumnValue v.values) c.versions → AllByRecursion (λ (v : TableVersion). All IsColumnValue v.values) (added_at table moment (row ∷ []) c).versions
  more_held c held = all-append (λ (v : TableVersion). All IsColumnValue v.values) c.versions (added_in table moment forever row ∷ []) held (values, tt)

  stays : (pending : List VersionKey) (vs : List Version) → is_pending table moment pending new ≡ false → filter (λ v. not (is_pending table moment pending v)) (new ∷ vs) ≡ new ∷ filter (λ v. not (is_pending table moment pending v)) vs
  stays pending vs apart = rw apart refl

  pub adds : (old now : Database) (pending : List VersionKey) (c : Contents) → HasExcept old table moment pending c → is_pending table moment pending new ≡ false
      → ((m : Records) → Represents old m → Represents now (added new m)) → HasExcept now table moment pending (added_at table moment (row ∷ []) c)
  adds old now pending c was apart made = record {
    versions = new ∷ was.versions;
    rows = made (record (written c) { versions = was.versions }) was.rows;
    others = subst (λ l. IsPermutation l (map written_version (added_at table moment (row ∷ []) c).versions)) (sym (stays pending was.versions apart)) (more_written c _ was.others);
    definitions = was.definitions;
    values = more_held c was.values;
  }

  -- a row is added at the place of one that is to leave
  pub replaces : (old now : Database) (key : Version) (before after : List VersionKey) (c : Contents) → HasExcept old table moment before c → is_pending table moment after new ≡ false
      → ((v : Version) → is_pending table moment before v ≡ (same_key key v || is_pending table moment after v))
      → ((m : Records) → Represents old m → Represents now (added new (removed key m))) → HasExcept now table moment after (added_at table moment (row ∷ []) c)
  replaces old now key before after c was apart fewer made = record {
    versions = new ∷ filter (λ v. not (same_key key v)) was.versions;
    rows = made (record (written c) { versions = was.versions }) was.rows;
    others = subst (λ l. IsPermutation l (map written_version (added_at table moment (row ∷ []) c).versions))
        (sym (stays after (filter (λ v. not (same_key key v)) was.versions) apart ∙ ap (λ l. new ∷ l) (neither (same_key key) (is_pending table moment after) (is_pending table moment before) fewer was.versions)))
        (more_written c _ was.others);
    definitions = was.definitions;
    values = more_held c was.values;
  }

-- ---- rows are added if none is to leave

module _ (table : ℕ) (moment : ℤ) where
  abbrev pub new_of : PeriodRow → Version
  new_of row = written_version (added_in table moment forever row)

  all_new : (rows : List PeriodRow) → map written_version (map (added_in table moment forever) rows) ≡ map new_of rows
  all_new [] = refl
  all_new (row ∷ rows) = ap (λ l. new_of row ∷ l) (all_new rows)

  all_held : (rows : List PeriodRow) → AllByRecursion (λ (row : PeriodRow). All IsColumnValue row.values) rows → AllByRecursion (λ (v : TableVersion). All IsColumnValue v.values) (map (added_in table moment forever) rows)
  all_held [] held = tt
  all_held (row ∷ rows) held = (held.0, all_held rows held.1)

  pub all_adds : (rows : List PeriodRow) → AllByRecursion (λ (row : PeriodRow). All IsColumnValue row.values) rows → (old now : Database) (c : Contents) → HasExcept old table moment [] c
      → ((m : Records) → Represents old m → Represents now (all_added (map new_of rows) m)) → HasExcept now table moment [] (added_at table moment rows c)
  all_adds rows held old now c was made = record {
    versions = map new_of rows ++ was.versions;
    rows = made (record (written c) { versions = was.versions }) was.rows;
    others = subst₂ IsPermutation (sym (kept (map new_of rows ++ was.versions)))
        (ap (λ l. map written_version c.versions ++ l) (sym (all_new rows)) ∙ sym (map-append written_version c.versions (map (added_in table moment forever) rows)))
        (IsPermutation-trans _ _ _ (IsPermutation-append _ _ _ _ (IsPermutation-refl (map new_of rows)) (subst (λ vs. IsPermutation vs (map written_version c.versions)) (kept was.versions) was.others))
        (IsPermutation-append_comm (map new_of rows) (map written_version c.versions)));
    definitions = was.definitions;
    values = all-append (λ (v : TableVersion). All IsColumnValue v.values) c.versions (map (added_in table moment forever) rows) was.values (all_held rows held);
  }

-- ---- one leaves

pub leaves : (old now : Database) (table : ℕ) (moment : ℤ) (key : Version) (before after : List VersionKey) (c : Contents) → HasExcept old table moment before c
    → ((v : Version) → is_pending table moment before v ≡ (same_key key v || is_pending table moment after v))
    → ((m : Records) → Represents old m → Represents now (removed key m)) → HasExcept now table moment after c
leaves old now table moment key before after c was fewer made = record {
  versions = filter (λ v. not (same_key key v)) was.versions;
  rows = made (record (written c) { versions = was.versions }) was.rows;
  others = subst (λ l. IsPermutation l (map written_version c.versions)) (sym (neither (same_key key) (is_pending table moment after) (is_pending table moment before) fewer was.versions)) was.others;
  definitions = was.definitions;
  values = was.values;
}

-- ---- the version with a key, if its ends move

module _ (table : ℕ) (values : List ℕ) (start from end to : ℤ) where
  abbrev k : Version
  k = key_of table values start from

  abbrev moved : Version
  moved = version table values start end from to

  becomes : (v : Version) → same_key k v ≡ true → with_ends end to v ≡ moved
  becomes v h =
      let one = is_eq (slice_cmp nat_cmp v.values values) in
      let two = is_eq (int_cmp v.start start) in
      let three = is_eq (int_cmp v.from from) in
      let rest = and_parts (v.table == table) (one && (two && three)) h in
      let last = and_parts one (two && three) rest.1 in
      let ends = and_parts two three last.1 in
      let a : v.table ≡ table = eqb-true v.table table rest.0 in
      let b : v.values ≡ values = exact_bytes v.values values (equal (slice_cmp nat_cmp v.values values) last.0) in
      let c : v.start ≡ start = exact_signed v.start start (equal (int_cmp v.start start) ends.0) in
      let d : v.from ≡ from = exact_signed v.from from (equal (int_cmp v.from from) ends.1) in
      ap (λ n. version n v.values v.start end v.from to) a ∙ ap (λ n. version table n v.start end v.from to) b ∙ ap (λ n. version table values n end v.from to) c ∙ ap (λ n. version table values start end n to) d

  all_become : (vs : List Version) → map (with_ends end to) (filter (same_key k) vs) ≡ map (λ _. moved) (filter (same_key k) vs)
  all_become [] = refl
  all_become (v ∷ vs) = go (same_key k v) refl (all_become vs)
    where
      go : (b : Bool) → same_key k v ≡ b → map (with_ends end to) (filter (same_key k) vs) ≡ map (λ _. moved) (filter (same_key k) vs)
          → map (with_ends end to) (cond b (v ∷ filter (same_key k) vs) (filter (same_key k) vs)) ≡ map (λ _. moved) (cond b (v ∷ filter (same_key k) vs) (filter (same_key k) vs))
      go true is more = let one = becomes v is in cc
      go false is more = more

  as_many : (vs : List Version) (n : ℕ) → n ≡ length vs → (n ≡ 1) → map (λ _. moved) vs ≡ moved ∷ []
  as_many [] n is one = absurd (omega (arith, is, one))
  as_many (v ∷ []) n is one = refl
  as_many (v ∷ w ∷ vs) n is one = absurd (omega (arith, is, one))

  none_left : (vs : List Version) (n : ℕ) → n ≡ length vs → (n ≡ 0) → vs ≡ []
  none_left [] n is none = refl
  none_left (v ∷ vs) n is none = absurd (omega (arith, is, none))

  -- if one version has the key, a change is its removal and an addition
  pub one_moved : (db : Database) (m : Records) (n : ℕ) → n ≡ length (filter (same_key k) m.versions) → n ≡ 1 → Represents db (changed k (with_ends end to) m) → Represents db (added moved (removed k m))
  one_moved db m n is one made =
      subst (λ l. Represents db (record m { versions = l ++ filter (λ v. not (same_key k v)) m.versions })) (all_become m.versions ∙ as_many (filter (same_key k) m.versions) n is one) made

  -- if no version has the key, a change and a removal are the same
  pub none_moved : (db : Database) (m : Records) (n : ℕ) → n ≡ length (filter (same_key k) m.versions) → n ≡ 0 → Represents db (changed k (with_ends end to) m) → Represents db (removed k m)
  none_moved db m n is none made =
      subst (λ l. Represents db (record m { versions = map (with_ends end to) l ++ filter (λ v. not (same_key k v)) m.versions })) (none_left (filter (same_key k) m.versions) n is none) made

-- ---- a row as it is written

pub same_row : (table : ℕ) (moment : ℤ) (row : PeriodRow) (new : NewRow) → new.key.values.items ≡ encoded row.values → new.key.start ≡ row.period.start → new.end ≡ row.period.end
    → new_version table moment forever new ≡ written_version (added_in table moment forever row)
same_row table moment row new values start end =
    ap (λ n. version table n new.key.start new.end moment forever) values ∙ ap (λ n. version table (encoded row.values) n new.end moment forever) start ∙ ap (λ n. version table (encoded row.values) row.period.start n moment forever) end

-- a move of a version's end, by the parts of the row that it becomes
pub same_moved : (old new : Database) (count n : ℕ) (bytes : List ℕ) (start from end to : ℤ) (table : ℕ) (moment : ℤ) (row : NewRow) → n ≡ table → bytes ≡ row.key.values.items → start ≡ row.key.start → from ≡ moment → end ≡ row.end → to ≡ forever
    → ((m : Records) → Represents old m → Represents new (changed (key_of n bytes start from) (with_ends end to) m) × (count ≡ length (filter (same_key (key_of n bytes start from)) m.versions)))
    → (m : Records) → Represents old m → Represents new (changed (key_at table moment row.key) (with_ends row.end forever) m) × (count ≡ length (filter (same_key (key_at table moment row.key)) m.versions))
same_moved old new count n bytes start from end to table moment row is_table are_bytes is_start is_from is_end is_to made = rw (is_table, are_bytes, is_start, is_from, is_end, is_to) at made

-- the place of a row that began at the moment is the place of its key
pub same_place : (table : ℕ) (moment : ℤ) (row : VersionRow) (place : VersionKey) → place.values.items ≡ encoded row.values → place.start ≡ row.period.start → moment ≡ row.from
    → (v : Version) → same_key (key_at table moment place) v ≡ same_key (written_version (version_in table row)) v
same_place table moment row place values start from v =
    ap (λ n. same_key (version table n place.start place.start moment moment) v) values ∙ ap (λ n. same_key (version table (encoded row.values) n n moment moment) v) start ∙ ap (λ n. same_key (version table (encoded row.values) row.period.start row.period.start n n) v) from
