-- Versions that end in one statement by their numbers: which rows these are, and what they become.
use Rattle.std.proofs.Common.{◌≡◌, ◌∙◌, ◌==◌, ◌||◌, pos, inl, inr, ℕ, ℤ, List, [], ◌∷◌, codes, map, filter, Bool, true, false, Ok, Err, Result, arith, length, refl, sym, ap, subst, subst₂}
use Rattle.std.specs.Prelude.{IfErr, Vec}
use Rattle.std.specs.declared.alloc.Global.{Global}
use Rattle.std.specs.List.{AllByRecursion, list_all, list_any}
use Rattle.std.specs.List.Sorted.{IsPermutation}
use Rattle.std.specs.Ordering.{is_eq}
use Rattle.std.proofs.lemmas.Cmp.{int_cmp_total, nat_list_cmp_total, tied_itself}
use Rattle.std.proofs.lemmas.List.Sorted.{IsPermutation-map, IsPermutation-sym, list_any-IsPermutation}
use Rattle.sqlite_trees.proofs.ListLemmas.{all-permutation, all_both, all_from_map, all_weaker, ascending-map, ascending_from_map, ascending_weaker, filter_none, IsPermutation-filter, pull_back}
use Rattle.sqlite_value.specs.Order.{column}
use Rattle.sqlite_sql.specs.declared.ops.BinaryOp.TheVariants.{Compare}
use Rattle.sqlite_sql.specs.declared.ops.CompareOp.TheVariants.{Ge, Le}
use Rattle.sqlite.specs.Collation.TheVariants.{Binary}
use Rattle.sqlite.specs.Command.TheVariants.{Select, Update}
use Rattle.sqlite.specs.Effect.{Database, IsDatabase}
use Rattle.sqlite.specs.Listing.{understood, reads_listing}
use Rattle.sqlite.specs.Order.{Row}
use Rattle.sqlite.specs.Program.{overlay}
use Rattle.sqlite.specs.Query.{IsAnswer, Output, Query, output}
use Rattle.sqlite.specs.State.{Executes, ExecutesInside, FailsToQuery, Shown, State}
use Rattle.sqlite.specs.Term.{holds}
use Rattle.sqlite.specs.Tree.{IsAscending}
use Rattle.sqlite.specs.declared.error.Error.{Error}
use Rattle.sqlite.specs.declared.types.Value.{Value}
use Rattle.sqlite.specs.declared.types.Value.TheVariants.{Int, Null}
use Rattle.sqlite_sql.specs.Term.{Term, col, op2}
use Rattle.sqlite_tied.specs.Compute.{everything}
use Rattle.sqlite.proofs.Callers.{IsPlain, command_of, reads_as, runs_as}
use Rattle.version_tables.specs.Healthy.{AreShort, HaveOwnKeys, IsHealthy, IsShort}
use Rattle.version_tables.specs.Represents.{Records, Represents, Version, closing, same_key, stored, version_shown}
use Rattle.version_tables.specs.Runs.{all_ended, is_one_of, key_shown}
use Rattle.version_tables.specs.Steps.{HasReason}
use Rattle.version_tables.specs.Tables.{HasStoreTables, Others, schema_with}
use Rattle.version_tables.specs.Texts.{end_run_text, number_text, run_keys_text}
use Rattle.version_tables.proofs.Asks.{meta_order}
use Rattle.version_tables.proofs.Clashes.{same_key-turned}
use Rattle.version_tables.proofs.Ends.{with_end, with_end-stored}
use Rattle.version_tables.proofs.Goes.{any_both, any_map, one_or_none, some}
use Rattle.version_tables.proofs.OwnKeys.{key_parts, own_along}
use Rattle.version_tables.proofs.PutBack.{split}
use Rattle.version_tables.proofs.Reasons.{IsOne, NeverOverflows, none_of, query_fails}
use Rattle.version_tables.proofs.Removes.{has_key, has_key-stored}
use Rattle.version_tables.proofs.Shows.{chosen, pos_eq}
use Rattle.version_tables.proofs.Texts.{by_key, delete_query, updating}
use Rattle.version_tables.proofs.Updates.{AreTested, changes, everywhere, own_mapped, updating_fails, updating_healthy}

-- ---- the meanings of the texts

abbrev run_tests : List Term
run_tests = op2 (Compare Ge Binary) (col 1 0) (col 0 0) ∷ op2 (Compare Le Binary) (col 1 0) (col 0 1) ∷ []

abbrev run_columns : List Term
run_columns = col 1 0 ∷ col 1 1 ∷ col 1 2 ∷ col 1 3 ∷ col 1 4 ∷ col 1 5 ∷ col 0 2 ∷ []

pub end_run_is : (others : Others) → (command_of (understood (schema_with others) end_run_text) ≡ Update 2 (record { lets = []; body = updating run_tests run_columns })) × IsPlain (understood (schema_with others) end_run_text)
unfolding understood everything
end_run_is others = (refl, (refl, refl))

end_run_one : (others : Others) → IsOne end_run_text 3 (understood (schema_with others) end_run_text)
unfolding understood everything
end_run_one others = (refl, refl)

abbrev run_query : Query
run_query = record delete_query { filter = run_tests; project = col 1 1 ∷ col 1 2 ∷ col 1 3 ∷ col 1 5 ∷ []; order = meta_order }

abbrev run_names : List (List ℕ)
run_names = codes "tab" ∷ codes "vals" ∷ codes "s" ∷ codes "ss" ∷ []

run_asks : (others : Others) → (command_of (understood (schema_with others) run_keys_text) ≡ Select (record { lets = []; body = run_query }) run_names)
    × (reads_listing (schema_with others) run_keys_text ≡ false) × IsPlain (understood (schema_with others) run_keys_text)
unfolding understood everything
run_asks others = (refl, refl, (refl, refl))

run_keys_one : (others : Others) → IsOne run_keys_text 2 (understood (schema_with others) run_keys_text)
unfolding understood everything
run_keys_one others = (refl, refl)

run_typed : (params : Row) → NeverOverflows params run_query
run_typed params db (inl group) = group
run_typed params db (inr some) = none_of _ some

pub run_keys_fail : (old new : State) (first last : ℤ) → HasStoreTables old.now.schema → (r : Result (Vec Row Global) Error) → IfErr r (FailsToQuery run_keys_text (Int first ∷ Int last ∷ []) old new) → IfErr r (HasReason old new)
run_keys_fail old new first last =
    query_fails run_keys_text run_query run_names (Int first ∷ Int last ∷ []) run_keys_one run_asks (λ others. refl) (run_typed (Int first ∷ Int last ∷ [])) old new

-- the number of a key
number_asks : (others : Others) → (command_of (understood (schema_with others) number_text) ≡ Select (record { lets = []; body = delete_query }) (codes "rowid" ∷ []))
    × (reads_listing (schema_with others) number_text ≡ false) × IsPlain (understood (schema_with others) number_text)
unfolding understood everything
number_asks others = (refl, refl, (refl, refl))

number_one : (others : Others) → IsOne number_text 4 (understood (schema_with others) number_text)
unfolding understood everything
number_one others = (refl, refl)

number_typed : (params : Row) → NeverOverflows params delete_query
number_typed params db (inl group) = group
number_typed params db (inr some) = none_of _ some

pub number_fails : (old new : State) (k : Version) → HasStoreTables old.now.schema → (r : Result (Vec Row Global) Error) → IfErr r (FailsToQuery number_text (key_shown k) old new) → IfErr r (HasReason old new)
number_fails old new k =
    query_fails number_text delete_query (codes "rowid" ∷ []) (key_shown k) number_one number_asks (λ others. refl) (number_typed (key_shown k)) old new

-- ---- a row of four columns

pub four_columns : (row : Row) (a b c d : Value) → length row ≡ 4 → column row 0 ≡ a → column row 1 ≡ b → column row 2 ≡ c → column row 3 ≡ d → row ≡ a ∷ b ∷ c ∷ d ∷ []
four_columns [] a b c d four p q r s = absurd cc
four_columns (w ∷ []) a b c d four p q r s = absurd cc
four_columns (w ∷ x ∷ []) a b c d four p q r s = absurd cc
four_columns (w ∷ x ∷ y ∷ []) a b c d four p q r s = absurd cc
four_columns (w ∷ x ∷ y ∷ z ∷ []) a b c d four p q r s = rw (p, q, r, s) refl
four_columns (w ∷ x ∷ y ∷ z ∷ v ∷ more) a b c d four p q r s = absurd (omega (arith, four))

-- ---- the rows with the numbers

-- whether a row has one of the numbers
abbrev pub in_run : ℤ → ℤ → Row → Bool
in_run first last r = list_all (holds ((Int first ∷ Int last ∷ []) ∷ r ∷ [])) run_tests

-- the key of a version, by its columns
abbrev key_columns : Row → Row
key_columns b = column b 0 ∷ column b 1 ∷ column b 2 ∷ column b 4 ∷ []

abbrev pub shows_key : Row → Row
shows_key r = key_columns (version_shown r)

-- the rows with the numbers have these keys
abbrev pub HaveKeys : Database → ℤ → ℤ → List Version → Type 0
HaveKeys db first last ks = IsPermutation (map shows_key (filter (in_run first last) (db.trees 2))) (map key_shown ks)

each_shown : (params : Row) (rs : List Row) → map (λ (o : Output). o.1) (map (output run_query) (map (λ r. params ∷ r ∷ []) rs)) ≡ map shows_key rs
each_shown params [] = refl
each_shown params (r ∷ rs) = ap (λ l. shows_key r ∷ l) (each_shown params rs)

pub keys_read : (old new : State) (first last : ℤ) (rows : List Row) → HasStoreTables old.now.schema → Shown run_keys_text (Int first ∷ Int last ∷ []) old new rows
    → IsPermutation (map shows_key (filter (in_run first last) (old.now.trees 2))) rows
keys_read old new first last rows has h =
    let params : Row = Int first ∷ Int last ∷ [] in
    let asks = run_asks has.others in
    let got = reads_as run_keys_text params old new (schema_with has.others) has.schema_is _ asks.0 asks.2 asks.1 rows h in
    let a : IsAnswer run_query (overlay old.now.trees []) params rows = got.answer Null in
    let these = filter (in_run first last) (old.now.trees 2) in
    let kept : a.kept ≡ map (output run_query) (map (λ r. params ∷ r ∷ []) these) = a.distinct ∙ ap (map (output run_query)) (a.grouped ∙ chosen (in_run first last) (λ r. params ∷ r ∷ []) (old.now.trees 2)) in
    subst₂ IsPermutation (ap (map (λ (o : Output). o.1)) kept ∙ each_shown params these) (sym a.shown) (IsPermutation-map (λ (o : Output). o.1) _ _ a.same)

-- ---- the rows with the keys

-- whether a version has a key
pub same_columns : Row → Row → Bool
unfolding has_key
same_columns k b = list_all (holds (k ∷ (Null ∷ b) ∷ [])) by_key

-- whether a row shows a version of one of the keys
abbrev pub has_one : List Version → Row → Bool
has_one ks b = list_any (λ k. has_key k b) ks

pub has_one-stored : (ks : List Version) (v : Version) → has_one ks (stored v) ≡ is_one_of ks v
has_one-stored [] v = refl
has_one-stored (k ∷ ks) v = rw (has_key-stored k v) (ap (λ b. same_key k v || b) (has_one-stored ks v))

same_itself : (v : Version) → same_key v v ≡ true
same_itself v =
    let table : (v.table == v.table) ≡ true = sym (pos_eq v.table v.table) ∙ ap is_eq (tied_itself int_cmp_total (pos v.table)) in
    rw (table, tied_itself nat_list_cmp_total v.values, tied_itself int_cmp_total v.start, tied_itself int_cmp_total v.from) refl

-- whether a row shows a version of the key of another
abbrev alike : Row → Row → Bool
alike a b = same_columns (key_columns a) b

alike-stored : (v w : Version) → alike (stored v) (stored w) ≡ same_key v w
unfolding same_columns
alike-stored v w = has_key-stored v w

-- rows that are told apart by a test are alone with themselves
alone : {A : Type 0} (same : A → A → Bool) (xs : List A) → AllByRecursion (λ x. same x x ≡ true) xs → IsAscending (λ x y. (same x y ≡ false) × (same y x ≡ false)) xs → AllByRecursion (λ x. filter (λ y. same y x) xs ≡ x ∷ []) xs
alone same [] itself apart = tt
alone same (x ∷ xs) itself apart = (
  rw (itself.0, filter_none (λ y. same y x) xs (all_weaker (λ y. (same x y ≡ false) × (same y x ≡ false)) (λ y. same y x ≡ false) (λ y other. other.1) xs apart.0)) refl,
  all_both (λ y. (same x y ≡ false) × (same y x ≡ false)) (λ y. filter (λ z. same z y) xs ≡ y ∷ []) (λ y. filter (λ z. same z y) (x ∷ xs) ≡ y ∷ []) (λ y other found. rw other.0 found) xs apart.0 (alone same xs itself.1 apart.1),
)

module _ (db : Database) (m : Records) (was : Represents db m) (own : HaveOwnKeys m.versions) (inside : Row → Bool) where
  abbrev rows : List Row
  rows = db.trees 2

  found : (all : List Row) (r : Row) → filter (λ s. alike (version_shown s) (version_shown r)) all ≡ r ∷ [] → inside r ≡ list_any (λ s. alike (version_shown s) (version_shown r)) (filter inside all)
  found all r one =
      sym (any_both (λ s. alike (version_shown s) (version_shown r)) inside all ∙ ap (λ xs. some (filter inside xs)) one ∙ one_or_none inside r)

  pub alone_inside : AllByRecursion (λ r. inside r ≡ list_any (λ s. alike (version_shown s) (version_shown r)) (filter inside rows)) rows
  alone_inside =
      let back = pull_back version_shown (map version_shown rows) (map stored m.versions) (IsPermutation-sym _ _ was.says.versions) rows refl in
      let R = λ (a b : Row). (alike a b ≡ false) × (alike b a ≡ false) in
      let both : IsAscending (λ (v w : Version). R (stored v) (stored w)) m.versions =
      ascending_weaker (λ (v w : Version). same_key v w ≡ false) (λ (v w : Version). R (stored v) (stored w)) (λ v w other. (alike-stored v w ∙ other, alike-stored w v ∙ same_key-turned w v ∙ other)) m.versions own in
      let shown : IsAscending R (map version_shown back.0) = subst (IsAscending R) back.2 (ascending-map R stored m.versions both) in
      let itself : AllByRecursion (λ b. alike b b ≡ true) (map version_shown back.0) = subst (AllByRecursion (λ b. alike b b ≡ true)) back.2 (all_stored m.versions) in
      let each_alone = alone (λ (s r : Row). alike (version_shown s) (version_shown r)) back.0 (all_from_map (λ b. alike b b ≡ true) version_shown back.0 itself) (ascending_from_map R version_shown back.0 shown) in
      let home = IsPermutation-sym _ _ back.1 in
      all-permutation (λ r. inside r ≡ list_any (λ s. alike (version_shown s) (version_shown r)) (filter inside rows)) back.0 rows home
      (all_weaker (λ r. filter (λ s. alike (version_shown s) (version_shown r)) back.0 ≡ r ∷ []) (λ r. inside r ≡ list_any (λ s. alike (version_shown s) (version_shown r)) (filter inside rows))
      (λ r one. found back.0 r one ∙ list_any-IsPermutation (λ s. alike (version_shown s) (version_shown r)) _ _ (IsPermutation-filter inside back.0 rows home)) back.0 each_alone)
    where
      all_stored : (vs : List Version) → AllByRecursion (λ b. alike b b ≡ true) (map stored vs)
      all_stored [] = tt
      all_stored (v ∷ vs) = (alike-stored v v ∙ same_itself v, all_stored vs)

-- the rows with the numbers are those with the keys
module _ (db : Database) (m : Records) (was : Represents db m) (own : HaveOwnKeys m.versions) (first last : ℤ) (ks : List Version) (these : HaveKeys db first last ks) where
  has_one-columns : (l : List Version) (b : Row) → list_any (λ k. same_columns k b) (map key_shown l) ≡ has_one l b
  unfolding same_columns
  has_one-columns [] b = refl
  has_one-columns (k ∷ l) b = ap (λ t. has_key k b || t) (has_one-columns l b)

  pub run_is : AllByRecursion (λ r. in_run first last r ≡ has_one ks (version_shown r)) (db.trees 2)
  run_is =
      all_weaker (λ r. in_run first last r ≡ list_any (λ s. alike (version_shown s) (version_shown r)) (filter (in_run first last) (db.trees 2))) (λ r. in_run first last r ≡ has_one ks (version_shown r))
      (λ r is. is ∙ sym (any_map (λ k. same_columns k (version_shown r)) shows_key (filter (in_run first last) (db.trees 2))) ∙ list_any-IsPermutation (λ k. same_columns k (version_shown r)) _ _ these ∙ has_one-columns ks (version_shown r))
      (db.trees 2) (alone_inside db m was own (in_run first last))

-- ---- so they end

abbrev pub run_given : ℤ → ℤ → ℤ → Row
run_given first last to = Int first ∷ Int last ∷ Int to ∷ []

one_short : (ks : List Version) (v : Version) → AreShort ks → is_one_of ks v ≡ true → IsShort v.values
one_short [] v short one = absurd cc
one_short (k ∷ ks) v short one = go (same_key k v) refl one (one_short ks v short.1)
  where
    go : (b : Bool) → same_key k v ≡ b → (b || is_one_of ks v) ≡ true → (is_one_of ks v ≡ true → IsShort v.values) → IsShort v.values
    go true same h more = subst IsShort (sym (key_parts k v same).1) short.0
    go false same h more = more h

run_never : (params : Row) → NeverOverflows params (updating run_tests run_columns)
run_never params db (inl group) = group
run_never params db (inr some) = none_of _ some

module _ (old : State) (m : Records) (was : Represents old.now m) (own : HaveOwnKeys m.versions) (first last to : ℤ) (ks : List Version) (these : HaveKeys old.now first last ks) where
  tested : AreTested run_tests (run_given first last to) (has_one ks) (old.now.trees 2)
  tested = run_is old.now m was own first last ks these

  pub run_ends : (new : State) (count : ℕ) → Executes end_run_text (run_given first last to) old new (Ok count) → Represents new.now (all_ended ks to m)
  run_ends new count h =
      (changes end_run_text run_tests run_columns (run_given first last to) (is_one_of ks) (has_one ks) (λ _. Unit {0}) (closing to) (with_end to) end_run_is (has_one-stored ks) (λ r. refl) (λ v _. with_end-stored to v)
      old new count m tested (everywhere (λ _. Unit {0}) (λ _. tt) m.versions) was h).0

  pub run_fails : (count : ℕ) → IsHealthy count old.now → AreShort ks → (new : State) (e : Error) → ExecutesInside 0 end_run_text (run_given first last to) old new (Err e) → HasReason old new e
  run_fails count healthy short =
      updating_fails end_run_text run_tests run_columns (run_given first last to) (has_one ks) (with_end to) end_run_one end_run_is (λ r. refl) old tested m was count healthy (is_one_of ks) (λ _. Unit {0}) (closing to) (has_one-stored ks) (λ r. refl)
      (λ v _. with_end-stored to v) (λ others. refl) (run_never (run_given first last to)) (everywhere (λ _. Unit {0}) (λ _. tt) m.versions)
      (λ r v _ taken shows. one_short ks v short (sym (has_one-stored ks v) ∙ ap (has_one ks) (sym shows) ∙ taken))
      (own_mapped (closing to) (λ a b. refl) (filter (is_one_of ks) m.versions) _ (own_along _ _ (split (is_one_of ks) m.versions) own))

  pub run_healthy : (count : ℕ) → IsHealthy count old.now → (new : State) (n : ℕ) → Executes end_run_text (run_given first last to) old new (Ok n) → IsHealthy count new.now
  run_healthy count healthy = updating_healthy end_run_text run_tests run_columns (run_given first last to) (has_one ks) (with_end to) end_run_one end_run_is (λ r. refl) old tested m was count healthy

pub run_sound : (old new : State) (first last to : ℤ) (count : ℕ) → HasStoreTables old.now.schema → Executes end_run_text (run_given first last to) old new (Ok count) → IsDatabase new.now
run_sound old new first last to count has h =
    (runs_as end_run_text (run_given first last to) old new (schema_with has.others) has.schema_is (Update 2 (record { lets = []; body = updating run_tests run_columns })) (end_run_is has.others).0 (end_run_is has.others).1 count h).sound
