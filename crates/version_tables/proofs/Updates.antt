-- UPDATE of versions, whatever columns it sets: of the versions of which its tests are true, and
-- of the versions with a key.
use Rattle.std.proofs.Common.{◌≡◌, ◌<◌, inl, inr, ℕ, pos, List, [], ◌∷◌, ◌++◌, map, drop, filter, length, Bool, true, false, not, ◌≤◌, None, Ok, Err, refl, sym, ap, subst, subst₂, ◌∙◌, arith}
use Rattle.std.specs.Prelude.{unwrap_or}
use Rattle.std.specs.List.{list_all, AllByRecursion}
use Rattle.std.specs.List.Sorted.{IsPermutation}
use Rattle.std.proofs.Math.Path.{fun_ext}
use Rattle.std.proofs.lemmas.Bool.{and_parts}
use Rattle.std.proofs.lemmas.List.{map-append, length-map}
use Rattle.std.proofs.lemmas.List.Sorted.{IsPermutation-refl, IsPermutation-trans, IsPermutation-map, IsPermutation-middle, IsPermutation-append, IsPermutation-append_right, IsPermutation-sym, length_permutation}
use Rattle.sqlite_trees.specs.View.{is_int}
use Rattle.sqlite_trees.proofs.TreeLemmas.{all-put_row}
use Rattle.sqlite_trees.proofs.ListLemmas.{filter-map, filter_same, IsPermutation-filter, all-filter, ascending-filter}
use Rattle.sqlite.specs.declared.types.Value.TheVariants.{Null, Int, Blob}
use Rattle.sqlite.specs.Order.{Row}
use Rattle.sqlite.specs.Term.{holds}
use Rattle.sqlite_sql.specs.Term.{Term}
use Rattle.sqlite.specs.Cast.{cast_row}
use Rattle.sqlite.specs.Query.{IsAnswer, Query, output, Output}
use Rattle.sqlite.specs.Program.{overlay}
use Rattle.sqlite.specs.Command.TheVariants.{Update}
use Rattle.sqlite.specs.Edit.{edit_of, without_all, put_all, numbered, are_fresh}
use Rattle.sqlite.specs.Rowids.TheVariants.{Given}
use Rattle.sqlite.specs.Does.{Tally, Does}
use Rattle.sqlite.specs.Rows.{Written}
use Rattle.sqlite.specs.Tree.{Trees, rowid, put_row}
use Rattle.sqlite.specs.Listing.{understood}
use Rattle.sqlite.specs.Effect.{Database}
use Rattle.sqlite.specs.State.{State, mode_of, Executes}
use Rattle.sqlite.proofs.Callers.{IsPlain, command_of, statement_of, runs_as}
use Rattle.sqlite_rules.specs.Calls.{ids_of}
use Rattle.version_tables.specs.Tables.{Others, schema_with, version_table}
use Rattle.version_tables.specs.Represents.{Version, Records, Represents, changed, defined, meta_shown, table_shown, version_shown, HaveDistinctRowids, stored, same_key}
use Rattle.std.specs.Prelude.{Option}
use Rattle.sqlite.specs.Cast.{cast}
use Rattle.sqlite.specs.Kind.TheVariants.{Integer}
use Rattle.sqlite.specs.Rows.{Edited, Task, Updates}
use Rattle.sqlite.specs.State.{ExecutesInside}
use Rattle.sqlite.specs.Tree.{with_tree}
use Rattle.sqlite.specs.declared.error.Error.{Error}
use Rattle.sqlite_rules.specs.Edit.{Edit, edited}
use Rattle.sqlite_schema.specs.Rules.{Obeys, Refers}
use Rattle.sqlite_schema.specs.declared.schema.Among.TheVariants as among
use Rattle.sqlite_schema.specs.declared.schema.Constraint.TheVariants.{ForeignKey, Unique}
use Rattle.sqlite_schema.specs.declared.schema.Index.{Index}
use Rattle.sqlite_schema.specs.declared.schema.Keys.TheVariants.{Enforced}
use Rattle.sqlite_trees.proofs.ListLemmas.{all_weaker}
use Rattle.sqlite_typing.specs.Types.{accepts_program}
use Rattle.sqlite_value.specs.Order.{column}
use Rattle.version_tables.specs.Healthy.{HasNoIndexOfOthers, HaveOwnKeys, HaveRoomFor, IsHealthy, IsShort}
use Rattle.version_tables.specs.Steps.{HasReason}
use Rattle.version_tables.specs.Tables.{IsApart}
use Rattle.version_tables.proofs.Allowed.{others_same, refers_kept, version_allowed, version_edit, version_sized}
use Rattle.version_tables.proofs.Clashes.{each, rows_apart, same_key-turned, unique_kept, with_same}
use Rattle.version_tables.proofs.OwnKeys.{key_parts, own_along}
use Rattle.version_tables.proofs.PutBack.{fresh_back, keyed_back, own_back, room_back, rows_show, split}
use Rattle.version_tables.proofs.Reasons.{IsOne, NeverOverflows}
use Rattle.version_tables.proofs.Refusals.{fails_inside, not_concluded, not_stopped, not_updated, query_given}
use Rattle.version_tables.proofs.Apart.{one_step_with}
use Rattle.version_tables.proofs.Texts.{by_key, changing, updating}
use Rattle.version_tables.proofs.Rows.{went, same_value, put_row_fresh}
use Rattle.version_tables.proofs.Shows.{chosen}
use Rattle.version_tables.proofs.Goes.{rid, taken_out, untied-put_row}
use Rattle.version_tables.proofs.Removes.{has_key, has_key-stored}

-- the key, and the parameters after it
abbrev pub key_and : Version → Row → Row
key_and k more = Int (pos k.table) ∷ Blob k.values ∷ Int k.start ∷ Int k.from ∷ more

-- ---- the rows that are put back

pub numbered_given : (rows news : List Row) → numbered Given rows news ≡ news
numbered_given rows [] = refl
numbered_given rows (r ∷ rs) = ap (λ l. r ∷ l) (numbered_given (put_row r rows) rs)

free_is : (b : Bool) → not b ≡ true → b ≡ false
free_is true h = cc
free_is false h = refl

pub put_fresh : (news rows : List Row) → are_fresh rows news ≡ true → IsPermutation (news ++ rows) (put_all rows news)
put_fresh [] rows fresh = IsPermutation-refl _
put_fresh (r ∷ rs) rows fresh =
    let parts = and_parts _ _ fresh in
    IsPermutation-trans _ _ _ (IsPermutation-sym _ _ (IsPermutation-middle rs r rows))
    (IsPermutation-trans _ _ _ (IsPermutation-append_right rs _ _ (put_row_fresh r rows (free_is _ parts.0))) (put_fresh rs (put_row r rows) parts.1))

pub put_table : (news rows : List Row) → are_fresh rows news ≡ true → HaveDistinctRowids rows → HaveDistinctRowids (put_all rows news)
put_table [] rows fresh up = up
put_table (r ∷ rs) rows fresh up = let parts = and_parts _ _ fresh in put_table rs (put_row r rows) parts.1 (untied-put_row r rows (free_is _ parts.0) up)

pub put_keyed : (news rows : List Row) → list_all (λ r. is_int (rowid r)) news ≡ true → AllByRecursion (λ r. is_int (rowid r) ≡ true) rows → AllByRecursion (λ r. is_int (rowid r) ≡ true) (put_all rows news)
put_keyed [] rows ints all = all
put_keyed (r ∷ rs) rows ints all = let parts = and_parts _ _ ints in put_keyed rs (put_row r rows) parts.1 (all-put_row (λ r. is_int (rowid r) ≡ true) r rows parts.0 all)

abbrev pub again : Row → Row
again s = cast_row (version_table 2) (drop 1 s)

-- the tests say of these rows what `test` says of the versions that they show
abbrev pub AreTested : List Term → Row → (Row → Bool) → List Row → Type 0
AreTested tests params test = AllByRecursion (λ r. list_all (holds (params ∷ r ∷ [])) tests ≡ test (version_shown r))

pub tested_all : (tests : List Term) (params : Row) (test : Row → Bool) → ((r : Row) → list_all (holds (params ∷ r ∷ [])) tests ≡ test (version_shown r)) → (rows : List Row) → AreTested tests params test rows
tested_all tests params test is = each (λ r. list_all (holds (params ∷ r ∷ [])) tests ≡ test (version_shown r)) is

has_key-row : (k : Version) (more r : Row) → list_all (holds (key_and k more ∷ r ∷ [])) by_key ≡ has_key k (version_shown r)
unfolding has_key
has_key-row k more r = refl

module _ (tests columns : List Term) (params : Row) where
  ids : (rs : List Row) → ids_of (map (λ (o : Output). o.1) (map (output (updating tests columns)) (map (λ r. params ∷ r ∷ []) rs))) ≡ map rid rs
  ids [] = refl
  ids (r ∷ rs) = let more = ids rs in cc

  module _ (body : Row → Row) (body_is : (r : Row) → version_shown (again (output (updating tests columns) (params ∷ r ∷ [])).1) ≡ body (version_shown r)) where
    bodies : (rs : List Row) → map (λ s. version_shown (again s)) (map (λ (o : Output). o.1) (map (output (updating tests columns)) (map (λ r. params ∷ r ∷ []) rs))) ≡ map body (map version_shown rs)
    bodies [] = refl
    bodies (r ∷ rs) = let one = body_is r in let more = bodies rs in cc

made : (P : Version → Type 0) (body : Row → Row) (f : Version → Version) (stays : (v : Version) → P v → body (stored v) ≡ stored (f v)) (vs : List Version) → AllByRecursion P vs → map body (map stored vs) ≡ map stored (map f vs)
made P body f stays [] all = refl
made P body f stays (v ∷ vs) all = let one = stays v all.0 in let more = made P body f stays vs all.1 in cc

fused : (f : Row → Row) (g : Row → Row) (xs : List Row) → map f (map g xs) ≡ map (λ x. f (g x)) xs
fused f g [] = refl
fused f g (x ∷ xs) = ap (λ l. f (g x) ∷ l) (fused f g xs)

-- the rows of which the tests are true, as the query gives them
module _ (tests columns : List Term) (params : Row) (test : Row → Bool) (db : Database) (test_is : AreTested tests params test (db.trees 2)) (m : Records) (was : Represents db m)
    (found : List Row) (a : IsAnswer (updating tests columns) (overlay db.trees []) params found) where
  abbrev update_query : Query
  update_query = updating tests columns

  abbrev olds : List Row
  olds = db.trees 2

  abbrev pub tested : Row → Bool
  tested r = list_all (holds (params ∷ r ∷ [])) tests

  tests_are : filter tested olds ≡ filter (λ r. test (version_shown r)) olds
  tests_are = filter_same _ _ olds test_is

  spared_are : filter (λ r. not (tested r)) olds ≡ filter (λ r. not (test (version_shown r))) olds
  spared_are = filter_same _ _ olds (all_weaker (λ r. tested r ≡ test (version_shown r)) (λ r. not (tested r) ≡ not (test (version_shown r))) (λ r is. ap not is) olds test_is)

  kept : a.kept ≡ map (output update_query) (map (λ r. params ∷ r ∷ []) (filter tested olds))
  kept = a.distinct ∙ ap (map (output update_query)) (a.grouped ∙ chosen tested (λ r. params ∷ r ∷ []) olds)

  these : IsPermutation (map rid (filter tested olds)) (ids_of found)
  these = subst₂ IsPermutation (ap (λ l. ids_of (map (λ (o : Output). o.1) l)) kept ∙ ids tests columns params (filter tested olds)) (ap ids_of (sym a.shown)) (IsPermutation-map rid _ _ (IsPermutation-map (λ (o : Output). o.1) _ _ a.same))

  pub left : without_all olds (ids_of found) ≡ filter (λ r. not (test (version_shown r))) olds
  left = taken_out tested olds (ids_of found) was.untied was.keyed these ∙ spared_are

  -- the rows that are put back, by those that were taken out
  pub put_back : (g : Row → Row) → ((r : Row) → again (output update_query (params ∷ r ∷ [])).1 ≡ g r) → IsPermutation (map g (filter (λ r. test (version_shown r)) olds)) (map again found)
  put_back g whole =
      subst (λ l. IsPermutation (map g l) (map again found)) tests_are
      (subst₂ IsPermutation (ap (λ l. map again (map (λ (o : Output). o.1) l)) kept ∙ each_back (filter tested olds)) (ap (map again) (sym a.shown)) (IsPermutation-map again _ _ (IsPermutation-map (λ (o : Output). o.1) _ _ a.same)))
    where
      each_back : (rs : List Row) → map again (map (λ (o : Output). o.1) (map (output update_query) (map (λ r. params ∷ r ∷ []) rs))) ≡ map g rs
      each_back [] = refl
      each_back (r ∷ rs) = let one = whole r in let more = each_back rs in cc

  -- the rows that show versions of which P holds
  module _ (picks : Version → Bool) (P : Version → Type 0) (f : Version → Version) (body : Row → Row) (test-stored : (v : Version) → test (stored v) ≡ picks v) (body_is : (r : Row) → version_shown (again (output (updating tests columns) (params ∷ r ∷ [])).1) ≡ body (version_shown r))
      (body-stored : (v : Version) → P v → body (stored v) ≡ stored (f v)) (are : AllByRecursion P m.versions) where
    abbrev is_spared : Row → Bool
    is_spared b = not (test b)

    picks_are : (λ (v : Version). test (stored v)) ≡ picks
    picks_are = fun_ext test-stored

    pub gone : IsPermutation (map stored (map f (filter picks m.versions))) (map version_shown (map again found))
    gone =
        subst₂ IsPermutation
        (ap (map body) (filter-map test stored m.versions ∙ ap (λ t. map stored (filter t m.versions)) picks_are) ∙ made P body f body-stored (filter picks m.versions) (all-filter P picks m.versions are))
        (ap (map (λ s. version_shown (again s))) (sym a.shown) ∙ sym (fused version_shown again found))
        (IsPermutation-trans _ _ _ (IsPermutation-map body _ _ (IsPermutation-filter test _ _ was.says.versions))
        (subst (λ l. IsPermutation l (map (λ s. version_shown (again s)) (map (λ (o : Output). o.1) a.ordered)))
        (ap (λ l. map (λ s. version_shown (again s)) (map (λ (o : Output). o.1) l)) kept ∙ bodies tests columns params body body_is (filter tested olds) ∙ ap (λ l. map body (map version_shown l)) tests_are ∙ ap (map body) (sym (filter-map test version_shown olds)))
        (IsPermutation-map (λ s. version_shown (again s)) _ _ (IsPermutation-map (λ (o : Output). o.1) _ _ a.same))))

    pub rest : IsPermutation (map stored (filter (λ v. not (picks v)) m.versions)) (map version_shown (without_all olds (ids_of found)))
    rest =
        subst₂ IsPermutation
        (filter-map is_spared stored m.versions ∙ ap (λ t. map stored (filter (λ v. not (t v)) m.versions)) picks_are)
        (filter-map is_spared version_shown olds ∙ ap (map version_shown) (sym left))
        (IsPermutation-filter is_spared _ _ was.says.versions)

    -- the versions after the changed rows are put back at free rowids
    pub put_shows : are_fresh (without_all olds (ids_of found)) (map again found) ≡ true → IsPermutation (map stored (map f (filter picks m.versions) ++ filter (λ v. not (picks v)) m.versions)) (map version_shown (put_all (without_all olds (ids_of found)) (map again found)))
    put_shows fresh =
        IsPermutation-trans _ _ _ (subst₂ IsPermutation (sym (map-append stored _ _)) (sym (map-append version_shown _ _)) (IsPermutation-append _ _ _ _ gone rest)) (IsPermutation-map version_shown _ _ (put_fresh (map again found) _ fresh))

-- the rows of which the tests are true are changed, and counted; of the versions P holds
module _ (text : List ℕ) (tests columns : List Term) (params : Row) (picks : Version → Bool) (test : Row → Bool) (P : Version → Type 0) (f : Version → Version) (body : Row → Row)
    (is : (others : Others) → (command_of (understood (schema_with others) text) ≡ Update 2 (record { lets = []; body = updating tests columns })) × IsPlain (understood (schema_with others) text))
    (test-stored : (v : Version) → test (stored v) ≡ picks v)
    (body_is : (r : Row) → version_shown (again (output (updating tests columns) (params ∷ r ∷ [])).1) ≡ body (version_shown r))
    (body-stored : (v : Version) → P v → body (stored v) ≡ stored (f v)) where
  pub changes : (old new : State) (count : ℕ) (m : Records) → AreTested tests params test (old.now.trees 2) → AllByRecursion P m.versions → Represents old.now m → Executes text params old new (Ok count)
      → Represents new.now (record m { versions = map f (filter picks m.versions) ++ filter (λ v. not (picks v)) m.versions }) × (count ≡ length (filter picks m.versions))
  changes old new count m test_is are was h =
      let others = was.schema.others in
      let has = was.schema.schema_is in
      let db = old.now.trees in
      let command = Update 2 (record { lets = []; body = updating tests columns }) in
      let table = version_table 2 in
      let w = runs_as text params old new (schema_with others) has command (is others).0 (is others).1 count h in
      let done = went (subst (λ s. Does old.step_limit (mode_of old) params (record old.now { schema = s }) (statement_of text (understood (schema_with others) text)) None command (Ok (w.tally, new.now))) has w.changed) in
      let now = ap (λ (p : Tally × Database). p.1) (same_value (went (went done.2).2).2) in
      let found = went done.1 in
      let written = went found.2 in
      let trees : done.0.trees ≡ written.0 = ap (λ (it : Written). it.trees) (same_value written.2) in
      let edit = edit_of db table (ids_of found.0) Given 1 found.0 in
      let applied = one_step_with others was.schema.apart _ db written.0 edit (let low : 2 < 4 = omega arith in low) written.1 in
      let after : (t : ℕ) → new.now.trees t ≡ written.0 t = λ t. ap (λ (d : Database). d.trees t) now ∙ ap (λ (all : Trees). all t) trees in
      let a : IsAnswer (updating tests columns) (overlay db []) params found.0 = found.1.answer Null in
      let news : edit.news ≡ map again found.0 = numbered_given _ _ in
      let put : new.now.trees 2 ≡ put_all (without_all (db 2) (ids_of found.0)) (map again found.0) = after 2 ∙ applied.rows ∙ ap (put_all (without_all (db 2) (ids_of found.0))) news in
      let fresh : are_fresh (without_all (db 2) (ids_of found.0)) (map again found.0) ≡ true = rw news at applied.fresh in
      let keyed = rw news at applied.keyed in
      let stays = left tests columns params test old.now test_is m was found.0 a in
      let answered : count ≡ length edit.news =
      w.counted ∙ ap (λ (n : Tally × Database). unwrap_or n.0.rows 0) (same_value (went (went done.2).2).2) ∙ ap (λ (it : Written). length it.rows) (same_value written.2) in
      let goes = gone tests columns params test old.now test_is m was found.0 a picks P f body test-stored body_is body-stored are in
      let all : length (map again found.0) ≡ length (filter picks m.versions) =
      sym (length-map (map again found.0) version_shown) ∙ length_permutation _ _ goes ∙ length-map _ stored ∙ length-map _ f in (
        record {
          schema = record { others = others; schema_is = ap (λ (d : Database). d.schema) now; apart = was.schema.apart };
          says = record {
            meta = ap (map meta_shown) (after 0 ∙ applied.tables.0 (λ e. absurd (omega (arith, e)))) ∙ was.says.meta;
            tables = subst (λ rows. IsPermutation (defined 1 m.tables) (map table_shown rows)) (sym (after 1 ∙ applied.tables.1.0 (λ e. absurd (omega (arith, e))))) was.says.tables;
            versions = rw put (put_shows tests columns params test old.now test_is m was found.0 a picks P f body test-stored body_is body-stored are fresh);
          };
          untied = rw put (put_table (map again found.0) _ fresh (rw stays (ascending-filter _ _ (db 2) was.untied)));
          keyed = rw put (put_keyed (map again found.0) _ keyed (rw stays (all-filter _ _ (db 2) was.keyed)));
        },
        answered ∙ ap length news ∙ all,
      )

pub everywhere : (P : Version → Type 0) → ((v : Version) → P v) → (vs : List Version) → AllByRecursion P vs
everywhere P holds [] = tt
everywhere P holds (v ∷ vs) = (holds v, everywhere P holds vs)

-- the rows with the key are changed, and counted
module _ (text : List ℕ) (columns : List Term) (k : Version) (more : Row) (f : Version → Version) (body : Row → Row)
    (is : (others : Others) → (command_of (understood (schema_with others) text) ≡ Update 2 (record { lets = []; body = changing columns })) × IsPlain (understood (schema_with others) text))
    (body_is : (r : Row) → version_shown (again (output (changing columns) (key_and k more ∷ r ∷ [])).1) ≡ body (version_shown r))
    (body-stored : (v : Version) → body (stored v) ≡ stored (f v)) where
  pub updates : (old new : State) (count : ℕ) (m : Records) → Represents old.now m → Executes text (key_and k more) old new (Ok count) → Represents new.now (changed k f m) × (count ≡ length (filter (same_key k) m.versions))
  updates old new count m was h =
      changes text by_key columns (key_and k more) (same_key k) (has_key k) (λ _. Unit {0}) f body is (has_key-stored k) body_is (λ v _. body-stored v)
      old new count m (tested_all by_key (key_and k more) (has_key k) (has_key-row k more) _) (everywhere (λ _. Unit {0}) (λ _. tt) m.versions) was h

-- ---- keys of versions of which other columns are changed

mapped_apart : (f : Version → Version) → ((a b : Version) → same_key (f a) b ≡ same_key a b) → (x : Version) (xs ys : List Version) → AllByRecursion (λ w. same_key x w ≡ false) (xs ++ ys) → AllByRecursion (λ w. same_key (f x) w ≡ false) (map f xs ++ ys)
mapped_apart f same x [] ys apart = all_weaker (λ w. same_key x w ≡ false) (λ w. same_key (f x) w ≡ false) (λ w other. same x w ∙ other) ys apart
mapped_apart f same x (y ∷ xs) ys apart = (same x (f y) ∙ same_key-turned x (f y) ∙ same y x ∙ same_key-turned y x ∙ apart.0, mapped_apart f same x xs ys apart.1)

pub own_mapped : (f : Version → Version) → ((a b : Version) → same_key (f a) b ≡ same_key a b) → (xs ys : List Version) → HaveOwnKeys (xs ++ ys) → HaveOwnKeys (map f xs ++ ys)
own_mapped f same [] ys own = own
own_mapped f same (x ∷ xs) ys own = (mapped_apart f same x xs ys own.0, own_mapped f same xs ys own.1)

pub own_changed : (k : Version) (f : Version → Version) → ((a b : Version) → same_key (f a) b ≡ same_key a b) → (m : Records) → HaveOwnKeys m.versions → HaveOwnKeys (changed k f m).versions
own_changed k f same m own = own_mapped f same (filter (same_key k) m.versions) _ (own_along _ _ (split (same_key k) m.versions) own)

-- ---- why UPDATE fails, and that the database stays healthy

module _ (text : List ℕ) (tests columns : List Term) (params : Row) (test : Row → Bool) (body : Row → Row)
    (one : (others : Others) → IsOne text (length params) (understood (schema_with others) text))
    (is : (others : Others) → (command_of (understood (schema_with others) text) ≡ Update 2 (record { lets = []; body = updating tests columns })) × IsPlain (understood (schema_with others) text))
    (whole : (r : Row) → again (output (updating tests columns) (params ∷ r ∷ [])).1 ≡ cast Integer (column r 0) ∷ body (version_shown r))
    (old : State) (test_is : AreTested tests params test (old.now.trees 2)) (m : Records) (was : Represents old.now m) (count : ℕ) (healthy : IsHealthy count old.now) where
  abbrev other_tables : Others
  other_tables = was.schema.others

  abbrev apart : AllByRecursion IsApart other_tables.tables
  apart = was.schema.apart

  abbrev db : Trees
  db = old.now.trees

  abbrev query : Query
  query = updating tests columns

  abbrev taken : Row → Bool
  taken r = test (version_shown r)

  bare : AllByRecursion (λ (i : Index). 4 ≤ i.table) other_tables.indexes
  bare = subst HasNoIndexOfOthers was.schema.schema_is healthy.bare

  obeys : Obeys (schema_with other_tables) db
  obeys = subst (λ s. Obeys s db) was.schema.schema_is healthy.sound.obeys

  edit_is : (rows : List Row) → edit_of db (version_table 2) (ids_of rows) Given 1 rows ≡ version_edit (ids_of rows) (map again rows)
  edit_is rows = ap (λ (l : List Row). let e : Edit = record { table = version_table 2; gone = ids_of rows; news = l } in e) (numbered_given _ _)

  module _ (rows : List Row) (a : IsAnswer query (overlay db []) params rows) where
    abbrev spared : List Row
    spared = without_all (db 2) (ids_of rows)

    spared_is : spared ≡ filter (λ r. not (taken r)) (db 2)
    spared_is = left tests columns params test old.now test_is m was rows a

    back : IsPermutation (map (λ r. cast Integer (column r 0) ∷ body (version_shown r)) (filter taken (db 2))) (map again rows)
    back = put_back tests columns params test old.now test_is m was rows a (λ r. cast Integer (column r 0) ∷ body (version_shown r)) whole

    fresh : are_fresh spared (map again rows) ≡ true
    fresh = fresh_back (db 2) was.untied was.keyed taken body (map again rows) spared back spared_is

  -- the update fails for a reason if the new rows are short and no two versions are of one key then
  module _ (picks : Version → Bool) (P : Version → Type 0) (f : Version → Version) (test-stored : (v : Version) → test (stored v) ≡ picks v) (body_is : (r : Row) → version_shown (again (output (updating tests columns) (params ∷ r ∷ [])).1) ≡ body (version_shown r))
      (body-stored : (v : Version) → P v → body (stored v) ≡ stored (f v)) (typed : (others : Others) → accepts_program (schema_with others) [] (updating tests columns) params ≡ true) (never : NeverOverflows params (updating tests columns))
      (are : AllByRecursion P m.versions) (short : (r : Row) (v : Version) → P v → taken r ≡ true → version_shown r ≡ stored v → IsShort (f v).values) (own : HaveOwnKeys (map f (filter picks m.versions) ++ filter (λ v. not (picks v)) m.versions)) where
    stops : (rows : List Row) → IsAnswer query (overlay db []) params rows → (stop : Option Error) → Edited (schema_with other_tables) Enforced db (edit_of db (version_table 2) (ids_of rows) Given 1 rows) (Err stop) → ⊥
    stops rows a stop change =
        let low : 2 < 4 = omega arith in
        let news = map again rows in
        let kept = spared rows a in
        let fits = fresh rows a in
        let own_rows = own_back (db 2) was.untied was.keyed taken body news kept (back rows a) (spared_is rows a) P f body-stored count healthy.room (rows_show P old.now m are was) short in
        let shown = put_shows tests columns params test old.now test_is m was rows a picks P f body test-stored body_is body-stored are fits in
        let after = put_all kept news in
        let keyed = keyed_back (db 2) was.untied was.keyed taken body news kept (back rows a) (spared_is rows a) in
        let unique = unique_kept other_tables bare db (with_tree db 2 after) (with_same db 2 low after other_tables.tables apart) (obeys.rules Unique) (rows_apart after (map f (filter picks m.versions) ++ filter (λ v. not (picks v)) m.versions) keyed shown own) in
        not_stopped other_tables apart Enforced db (version_edit (ids_of rows) news) low (version_allowed other_tables apart db (ids_of rows) news own_rows fits unique) (version_sized other_tables apart db (ids_of rows) news own_rows bare) stop
        (subst (λ e. Edited (schema_with other_tables) Enforced db e (Err stop)) (edit_is rows) change)

    abbrev task : Task
    task = record { limit = None; keys = Enforced; schema = schema_with other_tables; table = version_table 2; params = params }

    abbrev asked : Database
    asked = record { schema = schema_with other_tables; trees = db }

    refers : (w : Written) → Updates task (record { lets = []; body = query }) params db (Ok w) → Refers among.All (schema_with other_tables) w.trees
    refers w updated =
        let found = went updated in
        let written = went found.2 in
        let trees : w.trees ≡ written.0 = ap (λ (it : Written). it.trees) (same_value written.2) in
        let low : 2 < 4 = omega arith in
        let edit = edit_of db (version_table 2) (ids_of found.0) Given 1 found.0 in
        let applied = one_step_with other_tables apart _ db written.0 edit low written.1 in
        subst (Refers among.All (schema_with other_tables)) (sym trees) (refers_kept other_tables apart db written.0 (others_same other_tables apart _ db written.0 edit low applied) (obeys.rules ForeignKey))

    allowed : (t : List ℕ) (stop : Option Error) → Does None (mode_of old) params (record old.now { schema = schema_with other_tables }) t None (Update 2 (record { lets = []; body = query })) (Err stop) → ⊥
    allowed t stop (inl (s, updated, _)) =
        not_updated task (record { lets = []; body = query }) db (query_given asked query params (typed other_tables) never) (λ rows answers at change. stops rows (answers.answer Null) at change) s updated
    allowed t stop (inr (w, updated, concludes)) = not_concluded task (mode_of old) w stop (refers w updated) concludes

    pub updating_fails : (new : State) (e : Error) → ExecutesInside 0 text params old new (Err e) → HasReason old new e
    updating_fails new = fails_inside text params (Update 2 (record { lets = []; body = query })) (schema_with other_tables) (one other_tables) (is other_tables) tt old new was.schema.schema_is (allowed text)

  pub updating_healthy : (new : State) (n : ℕ) → Executes text params old new (Ok n) → IsHealthy count new.now
  updating_healthy new n h =
      let command = Update 2 (record { lets = []; body = query }) in
      let w = runs_as text params old new (schema_with other_tables) was.schema.schema_is command (is other_tables).0 (is other_tables).1 n h in
      let done = went (subst (λ s. Does old.step_limit (mode_of old) params (record old.now { schema = s }) (statement_of text (understood (schema_with other_tables) text)) None command (Ok (w.tally, new.now))) was.schema.schema_is w.changed) in
      let now = ap (λ (p : Tally × Database). p.1) (same_value (went (went done.2).2).2) in
      let found = went done.1 in
      let written = went found.2 in
      let trees : done.0.trees ≡ written.0 = ap (λ (it : Written). it.trees) (same_value written.2) in
      let low : 2 < 4 = omega arith in
      let applied = one_step_with other_tables apart _ db written.0 (edit_of db (version_table 2) (ids_of found.0) Given 1 found.0) low written.1 in
      let a = found.1.answer Null in
      let put : new.now.trees 2 ≡ put_all (spared found.0 a) (map again found.0) =
      ap (λ (d : Database). d.trees 2) now ∙ ap (λ (all : Trees). all 2) trees ∙ applied.rows ∙ ap (edited db) (edit_is found.0) in
      record {
        sound = w.sound;
        bare = subst HasNoIndexOfOthers (was.schema.schema_is ∙ sym (ap (λ (d : Database). d.schema) now)) healthy.bare;
        room = subst (HaveRoomFor count) (sym put) (room_back (db 2) was.untied was.keyed taken body (map again found.0) (spared found.0 a) (back found.0 a) (spared_is found.0 a) count healthy.room);
      }

-- ---- so it is of UPDATE by the key

module _ (text : List ℕ) (columns : List Term) (k : Version) (more : Row) (f : Version → Version) (body : Row → Row)
    (one : (others : Others) → IsOne text (length (key_and k more)) (understood (schema_with others) text))
    (is : (others : Others) → (command_of (understood (schema_with others) text) ≡ Update 2 (record { lets = []; body = changing columns })) × IsPlain (understood (schema_with others) text))
    (body_is : (r : Row) → version_shown (again (output (changing columns) (key_and k more ∷ r ∷ [])).1) ≡ body (version_shown r))
    (whole : (r : Row) → again (output (changing columns) (key_and k more ∷ r ∷ [])).1 ≡ cast Integer (column r 0) ∷ body (version_shown r))
    (body-stored : (v : Version) → body (stored v) ≡ stored (f v)) (same : (a b : Version) → same_key (f a) b ≡ same_key a b) (values_kept : (v : Version) → (f v).values ≡ v.values)
    (typed : (others : Others) → accepts_program (schema_with others) [] (changing columns) (key_and k more) ≡ true) (never : NeverOverflows (key_and k more) (changing columns))
    (old : State) (m : Records) (was : Represents old.now m) (count : ℕ) (healthy : IsHealthy count old.now) where
  pub changing_fails : IsShort k.values → HaveOwnKeys m.versions → (new : State) (e : Error) → ExecutesInside 0 text (key_and k more) old new (Err e) → HasReason old new e
  changing_fails short own =
      updating_fails text by_key columns (key_and k more) (has_key k) body one is whole old (tested_all by_key (key_and k more) (has_key k) (has_key-row k more) _) m was count healthy (same_key k) (λ _. Unit {0}) f (has_key-stored k) body_is (λ v _. body-stored v) typed never (everywhere (λ _. Unit {0}) (λ _. tt) m.versions)
      (λ r v _ taken shows. subst IsShort (sym (values_kept v ∙ (key_parts k v (sym (has_key-stored k v) ∙ ap (has_key k) (sym shows) ∙ taken)).1)) short) (own_changed k f same m own)

  pub changing_healthy : (new : State) (n : ℕ) → Executes text (key_and k more) old new (Ok n) → IsHealthy count new.now
  changing_healthy = updating_healthy text by_key columns (key_and k more) (has_key k) body one is whole old (tested_all by_key (key_and k more) (has_key k) (has_key-row k more) _) m was count healthy
