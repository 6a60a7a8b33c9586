-- INSERT of several versions adds just these, and fails only for a reason of the database.
use Rattle.std.proofs.Common.{◌≡◌, inl, inr, ℕ, ◌+◌, ◌+ℤ◌, ◌-ℤ◌, ◌/◌, ◌<◌, ◌≤◌, ◌*◌, zero, suc, ℤ, pos, true, List, [], ◌∷◌, ◌++◌, map, take, drop, length, get_or, append-nil, append_assoc, None, Ok, Err, Result, OnOk, IsTrue, refl, sym, ap, subst, subst₂, ◌∙◌, get_or-drop, drop-drop, arith}
use Rattle.std.specs.List.{flat_map}
use Rattle.std.specs.List.Sorted.{IsPermutation}
use Rattle.std.proofs.lemmas.List.{length-map, length-take-le, map-append, take_more}
use Rattle.std.proofs.lemmas.Grind.{flat_map-append}
use Rattle.std.proofs.lemmas.List.Sorted.{IsPermutation-refl, IsPermutation-trans, IsPermutation-map, IsPermutation-append, IsPermutation-append_comm}
use Rattle.sqlite_value.specs.Order.{column}
use Rattle.sqlite.specs.declared.types.Value.{Value}
use Rattle.sqlite.specs.declared.types.Value.TheVariants.{Null, Int, Blob}
use Rattle.sqlite.specs.Order.{Row}
use Rattle.sqlite.specs.Source.TheVariants.{Values}
use Rattle.sqlite.specs.Command.TheVariants.{Insert}
use Rattle.sqlite.specs.Edit.{edit_of, numbered, put_all, next_rowid}
use Rattle.sqlite.specs.Cast.{cast, cast_row}
use Rattle.sqlite.specs.Kind.TheVariants.{Integer}
use Rattle.sqlite_sql.specs.Term.{Term}
use Rattle.sqlite.specs.Rowids.TheVariants.{Chosen}
use Rattle.sqlite.specs.Does.{Tally, Does}
use Rattle.sqlite.specs.Rows.{Written}
use Rattle.sqlite.specs.Tree.{Trees, put_row}
use Rattle.sqlite.specs.declared.error.Error.{Error}
use Rattle.sqlite.specs.Listing.{understood}
use Rattle.sqlite.specs.Effect.{Database, value_rows}
use Rattle.sqlite.specs.State.{State, mode_of, Executes, ExecutesInside}
use Rattle.sqlite.proofs.Callers.{statement_of, runs_as}
use Rattle.std.specs.List.{AllByRecursion}
use Rattle.std.specs.Prelude.{Option, is_some, unwrap_or}
use Rattle.std.proofs.lemmas.Int.{ints}
use Rattle.sqlite.specs.Edit.{are_fresh}
use Rattle.sqlite.specs.Rows.{Edited, Inserts, Task, last_id}
use Rattle.sqlite.specs.Tree.{rowid, with_tree}
use Rattle.sqlite.specs.View.{is_int}
use Rattle.sqlite_rules.specs.Edit.{Edit, edited}
use Rattle.sqlite_schema.specs.Rules.{Obeys, Refers}
use Rattle.sqlite_schema.specs.declared.schema.Among.TheVariants as among
use Rattle.sqlite_schema.specs.declared.schema.Constraint.TheVariants.{ForeignKey, Unique}
use Rattle.sqlite_schema.specs.declared.schema.Index.{Index}
use Rattle.sqlite_schema.specs.declared.schema.Keys.TheVariants.{Enforced}
use Rattle.sqlite_tied.specs.Compute.{everything}
use Rattle.sqlite_typing.specs.Types.{accepts_terms, class_of}
use Rattle.version_tables.specs.Healthy.{CanAdd, HasNoIndexOfOthers, HaveOwnKeys, HaveRoomFor, IsHealthy, IsNextNumber, IsShort}
use Rattle.version_tables.specs.Steps.{HasReason}
use Rattle.version_tables.specs.Tables.{IsApart}
use Rattle.version_tables.proofs.Allowed.{numbers_own, others_same, refers_kept, version_allowed, version_edit, version_sized}
use Rattle.version_tables.proofs.Clashes.{rows_apart, unique_kept, with_same}
use Rattle.version_tables.proofs.Numbers.{AreBelow, all-put_all, low_next, next_and_last, next_is_above, number_from, numbered_as_given, numbered_chosen, numbers_fresh, numbers_keyed, room_after, room_next, unnumbered}
use Rattle.version_tables.proofs.Reasons.{IsOne}
use Rattle.version_tables.proofs.Refusals.{fails_inside, not_concluded, not_inserted, not_stopped, values_given}
use Rattle.version_tables.specs.declared.version_key.NewRow.{NewRow}
use Rattle.version_tables.specs.Adding.{IsBatch, cells, given_numbered, given_rows, numbered_cells}
use Rattle.version_tables.specs.Represents.{Version, Records, Represents, all_added, defined, meta_shown, new_version, stored, table_shown, version_shown}
use Rattle.version_tables.specs.Tables.{Others, schema_with, version_table}
use Rattle.version_tables.specs.Texts.{eight_text, four_text, numbered_text, one_text, thirty_two_text, two_text}
use Rattle.version_tables.proofs.Rows.{cast_int, cast_null, permuted, same_value, went}
use Rattle.version_tables.proofs.Apart.{one_step_with}
use Rattle.version_tables.proofs.Texts.{Adds, AddsTerms, batch_terms, eight_is, four_is, numbered_is, numbered_terms, one_is, thirty_two_is, two_is}
use Rattle.version_tables.proofs.Updates.{put_fresh, put_keyed, put_table}

abbrev pub IsCut : ℕ → Type 0
IsCut rows = length (batch_terms 3 rows) / 7 ≡ rows

-- ---- the values of the terms

module _ (table : ℕ) (from to : ℤ) (params : Row) (table_at : column params 0 ≡ Int (pos table)) (from_at : column params 1 ≡ Int from) (to_at : column params 2 ≡ Int to) where
  gives : (rows : List NewRow) (at : ℕ) → drop at params ≡ flat_map cells rows → value_rows params 7 (length rows) (batch_terms at (length rows)) ≡ map unnumbered (map (new_version table from to) rows)
  gives [] at h = refl
  gives (r ∷ rows) at h =
      let values : column params at ≡ Blob r.key.values.items = ap (column params) (omega (arith)) ∙ sym (get_or-drop at params 0 Null) ∙ ap (λ l. column l 0) h in
      let start : column params (at + 1) ≡ Int r.key.start = sym (get_or-drop at params 1 Null) ∙ ap (λ l. column l 1) h in
      let end : column params (at + 2) ≡ Int r.end = sym (get_or-drop at params 2 Null) ∙ ap (λ l. column l 2) h in
      let more = gives rows (at + 3) (sym (drop-drop 3 at params) ∙ ap (drop 3) h) in
      rw (table_at, from_at, to_at, values, start, end, more) refl

  gives_numbered : (first : ℤ) (rows : List NewRow) (at : ℕ) → drop at params ≡ numbered_cells first rows → value_rows params 7 (length rows) (numbered_terms at (length rows)) ≡ number_from first (map (new_version table from to) rows)
  gives_numbered first [] at h = refl
  gives_numbered first (r ∷ rows) at h =
      let number : column params at ≡ Int first = ap (column params) (omega (arith)) ∙ sym (get_or-drop at params 0 Null) ∙ ap (λ l. column l 0) h in
      let values : column params (at + 1) ≡ Blob r.key.values.items = sym (get_or-drop at params 1 Null) ∙ ap (λ l. column l 1) h in
      let start : column params (at + 2) ≡ Int r.key.start = sym (get_or-drop at params 2 Null) ∙ ap (λ l. column l 2) h in
      let end : column params (at + 3) ≡ Int r.end = sym (get_or-drop at params 3 Null) ∙ ap (λ l. column l 3) h in
      let more = gives_numbered (first +ℤ pos 1) rows (at + 4) (sym (drop-drop 4 at params) ∙ ap (drop 4) h) in
      rw (table_at, from_at, to_at, number, values, start, end, more) refl

-- ---- the row that the table makes of the values

cast_is : (id : Value) (v : Version) → cast Integer id ≡ id → cast_row (version_table 2) (id ∷ stored v) ≡ id ∷ stored v
cast_is id v same = rw (same, cast_int (pos v.table), cast_int v.start, cast_int v.end, cast_int v.from, cast_int v.to) refl

casts : (vs : List Version) → map (λ s. cast_row (version_table 2) (drop 0 s)) (map unnumbered vs) ≡ map unnumbered vs
casts [] = refl
casts (v ∷ vs) = let one = cast_is Null v cast_null in let more = casts vs in cc

casts_numbered : (first : ℤ) (vs : List Version) → map (λ s. cast_row (version_table 2) (drop 0 s)) (number_from first vs) ≡ number_from first vs
casts_numbered first [] = refl
casts_numbered first (v ∷ vs) = let one = cast_is (Int first) v (cast_int first) in let more = casts_numbered (first +ℤ pos 1) vs in cc

shows : (vs : List Version) (rows : List Row) → map version_shown (numbered Chosen rows (map unnumbered vs)) ≡ map stored vs
shows [] rows = refl
shows (v ∷ vs) rows = ap (λ l. stored v ∷ l) (shows vs (put_row (Int (next_rowid rows) ∷ stored v) rows))

shows_numbered : (first : ℤ) (vs : List Version) (rows : List Row) → map version_shown (numbered Chosen rows (number_from first vs)) ≡ map stored vs
shows_numbered first [] rows = refl
shows_numbered first (v ∷ vs) rows = ap (λ l. stored v ∷ l) (shows_numbered (first +ℤ pos 1) vs (put_row (Int first ∷ stored v) rows))

-- ---- a text that adds rows

module _ (text : List ℕ) (terms : List Term) (params : Row) (laid : List Row) (vs : List Version) (is : (others : Others) → AddsTerms others terms text)
    (gives_laid : value_rows params 7 (length terms / 7) terms ≡ laid) (casts_laid : map (λ s. cast_row (version_table 2) (drop 0 s)) laid ≡ laid)
    (shows_laid : (rows : List Row) → map version_shown (numbered Chosen rows laid) ≡ map stored vs) where
  adds : (old new : State) (count : ℕ) (m : Records) → Represents old.now m → Executes text params old new (Ok count) → Represents new.now (all_added vs m)
  adds old new count m was h =
      let others = was.schema.others in
      let has = was.schema.schema_is in
      let db = old.now.trees in
      let command = Insert 2 (Values terms 7) in
      let w = runs_as text params old new (schema_with others) has command (is others).0 (is others).1 count h in
      let done = went (subst (λ s. Does old.step_limit (mode_of old) params (record old.now { schema = s }) (statement_of text (understood (schema_with others) text)) None command (Ok (w.tally, new.now))) has w.changed) in
      let now = ap (λ (p : Tally × Database). p.1) (same_value (went (went done.2).2).2) in
      let given = went done.1 in
      let written = went (went given.2).2 in
      let counted = went written.2 in
      let trees : done.0.trees ≡ written.0 = ap (λ (it : Written). it.trees) (same_value counted.2) ∙ same_value counted.1 in
      let edit = edit_of db (version_table 2) [] Chosen 0 given.0 in
      let applied = one_step_with others was.schema.apart _ db written.0 edit (let low : 2 < 4 = omega arith in low) written.1 in
      let after : (t : ℕ) → new.now.trees t ≡ written.0 t = λ t. ap (λ (d : Database). d.trees t) now ∙ ap (λ (all : Trees). all t) trees in
      let laid_is : given.0 ≡ laid = given.1.1 ∙ ap (λ p. value_rows p 7 (length terms / 7) terms) (append-nil params) ∙ gives_laid in
      let news : edit.news ≡ numbered Chosen (db 2) laid = ap (λ all. (edit_of db (version_table 2) [] Chosen 0 all).news) laid_is ∙ ap (numbered Chosen (db 2)) casts_laid in
      let seen : map version_shown edit.news ≡ map stored vs = ap (map version_shown) news ∙ shows_laid (db 2) in
      let put : new.now.trees 2 ≡ put_all (db 2) edit.news = after 2 ∙ applied.rows in
      record {
        schema = record { others = others; schema_is = ap (λ (d : Database). d.schema) now; apart = was.schema.apart };
        says = record {
          meta = ap (map meta_shown) (after 0 ∙ applied.tables.0 (λ e. absurd (omega (arith, e)))) ∙ was.says.meta;
          tables = subst (λ rows. IsPermutation (defined 1 m.tables) (map table_shown rows)) (sym (after 1 ∙ applied.tables.1.0 (λ e. absurd (omega (arith, e))))) was.says.tables;
          versions = rw put (IsPermutation-trans _ _ _
              (subst₂ IsPermutation (ap (λ l. l ++ map stored m.versions) seen ∙ sym (map-append stored vs m.versions)) (sym (map-append version_shown edit.news (db 2)))
              (IsPermutation-append _ _ _ _ (IsPermutation-refl (map version_shown edit.news)) was.says.versions))
              (IsPermutation-map version_shown _ _ (put_fresh edit.news (db 2) applied.fresh)));
        };
        untied = rw put (put_table edit.news (db 2) applied.fresh was.untied);
        keyed = rw put (put_keyed edit.news (db 2) applied.keyed was.keyed);
      }

  adds_inside : (old new : State) (r : Result ℕ Error) → ExecutesInside 0 text params old new r → IsTrue old.in_transaction
      → OnOk r (IsTrue new.in_transaction × ((m : Records) → Represents old.now m → Represents new.now (all_added vs m)))
  adds_inside old new (Err e) h begun = tt
  adds_inside old new (Ok count) h begun = (h.1.mode, λ m was. adds old new count m was h.0)

-- ---- why a text that adds rows fails, and what it leaves for the next

shown_numbers : (first : ℤ) (vs : List Version) → map version_shown (number_from first vs) ≡ map stored vs
shown_numbers first [] = refl
shown_numbers first (v ∷ vs) = ap (λ l. stored v ∷ l) (shown_numbers (first +ℤ pos 1) vs)

module _ (text : List ℕ) (terms : List Term) (params : Row) (laid : List Row) (vs : List Version) (one : (others : Others) → IsOne text (length params) (understood (schema_with others) text)) (is : (others : Others) → AddsTerms others terms text)
    (gives_laid : value_rows params 7 (length terms / 7) terms ≡ laid) (casts_laid : map (λ s. cast_row (version_table 2) (drop 0 s)) laid ≡ laid) (typed : accepts_terms terms (params ++ []) ≡ true)
    (old : State) (m : Records) (was : Represents old.now m) (left : ℕ) (healthy : IsHealthy (length vs + left) old.now)
    (numbers_laid : numbered Chosen (old.now.trees 2) laid ≡ number_from (next_rowid (old.now.trees 2)) vs) where
  abbrev other_tables : Others
  other_tables = was.schema.others

  abbrev apart : AllByRecursion IsApart other_tables.tables
  apart = was.schema.apart

  abbrev db : Trees
  db = old.now.trees

  abbrev next_number : ℤ
  next_number = next_rowid (db 2)

  abbrev news : List Row
  news = number_from next_number vs

  below : AreBelow next_number (db 2)
  below = next_is_above (db 2) healthy.room.rise was.keyed

  fresh : are_fresh (db 2) news ≡ true
  fresh = numbers_fresh next_number vs (db 2) was.keyed below

  bare : AllByRecursion (λ (i : Index). 4 ≤ i.table) other_tables.indexes
  bare = subst HasNoIndexOfOthers was.schema.schema_is healthy.bare

  obeys : Obeys (schema_with other_tables) db
  obeys = subst (λ s. Obeys s db) was.schema.schema_is healthy.sound.obeys

  shown_after : IsPermutation (map stored (vs ++ m.versions)) (map version_shown (put_all (db 2) news))
  shown_after =
      IsPermutation-trans _ _ _
      (subst₂ IsPermutation (ap (λ l. l ++ map stored m.versions) (shown_numbers next_number vs) ∙ sym (map-append stored vs m.versions)) (sym (map-append version_shown news (db 2)))
      (IsPermutation-append _ _ _ _ (IsPermutation-refl (map version_shown news)) was.says.versions))
      (IsPermutation-map version_shown _ _ (put_fresh news (db 2) fresh))

  edit_is : (rows : List Row) → rows ≡ laid → edit_of db (version_table 2) [] Chosen 0 rows ≡ version_edit [] news
  edit_is rows so =
      ap (λ (l : List Row). let e : Edit = record { table = version_table 2; gone = []; news = l } in e)
      (ap (λ all. (edit_of db (version_table 2) [] Chosen 0 all).news) so ∙ ap (numbered Chosen (db 2)) casts_laid ∙ numbers_laid)

  laid_is : (rows : List Row) → rows ≡ value_rows (params ++ []) 7 (length terms / 7) terms → rows ≡ laid
  laid_is rows so = so ∙ ap (λ p. value_rows p 7 (length terms / 7) terms) (append-nil params) ∙ gives_laid

  abbrev task : Task
  task = record { limit = None; keys = Enforced; schema = schema_with other_tables; table = version_table 2; params = params }

  refers : (w : Written) → Inserts task (Values terms 7) db (Ok w) → Refers among.All (schema_with other_tables) w.trees
  refers w inserts =
      let given = went inserts in
      let written = went (went given.2).2 in
      let counted = went written.2 in
      let trees : w.trees ≡ written.0 = ap (λ (it : Written). it.trees) (same_value counted.2) ∙ same_value counted.1 in
      let low : 2 < 4 = omega arith in
      let edit = edit_of db (version_table 2) [] Chosen 0 given.0 in
      let applied = one_step_with other_tables apart _ db written.0 edit low written.1 in
      subst (Refers among.All (schema_with other_tables)) (sym trees) (refers_kept other_tables apart db written.0 (others_same other_tables apart _ db written.0 edit low applied) (obeys.rules ForeignKey))

  module _ (short : AllByRecursion (λ (v : Version). IsShort v.values) vs) (own : HaveOwnKeys (vs ++ m.versions)) where
    stops : (rows : List Row) → rows ≡ laid → (stop : Option Error) → Edited (schema_with other_tables) Enforced db (edit_of db (version_table 2) [] Chosen 0 rows) (Err stop) → ⊥
    stops rows so stop change =
        let low : 2 < 4 = omega arith in
        let room = healthy.room in
        let high = let few = room.few in room_next (length vs + left) (pos 1) (db 2) (omega (arith, ints, few)) room.high in
        let own_rows = numbers_own next_number vs short (low_next (pos 1) (db 2) (omega (arith, ints)) room.low) (omega (arith, ints, high)) in
        let keyed = all-put_all (λ r. is_int (rowid r) ≡ true) news (db 2) (numbers_keyed next_number vs) was.keyed in
        let unique = unique_kept other_tables bare db (with_tree db 2 (put_all (db 2) news)) (with_same db 2 low (put_all (db 2) news) other_tables.tables apart) (obeys.rules Unique) (rows_apart (put_all (db 2) news) (vs ++ m.versions) keyed shown_after own) in
        not_stopped other_tables apart Enforced db (version_edit [] news) low (version_allowed other_tables apart db [] news own_rows fresh unique) (version_sized other_tables apart db [] news own_rows bare) stop
        (subst (λ e. Edited (schema_with other_tables) Enforced db e (Err stop)) (edit_is rows so) change)

    allowed : (t : List ℕ) (stop : Option Error) → Does None (mode_of old) params (record old.now { schema = schema_with other_tables }) t None (Insert 2 (Values terms 7)) (Err stop) → ⊥
    allowed t stop (inl (s, inserts, _)) = not_inserted task refl (Values terms 7) db (values_given (let d : Database = record { schema = schema_with other_tables; trees = db } in d) (params ++ []) terms 7 typed) (λ rows given at change. stops rows (laid_is rows given.1) at change) s inserts
    allowed t stop (inr (w, inserts, concludes)) = not_concluded task (mode_of old) w stop (refers w inserts) concludes

    pub adds_fails : (new : State) (e : Error) → ExecutesInside 0 text params old new (Err e) → HasReason old new e
    adds_fails new = fails_inside text params (Insert 2 (Values terms 7)) (schema_with other_tables) (one other_tables) (is other_tables) tt old new was.schema.schema_is (allowed text)

  pub adds_healthy : 0 < length vs → (new : State) (count : ℕ) → Executes text params old new (Ok count) → IsHealthy left new.now × (next_rowid (new.now.trees 2) ≡ new.last_rowid +ℤ pos 1)
  adds_healthy some new count h =
      let command = Insert 2 (Values terms 7) in
      let w = runs_as text params old new (schema_with other_tables) was.schema.schema_is command (is other_tables).0 (is other_tables).1 count h in
      let done = went (subst (λ s. Does old.step_limit (mode_of old) params (record old.now { schema = s }) (statement_of text (understood (schema_with other_tables) text)) None command (Ok (w.tally, new.now))) was.schema.schema_is w.changed) in
      let both = same_value (went (went done.2).2).2 in
      let now = ap (λ (p : Tally × Database). p.1) both in
      let given = went done.1 in
      let written = went (went given.2).2 in
      let counted = went written.2 in
      let trees : done.0.trees ≡ written.0 = ap (λ (it : Written). it.trees) (same_value counted.2) ∙ same_value counted.1 in
      let low : 2 < 4 = omega arith in
      let applied = one_step_with other_tables apart _ db written.0 (edit_of db (version_table 2) [] Chosen 0 given.0) low written.1 in
      let edit = edit_is given.0 (laid_is given.0 given.1.1) in
      let put : new.now.trees 2 ≡ put_all (db 2) news = ap (λ (d : Database). d.trees 2) now ∙ ap (λ (all : Trees). all 2) trees ∙ applied.rows ∙ ap (edited db) edit in
      let behind = next_and_last next_number (db 2) vs some was.keyed below in
      let last : new.last_rowid ≡ behind.0 =
      w.last_rowid ∙ ap (λ (p : Tally × Database). unwrap_or p.0.last old.last_rowid) both ∙ ap (λ (it : Written). unwrap_or it.last old.last_rowid) (same_value counted.2)
      ∙ ap (λ (e : Edit). unwrap_or (last_id e.news) old.last_rowid) edit ∙ ap (λ l. unwrap_or l old.last_rowid) behind.1 in (
        record {
          sound = w.sound;
          bare = subst HasNoIndexOfOthers (was.schema.schema_is ∙ sym (ap (λ (d : Database). d.schema) now)) healthy.bare;
          room = subst (HaveRoomFor left) (sym put) (room_after left (db 2) vs was.keyed healthy.room);
        },
        ap next_rowid put ∙ behind.2 ∙ ap (λ n. n +ℤ pos 1) (sym last),
      )

pub adds_batch : (text : List ℕ) (table : ℕ) (from to : ℤ) (rows : List NewRow) → ((others : Others) → Adds others (length rows) text) → IsCut (length rows)
    → (old new : State) (r : Result ℕ Error) → ExecutesInside 0 text (given_rows table from to rows) old new r → IsTrue old.in_transaction
    → OnOk r (IsTrue new.in_transaction × ((m : Records) → Represents old.now m → Represents new.now (all_added (map (new_version table from to) rows) m)))
adds_batch text table from to rows is cuts =
    let vs = map (new_version table from to) rows in
    let params = given_rows table from to rows in
    let terms = batch_terms 3 (length rows) in
    adds_inside text terms params (map unnumbered vs) vs is (ap (λ n. value_rows params 7 n terms) cuts ∙ gives table from to params refl refl refl rows 3 refl) (casts vs) (shows vs)

abbrev IsNumberedCut : ℕ → Type 0
IsNumberedCut rows = length (numbered_terms 3 rows) / 7 ≡ rows

pub numbers : (rows : List NewRow) → length rows ≡ 32 → (others : Others) → AddsTerms others (numbered_terms 3 (length rows)) numbered_text
numbers rows all others = subst (λ n. AddsTerms others (numbered_terms 3 n) numbered_text) (sym all) (numbered_is others)

pub adds_numbered : (table : ℕ) (from to first : ℤ) (rows : List NewRow) → length rows ≡ 32
    → (old new : State) (r : Result ℕ Error) → ExecutesInside 0 numbered_text (given_numbered table from to first rows) old new r → IsTrue old.in_transaction
    → OnOk r (IsTrue new.in_transaction × ((m : Records) → Represents old.now m → Represents new.now (all_added (map (new_version table from to) rows) m)))
adds_numbered table from to first rows all =
    let vs = map (new_version table from to) rows in
    let params = given_numbered table from to first rows in
    let terms = numbered_terms 3 (length rows) in
    let cuts : IsNumberedCut (length rows) = subst IsNumberedCut (sym all) refl in
    adds_inside numbered_text terms params (number_from first vs) vs (numbers rows all) (ap (λ n. value_rows params 7 n terms) cuts ∙ gives_numbered table from to params refl refl refl first rows 3 refl)
    (casts_numbered first vs) (shows_numbered first vs)

-- ---- the texts

-- a text adds so many rows, by one statement
abbrev pub IsBatchText : List ℕ → ℕ → Type 0
IsBatchText text rows = ((others : Others) → Adds others rows text × IsOne text (3 + 3 * rows) (understood (schema_with others) text)) × IsCut rows

one_one : (others : Others) → IsOne one_text 6 (understood (schema_with others) one_text)
unfolding understood everything
one_one others = (refl, refl)

two_one : (others : Others) → IsOne two_text 9 (understood (schema_with others) two_text)
unfolding understood everything
two_one others = (refl, refl)

four_one : (others : Others) → IsOne four_text 15 (understood (schema_with others) four_text)
unfolding understood everything
four_one others = (refl, refl)

eight_one : (others : Others) → IsOne eight_text 27 (understood (schema_with others) eight_text)
unfolding understood everything
eight_one others = (refl, refl)

thirty_two_one : (others : Others) → IsOne thirty_two_text 99 (understood (schema_with others) thirty_two_text)
unfolding understood everything
thirty_two_one others = (refl, refl)

numbered_one : (others : Others) → IsOne numbered_text 131 (understood (schema_with others) numbered_text)
unfolding understood everything
numbered_one others = (refl, refl)

-- a text of one, two, four, eight or thirty-two rows
pub batches : (rows : List NewRow) (text : List ℕ) → IsBatch (length rows) → (length rows ≡ 1 → text ≡ one_text) → (length rows ≡ 2 → text ≡ two_text)
    → (length rows ≡ 4 → text ≡ four_text) → (length rows ≡ 8 → text ≡ eight_text) → (length rows ≡ 32 → text ≡ thirty_two_text) → IsBatchText text (length rows)
batches rows text (inl e) one two four eight thirty_two = subst₂ IsBatchText (sym (one e)) (sym e) (λ others. (one_is others, one_one others), refl)
batches rows text (inr (inl e)) one two four eight thirty_two = subst₂ IsBatchText (sym (two e)) (sym e) (λ others. (two_is others, two_one others), refl)
batches rows text (inr (inr (inl e))) one two four eight thirty_two = subst₂ IsBatchText (sym (four e)) (sym e) (λ others. (four_is others, four_one others), refl)
batches rows text (inr (inr (inr (inl e)))) one two four eight thirty_two = subst₂ IsBatchText (sym (eight e)) (sym e) (λ others. (eight_is others, eight_one others), refl)
batches rows text (inr (inr (inr (inr e)))) one two four eight thirty_two = subst₂ IsBatchText (sym (thirty_two e)) (sym e) (λ others. (thirty_two_is others, thirty_two_one others), refl)

-- ---- the parameters are typed

abbrev IsTypedValue : Value → Type 0
IsTypedValue v = is_some (class_of v) ≡ true

typed_at : (params : Row) → AllByRecursion IsTypedValue params → (k : ℕ) → IsTypedValue (column params k)
typed_at [] all k = refl
typed_at (v ∷ params) all zero = all.0
typed_at (v ∷ params) all (suc k) = typed_at params all.1 k

typed_cells : (rows : List NewRow) → AllByRecursion IsTypedValue (flat_map cells rows)
typed_cells [] = tt
typed_cells (r ∷ rows) = (refl, (refl, (refl, typed_cells rows)))

typed_numbered : (first : ℤ) (rows : List NewRow) → AllByRecursion IsTypedValue (numbered_cells first rows)
typed_numbered first [] = tt
typed_numbered first (r ∷ rows) = (refl, (refl, (refl, (refl, typed_numbered (first +ℤ pos 1) rows))))

module _ (params : Row) (all : AllByRecursion IsTypedValue params) where
  batch_typed : (at rows : ℕ) → accepts_terms (batch_terms at rows) params ≡ true
  batch_typed at zero = refl
  batch_typed at (suc rows) = rw (typed_at params all 0, typed_at params all at, typed_at params all (at + 1), typed_at params all (at + 2), typed_at params all 1, typed_at params all 2) (batch_typed (at + 3) rows)

  numbered_typed : (at rows : ℕ) → accepts_terms (numbered_terms at rows) params ≡ true
  numbered_typed at zero = refl
  numbered_typed at (suc rows) =
      rw (typed_at params all at, typed_at params all 0, typed_at params all (at + 1), typed_at params all (at + 2), typed_at params all (at + 3), typed_at params all 1, typed_at params all 2) (numbered_typed (at + 4) rows)

cells_long : (rows : List NewRow) → length (flat_map cells rows) ≡ 3 * length rows
cells_long [] = refl
cells_long (r ∷ rows) = let more = cells_long rows in omega (arith, more)

numbered_long : (first : ℤ) (rows : List NewRow) → length (numbered_cells first rows) ≡ 4 * length rows
numbered_long first [] = refl
numbered_long first (r ∷ rows) = let more = numbered_long (first +ℤ pos 1) rows in omega (arith, more)

-- ---- why they fail, and what room they leave

module _ (text : List ℕ) (table : ℕ) (from to : ℤ) (rows : List NewRow) (is : IsBatchText text (length rows)) (old : State) (m : Records) (was : Represents old.now m) (left : ℕ) (healthy : IsHealthy (length rows + left) old.now) where
  abbrev batch_vs : List Version
  batch_vs = map (new_version table from to) rows

  abbrev batch_params : Row
  batch_params = given_rows table from to rows

  batch_one : (others : Others) → IsOne text (length batch_params) (understood (schema_with others) text)
  batch_one others =
      let many = cells_long rows in
      let long : 3 + 3 * length rows ≡ length batch_params = omega (arith, many) in
      subst (λ n. IsOne text n (understood (schema_with others) text)) long (is.0 others).1

  batch_adds : (others : Others) → AddsTerms others (batch_terms 3 (length rows)) text
  batch_adds others = (is.0 others).0

  batch_gives : value_rows batch_params 7 (length (batch_terms 3 (length rows)) / 7) (batch_terms 3 (length rows)) ≡ map unnumbered batch_vs
  batch_gives = ap (λ n. value_rows batch_params 7 n (batch_terms 3 (length rows))) is.1 ∙ gives table from to batch_params refl refl refl rows 3 refl

  batch_accepted : accepts_terms (batch_terms 3 (length rows)) (batch_params ++ []) ≡ true
  batch_accepted = ap (accepts_terms (batch_terms 3 (length rows))) (append-nil batch_params) ∙ batch_typed batch_params (refl, (refl, (refl, typed_cells rows))) 3 (length rows)

  batch_healthy : IsHealthy (length batch_vs + left) old.now
  batch_healthy = subst (λ n. IsHealthy (n + left) old.now) (sym (length-map rows (new_version table from to))) healthy

  batch_next : numbered Chosen (old.now.trees 2) (map unnumbered batch_vs) ≡ number_from (next_rowid (old.now.trees 2)) batch_vs
  batch_next = numbered_chosen batch_vs (old.now.trees 2) healthy.room.rise was.keyed

  pub batch_fails : CanAdd batch_vs m → (new : State) (e : Error) → ExecutesInside 0 text batch_params old new (Err e) → HasReason old new e
  batch_fails can = adds_fails text (batch_terms 3 (length rows)) batch_params (map unnumbered batch_vs) batch_vs batch_one batch_adds batch_gives (casts batch_vs) batch_accepted old m was left batch_healthy batch_next can.short can.own

  pub batch_leaves : 0 < length rows → (new : State) (count : ℕ) → Executes text batch_params old new (Ok count) → IsHealthy left new.now × (next_rowid (new.now.trees 2) ≡ new.last_rowid +ℤ pos 1)
  batch_leaves some =
      let many = length-map rows (new_version table from to) in
      adds_healthy text (batch_terms 3 (length rows)) batch_params (map unnumbered batch_vs) batch_vs batch_one batch_adds batch_gives (casts batch_vs) batch_accepted old m was left batch_healthy batch_next (omega (arith, some, many))

module _ (table : ℕ) (from to first : ℤ) (rows : List NewRow) (all : length rows ≡ 32) (old : State) (m : Records) (was : Represents old.now m) (left : ℕ) (healthy : IsHealthy (length rows + left) old.now) (next : next_rowid (old.now.trees 2) ≡ first) where
  abbrev own_vs : List Version
  own_vs = map (new_version table from to) rows

  abbrev own_params : Row
  own_params = given_numbered table from to first rows

  own_one : (others : Others) → IsOne numbered_text (length own_params) (understood (schema_with others) numbered_text)
  own_one others =
      let many = numbered_long first rows in
      let long : 131 ≡ length own_params = omega (arith, many, all) in
      subst (λ n. IsOne numbered_text n (understood (schema_with others) numbered_text)) long (numbered_one others)

  own_gives : value_rows own_params 7 (length (numbered_terms 3 (length rows)) / 7) (numbered_terms 3 (length rows)) ≡ number_from first own_vs
  own_gives =
      let cuts : IsNumberedCut (length rows) = subst IsNumberedCut (sym all) refl in
      ap (λ n. value_rows own_params 7 n (numbered_terms 3 (length rows))) cuts ∙ gives_numbered table from to own_params refl refl refl first rows 3 refl

  own_accepted : accepts_terms (numbered_terms 3 (length rows)) (own_params ++ []) ≡ true
  own_accepted = ap (accepts_terms (numbered_terms 3 (length rows))) (append-nil own_params) ∙ numbered_typed own_params (refl, (refl, (refl, typed_numbered first rows))) 3 (length rows)

  own_healthy : IsHealthy (length own_vs + left) old.now
  own_healthy = subst (λ n. IsHealthy (n + left) old.now) (sym (length-map rows (new_version table from to))) healthy

  own_next : numbered Chosen (old.now.trees 2) (number_from first own_vs) ≡ number_from (next_rowid (old.now.trees 2)) own_vs
  own_next = numbered_as_given first own_vs (old.now.trees 2) ∙ ap (λ n. number_from n own_vs) (sym next)

  pub numbered_fails : CanAdd own_vs m → (new : State) (e : Error) → ExecutesInside 0 numbered_text own_params old new (Err e) → HasReason old new e
  numbered_fails can = adds_fails numbered_text (numbered_terms 3 (length rows)) own_params (number_from first own_vs) own_vs own_one (numbers rows all) own_gives (casts_numbered first own_vs) own_accepted old m was left own_healthy own_next can.short can.own

  pub numbered_leaves : (new : State) (count : ℕ) → Executes numbered_text own_params old new (Ok count) → IsHealthy left new.now × (next_rowid (new.now.trees 2) ≡ new.last_rowid +ℤ pos 1)
  numbered_leaves =
      let many = length-map rows (new_version table from to) in
      adds_healthy numbered_text (numbered_terms 3 (length rows)) own_params (number_from first own_vs) own_vs own_one (numbers rows all) own_gives (casts_numbered first own_vs) own_accepted old m was left own_healthy own_next (omega (arith, all, many))

pub some_rows : (rows : ℕ) → IsBatch rows → 0 < rows
some_rows rows (inl e) = omega (arith, e)
some_rows rows (inr (inl e)) = omega (arith, e)
some_rows rows (inr (inr (inl e))) = omega (arith, e)
some_rows rows (inr (inr (inr (inl e)))) = omega (arith, e)
some_rows rows (inr (inr (inr (inr e)))) = omega (arith, e)

-- the number after the one before
pub next_after_last : (first : ℤ) (db : Database) → IsNextNumber ((first -ℤ pos 1) +ℤ pos 1) db → IsNextNumber first db
next_after_last first db next = let same : (first -ℤ pos 1) +ℤ pos 1 ≡ first = grind (arith, ints) in subst (λ n. IsNextNumber n db) same next

-- ---- one row or one batch further

pub more_given : (table : ℕ) (from to : ℤ) (rows : List NewRow) (i : ℕ) (row : NewRow) → i < length rows → row ≡ get_or rows i row
    → given_rows table from to (take i rows) ++ cells row ≡ given_rows table from to (take (i + 1) rows)
more_given table from to rows i row low is =
    let more : take (i + 1) rows ≡ take i rows ++ row ∷ [] = take_more rows i row low ∙ ap (λ r. take i rows ++ r ∷ []) (sym is) in
    ap (λ l. Int (pos table) ∷ Int from ∷ Int to ∷ l) (sym (ap (flat_map cells) more ∙ flat_map-append cells (take i rows) (row ∷ [])))

number_then : (first : ℤ) (rows : List NewRow) (row : NewRow) → numbered_cells first rows ++ Int (first +ℤ pos (length rows)) ∷ cells row ≡ numbered_cells first (rows ++ row ∷ [])
number_then first [] row = let e : first +ℤ pos 0 ≡ first = grind (arith) in rw e refl
number_then first (r ∷ rows) row =
    let e : first +ℤ pos (length (r ∷ rows)) ≡ (first +ℤ pos 1) +ℤ pos (length rows) = grind (arith) in
    ap (λ l. Int first ∷ cells r ++ l) (ap (λ n. numbered_cells (first +ℤ pos 1) rows ++ Int n ∷ cells row) e ∙ number_then (first +ℤ pos 1) rows row)

pub more_numbered : (table : ℕ) (from to first : ℤ) (rows : List NewRow) (i : ℕ) (row : NewRow) → i < length rows → row ≡ get_or rows i row
    → given_numbered table from to first (take i rows) ++ Int (first +ℤ pos i) ∷ cells row ≡ given_numbered table from to first (take (i + 1) rows)
more_numbered table from to first rows i row low is =
    let more : take (i + 1) rows ≡ take i rows ++ row ∷ [] = take_more rows i row low ∙ ap (λ r. take i rows ++ r ∷ []) (sym is) in
    let len : length (take i rows) ≡ i = length-take-le i rows (omega (arith, low)) in
    ap (λ l. Int (pos table) ∷ Int from ∷ Int to ∷ l)
    (ap (λ n. numbered_cells first (take i rows) ++ Int (first +ℤ pos n) ∷ cells row) (sym len) ∙ number_then first (take i rows) row ∙ ap (numbered_cells first) (sym more))

pub more_added : (db : Database) (f : NewRow → Version) (done batch : List NewRow) (m : Records) → Represents db (all_added (map f batch) (all_added (map f done) m)) → Represents db (all_added (map f (done ++ batch)) m)
more_added db f done batch m =
    permuted db (all_added (map f batch) (all_added (map f done) m)) (map f (done ++ batch) ++ m.versions)
    (subst₂ IsPermutation (append_assoc (map f batch) (map f done) m.versions) (ap (λ l. l ++ m.versions) (sym (map-append f done batch)))
    (IsPermutation-append _ _ _ _ (IsPermutation-append_comm (map f batch) (map f done)) (IsPermutation-refl m.versions)))
