-- Why the making of the three tables fails in a database without tables.
use Rattle.std.proofs.Common.{◌≡◌, ◌∙◌, ◌<◌, ◌≤◌, ◌+◌, ◌*◌, ◌^◌, ℕ, ℤ, pos, List, [], ◌∷◌, length, true, false, codes, Option, Some, None, Ok, Err, inl, inr, refl, sym, ap, subst, true≢false, arith}
use lib.Utf8.{encode}
use Rattle.std.specs.Float.Ieee
use Rattle.std.specs.Fmt.{digits}
use Rattle.std.specs.List.{AllByRecursion}
use Rattle.std.specs.Prelude.{IsUtf8}
use Rattle.sqlite.specs.Change.{created, next_tree}
use Rattle.sqlite.specs.Command.TheVariants.{CreateTable, Insert}
use Rattle.sqlite.specs.Compile.{table_defined_by}
use Rattle.sqlite.specs.Does.{Does, MakesSequence, MakesTable, lacks_sequence}
use Rattle.sqlite.specs.Edit.{are_fresh, edit_of, put_all, without_all}
use Rattle.sqlite.specs.Effect.{Database, IsSource}
use Rattle.sqlite.specs.Listing.{understood}
use Rattle.sqlite.specs.Order.{Row}
use Rattle.sqlite.specs.Rowids.TheVariants.{Chosen}
use Rattle.sqlite.specs.Rows.{Edited, Inserts, Task, Written}
use Rattle.sqlite.specs.Schema.{Schema}
use Rattle.sqlite.specs.Source.TheVariants.{Values}
use Rattle.sqlite.specs.State.{ExecutesInside, State, mode_of}
use Rattle.sqlite.specs.Table.{Table}
use Rattle.sqlite.specs.Tree.{Trees, with_tree}
use Rattle.sqlite.specs.declared.error.Error.{Error}
use Rattle.sqlite.specs.declared.types.Value.TheVariants.{Int, Null, Text}
use Rattle.sqlite.proofs.Callers.{IsPlain, command_of, statement_of}
use Rattle.sqlite_catalog.specs.Calls.{CreatesTable, RefusesTable}
use Rattle.sqlite_catalog.specs.Change.{automatics, is_reserved, is_used}
use Rattle.sqlite_catalog.specs.Listing.{is_fit, is_formed}
use Rattle.sqlite_catalog.specs.declared.error.Refusal.{Refusal}
use Rattle.sqlite_catalog.specs.declared.error.Refusal.TheVariants.{BadKey, BadName, BadText, Invalid, NameTaken, TooBig, Violates}
use Rattle.sqlite_rules.specs.Edit.{Edit, IsOversized}
use Rattle.sqlite_rules.specs.Lists.{Has}
use Rattle.sqlite_schema.specs.Names.{same_name}
use Rattle.sqlite_schema.specs.Rules.{Keeps, Refers, index_reals, table_reals}
use Rattle.sqlite_schema.specs.declared.schema.Among.TheVariants as among
use Rattle.sqlite_schema.specs.declared.schema.Constraint.TheVariants.{ForeignKey, Unique}
use Rattle.sqlite_schema.specs.declared.schema.Index.{Index}
use Rattle.sqlite_schema.specs.declared.schema.Keys.TheVariants.{Enforced}
use Rattle.sqlite_tied.specs.Compute.{everything}
use Rattle.sqlite_trees.specs.Sound as sound
use Rattle.sqlite_value.specs.Order.{value_cmp}
use Rattle.version_tables.specs.Making.{with_definitions, with_meta}
use Rattle.version_tables.specs.Steps.{HasReason}
use Rattle.version_tables.specs.Tables.{definition_table, meta_table, no_schema, nothing_else, store_schema, version_table}
use Rattle.version_tables.specs.Texts.{begin_text, meta_text, table_text, version_text}
use Rattle.version_tables.proofs.Allowed.{meta_allowed, meta_edit, meta_small, others_same, refers_kept}
use Rattle.version_tables.proofs.Apart.{one_step_with}
use Rattle.version_tables.proofs.Clashes.{unique_kept, unique_rows}
use Rattle.version_tables.proofs.Creates.{meta_is, table_is, version_is}
use Rattle.version_tables.proofs.Reasons.{IsOne}
use Rattle.version_tables.proofs.Refusals.{fails_inside, not_concluded, not_inserted, not_stopped, values_given}
use Rattle.version_tables.proofs.Rows.{cast_int, cast_null, same_value, went}
use Rattle.version_tables.proofs.Texts.{first_terms}

-- ---- CREATE TABLE

-- a schema in which the text can make the table
record Suits (schema : Schema) (text : List ℕ) (table : Table) : Type 0 where
  one : IsOne text 0 (understood schema text)
  means : (command_of (understood schema text) ≡ CreateTable) × IsPlain (understood schema text)
  whole : statement_of text (understood schema text) ≡ text
  defined : table_defined_by text ≡ Ok table
  bytes : IsUtf8 text
  named : IsUtf8 table.name
  short : 2 * length table.name + length text + 200 < 10 ^ 9
  free : is_used schema table.name ≡ false
  own : (index : Index) → Has (automatics table 0 0 table.uniques) index → is_used schema index.name ≡ false
  unreserved : is_reserved table.name ≡ false
  few : next_tree schema + length table.uniques < 65536
  reals : table_reals table < 2 ^ 64
  keys : (key : List ℕ) → Has table.uniques key → index_reals (table_reals table) key < 2 ^ 64
  formed : is_formed table ≡ true
  fits : is_fit (Text (codes "table")) (Text table.name) (Text table.name) (Text text) ≡ true
  uncounted : lacks_sequence (created schema table) ≡ false

module _ (schema : Schema) (text : List ℕ) (table : Table) (suits : Suits schema text table) (old : State) where
  same : (t : Table) → table_defined_by text ≡ Ok t → t ≡ table
  same t is = let both : Ok t ≡ Ok table = sym is ∙ suits.defined in cc

  not_refused : (why : Refusal) → RefusesTable schema text why → ⊥
  not_refused (Invalid e) is = absurd (let both = sym is ∙ suits.defined in cc)
  not_refused NameTaken (t, is, inl used) = true≢false (sym (subst (λ (t : Table). is_used schema t.name ≡ true) (same t is) used) ∙ suits.free)
  not_refused NameTaken (t, is, inr (index, has, used)) =
      true≢false (sym used ∙ suits.own index (subst (λ (t : Table). Has (automatics t 0 0 t.uniques) index) (same t is) has))
  not_refused BadName (t, is, inl wrong) = wrong (subst (λ (t : Table). IsUtf8 t.name) (sym (same t is)) suits.named)
  not_refused BadName (t, is, inr (reserved, _)) = true≢false (sym (subst (λ (t : Table). is_reserved t.name ≡ true) (same t is) reserved) ∙ suits.unreserved)
  not_refused TooBig (t, is, inl many) =
      let few = suits.few in
      let over = subst (λ (t : Table). 65536 ≤ next_tree schema + length t.uniques) (same t is) many in
      omega (arith, few, over)
  not_refused TooBig (t, is, inr (inl wide)) =
      let reals = suits.reals in
      let over = subst (λ (t : Table). 2 ^ 64 ≤ table_reals t) (same t is) wide in
      omega (arith, reals, over)
  not_refused TooBig (t, is, inr (inr (key, has, wide))) =
      let reals = suits.keys key (subst (λ (t : Table). Has t.uniques key) (same t is) has) in
      let over = subst (λ (t : Table). 2 ^ 64 ≤ index_reals (table_reals t) key) (same t is) wide in
      omega (arith, reals, over)
  not_refused BadKey (t, is, wrong) = true≢false (sym suits.formed ∙ subst (λ (t : Table). is_formed t ≡ false) (same t is) wrong)
  not_refused BadText (t, is, wrong) =
      true≢false (sym suits.fits ∙ subst (λ (t : Table). is_fit (Text (codes "table")) (Text t.name) (Text t.name) (Text text) ≡ false) (same t is) wrong)
  not_refused (Violates rule) h = h

  abbrev db : Database
  db = record old.now { schema = schema }

  no_table : (stop : Option Error) → MakesTable text db (Err stop) → ⊥
  no_table None (t, is, long) =
      let short = suits.short in
      let over = subst (λ (t : Table). 10 ^ 9 ≤ 2 * length t.name + length text + 200) (same t is) long in
      omega (arith, short, over)
  no_table (Some e) (inl (wrong, _)) = wrong suits.bytes
  no_table (Some e) (inr (why, refused, _)) = not_refused why refused

  no_sequence : (after : Database) (it : CreatesTable schema text db.trees after.schema after.trees) (stop : Option Error) → MakesSequence after (Err stop) → ⊥
  no_sequence after it stop h =
      let none : lacks_sequence after.schema ≡ false = ap lacks_sequence (it.is ∙ ap (created schema) (same it.table it.defined)) ∙ suits.uncounted in
      absurd (let e = rw none at h in cc)

  makes : (stop : Option Error) → Does None (mode_of old) [] db text None CreateTable (Err stop) → ⊥
  makes stop (inl (s, inl (t, refused, _), _)) = no_table t refused
  makes stop (inl (s, inr (after, made, sequence), _)) = no_sequence after made s sequence
  makes stop (inr (after, made, gives)) = absurd (let e = gives in cc)

  making_fails : (new : State) → old.now.schema ≡ schema → (e : Error) → ExecutesInside 0 text [] old new (Err e) → HasReason old new e
  making_fails new has =
      fails_inside text [] CreateTable schema suits.one suits.means tt old new has (λ stop does. makes stop (subst (λ t. Does None (mode_of old) [] db t None CreateTable (Err stop)) suits.whole does))

meta_suits : Suits no_schema meta_text (meta_table 0)
unfolding understood everything same_name sound.fits_kind sound.begins sound.same_name sound.is_free_name value_cmp Ieee.is_nan Ieee.lt encode
meta_suits = record {
  one = (refl, refl);
  means = (refl, (refl, refl));
  whole = refl;
  defined = meta_is.1;
  bytes = (meta_text, (refl, refl));
  named = (codes "bt_meta", (refl, refl));
  short = omega arith;
  free = refl;
  own = λ index none. absurd none;
  unreserved = refl;
  few = omega arith;
  reals = omega arith;
  keys = λ key none. absurd none;
  formed = refl;
  fits = refl;
  uncounted = refl;
}

definition_suits : Suits (with_meta no_schema) table_text (definition_table 0)
unfolding understood everything same_name sound.fits_kind sound.begins sound.same_name sound.is_free_name value_cmp Ieee.is_nan Ieee.lt encode
definition_suits = record {
  one = (refl, refl);
  means = (refl, (refl, refl));
  whole = refl;
  defined = table_is.1;
  bytes = (table_text, (refl, refl));
  named = (codes "bt_table", (refl, refl));
  short = omega arith;
  free = refl;
  own = λ index none. absurd none;
  unreserved = refl;
  few = omega arith;
  reals = omega arith;
  keys = λ key none. absurd none;
  formed = refl;
  fits = refl;
  uncounted = refl;
}

version_suits : Suits (with_definitions no_schema) version_text (version_table 0)
unfolding understood everything same_name digits sound.fits_kind sound.begins sound.same_name sound.is_free_name value_cmp Ieee.is_nan Ieee.lt encode
version_suits = record {
  one = (refl, refl);
  means = (refl, (refl, refl));
  whole = refl;
  defined = version_is.1;
  bytes = (version_text, (refl, refl));
  named = (codes "bt_version", (refl, refl));
  short = omega arith;
  free = refl;
  own = λ index has. elim has [ inl is ↦ ap (λ (i : Index). is_used (with_definitions no_schema) i.name) is | inr none ↦ absurd none ];
  unreserved = refl;
  few = omega arith;
  reals = omega arith;
  keys = λ key has. elim has [ inl is ↦ subst (λ key. index_reals 0 key < 2 ^ 64) (sym is) (omega arith) | inr none ↦ absurd none ];
  formed = refl;
  fits = refl;
  uncounted = refl;
}

pub meta_fails : (old new : State) → old.now.schema ≡ no_schema → (e : Error) → ExecutesInside 0 meta_text [] old new (Err e) → HasReason old new e
meta_fails old new = making_fails no_schema meta_text (meta_table 0) meta_suits old new

pub definitions_fail : (old new : State) → old.now.schema ≡ with_meta no_schema → (e : Error) → ExecutesInside 0 table_text [] old new (Err e) → HasReason old new e
definitions_fail old new = making_fails (with_meta no_schema) table_text (definition_table 0) definition_suits old new

pub versions_fail : (old new : State) → old.now.schema ≡ with_definitions no_schema → (e : Error) → ExecutesInside 0 version_text [] old new (Err e) → HasReason old new e
versions_fail old new = making_fails (with_definitions no_schema) version_text (version_table 0) version_suits old new

-- ---- the first row

begin_one : IsOne begin_text 2 (understood store_schema begin_text)
unfolding understood everything
begin_one = (refl, refl)

begin_means : (command_of (understood store_schema begin_text) ≡ Insert 0 (Values first_terms 4)) × IsPlain (understood store_schema begin_text)
unfolding understood everything
begin_means = (refl, (refl, refl))

module _ (form clock : ℤ) (old : State) (meta : old.now.trees 0 ≡ []) (definitions : old.now.trees 1 ≡ []) (versions : old.now.trees 2 ≡ []) where
  abbrev trees : Trees
  trees = old.now.trees

  abbrev begin_params : Row
  begin_params = Int form ∷ Int clock ∷ []

  abbrev new_row : Row
  new_row = Int (pos 1) ∷ Null ∷ Int form ∷ Int clock ∷ []

  unique : Keeps Unique store_schema trees
  unique = (subst (AllByRecursion _) (sym meta) tt, (subst (AllByRecursion _) (sym definitions) tt, (subst (AllByRecursion _) (sym versions) tt, tt)))

  referred : Keeps ForeignKey store_schema trees
  referred = (subst (AllByRecursion _) (sym meta) tt, (subst (AllByRecursion _) (sym definitions) tt, (subst (AllByRecursion _) (sym versions) tt, tt)))

  abbrev task : Task
  task = record { limit = None; keys = Enforced; schema = store_schema; table = meta_table 0; params = begin_params }

  abbrev asked : Database
  asked = record { schema = store_schema; trees = trees }

  edit_is : (rows : List Row) → IsSource asked begin_params (Values first_terms 4) rows → edit_of trees (meta_table 0) [] Chosen 0 rows ≡ meta_edit [] new_row
  edit_is rows given =
      ap (λ (l : List Row). let e : Edit = record { table = meta_table 0; gone = []; news = l } in e) (ap (λ all. (edit_of trees (meta_table 0) [] Chosen 0 all).news) given.1 ∙ rw (cast_null, cast_int (pos 1), cast_int form, cast_int clock) refl)

  stops : (rows : List Row) → IsSource asked begin_params (Values first_terms 4) rows → (stop : Option Error) → Edited store_schema Enforced trees (edit_of trees (meta_table 0) [] Chosen 0 rows) (Err stop) → ⊥
  stops rows given stop change =
      let low : 0 < 4 = omega arith in
      let fresh : are_fresh (without_all (trees 0) []) (new_row ∷ []) ≡ true = ap (λ l. are_fresh (without_all l []) (new_row ∷ [])) meta in
      let after = put_all (without_all (trees 0) []) (new_row ∷ []) in
      let kept = unique_kept nothing_else tt trees (with_tree trees 0 after) tt unique (unique_rows nothing_else trees unique) in
      not_stopped nothing_else tt Enforced trees (meta_edit [] new_row) low (meta_allowed nothing_else tt trees [] (pos 1) form clock refl fresh kept)
      (λ row there. elim there [ inl is ↦ λ big. meta_small nothing_else tt (pos 1) form clock (subst (IsOversized store_schema (meta_table 0)) is big) | inr none ↦ absurd none ]) stop (subst (λ e. Edited store_schema Enforced trees e (Err stop)) (edit_is rows given) change)

  refers : (w : Written) → Inserts task (Values first_terms 4) trees (Ok w) → Refers among.All store_schema w.trees
  refers w inserts =
      let given = went inserts in
      let written = went (went given.2).2 in
      let counted = went written.2 in
      let now : w.trees ≡ written.0 = ap (λ (it : Written). it.trees) (same_value counted.2) ∙ same_value counted.1 in
      let low : 0 < 4 = omega arith in
      let edit = edit_of trees (meta_table 0) [] Chosen 0 given.0 in
      let applied = one_step_with nothing_else tt _ trees written.0 edit low written.1 in
      subst (Refers among.All store_schema) (sym now) (refers_kept nothing_else tt trees written.0 (others_same nothing_else tt _ trees written.0 edit low applied) referred)

  allowed : (t : List ℕ) (stop : Option Error) → Does None (mode_of old) begin_params (record old.now { schema = store_schema }) t None (Insert 0 (Values first_terms 4)) (Err stop) → ⊥
  allowed t stop (inl (s, inserts, _)) = not_inserted task refl (Values first_terms 4) trees (values_given asked begin_params first_terms 4 refl) stops s inserts
  allowed t stop (inr (w, inserts, concludes)) = not_concluded task (mode_of old) w stop (refers w inserts) concludes

  pub row_fails : (new : State) → old.now.schema ≡ store_schema → (e : Error) → ExecutesInside 0 begin_text begin_params old new (Err e) → HasReason old new e
  row_fails new has = fails_inside begin_text begin_params (Insert 0 (Values first_terms 4)) store_schema begin_one begin_means tt old new has (allowed begin_text)
