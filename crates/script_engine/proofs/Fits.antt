-- The rows that a reference of the catalog sees in a history have the kinds of its table.
use Rattle.std.proofs.Common.{◌≡◌, ◌==◌, ◌∷◌, ◌∙◌, ℕ, Bool, true, List, [], None, Option, Some, Contains, ap, arith, eqb-true, map, refl, subst, sym, suc, zero}
use Rattle.std.specs.List.{AllByRecursion, list_all}
use Rattle.std.specs.Option.{option_map}
use Rattle.std.proofs.lemmas.Bool.{and_parts, false≢true}
use Rattle.std.proofs.lemmas.List.Sorted.{IsPermutation-sym}
use Rattle.sqlite_trees.proofs.ListLemmas.{all-append, all-filter, all-map, all-permutation, all_both, all_from_map}
use Rattle.period_core.specs.Windows.{window_sees}
use Rattle.period_core.specs.declared.row.PeriodRow.{PeriodRow}
use Rattle.period_core.specs.declared.value.Value.{Value}
use Rattle.period_core.specs.declared.value.Value.TheVariants as value
use Rattle.period_core.specs.declared.version.VersionRow.{VersionRow}
use Rattle.sql_statements.specs.Trees as written
use Rattle.sql_statements.specs.declared.statement.TableReference.{TableReference}
use Rattle.catalog_core.specs.query.Fitting.{has_kinds}
use Rattle.catalog_core.specs.query.Queries.{Query, both, one, references_of}
use Rattle.statement_resolution.specs.query.Resolving.{ReferenceParts, ResolvesSequenced, ResolvesSteps, ResolvesTree, reference_parts, value_kinds, written_reference}
use Rattle.statement_resolution.specs.query.Scopes.{tables_of}
use Rattle.catalog_core.specs.table.Kinds.{kind_of_column, kind_of_value, same_kind}
use Rattle.catalog_core.specs.table.TableWords.{number_of, table_of, table_of_name, value_columns}
use Rattle.catalog_core.specs.declared.query.resolved.QueryReference.{QueryReference}
use Rattle.catalog_core.specs.declared.table.Column.{Column}
use Rattle.catalog_core.specs.declared.table.ColumnKind.{ColumnKind}
use Rattle.catalog_core.specs.declared.table.ColumnKind.TheVariants as kind
use Rattle.catalog_core.specs.declared.table.TableDef.{TableDef}
use Rattle.catalog_core.specs.declared.table.ValueKind.{ValueKind}
use Rattle.version_store.proofs.Found.{passes}
use Rattle.version_store.specs.Contents.{Contents, TableVersion, of_table, version_in}
use Rattle.version_store.specs.GoodStore.{IsGoodVersion}
use Rattle.version_store.specs.RowValues.{are_of_columns, is_of_column}
use Rattle.history_model.specs.Histories.{History}
use Rattle.history_model.specs.HistoryVersions.{versions_of}
use Rattle.history_model.specs.Versions.{PlainVersion, plain_version, row_of}
use Rattle.ended_versions.specs.Packed.{seen_through}
use Rattle.script_engine.specs.engine.Answering.{IsKnown, IsOfCatalog, SeesRows}
use Rattle.script_engine.specs.engine.Stored.{AreOfHistory}

-- ---- a resolved query is of its catalog

known_by : (catalog : List TableDef) (r : QueryReference) (o : Option TableDef) → table_of catalog r.table ≡ o → option_map value_kinds o ≡ Some r.kinds → IsKnown catalog r
known_by catalog r None there kinds = absurd cc
known_by catalog r (Some table) there kinds = let same : r.kinds ≡ value_kinds table = cc in (table, there, same)

reference_known : (catalog : List TableDef) (w : TableReference) (r : QueryReference) → written_reference catalog w ≡ reference_parts r → IsKnown catalog r
unfolding table_of_name
reference_known catalog w r same =
    let number : number_of catalog w.table ≡ Some r.table = ap (λ (p : ReferenceParts). p.0) same in
    let kinds : option_map value_kinds (table_of_name catalog w.table) ≡ Some r.kinds = ap (λ (p : ReferenceParts). p.2) same in
    known_by catalog r (table_of catalog r.table) refl (rw number at kinds)

references_known : (catalog : List TableDef) (ws : List TableReference) (rs : List QueryReference) → map (written_reference catalog) ws ≡ map reference_parts rs → AllByRecursion (IsKnown catalog) rs
references_known catalog ws [] same = tt
references_known catalog [] (r ∷ rs) same = absurd cc
references_known catalog (w ∷ ws) (r ∷ rs) same =
    let first : written_reference catalog w ≡ reference_parts r = cc in
    let more : map (written_reference catalog) ws ≡ map reference_parts rs = cc in
    (reference_known catalog w r first, references_known catalog ws rs more)

mutual
  tree_known : (catalog : List TableDef) (w : written.Query) (query : Query) → ResolvesTree catalog w query → AllByRecursion (IsKnown catalog) (references_of query)
  tree_known catalog (written.simple s) (one select) same = references_known catalog (tables_of s) select.references same.references
  tree_known catalog (written.simple s) (both operator left right) same = absurd same
  tree_known catalog (written.combined first steps) query same =
      steps_known catalog same.0 steps query (tree_known catalog first same.0 same.1) same.2

  steps_known : (catalog : List TableDef) (left : Query) (steps : written.Steps) (query : Query) → AllByRecursion (IsKnown catalog) (references_of left) → ResolvesSteps catalog left steps query → AllByRecursion (IsKnown catalog) (references_of query)
  steps_known catalog left written.last query before same = subst (λ (q : Query). AllByRecursion (IsKnown catalog) (references_of q)) same before
  steps_known catalog left (written.step operator next steps) query before same =
      steps_known catalog (both operator left same.0) steps query (all-append (IsKnown catalog) (references_of left) (references_of same.0) before (tree_known catalog next same.0 same.1)) same.2

pub of_catalog : (catalog : List TableDef) (w : written.Query) (query : Query) → ResolvesSequenced catalog w query → IsOfCatalog catalog query
of_catalog catalog w query resolved = record { placed = resolved.placed; known = tree_known catalog w query resolved.same }

-- ---- a good version has the kinds of its table

one_kind : (k : ColumnKind) (v : Value) → is_of_column k v ≡ true → same_kind (kind_of_column k) (kind_of_value v) ≡ true
unfolding kind_of_column same_kind
one_kind kind.Integer (value.Int n) is = refl
one_kind kind.Integer (value.Text t) is = absurd (false≢true is)
one_kind kind.Integer (value.Date d) is = absurd (false≢true is)
one_kind (kind.Varchar n) (value.Int i) is = absurd (false≢true is)
one_kind (kind.Varchar n) (value.Text t) is = refl
one_kind (kind.Varchar n) (value.Date d) is = absurd (false≢true is)
one_kind kind.Date (value.Int n) is = absurd (false≢true is)
one_kind kind.Date (value.Text t) is = absurd (false≢true is)
one_kind kind.Date (value.Date d) is = refl
one_kind (kind.RowStart p) v is = absurd (false≢true is)
one_kind (kind.RowEnd p) v is = absurd (false≢true is)

column_kinds : (columns : List (ℕ × Column)) (values : List Value) → are_of_columns columns values ≡ true → has_kinds (map (λ (c : ℕ × Column). kind_of_column c.1.kind) columns) values ≡ true
column_kinds [] [] are = refl
column_kinds [] (v ∷ values) are = absurd (false≢true are)
column_kinds (c ∷ columns) [] are = absurd (false≢true are)
column_kinds (c ∷ columns) (v ∷ values) are =
    let parts = and_parts (is_of_column c.1.kind v) (are_of_columns columns values) are in
    rw (one_kind c.1.kind v parts.0) (column_kinds columns values parts.1)

module _ (history : History) (c : Contents) (said : AreOfHistory history c) (reference : QueryReference) (known : IsKnown c.tables reference) where
  abbrev Fit : List Value → Type 0
  Fit values = has_kinds reference.kinds values ≡ true

  version_fits : (v : TableVersion) → (v.table == reference.table) ≡ true → IsGoodVersion c.tables c.clock v → Fit v.values
  version_fits v here good =
      let at : v.table ≡ reference.table = eqb-true v.table reference.table here in
      let same : good.definition ≡ known.0 = let one = sym good.table ∙ ap (table_of c.tables) at ∙ known.1 in cc in
      let are = column_kinds (value_columns good.definition) v.values good.values in
      subst (λ (kinds : List ValueKind). has_kinds kinds v.values ≡ true) (ap value_kinds same ∙ sym known.2) are

  versions_fit : AllByRecursion (λ (v : TableVersion). Fit v.values) (of_table reference.table c.versions)
  versions_fit =
      all_both (λ (v : TableVersion). (v.table == reference.table) ≡ true) (IsGoodVersion c.tables c.clock) (λ (v : TableVersion). Fit v.values) version_fits (of_table reference.table c.versions)
      (passes (λ (v : TableVersion). v.table == reference.table) c.versions)
      (all-filter (IsGoodVersion c.tables c.clock) (λ (v : TableVersion). v.table == reference.table) c.versions said.good.versions)

  -- the versions that the history leaves of the table fit its columns
  left_fit : AllByRecursion (λ (v : PlainVersion). Fit v.values) (versions_of history reference.table)
  left_fit =
      let holds = said.versions reference.table in
      let shown = all-permutation (λ (v : TableVersion). Fit v.values) _ _ holds.all versions_fit in
      let rows : AllByRecursion (λ (row : VersionRow). Fit row.values) holds.rows = all_from_map (λ (v : TableVersion). Fit v.values) (version_in reference.table) holds.rows shown in
      all-permutation (λ (v : PlainVersion). Fit v.values) _ _ holds.left (all-map (λ (v : PlainVersion). Fit v.values) plain_version holds.rows rows)

  pub rows_fit : (rows : List PeriodRow) → SeesRows history reference rows → AllByRecursion (λ (row : PeriodRow). Fit row.values) rows
  rows_fit rows sees =
      let plain = all-permutation (λ (v : PlainVersion). Fit v.values) _ _ (IsPermutation-sym _ _ sees.left) left_fit in
      let versions : AllByRecursion (λ (row : VersionRow). Fit row.values) sees.versions = all_from_map (λ (v : PlainVersion). Fit v.values) plain_version sees.versions plain in
      let seen = all-filter (λ (row : VersionRow). Fit row.values) (λ (v : VersionRow). window_sees reference.window v.from v.to) sees.versions versions in
      all-permutation (λ (row : PeriodRow). Fit row.values) _ _ sees.all (all-map (λ (row : PeriodRow). Fit row.values) row_of (seen_through reference.window sees.versions) seen)

-- ---- lists of which a test holds

pub all_are : {A : Type 0} (p : A → Bool) (xs : List A) → AllByRecursion (λ (x : A). p x ≡ true) xs → list_all p xs ≡ true
all_are p [] all = refl
all_are p (x ∷ xs) all = rw all.0 (all_are p xs all.1)

-- a property of all elements of a list holds at each place
pub each_among : {A : Type 0} (P : A → Type 0) (xs : List A) → ((x : A) → Contains xs x → P x) → AllByRecursion P xs
each_among P [] each = tt
each_among P (x ∷ xs) each = (each x (zero, omega arith, refl), each_among P xs (λ y among. each y (suc among.0, (let low = among.1 in omega (arith, low)), among.2)))
