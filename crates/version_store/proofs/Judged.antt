-- Rows judged as definitions and versions: each row is a definition or a version in at most one way.
use Rattle.std.proofs.Common.{◌≡◌, ◌+◌, ◌<◌, ◌≤◌, ◌∙◌, ◌∷◌, ◌++◌, ℕ, zero, suc, ℤ, pos, List, [], Some, append_assoc, arith, get_or, length, refl, subst, subst₂, sym, ap, take, true}
use Rattle.std.specs.Prelude.{slice_get}
use Rattle.std.specs.List.{All, AllByRecursion}
use Rattle.std.proofs.lemmas.Int.{ints}
use Rattle.std.proofs.lemmas.List.{append-nil}
use Rattle.period_core.proofs.EncodingOrder.{reads_back}
use Rattle.period_core.specs.Encoding.{IsColumnValue, encoded}
use Rattle.period_core.specs.declared.value.Value.{Value}
use Rattle.catalog_core.proofs.lemmas.bytes.DefinitionSame.{reads_back as same_definition}
use Rattle.catalog_core.specs.bytes.DefinitionEncoding.{IsDefinitionEncoding}
use Rattle.catalog_core.specs.table.TableWords.{table_of}
use Rattle.catalog_core.specs.declared.table.TableDef.{TableDef}
use Rattle.sqlite.specs.Order.{Row}
use Rattle.sqlite.specs.declared.types.Value.TheVariants.{Int, Blob}
use Rattle.sqlite_value.specs.Order.{column}
use Rattle.version_tables.specs.Forms.{form_number}
use Rattle.version_tables.specs.declared.form.Form.{Form}
use Rattle.version_tables.specs.declared.form.Form.TheVariants.{Seconds, Microseconds}
use Rattle.version_tables.specs.Rows.{AreBytesAt, IsNumberAt}
use Rattle.version_tables.specs.Good as raw
use Rattle.version_tables.specs.Represents.{Version, meta_row, stored}
use Rattle.version_store.specs.Contents.{TableVersion}
use Rattle.version_store.specs.GoodStore.{AreDefinitions, AreTableRows, IsTableRow, IsVersionRow}
use Rattle.catalog_core.specs.create.Lawful.{IsLawful}
use Rattle.version_store.specs.RowValues.{are_row_values}
use Rattle.version_store.specs.Written.{IsReadable, written_table, written_version}

-- ---- definitions

-- bytes are of at most one definition
pub same_written : (a b : TableDef) → IsReadable a → IsReadable b → written_table a ≡ written_table b → a ≡ b
same_written a b ra rb same = same_definition a b (written_table a) ra (rb.0, rb.1, sym same)

blob_of : (row : Row) (n : ℤ) (b : List ℕ) → row ≡ Int n ∷ Blob b ∷ [] → column row 1 ≡ Blob b
blob_of row n b e = ap (λ (r : Row). column r 1) e

same_blob : (row : Row) (n m : ℤ) (a b : List ℕ) → row ≡ Int n ∷ Blob a ∷ [] → row ≡ Int m ∷ Blob b ∷ [] → a ≡ b
same_blob row n m a b e f =
    let p = blob_of row n a e in
    let q = blob_of row m b f in
    cc

pub same_table : (before : List TableDef) (row : Row) (a b : TableDef) → IsTableRow before row a → IsTableRow before row b → a ≡ b
same_table before row a b ra rb = same_written a b ra.readable rb.readable (same_blob row _ _ (written_table a) (written_table b) ra.spelled rb.spelled)

-- the row after the rows that were read
pub at_place : (before : List TableDef) (rows : List Row) (i : ℕ) (xs ts : List TableDef) (e : Row) → AreTableRows before rows ts → AreTableRows before (take i rows) xs → i < length rows
    → (d : TableDef) × IsTableRow (before ++ xs) (get_or rows i e) d
at_place before [] i xs ts e all part low = absurd (omega arith)
at_place before (row ∷ rows) i xs [] e all part low = absurd all
at_place before (row ∷ rows) zero [] (t ∷ ts) e all part low = (t, subst (λ (b : List TableDef). IsTableRow b row t) (sym (append-nil before)) all.0)
at_place before (row ∷ rows) zero (x ∷ xs) (t ∷ ts) e all part low = absurd part
at_place before (row ∷ rows) (suc i) [] (t ∷ ts) e all part low = absurd part
at_place before (row ∷ rows) (suc i) (x ∷ xs) (t ∷ ts) e all part low =
    let same : t ≡ x = same_table before row t x all.0 part.0 in
    let found = at_place (before ++ x ∷ []) rows i xs ts e (subst (λ (d : TableDef). AreTableRows (before ++ d ∷ []) rows ts) same all.1) part.1 (omega arith) in
    (found.0, subst (λ (b : List TableDef). IsTableRow b (get_or rows i e) found.0) (append_assoc before (x ∷ []) xs) found.1)

more_at : (before : List TableDef) (rows : List Row) (i : ℕ) (xs : List TableDef) (e : Row) (d : TableDef) → i < length rows → AreTableRows before (take i rows) xs → IsTableRow (before ++ xs) (get_or rows i e) d
    → AreTableRows before (take (suc i) rows) (xs ++ d ∷ [])
more_at before [] i xs e d low part one = absurd (omega arith)
more_at before (row ∷ rows) zero [] e d low part one = (subst (λ (b : List TableDef). IsTableRow b row d) (append-nil before) one, tt)
more_at before (row ∷ rows) zero (x ∷ xs) e d low part one = absurd part
more_at before (row ∷ rows) (suc i) [] e d low part one = absurd part
more_at before (row ∷ rows) (suc i) (x ∷ xs) e d low part one =
    (part.0, more_at (before ++ x ∷ []) rows i xs e d (omega arith) part.1 (subst (λ (b : List TableDef). IsTableRow b (get_or rows i e) d) (sym (append_assoc before (x ∷ []) xs)) one))

pub one_more : (rows : List Row) (i : ℕ) (xs : List TableDef) (row : Row) (d : TableDef) → i < length rows → row ≡ get_or rows i row → AreTableRows [] (take i rows) xs → IsTableRow xs row d
    → AreTableRows [] (take (i + 1) rows) (xs ++ d ∷ [])
one_more rows i xs row d low is part one =
    let next : suc i ≡ i + 1 = omega arith in
    subst (λ (n : ℕ). AreTableRows [] (take n rows) (xs ++ d ∷ [])) next (more_at [] rows i xs row d low part (subst (λ (r : Row). IsTableRow xs r d) is one))

pub stuck : (rows : List Row) (i : ℕ) (xs ts : List TableDef) (row : Row) → i < length rows → row ≡ get_or rows i row → AreTableRows [] (take i rows) xs → ((d : TableDef) → ¬ IsTableRow xs row d) → AreTableRows [] rows ts → ⊥
stuck rows i xs ts row low is part none all =
    let found = at_place [] rows i xs ts row all part low in
    none found.0 (subst (λ (r : Row). IsTableRow xs r found.0) (sym is) found.1)

-- ---- one row of a definition

pub bytes_of : (before : List TableDef) (row : Row) (b : List ℕ) (d : TableDef) → IsTableRow before row d → AreBytesAt row 1 b → written_table d ≡ b
bytes_of before row b d is at =
    let p = blob_of row _ (written_table d) is.spelled in
    let q = at.1 in
    cc

pub encodes : (before : List TableDef) (row : Row) (b : List ℕ) (d : TableDef) → IsTableRow before row d → AreBytesAt row 1 b → IsDefinitionEncoding b
encodes before row b d is at = (d, (is.readable.0, is.readable.1, bytes_of before row b d is at))

pub lawful_by : (before : List TableDef) (row : Row) (b : List ℕ) (d e : TableDef) → IsTableRow before row d → AreBytesAt row 1 b → IsReadable e → written_table e ≡ b → IsLawful before e
lawful_by before row b d e is at readable same = subst (IsLawful before) (same_written d e is.readable readable (bytes_of before row b d is at ∙ sym same)) is.lawful

-- ---- one row of a version

pub table_known : (tables : List TableDef) (n : ℕ) (d : TableDef) → table_of tables n ≡ Some d → (0 < n) × (n ≤ length tables)
table_known tables zero d there = absurd cc
table_known tables (suc n) d there = (omega arith, within tables n d there)
  where
    within : (tables : List TableDef) (n : ℕ) (d : TableDef) → slice_get tables n ≡ Some d → suc n ≤ length tables
    within [] n d there = absurd cc
    within (t ∷ tables) zero d there = omega arith
    within (t ∷ tables) (suc n) d there = let more = within tables n d there in omega (arith, more)

pub raw_version : (form : Form) (tables : List TableDef) (clock : ℤ) (row : Row) → IsVersionRow form tables clock row → raw.IsVersionRow form clock (length tables) row
raw_version form tables clock row (v, is, good) =
    let known = table_known tables v.table good.definition good.table in
    (written_version v, is, record { known = record { low = omega (arith, ints, known.0); high = omega (arith, ints, known.1) }; days = good.days; moments = good.moments })

pub number_there : (form : Form) (clock : ℤ) (tables : ℕ) (row : Row) → raw.IsVersionRow form clock tables row → (n : ℤ) × IsNumberAt row 0 n
number_there form clock tables row (v, is, good) = (pos v.table, rw is (omega arith, refl))

pub values_there : (form : Form) (clock : ℤ) (tables : ℕ) (row : Row) → raw.IsVersionRow form clock tables row → (b : List ℕ) × AreBytesAt row 1 b
values_there form clock tables row (v, is, good) = (v.values, rw is (omega arith, refl))

same_number : (row : Row) (n m : ℤ) → column row 0 ≡ Int n → column row 0 ≡ Int m → n ≡ m
same_number row n m p q = cc

same_bytes : (row : Row) (a b : List ℕ) → column row 1 ≡ Blob a → column row 1 ≡ Blob b → a ≡ b
same_bytes row a b p q = cc

same_pos : (n m : ℕ) → pos n ≡ pos m → n ≡ m
same_pos n m e = cc

pub number_is : (form : Form) (clock : ℤ) (tables : ℕ) (row : Row) (n : ℤ) (says : raw.IsVersionRow form clock tables row) → IsNumberAt row 0 n → n ≡ pos says.0.table
number_is form clock tables row n (v, is, good) at = same_number row n (pos v.table) at.1 (ap (λ (r : Row). column r 0) is)

pub says_by : (form : Form) (tables : List TableDef) (clock : ℤ) (row : Row) (n : ℕ) (b : List ℕ) (definition : TableDef) (values : List Value) → raw.IsVersionRow form clock (length tables) row → IsNumberAt row 0 (pos n) → AreBytesAt row 1 b
    → table_of tables n ≡ Some definition → encoded values ≡ b → All IsColumnValue values → are_row_values definition values ≡ true → IsVersionRow form tables clock row
says_by form tables clock row n b definition values (v, is, good) number bytes table same held fits =
    let w : TableVersion = record { table = v.table; values = values; start = v.start; end = v.end; from = v.from; to = v.to } in
    let number_same : n ≡ v.table = same_pos n v.table (number_is form clock (length tables) row (pos n) (v, is, good) number) in
    let bytes_same : v.values ≡ encoded values = same_bytes row v.values b (ap (λ (r : Row). column r 1) is) bytes.1 ∙ sym same in
    let make : List ℕ → Version = λ values. record { table = v.table; values = values; start = v.start; end = v.end; from = v.from; to = v.to } in (
      w,
      is ∙ ap (λ values. stored (make values)) bytes_same,
      record {
        definition = definition;
        table = subst (λ (k : ℕ). table_of tables k ≡ Some definition) number_same table;
        values = fits;
        held = held;
        days = good.days;
        moments = good.moments;
      },
    )

-- a version's row has its table's number, and its bytes
pub row_number : (form : Form) (tables : List TableDef) (clock : ℤ) (row : Row) (n : ℕ) (says : IsVersionRow form tables clock row) → IsNumberAt row 0 (pos n) → n ≡ says.0.table
row_number form tables clock row n (v, is, good) at = same_pos n v.table (same_number row (pos n) (pos v.table) at.1 (ap (λ (r : Row). column r 0) is))

pub row_table : (form : Form) (tables : List TableDef) (clock : ℤ) (row : Row) (n : ℕ) (says : IsVersionRow form tables clock row) → IsNumberAt row 0 (pos n) → table_of tables n ≡ Some says.2.definition
row_table form tables clock row n (v, is, good) at = ap (table_of tables) (row_number form tables clock row n (v, is, good) at) ∙ good.table

pub row_bytes : (form : Form) (tables : List TableDef) (clock : ℤ) (row : Row) (b : List ℕ) (says : IsVersionRow form tables clock row) → AreBytesAt row 1 b → encoded says.0.values ≡ b
row_bytes form tables clock row b (v, is, good) at = same_bytes row (encoded v.values) b (ap (λ (r : Row). column r 1) is) at.1

pub row_fits : (form : Form) (tables : List TableDef) (clock : ℤ) (row : Row) (n : ℕ) (b : List ℕ) (definition : TableDef) (values : List Value) → IsVersionRow form tables clock row → IsNumberAt row 0 (pos n) → AreBytesAt row 1 b
    → table_of tables n ≡ Some definition → encoded values ≡ b → All IsColumnValue values → are_row_values definition values ≡ true
row_fits form tables clock row n b definition values (v, is, good) number bytes table same held =
    let d : Some good.definition ≡ Some definition = sym (row_table form tables clock row n (v, is, good) number) ∙ table in
    let e : good.definition ≡ definition = cc in
    let f : v.values ≡ values = reads_back v.values values good.held held (row_bytes form tables clock row b (v, is, good) bytes ∙ sym same) in
    subst (λ (t : TableDef). are_row_values t values ≡ true) e (subst (λ (vs : List Value). are_row_values good.definition vs ≡ true) f good.values)

-- ---- the whole

pub same_tables : (before : List TableDef) (rows : List Row) (ts us : List TableDef) → AreTableRows before rows ts → AreTableRows before rows us → ts ≡ us
same_tables before [] [] [] p q = refl
same_tables before [] [] (u ∷ us) p q = absurd q
same_tables before [] (t ∷ ts) us p q = absurd p
same_tables before (row ∷ rows) [] us p q = absurd p
same_tables before (row ∷ rows) (t ∷ ts) [] p q = absurd q
same_tables before (row ∷ rows) (t ∷ ts) (u ∷ us) p q =
    let one : t ≡ u = same_table before row t u p.0 q.0 in
    let more : ts ≡ us = same_tables (before ++ u ∷ []) rows ts us (subst (λ (d : TableDef). AreTableRows (before ++ d ∷ []) rows ts) one p.1) q.1 in
    cc

-- the row has one form and one clock
same_meta : (a b x y : ℤ) → meta_row a x ∷ [] ≡ meta_row b y ∷ [] → (a ≡ b) × (x ≡ y)
same_meta a b x y e = (cc, cc)

same_number_form : (a b : Form) → form_number a ≡ form_number b → a ≡ b
same_number_form Seconds Seconds e = refl
same_number_form Seconds Microseconds e = absurd cc
same_number_form Microseconds Seconds e = absurd cc
same_number_form Microseconds Microseconds e = refl

pub same_form : (a b : Form) (x y : ℤ) → meta_row (form_number a) x ∷ [] ≡ meta_row (form_number b) y ∷ [] → (a ≡ b) × (x ≡ y)
same_form a b x y e = let parts = same_meta (form_number a) (form_number b) x y e in (same_number_form a b parts.0, parts.1)

-- rows that are not all good versions are so by whatever definitions, form and clock
pub other_versions : (metas tables versions : List Row) (ts us : List TableDef) (f h : Form) (a b : ℤ) → AreDefinitions metas tables ts f a → ¬ AllByRecursion (IsVersionRow f ts a) versions → AreDefinitions metas tables us h b
    → ¬ AllByRecursion (IsVersionRow h us b) versions
other_versions metas tables versions ts us f h a b ours none theirs each =
    let same = same_tables [] tables us ts theirs.defined.each ours.defined.each in
    let at = same_form h f b a (sym theirs.meta.0 ∙ ours.meta.0) in
    none (subst₂ (λ (form : Form) (n : ℤ). AllByRecursion (IsVersionRow form ts n) versions) at.0 at.1 (subst (λ (known : List TableDef). AllByRecursion (IsVersionRow h known b) versions) same each))
