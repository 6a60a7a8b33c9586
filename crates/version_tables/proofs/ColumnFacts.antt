-- The columns of a row: numbers that it holds, and rows that rise by them.
use Rattle.std.proofs.Common.{◌≡◌, ◌<◌, ap, ℕ, ℤ, pos, negsuc, List, [], ◌∷◌, length, IsTrue, true, false, refl, subst, arith, ◌∙◌, ◌<ℤ◌}
use Rattle.std.proofs.lemmas.Int.{ints}
use Rattle.sqlite_value.specs.Order.{column}
use Rattle.sqlite.specs.declared.types.Value.{Value}
use Rattle.sqlite.specs.declared.types.Value.TheVariants.{Null, Int, Real, Text, Blob}
use Rattle.sqlite.specs.Order.{Row}
use Rattle.sqlite.specs.Tree.{rowid}
use Rattle.sqlite.specs.View.{is_int}
use Rattle.version_tables.specs.Represents.{Version, version, meta_row, stored}
use Rattle.version_tables.specs.Good.{IsClock, IsKnown, AreDays, AreMoments, IsGoodParts, AreMetaRows, IsVersionRow, IsDefinition}
use Rattle.version_tables.specs.Rows.{IsNumberAt, AreBytesAt, Rise}
use Rattle.version_tables.specs.Forms.{form_number}
use Rattle.version_tables.specs.declared.form.Form.{Form}

-- anything follows from a falsehood
pub never : {P : Type 0} → IsTrue false → P
never h = cc

-- a row that begins with an integer
pub numbered : (row : Row) → is_int (rowid row) ≡ true → (n : ℤ) × IsNumberAt row 0 n
numbered [] h = absurd cc
numbered (Null ∷ more) h = absurd cc
numbered (Int n ∷ more) h = (n, (omega arith, refl))
numbered (Real x ∷ more) h = absurd cc
numbered (Text t ∷ more) h = absurd cc
numbered (Blob b ∷ more) h = absurd cc

-- a value is one number alone
pub same_int : (m n : ℤ) (v : Value) → v ≡ Int m → v ≡ Int n → m ≡ n
same_int m n v p q = cc

-- the integers of a row are those that were read
pub rise_read : (a b : Row) (low high : ℤ) → IsNumberAt a 0 low → IsNumberAt b 0 high → Rise a b → low <ℤ high
rise_read a b low high p q h = rw (same_int low h.low _ p.1 h.low_is.1, same_int high h.high _ q.1 h.high_is.1) h.rises

-- ---- the form and the clock

pub record ClockColumns (row : Row) (form : Form) (clock : ℤ) : Type 0 where
  pub width : length row ≡ 3
  pub id : IsNumberAt row 0 (pos 1)
  pub number : IsNumberAt row 1 (form_number form)
  pub at : IsNumberAt row 2 clock
  pub is_clock : IsClock form clock

pub clock_columns : (row : Row) (form : Form) (clock : ℤ) → AreMetaRows (row ∷ []) form clock → ClockColumns row form clock
clock_columns row form clock h =
    let same : row ≡ meta_row (form_number form) clock = let e = h.0 in cc in
    rw same (record { width = refl; id = (omega arith, refl); number = (omega arith, refl); at = (omega arith, refl); is_clock = h.1 })

three : (row : Row) → length row ≡ 3 → row ≡ column row 0 ∷ column row 1 ∷ column row 2 ∷ []
three [] h = absurd (omega arith)
three (a ∷ []) h = absurd (omega arith)
three (a ∷ b ∷ []) h = absurd (omega arith)
three (a ∷ b ∷ c ∷ []) h = refl
three (a ∷ b ∷ c ∷ d ∷ more) h = absurd (omega arith)

pub says_clock : (row : Row) (form : Form) (id number clock : ℤ) → length row ≡ 3 → IsNumberAt row 0 id → IsNumberAt row 1 number → IsNumberAt row 2 clock → id ≡ pos 1 → form_number form ≡ number
    → row ∷ [] ≡ meta_row (form_number form) clock ∷ []
says_clock row form id number clock width a b c one known =
    let whole = three row width in
    let p = a.1 in
    let q = b.1 in
    let r = c.1 in
    cc

-- ---- a version

six : (row : Row) → length row ≡ 6 → row ≡ column row 0 ∷ column row 1 ∷ column row 2 ∷ column row 3 ∷ column row 4 ∷ column row 5 ∷ []
six [] h = absurd (omega arith)
six (a ∷ []) h = absurd (omega arith)
six (a ∷ b ∷ []) h = absurd (omega arith)
six (a ∷ b ∷ c ∷ []) h = absurd (omega arith)
six (a ∷ b ∷ c ∷ d ∷ []) h = absurd (omega arith)
six (a ∷ b ∷ c ∷ d ∷ e ∷ []) h = absurd (omega arith)
six (a ∷ b ∷ c ∷ d ∷ e ∷ f ∷ []) h = refl
six (a ∷ b ∷ c ∷ d ∷ e ∷ f ∷ g ∷ more) h = absurd (omega arith)

pub record VersionColumns (form : Form) (clock : ℤ) (tables : ℕ) (row : Row) : Type 0 where
  pub width : length row ≡ 6
  pub it : Version
  pub table : IsNumberAt row 0 (pos it.table)
  pub values : AreBytesAt row 1 it.values
  pub start : IsNumberAt row 2 it.start
  pub end : IsNumberAt row 3 it.end
  pub from : IsNumberAt row 4 it.from
  pub to : IsNumberAt row 5 it.to
  pub good : IsGoodParts form clock tables (pos it.table) it.start it.end it.from it.to

pub version_columns : (form : Form) (clock : ℤ) (tables : ℕ) (row : Row) → IsVersionRow form clock tables row → VersionColumns form clock tables row
version_columns form clock tables row h =
    let at : (n : ℕ) → n < 6 → n < length row = λ n low. rw h.1 low in
    let v = h.0 in
    let one : (n : ℕ) → column row n ≡ column (stored v) n = λ n. ap (λ r. column r n) h.1 in
    record {
      width = rw h.1 refl;
      it = v;
      table = (at 0 (omega arith), one 0);
      values = (at 1 (omega arith), one 1);
      start = (at 2 (omega arith), one 2);
      end = (at 3 (omega arith), one 3);
      from = (at 4 (omega arith), one 4);
      to = (at 5 (omega arith), one 5);
      good = h.2;
    }

natural : (tables : ℕ) (n : ℤ) → IsKnown tables n → (k : ℕ) × (n ≡ pos k)
natural tables (pos k) h = (k, refl)
natural tables (negsuc k) h = absurd (let low = h.low in omega (arith, ints))

pub says_version : (form : Form) (clock : ℤ) (tables : ℕ) (row : Row) (table : ℤ) (values : List ℕ) (start end from to : ℤ) → length row ≡ 6 → IsNumberAt row 0 table → AreBytesAt row 1 values
    → IsNumberAt row 2 start → IsNumberAt row 3 end → IsNumberAt row 4 from → IsNumberAt row 5 to → IsKnown tables table → AreDays start end → AreMoments form clock from to → IsVersionRow form clock tables row
says_version form clock tables row table values start end from to width a b c d e f known days moments =
    let whole = six row width in
    let n = natural tables table known in
    let p = a.1 ∙ ap Int n.1 in
    let q = b.1 in
    let r = c.1 in
    let s = d.1 in
    let t = e.1 in
    let u = f.1 in
    let v = version n.0 values start end from to in
    let same : row ≡ stored v = cc in
    (v, same, record { known = subst (IsKnown tables) n.1 known; days = days; moments = moments })

pub good_parts : (form : Form) (clock : ℤ) (tables : ℕ) (row : Row) (table start end from to : ℤ) → IsNumberAt row 0 table → IsNumberAt row 2 start → IsNumberAt row 3 end → IsNumberAt row 4 from → IsNumberAt row 5 to
    → IsVersionRow form clock tables row → IsGoodParts form clock tables table start end from to
good_parts form clock tables row table start end from to a c d e f says =
    let has = version_columns form clock tables row says in
    let p = same_int table (pos has.it.table) _ a.1 has.table.1 in
    let q = same_int start has.it.start _ c.1 has.start.1 in
    let r = same_int end has.it.end _ d.1 has.end.1 in
    let s = same_int from has.it.from _ e.1 has.from.1 in
    let t = same_int to has.it.to _ f.1 has.to.1 in
    rw (p, q, r, s, t) has.good

-- ---- a definition

pub record DefinitionColumns (row : Row) (id : ℕ) : Type 0 where
  pub width : length row ≡ 2
  pub number : IsNumberAt row 0 (pos id)
  pub bytes : List ℕ
  pub bytes_are : AreBytesAt row 1 bytes

pub definition_columns : (row : Row) (id : ℕ) → IsDefinition id row → DefinitionColumns row id
definition_columns row id h = rw h.1 (record { width = refl; number = (omega arith, refl); bytes = h.0; bytes_are = (omega arith, refl) })
