-- The row of a version that can be read, column by column.
use Rattle.std.proofs.Common.{◌≡◌, ◌∷◌, [], List, arith, length, refl, subst, ℕ, ℤ}
use Rattle.sqlite_value.specs.Order.{column}
use Rattle.sqlite.specs.Order.{Row}
use Rattle.sqlite.specs.declared.types.Value.TheVariants.{Blob, Int}
use Rattle.version_tables.proofs.ColumnFacts.{same_int}
use Rattle.version_tables.specs.Forms.{IsNumberIn}
use Rattle.version_tables.specs.Good.{AreDays}
use Rattle.version_tables.specs.Represents.{shown, stored}
use Rattle.version_tables.specs.Rows.{AreBytesAt, IsNumberAt}
use Rattle.version_store.specs.Contents.{IsDated, TableVersion}
use Rattle.version_tables.specs.declared.form.Form.{Form}
use Rattle.version_store.specs.Units.{version_of}
use Rattle.version_store.specs.Written.{written_version}
use Rattle.version_store.proofs.Units.{number_of_end, number_of_moment}

-- the one integer that a row has at a place is the one that was read
pub not_there : (P : ℤ → Type 0) (row : Row) (at : ℕ) (n : ℤ) → IsNumberAt row at n → ¬ P n → ¬ ((m : ℤ) × IsNumberAt row at m × P m)
not_there P row at n read not (m, is, holds) = not (subst P (same_int m n _ is.1 read.1) holds)

five : (row : Row) → length row ≡ 5 → row ≡ column row 0 ∷ column row 1 ∷ column row 2 ∷ column row 3 ∷ column row 4 ∷ []
five [] h = absurd (omega arith)
five (a ∷ []) h = absurd (omega arith)
five (a ∷ b ∷ []) h = absurd (omega arith)
five (a ∷ b ∷ c ∷ []) h = absurd (omega arith)
five (a ∷ b ∷ c ∷ d ∷ []) h = absurd (omega arith)
five (a ∷ b ∷ c ∷ d ∷ e ∷ []) h = refl
five (a ∷ b ∷ c ∷ d ∷ e ∷ f ∷ more) h = absurd (omega arith)

-- a row of five columns that were read
pub read_columns : (row : Row) (values : List ℕ) (start end from to : ℤ) → length row ≡ 5 → AreBytesAt row 0 values → IsNumberAt row 1 start → IsNumberAt row 2 end → IsNumberAt row 3 from → IsNumberAt row 4 to
    → row ≡ Blob values ∷ Int start ∷ Int end ∷ Int from ∷ Int to ∷ []
read_columns row values start end from to width a b c d e =
    let whole = five row width in
    let p = a.1 in
    let q = b.1 in
    let r = c.1 in
    let s = d.1 in
    let t = e.1 in
    cc

module _ (row : Row) (v : TableVersion) (is : row ≡ shown (written_version v)) where
  pub width : length row ≡ 5
  width = rw is refl

  pub number_in : (at : ℕ) (n : ℤ) → IsNumberAt (shown (written_version v)) at n → IsNumberAt row at n
  number_in at n there = rw is there

  pub bytes_in : AreBytesAt row 0 (written_version v).values
  bytes_in = rw is (omega arith, refl)

  module _ (form : Form) (dated : IsDated (version_of form v)) where
    pub days_in : (s e : ℤ) × IsNumberAt row 1 s × IsNumberAt row 2 e × AreDays s e
    days_in = (v.start, v.end, number_in 1 v.start (omega arith, refl), number_in 2 v.end (omega arith, refl), dated.days)

    pub from_in : (n : ℤ) × IsNumberAt row 3 n × IsNumberIn form n
    from_in = (v.from, number_in 3 v.from (omega arith, refl), number_of_moment form v.from dated.from)

    pub to_in : (n : ℤ) × IsNumberAt row 4 n × IsNumberIn form n
    to_in = (v.to, number_in 4 v.to (omega arith, refl), number_of_end form v.to dated.to)

-- the row of bt_version has these numbers too
module _ (row : Row) (v : TableVersion) (is : row ≡ stored (written_version v)) where
  number_stored : (at : ℕ) (n : ℤ) → IsNumberAt (stored (written_version v)) at n → IsNumberAt row at n
  number_stored at n there = rw is there

  module _ (form : Form) (dated : IsDated (version_of form v)) where
    pub days_stored : (s e : ℤ) × IsNumberAt row 2 s × IsNumberAt row 3 e × AreDays s e
    days_stored = (v.start, v.end, number_stored 2 v.start (omega arith, refl), number_stored 3 v.end (omega arith, refl), dated.days)

    pub from_stored : (n : ℤ) × IsNumberAt row 4 n × IsNumberIn form n
    from_stored = (v.from, number_stored 4 v.from (omega arith, refl), number_of_moment form v.from dated.from)

    pub to_stored : (n : ℤ) × IsNumberAt row 5 n × IsNumberIn form n
    to_stored = (v.to, number_stored 5 v.to (omega arith, refl), number_of_end form v.to dated.to)
