-- A scan: the versions of a table that a system-time window sees, one by one.
use Rattle.std.specs.Prelude.{◌≡◌, ◌⊎◌, ◌++◌, ℕ, ℤ, Bool, false, List, [], map, filter, fold}
use Rattle.std.specs.Prelude.{Err, Ok, None, Option, Some, int_le, int_lt}
use Rattle.std.specs.Prelude.{IsPermutation, IsSorted, OnOk, Result}
use Rattle.std.specs.List.{All}
use Rattle.std.specs.Ordering.{is_lt}
use Rattle.period_core.specs.Moments.{forever}
use Rattle.period_core.specs.Windows.{window_sees}
use Rattle.period_core.specs.declared.refusal.Refusal.{Refusal}
use Rattle.period_core.specs.declared.version.VersionRow.{VersionRow}
use Rattle.period_core.specs.declared.window.Window.{Window}
use Rattle.period_core.specs.declared.window.Window.TheVariants.{Now, AsOf, FromTo, Between}
use Rattle.version_tables.specs.Forms.{end_in, moment_in}
use Rattle.version_tables.specs.Selections.{selects}
use Rattle.version_tables.specs.declared.form.Form.{Form}
use Rattle.version_tables.specs.declared.selection.Selection.{Selection}
use Rattle.version_store.specs.Contents.{Contents, TableVersion, of_table, version_cmp, version_in}
use Rattle.version_store.specs.StoreState.{IsStoreRefusal}

-- the versions of the table that are chosen by their system time
abbrev pub chosen_of : ℕ → (ℤ → ℤ → Bool) → List TableVersion → List TableVersion
chosen_of table chooses versions = filter (λ v. chooses v.from v.to) (of_table table versions)

-- the versions that the window sees
abbrev pub seen_of : ℕ → Window → List TableVersion → List TableVersion
seen_of table window = chosen_of table (window_sees window)

-- the rows are the first of the chosen versions, each once and in order, and the rest are the other
-- chosen ones, none of which is before one of the rows
pub record AreFirst (c : Contents) (table : ℕ) (chooses : ℤ → ℤ → Bool) (rows : List VersionRow)
    (rest : List TableVersion) : Type 0 where
  pub all : IsPermutation (chosen_of table chooses c.versions)
      (map (version_in table) rows ++ rest)
  pub sorted : IsSorted version_cmp (map (version_in table) rows)
  pub behind : All
      (λ (row : TableVersion). All (λ (v : TableVersion). is_lt (version_cmp v row) ≡ false) rest)
      (map (version_in table) rows)

-- AS OF FOREVER; FROM a TO b if a is not before b; BETWEEN a AND b if b is before a: such a
-- window sees no version that a store has
abbrev pub is_empty : Window → Bool
is_empty Now = false
is_empty (AsOf m) = int_le forever m
is_empty (FromTo a b) = int_le b a
is_empty (Between a b) = int_lt b a

-- a query over a store of the form selects the versions that are chosen by their moments
abbrev pub Selects : Form → Selection → (ℤ → ℤ → Bool) → Type 0
Selects form selection chooses =
    (from to : ℤ) → chooses (moment_in form from) (end_in form to) ≡ selects selection from to

-- the visitor took chosen rows in turn, from one meaning to another; on Ok there is no other
abbrev pub VisitsChosen : {M X : Type 0} → (M → VersionRow → M) → Contents → ℕ → (ℤ → ℤ → Bool)
    → M → M → Result X Refusal → Type 0
VisitsChosen next c table chooses old new result =
    (rows : List VersionRow) × (rest : List TableVersion)
    × AreFirst c table chooses rows rest × (new ≡ fold next old rows) × OnOk result (rest ≡ [])

-- a visit of the rows that a window sees
abbrev pub Visits : {M X : Type 0} → (M → VersionRow → M) → Contents → ℕ → Window → M → M
    → Result X Refusal → Type 0
Visits next c table window = VisitsChosen next c table (window_sees window)

-- a visitor that had refused no row has refused none on Ok; and on Err either its own refusal is
-- answered, or it has refused none and the store failed
abbrev pub AnswersRefusal : {X : Type 0} → (Option Refusal → Type 0) → Result X Refusal → Type 0
AnswersRefusal answered (Ok x) = answered None
AnswersRefusal answered (Err refusal) =
    answered (Some refusal) ⊎ (answered None × IsStoreRefusal refusal)

-- the visitor's own: it may answer that, and says that it did
abbrev pub IsOwnRefusal : (Refusal → Type 0) → (Option Refusal → Type 0) → Refusal → Type 0
IsOwnRefusal may_refuse answered refusal = may_refuse refusal × answered (Some refusal)
