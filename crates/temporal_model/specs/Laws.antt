-- The laws of snapshots and certified lists. Each is the contract of a function of this crate.
use Rattle.std.specs.Prelude.{◌≡◌, ◌↔◌, ◌≤ℤ◌, ◌<◌, ℕ, ℤ, List, length, slice_index_or}
use Rattle.period_core.specs.declared.value.Value.{Value}
use Rattle.period_core.specs.declared.row.PeriodRow.{PeriodRow}
use Rattle.temporal_model.specs.Snapshot.{InSnapshot, Equivalent, IsDay, NoChangeBetween}
use Rattle.temporal_model.specs.Answer.{IsShortest, IsUniqueUpToOrder, IsInAnswerOrder}
use Rattle.temporal_model.specs.Answer.{SameBeginning, IsCertified}

-- a certified list is the shortest of its snapshots
abbrev pub CertifiedIsShortest : Type 0
CertifiedIsShortest = (rows : List PeriodRow) → IsCertified rows → IsShortest rows

-- a map from the rows of one list, by their places, to the rows of another: each row is sent to
-- a value-equivalent row that begins on the same day, and no two rows to one
pub record MapsOneToOne (rows others : List PeriodRow) : Type 0 where
  pub place : (i : ℕ) → i < length rows → ℕ
  pub inside : (i : ℕ) (h : i < length rows) → place i h < length others
  pub begins : (i : ℕ) (h : i < length rows) (d : PeriodRow)
      → SameBeginning (slice_index_or rows i d) (slice_index_or others (place i h) d)
  pub one_to_one : (i j : ℕ) (h : i < length rows) (k : j < length rows)
      → place i h ≡ place j k → i ≡ j

-- an equivalent list has a row of its own for each row of a certified list
abbrev pub CertifiedMapsOneToOne : Type 0
CertifiedMapsOneToOne =
    (rows others : List PeriodRow)
    → IsCertified rows → Equivalent rows others → MapsOneToOne rows others

-- an equivalent list of the same length is the certified list in another order
abbrev pub CertifiedIsUnique : Type 0
CertifiedIsUnique = (rows : List PeriodRow) → IsCertified rows → IsUniqueUpToOrder rows

-- a certified list and a shortest list with the same snapshots, both in order, are the same list
abbrev pub SameSnapshotsSameRows : Type 0
SameSnapshotsSameRows =
    (rows others : List PeriodRow)
    → IsCertified rows → IsInAnswerOrder rows
    → IsShortest others → IsInAnswerOrder others
    → Equivalent rows others → rows ≡ others

-- the two lists agree on every day that a period can cover
abbrev pub AgreeOnDays : List PeriodRow → List PeriodRow → Type 0
AgreeOnDays xs ys =
    (day : ℤ) (values : List Value) → IsDay day
    → (InSnapshot xs day values ↔ InSnapshot ys day values)

-- lists of rows that agree on the days are equivalent: no row holds outside the days
abbrev pub AgreementOnDaysSuffices : Type 0
AgreementOnDaysSuffices = (xs ys : List PeriodRow) → AgreeOnDays xs ys → Equivalent xs ys

-- a snapshot stays the same if no row begins or ends
abbrev pub ConstantBetweenChanges : Type 0
ConstantBetweenChanges =
    (rows : List PeriodRow) (first second : ℤ)
    → first ≤ℤ second → NoChangeBetween rows first second
    → (values : List Value) → (InSnapshot rows first values ↔ InSnapshot rows second values)
