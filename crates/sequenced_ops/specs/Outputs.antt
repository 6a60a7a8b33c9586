-- The output of a join, of the pairs that it finds, and the pairs of which it is given.
use Rattle.std.specs.Prelude.{◌≡◌, ◌++◌, ℕ, ℤ, List, []}
use Rattle.period_core.specs.declared.row.PeriodRow.{PeriodRow}
use Rattle.period_core.specs.declared.value.Value.{Value}
use Rattle.sequenced_ops.specs.Operations.{Cond, InProjection, SnapshotsAre}
use Rattle.sequenced_ops.specs.Planning.{InMeeting}
use Rattle.sequenced_ops.specs.declared.outputs.JoinOutput.{JoinOutput}
use Rattle.sequenced_ops.specs.declared.outputs.JoinOutput.TheVariants.{Pairs, Columns}

-- the values at the positions of the rows that meet all conditions
abbrev pub InSelected : List Cond → List ℕ → List PeriodRow → ℤ → List Value → Type 0
InSelected conjuncts columns rows = InProjection columns (InMeeting conjuncts rows)

-- the output for these pairs: they themselves, or the values selected of them
abbrev pub IsGiven : List Cond → JoinOutput → List PeriodRow → List PeriodRow → Type 0
IsGiven conjuncts Pairs pairs rows = pairs ≡ rows
IsGiven conjuncts (Columns columns) pairs rows =
    SnapshotsAre (InSelected conjuncts columns.now pairs) rows

-- the rows are the output for some pairs that have the property
abbrev pub GivesSome
    : (List PeriodRow → Type 0) → List Cond → JoinOutput → List PeriodRow → Type 0
GivesSome Are conjuncts output rows =
    (pairs : List PeriodRow) × Are pairs × IsGiven conjuncts output pairs rows

-- the values that have been selected: none yet if the pairs themselves are given
abbrev pub IsSelected : List Cond → JoinOutput → List PeriodRow → List PeriodRow → Type 0
IsSelected conjuncts Pairs done selected = done ≡ []
IsSelected conjuncts (Columns columns) done selected =
    SnapshotsAre (InSelected conjuncts columns.now done) selected

-- all pairs are those that have been selected, and those that have not
abbrev pub IsGathered
    : List Cond → JoinOutput → List PeriodRow → List PeriodRow → List PeriodRow → Type 0
IsGathered conjuncts output all selected pairs =
    (done : List PeriodRow) × (done ++ pairs ≡ all) × IsSelected conjuncts output done selected
