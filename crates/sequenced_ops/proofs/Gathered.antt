-- Pairs that are gathered, and selected a batch at a time.
use Rattle.std.proofs.Common.{◌↔◌, ◌⊎◌, ◌++◌, [], ℕ, ℤ, List, inl, inr, refl, sym, ◌∙◌, ap, subst, append-nil}
use Rattle.period_core.specs.declared.row.PeriodRow.{PeriodRow}
use Rattle.period_core.specs.declared.value.Value.{Value}
use Rattle.temporal_model.specs.Snapshot.{Equivalent, InSnapshot}
use Rattle.sequenced_ops.specs.Joining.{Adds}
use Rattle.sequenced_ops.specs.Operations.{Cond, InUnion, SnapshotsAre}
use Rattle.sequenced_ops.specs.Outputs.{GivesSome, InSelected, IsGathered, IsGiven, IsSelected}
use Rattle.sequenced_ops.specs.declared.outputs.JoinOutput.{JoinOutput}
use Rattle.sequenced_ops.specs.declared.outputs.JoinOutput.TheVariants.{Pairs}
use Rattle.sequenced_ops.proofs.Added.{Adds-behind, Adds-both}
use Rattle.sequenced_ops.proofs.TwoRows.{holds-append}

-- rows that come of pairs come of other pairs too, if what is known of the pairs says so
pub gives_weaker :
    (Are Also : List PeriodRow → Type 0) (conjuncts : List Cond) (output : JoinOutput) (rows : List PeriodRow)
    → ((pairs : List PeriodRow) → Are pairs → Also pairs)
    → GivesSome Are conjuncts output rows → GivesSome Also conjuncts output rows
gives_weaker Are Also conjuncts output rows step (pairs, are, given) = (pairs, step pairs are, given)

-- ---- one batch

-- the rows that the selection of more rows adds to the selection of the earlier ones
abbrev pub SelectsMore : List Cond → List ℕ → List PeriodRow → List PeriodRow → List PeriodRow → Type 0
SelectsMore conjuncts columns selected pairs rows =
    SnapshotsAre (λ day values. InSnapshot selected day values ⊎ InSelected conjuncts columns pairs day values) rows

pub selects_more :
    (conjuncts : List Cond) (columns : List ℕ) (selected roomy pairs more rows : List PeriodRow) → Equivalent selected roomy
    → SnapshotsAre (InSelected conjuncts columns pairs) more → SnapshotsAre (InUnion roomy more) rows
    → SelectsMore conjuncts columns selected pairs rows
selects_more conjuncts columns selected roomy pairs more rows same are all day values = (
  λ h. elim ((all day values).0 h) [
    | inl old ↦ inl ((same day values).1 old)
    | inr new ↦ inr ((are day values).0 new)
  ],
  λ h. (all day values).1 (elim h [
    | inl old ↦ inl ((same day values).0 old)
    | inr new ↦ inr ((are day values).1 new)
  ]),
)

pub selected_both :
    (conjuncts : List Cond) (columns : List ℕ) (done pairs selected rows : List PeriodRow)
    → SnapshotsAre (InSelected conjuncts columns done) selected → SelectsMore conjuncts columns selected pairs rows
    → SnapshotsAre (InSelected conjuncts columns (done ++ pairs)) rows
selected_both conjuncts columns done pairs selected rows before step day read = (
  λ h. elim ((step day read).0 h) [
    | inl old ↦ let (values, (there, met), reads) = (before day read).0 old in
        (values, ((holds-append done pairs day values).1 (inl there), met), reads)
    | inr (values, (there, met), reads) ↦ (values, ((holds-append done pairs day values).1 (inr there), met), reads)
  ],
  λ (values, (there, met), reads). (step day read).1 (elim ((holds-append done pairs day values).0 there) [
    | inl old ↦ inl ((before day read).1 (values, (old, met), reads))
    | inr new ↦ inr (values, (new, met), reads)
  ]),
)

-- ---- all pairs

-- the pairs left are selected as well
pub batch_selected :
    (conjuncts : List Cond) (output : JoinOutput) (all selected pairs rows : List PeriodRow)
    → ((done : List PeriodRow) → IsSelected conjuncts output done selected → IsSelected conjuncts output (done ++ pairs) rows)
    → IsGathered conjuncts output all selected pairs → IsGathered conjuncts output all rows []
batch_selected conjuncts output all selected pairs rows step (done, is, before) =
    (done ++ pairs, append-nil (done ++ pairs) ∙ is, step done before)

pub given_pairs :
    (conjuncts : List Cond) (all selected pairs : List PeriodRow) → IsGathered conjuncts Pairs all selected pairs
    → IsGiven conjuncts Pairs all pairs
given_pairs conjuncts all selected pairs (done, is, none) = sym is ∙ ap (λ l. l ++ pairs) none

pub given_columns :
    (conjuncts : List Cond) (output : JoinOutput) (all selected pairs rows : List PeriodRow)
    → ((done : List PeriodRow) → IsSelected conjuncts output done selected → IsGiven conjuncts output (done ++ pairs) rows)
    → IsGathered conjuncts output all selected pairs → IsGiven conjuncts output all rows
given_columns conjuncts output all selected pairs rows step (done, is, before) =
    subst (λ l. IsGiven conjuncts output l rows) is (step done before)

-- the pairs of the set that are found
abbrev pub GathersAll : List Cond → JoinOutput → (ℤ → List Value → Type 0) → List PeriodRow → List PeriodRow → Type 0
GathersAll conjuncts output InSet selected pairs =
    (all : List PeriodRow) × Adds conjuncts InSet [] all × IsGathered conjuncts output all selected pairs

pub gathers_more :
    (conjuncts : List Cond) (output : JoinOutput) (First Second Both : ℤ → List Value → Type 0)
    → (selected pairs more : List PeriodRow)
    → GathersAll conjuncts output First selected pairs → Adds conjuncts Second pairs more
    → ((day : ℤ) (values : List Value) → (Both day values ↔ (First day values ⊎ Second day values)))
    → GathersAll conjuncts output Both selected more
gathers_more conjuncts output First Second Both selected pairs more (all, before, (done, is, has)) adds split =
    let here : Adds conjuncts Second all (done ++ more) =
    subst (λ l. Adds conjuncts Second l (done ++ more)) is (Adds-behind conjuncts Second done pairs more adds) in (
      done ++ more,
      Adds-both conjuncts First Second Both [] all (done ++ more) before here split,
      (done, refl, has),
    )

pub gathers_batch :
    (conjuncts : List Cond) (output : JoinOutput) (InSet : ℤ → List Value → Type 0)
    → (selected pairs rows left : List PeriodRow)
    → ((all : List PeriodRow) → IsGathered conjuncts output all selected pairs → IsGathered conjuncts output all rows left)
    → GathersAll conjuncts output InSet selected pairs → GathersAll conjuncts output InSet rows left
gathers_batch conjuncts output InSet selected pairs rows left step (all, adds, gathered) = (all, adds, step all gathered)
