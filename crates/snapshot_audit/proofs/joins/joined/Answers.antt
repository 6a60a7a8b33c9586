use Rattle.std.proofs.Common.{[], ℕ, List, sym, subst}
use Rattle.std.proofs.lemmas.Result.{IfOk-weaker}
use Rattle.period_core.specs.declared.row.PeriodRow.{PeriodRow}
use Rattle.snapshot_audit.specs.declared.joins.EntrySide.TheVariants.{First}
use Rattle.snapshot_audit.specs.declared.keys.KeyedEntry.{KeyedEntry}
use Rattle.snapshot_audit.specs.Keys.{AreByKey}
use Rattle.snapshot_audit.specs.Pairs.{Adds, Begun, InAny, InMeetingPair, InPair, Sided}
use Rattle.snapshot_audit.proofs.Adding.{both_sides}
use Rattle.snapshot_audit.proofs.joins.joined.Goals as goal

pub returns : goal.returns
returns c =
    let select = c.args.select.now in
    let output = c.args.output in
    let rows : List PeriodRow = c.args.rows.now in
    let others : List PeriodRow = c.args.others.now in
    let left : List ℕ = c.in_ok-columns.columns.first.items in
    let right : List ℕ = c.in_ok-columns.columns.second.items in
    let first : List KeyedEntry = c.as_slice-firsts.result.now in
    let second : List KeyedEntry = c.as_slice-seconds.result.now in
    let mid : List PeriodRow = c.in_ok-pairs.pairs.items in
    let firsts : AreByKey left rows first =
    subst (λ l. AreByKey l rows first) c.as_slice.ensures.value (subst (AreByKey c.as_slice.result.now rows) (sym c.as_slice-firsts.ensures.value) c.in_ok-first.ensures) in
    let seconds : AreByKey right others second =
    subst (λ l. AreByKey l others second) c.as_slice-2.ensures.value (subst (AreByKey c.as_slice-2.result.now others) (sym c.as_slice-seconds.ensures.value) c.in_ok-second.ensures) in
    let begun : Adds (InAny (Sided (InPair select output) First) first second) (InAny (Begun (Sided (InMeetingPair select output) First)) first second) [] mid =
    subst (λ l. Adds (InAny (Sided (InPair select output) First) first second) (InAny (Begun (Sided (InMeetingPair select output) First)) first second) l mid)
    c.new-none.ensures.items c.in_ok-pairs.ensures in
    IfOk-weaker c.add_begun-2.result _ _
    (λ joined then. both_sides select output rows others left right first second c.in_ok-columns.ensures firsts seconds mid joined.items begun then)
    c.add_begun-2.ensures
