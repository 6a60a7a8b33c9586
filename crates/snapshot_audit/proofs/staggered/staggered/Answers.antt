use Rattle.std.proofs.Common.{◌≡◌, List, length, sym, subst, arith}
use Rattle.std.specs.List.{AllPairs}
use Rattle.period_core.specs.declared.row.PeriodRow.{PeriodRow}
use Rattle.temporal_model.specs.Snapshot.{Equivalent}
use Rattle.temporal_model.proofs.Snapshots.{Equivalent-permutation, Equivalent-trans}
use Rattle.snapshot_audit.specs.Staggered.{LastHolds}
use Rattle.snapshot_audit.proofs.Staggering.{InRowOrder, kept_all, kept_more, kept_none, kept_skip, sorted_rows}
use Rattle.snapshot_audit.proofs.staggered.staggered.Goals as goal

pub loop-row-init : goal.loop-row-init
loop-row-init c =
    rw c.new-kept.ensures.items
    (kept_none _ (subst (AllPairs InRowOrder) (sym c.into_iter-row-iterator.ensures.into_iter_gives.0) (sorted_rows c.sort.new.self.items c.in_ok-sort.ensures.sorted)))

pub loop-row-preserved-in-Continue-branch-2 : goal.loop-row-preserved-in-Continue-branch-2
loop-row-preserved-in-Continue-branch-2 c =
    let sorted : List PeriodRow = c.into_iter-row-iterator.result.rest.items in
    let kept : List PeriodRow = c.loop-row.kept.items in
    let row : PeriodRow = c.in-Some.row in
    let free : LastHolds kept row → ⊥ = λ h.
    (let yes = c.last_holds.ensures.1 (subst (λ l. LastHolds l row) (sym c.as_slice.ensures.value) h) in let no = c.if-not-last_holds.true in cc) in
    rw c.in_ok-push.ensures.items
    (kept_more sorted c.loop-row.yielded c.loop-row.row-iterator.rest.items c.next.new.self.rest.items kept row c.in-Some.ensures.steps.0 free c.loop-row.invariant)

pub loop-row-preserved : goal.loop-row-preserved
loop-row-preserved c =
    let sorted : List PeriodRow = c.into_iter-row-iterator.result.rest.items in
    let kept : List PeriodRow = c.loop-row.kept.items in
    let row : PeriodRow = c.in-Some.row in
    let holds : LastHolds kept row = subst (λ l. LastHolds l row) c.as_slice.ensures.value (c.last_holds.ensures.0 c.if-not-last_holds.false) in
    kept_skip sorted c.loop-row.yielded c.loop-row.row-iterator.rest.items c.next.new.self.rest.items kept row c.in-Some.ensures.steps.0 holds c.loop-row.invariant

pub returns-clause-same : goal.returns-clause-same
returns-clause-same c =
    let sorted : List PeriodRow = c.into_iter-row-iterator.result.rest.items in
    let kept : List PeriodRow = c.loop-row.kept.items in
    let none : length c.loop-row.row-iterator.rest.items ≡ 0 = omega (arith, c.in-None.ensures.steps.0) in
    let all : Equivalent sorted kept = (kept_all sorted c.loop-row.yielded c.loop-row.row-iterator.rest.items kept none c.loop-row.invariant).1 in
    let moved : Equivalent c.args.rows.items c.sort.new.self.items = Equivalent-permutation c.args.rows.items c.sort.new.self.items c.in_ok-sort.ensures.permutation in
    let same : Equivalent c.args.rows.items kept =
    Equivalent-trans c.args.rows.items c.sort.new.self.items kept moved (subst (λ l. Equivalent l kept) c.into_iter-row-iterator.ensures.into_iter_gives.0 all) in
    subst (λ l. Equivalent c.args.rows.items l) (sym c.from_vec.ensures) same
