use Rattle.std.proofs.Common.{◌≡◌, ◌-◌, ◌≤ℤ◌, List, Some, length, sym, ◌∙◌, subst}
use Rattle.std.specs.Prelude.{slice_get}
use Rattle.std.proofs.lemmas.Option.{same_Some}
use Rattle.period_core.specs.declared.row.PeriodRow.{PeriodRow}
use Rattle.snapshot_audit.proofs.staggered.last_holds.Goals as goal

pub returns-then-eq : goal.returns-then-eq
returns-then-eq c =
    let rows : List PeriodRow = c.args.rows.now in
    let row : PeriodRow = c.args.row.now in
    let last : PeriodRow = c.in-Some.last.now in
    let there : slice_get rows (length rows - 1) ≡ Some last = sym c.in-Some.ensures.value in
    let same : last.values ≡ row.values = c.eq.ensures.same.0 c.if-eq.true in (
      λ ends. (last, there, same, c.ends_by.ensures.0 ends),
      λ (other, at, its, ends).
          c.ends_by.ensures.1 (subst (λ (r : PeriodRow). row.period.end ≤ℤ r.period.end) (same_Some other last (sym at ∙ there)) ends),
    )
