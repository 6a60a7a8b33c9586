use Rattle.std.proofs.Common.{◌≡◌, ◌-ℤ◌, pos, arith}
use Rattle.std.proofs.lemmas.Int.{ints}
use Rattle.period_core.specs.declared.row.PeriodRow.{PeriodRow}
use Rattle.temporal_model.specs.Snapshot.{InSnapshot}
use Rattle.std.proofs.Common.{refl, List, not, true, subst}
use Rattle.std.specs.Prelude.{IsTrue}
use Rattle.snapshot_audit.specs.Faults.{BeginsAnew}
use Rattle.snapshot_audit.proofs.Sound.{not_true, held_then}
use Rattle.snapshot_audit.proofs.witness_check.begins_anew.Goals as goal

pub returns-then-is_held_on : goal.returns-then-is_held_on
returns-then-is_held_on c =
    let before : InSnapshot c.args.rows.now (c.args.row.now.period.start -ℤ pos 1) c.args.row.now.values =
    held_then c.args.rows.now c.args.row.now.values (c.if-is_held_on.ensures.0 refl) (omega (arith, ints)) (omega (arith, ints)) in
    (λ e. cc, λ anew. absurd (anew.absent_before before))

pub returns : goal.returns
returns c =
    let rows : List PeriodRow = c.args.rows.now in
    let row : PeriodRow = c.args.row.now in
    let yes : IsTrue (not c.begins_in.result) → BeginsAnew rows c.args.place row =
    λ alone. record {
      absent_before = λ held. (let wrong = c.if-is_held_on.ensures.1 (held_then rows row.values held (omega (arith, ints)) (omega (arith, ints))) in cc);
      first = λ begins. (let wrong = c.begins_in.ensures.1 begins in let now : not true ≡ true = subst (λ b. not b ≡ true) wrong alone in cc);
    } in
    (yes, λ anew. not_true c.begins_in.result (λ again. anew.first (c.begins_in.ensures.0 again)))
