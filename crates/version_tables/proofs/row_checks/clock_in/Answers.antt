use Rattle.std.proofs.Common.{◌≡◌, pos, rules, w64, to_z, of_z}
use Rattle.version_tables.specs.Forms.{form_number}
use Rattle.version_tables.proofs.ColumnFacts.{clock_columns, says_clock}
use Rattle.version_tables.proofs.row_checks.clock_in.Goals as goal

pub returns-in_err-id : goal.returns-in_err-id
returns-in_err-id c = rw c.from_residual.ensures (λ form clock says. c.in_err-id.ensures (pos 1, (clock_columns c.args.row.now form clock says).id))

pub returns-in_err-number : goal.returns-in_err-number
returns-in_err-number c = rw c.from_residual-in_err-number.ensures (λ form clock says. c.in_err-number.ensures (form_number form, (clock_columns c.args.row.now form clock says).number))

pub returns-in_err-clock : goal.returns-in_err-clock
returns-in_err-clock c = rw c.from_residual-in_err-clock.ensures (λ form clock says. c.in_err-clock.ensures (clock, (clock_columns c.args.row.now form clock says).at))

pub returns-then-is_clock : goal.returns-then-is_clock
returns-then-is_clock c =
    let e : to_z w64 (of_z w64 c.in_ok-clock.clock) ≡ c.in_ok-clock.clock = search rules in
    let n : to_z w64 (of_z w64 c.in_ok-number.number) ≡ c.in_ok-number.number = search rules in
    let one : c.in_ok-id.id ≡ pos 1 = search rules in (
      rw e (says_clock c.args.row.now c.in_ok-form.form c.in_ok-id.id c.in_ok-number.number c.in_ok-clock.clock (search rules) c.in_ok-id.ensures c.in_ok-number.ensures c.in_ok-clock.ensures one (rw n at c.in_ok-form.ensures)),
      search rules,
    )
