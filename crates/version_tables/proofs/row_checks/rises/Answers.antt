use Rattle.std.proofs.Common.{◌≡◌, ◌<ℤ◌, rules, w64, to_z, of_z}
use Rattle.version_tables.proofs.ColumnFacts.{never, rise_read}
use Rattle.version_tables.proofs.row_checks.rises.Goals as goal

pub returns-in_default : goal.returns-in_default
returns-in_default c = (never, λ h. absurd (c.in_default.ensures (h.low, h.low_is)))

pub returns-in_default-number_at : goal.returns-in_default-number_at
returns-in_default-number_at c = (never, λ h. absurd (c.in_default-number_at.ensures (h.high, h.high_is)))

pub returns : goal.returns
returns c =
    let a : to_z w64 (of_z w64 c.in-Some.low) ≡ c.in-Some.low = search rules in
    let b : to_z w64 (of_z w64 c.in-Some-number_at.high) ≡ c.in-Some-number_at.high = search rules in (
      λ yes.
          let is = rw (a, b) at yes in
          let less : c.in-Some.low <ℤ c.in-Some-number_at.high = search rules in
          record { low = c.in-Some.low; high = c.in-Some-number_at.high; low_is = c.in-Some.ensures; high_is = c.in-Some-number_at.ensures; rises = less },
      λ h.
          let less : c.in-Some.low <ℤ c.in-Some-number_at.high = rise_read c.args.first.now c.args.second.now _ _ c.in-Some.ensures c.in-Some-number_at.ensures h in
          rw (a, b) (search rules),
    )
