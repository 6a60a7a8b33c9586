use Rattle.std.proofs.Common.{rules, w64}
use Rattle.std.proofs.lemmas.Int.{to_z-of_z}
use Rattle.version_tables.proofs.row_checks.are_moments.Goals as goal

pub returns-then-from-to : goal.returns-then-from-to
returns-then-from-to c =
    let past = rw (to_z-of_z w64 c.args.from c.ranges.from, to_z-of_z w64 c.args.to c.ranges.to, to_z-of_z w64 c.args.clock c.ranges.clock) at c.is_recorded_by.ensures in
    (λ yes. record { from_is = search rules; to_is = search rules; rise = search rules; past = past.0 yes }, λ all. past.1 all.past)
