use Rattle.std.proofs.Common.{◌≡◌, rules, pos, w64, to_z, of_z}
use Rattle.std.proofs.lemmas.Int.{to_z-of_z}
use Rattle.version_tables.proofs.ColumnFacts.{never, version_columns, says_version, good_parts}
use Rattle.version_tables.proofs.row_checks.is_version.Goals as goal

pub returns-in_default : goal.returns-in_default
returns-in_default c = (never, λ says. let has = version_columns c.args.form c.args.clock c.args.tables c.args.row.now says in absurd (c.in_default.ensures (pos has.it.table, has.table)))

pub returns-in_default-bytes_at : goal.returns-in_default-bytes_at
returns-in_default-bytes_at c = (never, λ says. let has = version_columns c.args.form c.args.clock c.args.tables c.args.row.now says in absurd (c.in_default-bytes_at.ensures (has.it.values, has.values)))

pub returns-in_default-number_at : goal.returns-in_default-number_at
returns-in_default-number_at c = (never, λ says. let has = version_columns c.args.form c.args.clock c.args.tables c.args.row.now says in absurd (c.in_default-number_at.ensures (has.it.start, has.start)))

pub returns-in_default-number_at-2 : goal.returns-in_default-number_at-2
returns-in_default-number_at-2 c = (never, λ says. let has = version_columns c.args.form c.args.clock c.args.tables c.args.row.now says in absurd (c.in_default-number_at-2.ensures (has.it.end, has.end)))

pub returns-in_default-number_at-3 : goal.returns-in_default-number_at-3
returns-in_default-number_at-3 c = (never, λ says. let has = version_columns c.args.form c.args.clock c.args.tables c.args.row.now says in absurd (c.in_default-number_at-3.ensures (has.it.from, has.from)))

pub returns-in_default-number_at-4 : goal.returns-in_default-number_at-4
returns-in_default-number_at-4 c = (never, λ says. let has = version_columns c.args.form c.args.clock c.args.tables c.args.row.now says in absurd (c.in_default-number_at-4.ensures (has.it.to, has.to)))

pub returns : goal.returns
returns c =
    let t : to_z w64 (of_z w64 c.in-Some.table) ≡ c.in-Some.table = search rules in
    let a : to_z w64 (of_z w64 c.in-Some-number_at.start) ≡ c.in-Some-number_at.start = search rules in
    let b : to_z w64 (of_z w64 c.in-Some-number_at-2.end) ≡ c.in-Some-number_at-2.end = search rules in
    let d : to_z w64 (of_z w64 c.in-Some-number_at-3.from) ≡ c.in-Some-number_at-3.from = search rules in
    let e : to_z w64 (of_z w64 c.in-Some-number_at-4.to) ≡ c.in-Some-number_at-4.to = search rules in
    let clock : to_z w64 (of_z w64 c.args.clock) ≡ c.args.clock = to_z-of_z w64 c.args.clock c.ranges.clock in
    let known = rw t at (c.is_known.ensures.0 c.if-not-is_known.false) in
    let days = rw (a, b) at (c.are_days.ensures.0 c.if-not-are_days.false) in
    let moments = rw (d, e, clock) at c.are_moments.ensures in (
      λ yes.
          says_version c.args.form c.args.clock c.args.tables c.args.row.now c.in-Some.table c.in-Some-bytes_at._values.now c.in-Some-number_at.start c.in-Some-number_at-2.end c.in-Some-number_at-3.from c.in-Some-number_at-4.to
          (search rules) c.in-Some.ensures c.in-Some-bytes_at.ensures c.in-Some-number_at.ensures c.in-Some-number_at-2.ensures c.in-Some-number_at-3.ensures c.in-Some-number_at-4.ensures known days (moments.0 yes),
      λ says.
          moments.1
          (good_parts c.args.form c.args.clock c.args.tables c.args.row.now c.in-Some.table c.in-Some-number_at.start c.in-Some-number_at-2.end c.in-Some-number_at-3.from c.in-Some-number_at-4.to
          c.in-Some.ensures c.in-Some-number_at.ensures c.in-Some-number_at-2.ensures c.in-Some-number_at-3.ensures c.in-Some-number_at-4.ensures says).moments,
    )
