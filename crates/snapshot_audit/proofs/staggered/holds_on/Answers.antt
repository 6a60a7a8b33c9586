use Rattle.std.proofs.Common.{◌≡◌, ◌↔◌, ◌<ℤ◌, ℕ, ℤ, List, true, false, arith, rules}
use Rattle.std.specs.List.Sorted.{IsPartitionPoint}
use Rattle.std.proofs.lemmas.List.Sorted.{IsPartitionPoint-from_clause}
use Rattle.period_core.specs.declared.value.Value.{Value}
use Rattle.period_core.specs.declared.row.PeriodRow.{PeriodRow}
use Rattle.temporal_model.specs.Snapshot.{InSnapshot}
use Rattle.snapshot_audit.proofs.Staggering.{begins_by, begins_in_order, last_of_begun, none_begun}
use Rattle.snapshot_audit.proofs.staggered.holds_on.Goals as goal

-- the rows that begin by the day are the first ones
abbrev Parted : List PeriodRow → List Value → ℤ → ℕ → Type 0
Parted rows values day n = IsPartitionPoint (λ y. begins_by values day y ≡ true) (λ y. begins_by values day y ≡ false) rows n

pub returns-then-begun-eq0 : goal.returns-then-begun-eq0
returns-then-begun-eq0 c =
    let rows : List PeriodRow = c.args.rows.now in
    let values : List Value = c.args.values.now in
    let n : ℕ = c.partition_point-begun.result in
    let point : Parted rows values c.args.day n = IsPartitionPoint-from_clause (begins_by values c.args.day) rows n c.partition_point-begun.ensures.partitioned
    (begins_in_order values c.args.day rows c.requires) (λ a r f' k. search rules) in (
      λ h. absurd (let wrong : false ≡ true = h in cc),
      λ h. absurd (none_begun rows values c.args.day n c.requires point (omega arith) h),
    )

pub returns-then-eq : goal.returns-then-eq
returns-then-eq c =
    let rows : List PeriodRow = c.args.rows.now in
    let values : List Value = c.args.values.now in
    let n : ℕ = c.partition_point-begun.result in
    let last : PeriodRow = c.index-rows-begun.result in
    let point : Parted rows values c.args.day n = IsPartitionPoint-from_clause (begins_by values c.args.day) rows n c.partition_point-begun.ensures.partitioned
    (begins_in_order values c.args.day rows c.requires) (λ a r f' k. search rules) in
    let both : ((last.values ≡ values) × (c.args.day <ℤ last.period.end)) ↔ InSnapshot rows c.args.day values =
    last_of_begun rows values c.args.day n c.requires point last (omega arith) c.partition_point-begun.ensures.bound c.index-rows-begun.is in (
      λ t. both.0 (c.eq.ensures.same.0 c.if-eq.true, c.ends_after.ensures.0 t),
      λ h. c.ends_after.ensures.1 (both.1 h).1,
    )

pub returns-else-eq : goal.returns-else-eq
returns-else-eq c =
    let rows : List PeriodRow = c.args.rows.now in
    let values : List Value = c.args.values.now in
    let n : ℕ = c.partition_point-begun.result in
    let last : PeriodRow = c.index-rows-begun.result in
    let point : Parted rows values c.args.day n = IsPartitionPoint-from_clause (begins_by values c.args.day) rows n c.partition_point-begun.ensures.partitioned
    (begins_in_order values c.args.day rows c.requires) (λ a r f' k. search rules) in
    let both : ((last.values ≡ values) × (c.args.day <ℤ last.period.end)) ↔ InSnapshot rows c.args.day values =
    last_of_begun rows values c.args.day n c.requires point last (omega arith) c.partition_point-begun.ensures.bound c.index-rows-begun.is in (
      λ t. absurd (let no : c.eq.result ≡ false = c.if-eq.false in let yes : c.eq.result ≡ true = t in cc),
      λ h. c.eq.ensures.same.1 (both.1 h).0,
    )
