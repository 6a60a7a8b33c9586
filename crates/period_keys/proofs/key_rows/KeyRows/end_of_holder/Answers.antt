use Rattle.std.proofs.Common.{List, map, subst}
use Rattle.period_core.specs.declared.version.VersionRow.{VersionRow}
use Rattle.period_keys.specs.Gaps.{IsEndOfHolder, IsHeldUntil}
use Rattle.period_keys.specs.Versions.{period_of}
use Rattle.period_keys.proofs.key_rows.KeyRows.end_of_holder.Goals as goal

pub returns-in-Some-end_near : goal.returns-in-Some-end_near
returns-in-Some-end_near c =
    subst (λ (rows : List VersionRow). IsHeldUntil (map period_of rows) c.args.day c.in-Some-end_near.end) c.as_slice-rows.ensures.value c.in-Some-end_near.ensures

pub returns : goal.returns
returns c = subst (λ (rows : List VersionRow). IsEndOfHolder (map period_of rows) c.args.day c.end_among.result) c.as_slice-rows.ensures.value c.end_among.ensures
