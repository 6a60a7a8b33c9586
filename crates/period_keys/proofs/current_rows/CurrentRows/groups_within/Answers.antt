use Rattle.std.proofs.Common.{◌≡◌, ℕ, true, List, map, subst}
use Rattle.std.specs.Borrow.{Bor}
use Rattle.period_core.specs.declared.value.Value.{Value}
use Rattle.period_core.specs.declared.version.VersionRow.{VersionRow}
use Rattle.period_keys.specs.declared.key_range.KeyRange.{KeyRange}
use Rattle.period_keys.specs.declared.key_rows.KeyRows.{KeyRows}
use Rattle.period_keys.specs.Rows.{RowsByKey, rows_of_lists, rows_within}
use Rattle.period_keys.specs.Versions.{has_key_in, version_key}
use Rattle.period_keys.proofs.PlanParts.{if_ok}
use Rattle.period_keys.proofs.current_rows.CurrentRows.groups_within.Goals as goal

abbrev now_of : Bor KeyRows → KeyRows
now_of group = group.now

pub returns-in-Some : goal.returns-in-Some
returns-in-Some c =
    let range : KeyRange = c.args.range.now in
    let key : List Value = c.in-Some.key.now in
    let whole : (version : VersionRow) → has_key_in c.self.inside.positions range version ≡ true → version_key c.self.inside.positions version ≡ key =
    subst (λ (ps : List ℕ). (version : VersionRow) → has_key_in ps range version ≡ true → version_key ps version ≡ key) c.as_slice.ensures (λ version is. c.in-Some.ensures.whole version.values is) in
    if_ok c.group_within.result _ _
    (λ found law. subst (λ (t : RowsByKey). rows_of_lists (map now_of found.items) ≡ rows_within t range) c.self.view_is (law c.self.inside.positions c.self.invariant whole))
    c.group_within.ensures
