use Rattle.std.proofs.Common.{◌≤◌, ◌∙◌, ℕ, List, length, map, rules, subst}
use Rattle.std.specs.Prelude.{Contains}
use Rattle.std.specs.Borrow.{Bor}
use Rattle.std.proofs.lemmas.List.Elements.{All-contains}
use Rattle.period_core.specs.declared.value.Value.{Value}
use Rattle.period_keys.specs.declared.key_rows.KeyRows.{KeyRows}
use Rattle.period_keys.specs.declared.row_range.RowRange.{RowRange}
use Rattle.period_keys.specs.declared.secondary_index.SecondaryIndex.{SecondaryIndex}
use Rattle.period_keys.specs.Rows.{RowsByKey, rows_of_lists}
use Rattle.period_keys.specs.Secondary.{AreRowsWithin, HasEntries}
use Rattle.period_keys.specs.TableRows.{TableRows}
use Rattle.period_keys.proofs.PlanParts.{if_ok}
use Rattle.period_keys.proofs.RowsWithin.{within_all, within_by_index}
use Rattle.period_keys.proofs.table_index.TableIndex.groups_of.Goals as goal

pub returns-in-Some : goal.returns-in-Some
returns-in-Some c =
    let rows : RowRange = c.args.rows.now in
    let table : RowsByKey = c.self.inside.rows in
    let index : SecondaryIndex = c.in-Some.index.now in
    let keys : List (List Value) = c.as_slice-in-Some.result.now in
    let among : Contains c.self.inside.secondary.items index = subst (λ (indexes : List SecondaryIndex). Contains indexes index) c.as_slice.ensures.value c.in-Some.ensures.found.0 in
    let has : HasEntries table.positions table.rows index = All-contains (HasEntries table.positions table.rows) c.self.inside.secondary.items index c.self.invariant.1 among in
    let whole : length rows.positions ≤ length rows.range.leading.items =
    subst (λ (ps : List ℕ). length ps ≤ length rows.range.leading.items) c.as_slice-positions.ensures (c.whole_key.ensures.found.0 (search (rules, c.if-is_some.true, c.is_some.ensures))) in
    if_ok c.groups_of_keys.result _ _
    (λ groups is. subst (λ (t : TableRows). AreRowsWithin rows t.rows (rows_of_lists (map (λ (g : Bor KeyRows). g.now) groups.items))) c.self.view_is
    (within_by_index rows table index keys _ (c.in-Some.ensures.found.1 ∙ c.as_slice-positions.ensures) has whole (c.as_slice-in-Some.ensures.value ∙ c.in_ok-keys.ensures.keys) is))
    c.groups_of_keys.ensures

pub returns : goal.returns
returns c =
    let rows : RowRange = c.args.rows.now in
    if_ok c.groups_within-2.result _ _
    (λ groups is. subst (λ (t : TableRows). AreRowsWithin rows t.rows (rows_of_lists (map (λ (g : Bor KeyRows). g.now) groups.items))) c.self.view_is
    (within_all rows c.self.inside.rows c.all.result _ c.all.ensures is))
    c.groups_within-2.ensures
