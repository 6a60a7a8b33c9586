use Rattle.std.proofs.Common.{◌≡◌, ◌++◌, ◌∷◌, ◌∙◌, [], List, None, Some, true, false, append-nil, ap, map, subst, sym}
use Rattle.std.specs.Prelude.{Option}
use Rattle.std.specs.BTreeMap.{get}
use Rattle.std.specs.Borrow.{Bor}
use Rattle.std.specs.Option.{option_map_or}
use Rattle.period_core.specs.Order.{values_cmp}
use Rattle.period_core.specs.declared.value.Value.{Value}
use Rattle.period_keys.specs.declared.key_rows.KeyRows.{KeyRows}
use Rattle.period_keys.specs.Ranges.{is_in_range}
use Rattle.period_keys.specs.Rows.{rows_of_lists}
use Rattle.period_keys.proofs.Grouped.{rows_in}
use Rattle.period_keys.proofs.RowsWithin.{no_rows_of_whole, rows_of_whole}
use Rattle.period_keys.proofs.groups.group_within.Goals as goal

abbrev now_of : Bor KeyRows → KeyRows
now_of group = group.now

pub returns-then-not-has : goal.returns-then-not-has
returns-then-not-has c positions grouped whole =
    let outside : is_in_range c.args.range.now c.args.values.now ≡ false =
    subst (λ (key : List Value). is_in_range c.args.range.now key ≡ false) c.in_ok-key.ensures (sym c.has.ensures ∙ c.if-not-has.true) in
    ap (λ (groups : List (Bor KeyRows)). rows_of_lists (map now_of groups)) c.new.ensures.items
    ∙ sym (no_rows_of_whole positions c.args.range.now c.args.values.now c.args.groups.now grouped whole outside)

pub returns-in_default : goal.returns-in_default
returns-in_default c positions grouped whole =
    let inside : is_in_range c.args.range.now c.args.values.now ≡ true =
    subst (λ (key : List Value). is_in_range c.args.range.now key ≡ true) c.in_ok-key.ensures (sym c.has.ensures ∙ c.if-not-has.false) in
    let none : get values_cmp c.args.groups.now c.args.values.now ≡ None =
    subst (λ (key : List Value). get values_cmp c.args.groups.now key ≡ None) c.in_ok-key.ensures (sym c.in_default.ensures.value) in
    ap (λ (groups : List (Bor KeyRows)). rows_of_lists (map now_of groups)) c.new-in_default.ensures.items
    ∙ sym (rows_of_whole positions c.args.range.now c.args.values.now c.args.groups.now grouped whole inside ∙ ap (λ (o : Option KeyRows). option_map_or rows_in o []) none)

pub returns : goal.returns
returns c positions grouped whole =
    let inside : is_in_range c.args.range.now c.args.values.now ≡ true =
    subst (λ (key : List Value). is_in_range c.args.range.now key ≡ true) c.in_ok-key.ensures (sym c.has.ensures ∙ c.if-not-has.false) in
    let some : Some c.in-Some.group.now ≡ get values_cmp c.args.groups.now c.args.values.now =
    subst (λ (key : List Value). Some c.in-Some.group.now ≡ get values_cmp c.args.groups.now key) c.in_ok-key.ensures c.in-Some.ensures.value in
    ap (λ (groups : List (Bor KeyRows)). rows_of_lists (map now_of groups)) (c.in_ok-push.ensures.items ∙ ap (λ (groups : List (Bor KeyRows)). groups ++ c.in-Some.group ∷ []) c.new-found.ensures.items)
    ∙ append-nil (rows_in c.in-Some.group.now)
    ∙ sym (rows_of_whole positions c.args.range.now c.args.values.now c.args.groups.now grouped whole inside ∙ ap (λ (o : Option KeyRows). option_map_or rows_in o []) (sym some))
