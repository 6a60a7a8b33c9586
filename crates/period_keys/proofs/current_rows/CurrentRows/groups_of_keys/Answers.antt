use Rattle.std.proofs.Common.{◌≡◌, ◌++◌, ◌∷◌, [], ◌∙◌, List, append-nil, ap, ap₂, arith, filter, map, subst, sym, take, take_all}
use Rattle.std.specs.BTreeMap.{get}
use Rattle.std.specs.Borrow.{Bor}
use Rattle.std.specs.Global.{Vec}
use Rattle.std.specs.List.{flat_map}
use Rattle.std.specs.Prelude.{Option}
use Rattle.std.specs.Option.{option_map_or}
use Rattle.std.proofs.lemmas.List.{map-append}
use Rattle.period_core.specs.Order.{values_cmp}
use Rattle.period_core.specs.declared.value.Value.{Value}
use Rattle.period_core.specs.declared.version.VersionRow.{VersionRow}
use Rattle.period_keys.specs.declared.key_rows.KeyRows.{KeyRows}
use Rattle.period_keys.specs.Rows.{RowsByKey, rows_of_key, rows_of_lists}
use Rattle.period_keys.specs.Secondary.{is_of_some_key}
use Rattle.period_keys.proofs.Grouped.{group_of_key, rows_in}
use Rattle.period_keys.proofs.KeysInOrder.{flat_more, lists_more, rows_of_keys}
use Rattle.period_keys.proofs.current_rows.CurrentRows.groups_of_keys.Goals as goal
use Rattle.period_keys.proofs.current_rows.CurrentRows.groups_of_keys.Goals.{in-Some+in_ok-push, in_default}

abbrev now_of : Bor KeyRows → KeyRows
now_of group = group.now

abbrev rows_of : List (Bor KeyRows) → List VersionRow
rows_of groups = rows_of_lists (map now_of groups)

pub loop-key-preserved : goal.loop-key-preserved
loop-key-preserved c =
    let table : RowsByKey = c.args.self.now in
    let key : List Value = c.key-item.result in
    let before : List VersionRow = flat_map (rows_of_key table) (take c.loop-key.key-index c.args.keys.now) in
    let next = flat_more (rows_of_key table) c.args.keys.now c.loop-key.key-index key c.loop-key-test.true c.key-item.is in
    let found : (o : Option KeyRows) → o ≡ get values_cmp c.self.inside.groups key → option_map_or rows_in o [] ≡ rows_of_key table key = λ o is.
    ap (λ (o : Option KeyRows). option_map_or rows_in o []) is ∙ sym (group_of_key c.self.inside.positions key c.self.inside.groups c.self.invariant) ∙ ap (λ (t : RowsByKey). rows_of_key t key) c.self.view_is in
    elim c.match-group_at.branch [
      | in-Some+in_ok-push w ↦
          ap (λ (groups : Vec (Bor KeyRows)). rows_of groups.items) w.groups-is ∙ ap rows_of w.in_ok-push.ensures.items ∙ ap rows_of_lists (map-append now_of c.loop-key.groups.items (w.in-Some.group ∷ []))
          ∙ lists_more (map now_of c.loop-key.groups.items) w.in-Some.group.now ∙ ap₂ (λ (xs ys : List VersionRow). xs ++ ys) c.loop-key.invariant (found _ w.in-Some.ensures) ∙ sym next
      | in_default w ↦
          ap (λ (groups : Vec (Bor KeyRows)). rows_of groups.items) w.groups-is ∙ c.loop-key.invariant ∙ sym (next ∙ ap (λ (xs : List VersionRow). before ++ xs) (sym (found _ w.in_default.ensures)) ∙ append-nil before)
    ]

pub returns : goal.returns
returns c =
    let keys : List (List Value) = c.args.keys.now in
    c.loop-key.invariant ∙ ap (flat_map (rows_of_key c.args.self.now)) (take_all c.loop-key.key-index keys (omega arith))
    ∙ subst (λ (t : RowsByKey). flat_map (rows_of_key t) keys ≡ filter (is_of_some_key t.positions keys) t.rows) c.self.view_is
    (rows_of_keys c.self.inside.positions keys c.self.inside.groups.entries c.requires c.self.invariant.ordered c.self.invariant.keyed)
