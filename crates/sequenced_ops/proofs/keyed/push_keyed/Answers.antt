use Rattle.std.proofs.Common.{◌≡◌, ◌+◌, ◌++◌, ◌∷◌, [], List, Some, None, take, Vec, Global, refl, sym, ◌∙◌, ap, subst}
use Rattle.std.proofs.lemmas.List.{take_all, take_more}
use Rattle.period_core.specs.declared.row.PeriodRow.{PeriodRow}
use Rattle.period_core.specs.declared.value.Value.{Value}
use Rattle.sequenced_ops.specs.declared.keyed.KeyedRow.{KeyedRow}
use Rattle.sequenced_ops.specs.Joining.{IsKeyed}
use Rattle.sequenced_ops.proofs.Keys.{KeyRead}
use Rattle.sequenced_ops.proofs.JoinRows.{KeyedMore, keyed_none, keyed_next, keyed_skipped}
use Rattle.sequenced_ops.proofs.keyed.push_keyed.Goals as goal
use Rattle.sequenced_ops.proofs.keyed.push_keyed.Goals.{in-Some+in_ok-push, in_default}

pub loop-row-init : goal.loop-row-init
loop-row-init c = keyed_none c.args.side c.args.columns.now c.args.keyed.now.items

pub loop-row-preserved : goal.loop-row-preserved
loop-row-preserved c =
    let rows : List PeriodRow = c.args.rows.now in
    let columns = c.args.columns.now in
    let i = c.loop-row.row-index in
    let row : PeriodRow = c.row-item.result in
    let old : List KeyedRow = c.args.keyed.now.items in
    let keyed : List KeyedRow = c.loop-row.keyed.items in
    let more : take (i + 1) rows ≡ take i rows ++ row ∷ [] =
    take_more rows i row c.loop-row-test.true ∙ ap (λ (r : PeriodRow). take i rows ++ r ∷ []) (sym c.row-item.is) in
    let found : KeyRead columns row.values c.in_ok-key.field-0 =
    subst (λ (l : List Value). KeyRead columns l c.in_ok-key.field-0) c.as_slice.ensures c.in_ok-key.ensures in
    subst (λ done. KeyedMore c.args.side columns old c.match-branch-2.keyed.items done) (sym more)
    (elim c.match-branch-2.branch [
      | in-Some+in_ok-push w ↦
          let key : KeyRead columns row.values (Some w.in-Some.key) = subst (KeyRead columns row.values) w.in-Some.is found in
          let x : KeyedRow = record { key = w.in-Some.key; period = row.period; side = c.args.side; values = _ } in
          let keyed_is : IsKeyed c.args.side columns row x = record { key = key; period = refl; side = refl; values = refl } in
          subst (λ now. KeyedMore c.args.side columns old now (take i rows ++ row ∷ []))
          (sym (ap (λ (v : Vec KeyedRow Global). v.items) w.keyed-is ∙ w.in_ok-push.ensures.items))
          (keyed_next c.args.side columns old keyed (take i rows) row x keyed_is c.loop-row.invariant)
      | in_default w ↦
          let none : KeyRead columns row.values None = subst (KeyRead columns row.values) w.in_default.is found in
          subst (λ now. KeyedMore c.args.side columns old now (take i rows ++ row ∷ []))
          (sym (ap (λ (v : Vec KeyedRow Global). v.items) w.keyed-is))
          (keyed_skipped c.args.side columns old keyed (take i rows) row none c.loop-row.invariant)
    ])

whole_list : (c : goal.After-loop-row) → KeyedMore c.args.side c.args.columns.now c.args.keyed.now.items c.loop-row.keyed.items c.args.rows.now
whole_list c =
    let rows : List PeriodRow = c.args.rows.now in
    let all : take c.loop-row.row-index rows ≡ rows = take_all c.loop-row.row-index rows c.loop-row-test.false in
    subst (KeyedMore c.args.side c.args.columns.now c.args.keyed.now.items c.loop-row.keyed.items) all c.loop-row.invariant

pub returns-clause-kept : goal.returns-clause-kept
returns-clause-kept c = c.loop-row.invariant.kept

pub returns-clause-added : goal.returns-clause-added
returns-clause-added c = (whole_list c).added

pub returns-clause-others : goal.returns-clause-others
returns-clause-others c = (whole_list c).others
