use Rattle.std.proofs.Common.{◌∷◌, [], ◌∙◌, List, ap, map, sym}
use Rattle.std.specs.Borrow.{Bor}
use Rattle.std.specs.BTreeMap.Range.{entries_between}
use Rattle.std.specs.declared.ops.Bound.TheVariants.{Included, Unbounded}
use Rattle.std.proofs.lemmas.List.{map-append}
use Rattle.period_core.specs.Order.{values_cmp}
use Rattle.period_core.specs.declared.value.Value.{Value}
use Rattle.period_keys.specs.declared.key_rows.KeyRows.{KeyRows}
use Rattle.period_keys.proofs.Picked.{picked_all, picked_more, picked_same, rows_found}
use Rattle.period_keys.proofs.groups.groups_in.Goals as goal

abbrev now_of : Bor KeyRows → KeyRows
now_of group = group.now

abbrev rows_of : List Value × KeyRows → KeyRows
rows_of group = group.1

pub loop-key-init : goal.loop-key-init
loop-key-init c = record {
  seen = [];
  split = ap (λ (p : List Value). entries_between values_cmp (Included p) Unbounded c.args.groups.now.entries) (sym c.in_ok-first.ensures)
      ∙ sym (c.range-key-items.ensures.between tt) ∙ sym c.into_iter-key-iterator.ensures.into_iter_gives;
  picked = ap (map now_of) c.new-found.ensures.items;
}

-- a group whose key is in the range
pub loop-key-preserved-in-Continue-branch-2 : goal.loop-key-preserved-in-Continue-branch-2
loop-key-preserved-in-Continue-branch-2 c =
    picked_more c.args.range.now rows_of c.in-Some.ensures.steps (sym c.has.ensures ∙ c.if-has.true)
    (ap (map now_of) c.in_ok-push.ensures.items ∙ map-append now_of c.loop-key.found.items (c.in-Some.group ∷ [])) c.loop-key.invariant

-- a group whose key is passed over
pub loop-key-preserved : goal.loop-key-preserved
loop-key-preserved c = picked_same c.args.range.now rows_of c.in-Some.ensures.steps (sym c.has.ensures ∙ c.if-has.false) c.loop-key.invariant

-- a group whose key comes after no key in the range
pub returns-then-not-passes_over : goal.returns-then-not-passes_over
returns-then-not-passes_over c positions grouped =
    rows_found c.args.range.now positions c.args.groups.now (map now_of c.loop-key.found.items) grouped
    (picked_all c.args.range.now rows_of c.args.groups.now.entries grouped.ordered c.in-Some.ensures.steps (sym c.has.ensures ∙ c.if-has.false, sym c.passes_over.ensures ∙ c.if-not-passes_over.true) c.loop-key.invariant)

pub returns : goal.returns
returns c positions grouped =
    rows_found c.args.range.now positions c.args.groups.now (map now_of c.loop-key.found.items) grouped (picked_all c.args.range.now rows_of c.args.groups.now.entries grouped.ordered c.in-None.ensures.steps.0 tt c.loop-key.invariant)
