use Rattle.std.proofs.Common.{◌≡◌, ◌++◌, ◌∷◌, [], ◌∙◌, ℕ, List, ap, drop, length, subst, sym}
use Rattle.std.specs.List.Sorted.{IsStrictlySortedBy}
use Rattle.period_core.specs.Order.{values_cmp}
use Rattle.period_core.specs.declared.value.Value.{Value}
use Rattle.period_keys.specs.declared.secondary_index.SecondaryIndex.{SecondaryIndex}
use Rattle.period_keys.proofs.EntryKeys.{cut_keys, keys_ascend}
use Rattle.period_keys.proofs.Picked.{picked_all, picked_more, picked_same}
use Rattle.period_keys.proofs.secondary_index.SecondaryIndex.keys_within.Goals as goal

-- the key of an entry: what comes after its values at the index's positions
abbrev key_of : SecondaryIndex → List Value × Unit {0} → List Value
key_of index entry = drop (length index.positions) entry.0

-- an entry in the range
pub loop-entry-preserved-in_ok-push : goal.loop-entry-preserved-in_ok-push
loop-entry-preserved-in_ok-push c =
    let key : c.in_ok-after.field-0 ≡ drop (length c.args.self.now.positions) c.in-Some.entry.now = c.in_ok-after.ensures ∙ ap (λ (ps : List ℕ). drop (length ps) c.in-Some.entry.now) c.as_slice-count.ensures in
    picked_more c.args.range.now (key_of c.args.self.now) c.in-Some.ensures.steps (sym c.has.ensures ∙ c.if-has.true)
    (c.in_ok-push.ensures.items ∙ ap (λ (k : List Value). c.loop-entry.keys.items ++ k ∷ []) key) c.loop-entry.invariant

-- an entry that is passed over
pub loop-entry-preserved : goal.loop-entry-preserved
loop-entry-preserved c = picked_same c.args.range.now (key_of c.args.self.now) c.in-Some.ensures.steps (sym c.has.ensures ∙ c.if-has.false) c.loop-entry.invariant

-- an entry that comes after all in the range
pub returns-then-not-passes_over-clause-keys : goal.returns-then-not-passes_over-clause-keys
returns-then-not-passes_over-clause-keys c =
    picked_all c.args.range.now (key_of c.args.self.now) c.args.self.now.entries.entries c.range-entry-items.ensures.ordered c.in-Some.ensures.steps (sym c.has.ensures ∙ c.if-has.false, sym c.passes_over.ensures ∙ c.if-not-passes_over.true) c.loop-entry.invariant
    ∙ cut_keys c.args.range.now (length c.args.self.now.positions) c.args.self.now.entries.entries

pub returns-then-not-passes_over-clause-ascending : goal.returns-then-not-passes_over-clause-ascending
returns-then-not-passes_over-clause-ascending c whole =
    subst (IsStrictlySortedBy values_cmp) (sym (returns-then-not-passes_over-clause-keys c)) (keys_ascend c.args.self.now c.args.range.now c.range-entry-items.ensures.ordered whole)

pub returns-clause-keys : goal.returns-clause-keys
returns-clause-keys c =
    picked_all c.args.range.now (key_of c.args.self.now) c.args.self.now.entries.entries c.range-entry-items.ensures.ordered c.in-None.ensures.steps.0 tt c.loop-entry.invariant ∙ cut_keys c.args.range.now (length c.args.self.now.positions) c.args.self.now.entries.entries

pub returns-clause-ascending : goal.returns-clause-ascending
returns-clause-ascending c whole =
    subst (IsStrictlySortedBy values_cmp) (sym (returns-clause-keys c)) (keys_ascend c.args.self.now c.args.range.now c.range-entry-items.ensures.ordered whole)
