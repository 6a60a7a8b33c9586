use Rattle.std.proofs.Common.{◌≡◌, ◌∷◌, [], ℕ, Bool, true, false, List, Some, refl, sym, subst}
use Rattle.std.specs.Prelude.{Contains, IsPermutation, IsSome, Option}
use Rattle.std.specs.Bool.{OnTrue, OnFalse}
use Rattle.std.specs.BTreeMap.{get}
use Rattle.std.specs.Option.{option_map_or}
use Rattle.std.proofs.lemmas.List.Sorted.{Contains-permutation, IsPermutation-sym}
use Rattle.period_core.specs.Order.{values_cmp}
use Rattle.period_core.specs.declared.value.Value.{Value}
use Rattle.period_core.specs.declared.version.VersionRow.{VersionRow}
use Rattle.temporal_model.proofs.Members.{Contains-here, Contains-nil}
use Rattle.period_keys.specs.declared.key_rows.KeyRows.{KeyRows}
use Rattle.period_keys.specs.Rows.{AreGrouped, rows_of_groups}
use Rattle.period_keys.specs.Versions.{recorded, version_key}
use Rattle.period_keys.proofs.Grouped.{Groups, Writes, emptied, grouped_without, in_group, rows_in, still_grouped, taken_from}
use Rattle.period_keys.proofs.groups.take_from.Goals as goal

there_in : (positions : List ℕ) (m : Groups) (key : List Value) (x : VersionRow) (rest : List VersionRow) → key ≡ version_key positions x → AreGrouped positions m
    → IsPermutation (rows_of_groups m.entries) (x ∷ rest) → Contains (option_map_or rows_in (get values_cmp m key) []) x
there_in positions m key x rest own grouped moved =
    in_group positions m key x grouped own (Contains-permutation (x ∷ rest) (rows_of_groups m.entries) x (IsPermutation-sym (rows_of_groups m.entries) (x ∷ rest) moved) (Contains-here x rest))

-- a row of the group is taken out
found : (r : Bool) (P Q : Type 0) → OnTrue r P → OnFalse r (Q → ⊥) → Q → P
found true P Q is not q = is
found false P Q is not q = absurd (not q)

took : (positions : List ℕ) (m : Groups) (key : List Value) (v w : KeyRows) (x : VersionRow) (rest : List VersionRow) (r : Bool) → Some v ≡ get values_cmp m key → key ≡ version_key positions x → AreGrouped positions m
    → IsPermutation (rows_of_groups m.entries) (x ∷ rest)
    → OnTrue r (IsPermutation (rows_in v) (x ∷ rows_in w)) → OnFalse r (Contains (rows_in v) x → ⊥) → IsPermutation (rows_in v) (x ∷ rows_in w)
took positions m key v w x rest r there own grouped moved taken absent =
    found r (IsPermutation (rows_in v) (x ∷ rows_in w)) (Contains (rows_in v) x) taken absent
    (subst (λ (o : Option KeyRows). Contains (option_map_or rows_in o []) x) (sym there) (there_in positions m key x rest own grouped moved))

pub returns-in_default-clause-rows : goal.returns-in_default-clause-rows
returns-in_default-clause-rows c = λ positions rest own grouped moved.
    let x : VersionRow = recorded c.args.values.now c.args.period c.args.from c.args.to in
    absurd (Contains-nil x (subst (λ (o : Option KeyRows). Contains (option_map_or rows_in o []) x) (sym c.in_default.ensures.value)
    (there_in positions c.args.groups.now c.args.key.now x rest own grouped moved)))

pub returns-else-is_empty-clause-rows : goal.returns-else-is_empty-clause-rows
returns-else-is_empty-clause-rows c = λ positions rest own grouped moved.
    let x : VersionRow = recorded c.args.values.now c.args.period c.args.from c.args.to in
    let m : Groups = c.args.groups.now in
    let v : KeyRows = c.in-Some.group.now in
    let w : KeyRows = c.take_one-taken.new.self in
    taken_from positions m (c.get_mut.follows.lender w) c.args.key.now v w x rest c.in-Some.ensures.value (c.get_mut.follows.holds w)
    (took positions m c.args.key.now v w x rest c.take_one-taken.result c.in-Some.ensures.value own grouped moved c.take_one-taken.ensures.taken c.take_one-taken.ensures.absent) moved

pub returns-else-is_empty-clause-grouped : goal.returns-else-is_empty-clause-grouped
returns-else-is_empty-clause-grouped c = λ positions grouped.
    let x : VersionRow = recorded c.args.values.now c.args.period c.args.from c.args.to in
    let w : KeyRows = c.take_one-taken.new.self in
    still_grouped positions c.args.groups.now (c.get_mut.follows.lender w) c.args.key.now c.in-Some.group.now w x c.take_one-taken.result c.in-Some.ensures.value (c.get_mut.follows.holds w)
    c.take_one-taken.ensures.taken c.take_one-taken.ensures.kept grouped

pub returns-then-is_empty-clause-rows : goal.returns-then-is_empty-clause-rows
returns-then-is_empty-clause-rows c = λ positions rest own grouped moved.
    let x : VersionRow = recorded c.args.values.now c.args.period c.args.from c.args.to in
    let m : Groups = c.args.groups.now in
    let key : List Value = c.args.key.now in
    let v : KeyRows = c.in-Some.group.now in
    let w : KeyRows = c.take_one-taken.new.self in
    let n : Groups = c.get_mut.follows.lender w in
    let writes : Writes m n key w = c.get_mut.follows.holds w in
    let there : Some v ≡ get values_cmp m key = c.in-Some.ensures.value in
    subst (λ (xs : List VersionRow). IsPermutation xs rest) (sym (emptied n c.remove-emptied.new.self key w (writes.3 (subst IsSome there refl)).1 (c.if-is_empty.ensures.0 refl) c.remove-emptied.ensures.entries))
    (taken_from positions m n key v w x rest there writes
    (took positions m key v w x rest c.take_one-taken.result there own grouped moved c.take_one-taken.ensures.taken c.take_one-taken.ensures.absent) moved)

pub returns-then-is_empty-clause-grouped : goal.returns-then-is_empty-clause-grouped
returns-then-is_empty-clause-grouped c = λ positions grouped.
    let x : VersionRow = recorded c.args.values.now c.args.period c.args.from c.args.to in
    let key : List Value = c.args.key.now in
    let w : KeyRows = c.take_one-taken.new.self in
    let n : Groups = c.get_mut.follows.lender w in
    grouped_without positions n c.remove-emptied.new.self key c.remove-emptied.ensures.entries c.remove-emptied.ensures.ordered
    (still_grouped positions c.args.groups.now n key c.in-Some.group.now w x c.take_one-taken.result c.in-Some.ensures.value (c.get_mut.follows.holds w)
    c.take_one-taken.ensures.taken c.take_one-taken.ensures.kept grouped)
