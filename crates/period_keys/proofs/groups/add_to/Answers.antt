use Rattle.std.proofs.Common.{◌≡◌, ◌++◌, ◌∷◌, [], ◌∙◌, ℕ, List, rules, inl, inr, ap, subst}
use Rattle.std.specs.Prelude.{◌⊎◌, Contains, IsPermutation, Option, Result, Ok, Err, OnErr, OnOk, unwrap_or}
use Rattle.std.specs.BTreeMap.{get}
use Rattle.std.specs.BTreeMap.Entry.{map_with_value}
use Rattle.std.proofs.lemmas.List.Elements.{Contains-append_cases}
use Rattle.std.proofs.lemmas.List.Sorted.{IsPermutation-append_comm, IsPermutation-trans, Contains-permutation}
use Rattle.period_core.specs.Order.{values_cmp}
use Rattle.period_core.specs.declared.value.Value.{Value}
use Rattle.period_core.specs.declared.version.VersionRow.{VersionRow}
use Rattle.temporal_model.proofs.Members.{Contains-one}
use Rattle.period_keys.specs.declared.key_rows.KeyRows.{KeyRows}
use Rattle.period_keys.specs.Rows.{AreGrouped, rows_of_groups}
use Rattle.period_keys.specs.Versions.{version_key}
use Rattle.period_keys.proofs.Answered.{on_err, on_ok}
use Rattle.period_keys.proofs.Entered.{Enters, grouped_entered, none_entered, rows_entered}
use Rattle.period_keys.proofs.Grouped.{Groups, rows_in}
use Rattle.period_keys.proofs.groups.add_to.Goals as goal

-- a row that was added is one of the old ones, or the new one
of_added : (positions : List ℕ) (key : List Value) (v w : KeyRows) (row : VersionRow) → key ≡ version_key positions row → IsPermutation (rows_in w) (rows_in v ++ row ∷ [])
    → (x : VersionRow) → Contains (rows_in w) x → Contains (rows_in v) x ⊎ (key ≡ version_key positions x)
of_added positions key v w row own moved x c =
    elim (Contains-append_cases (rows_in v) (row ∷ []) x (Contains-permutation (rows_in w) (rows_in v ++ row ∷ []) x moved c)) [
      | inl was ↦ inl was
      | inr new ↦ inr (own ∙ ap (version_key positions) (Contains-one row x new))
    ]

-- the rows of the group, whether the row was added or not
of_either : {X E : Type 0} (r : Result X E) (positions : List ℕ) (key : List Value) (v w : KeyRows) (row : VersionRow) → key ≡ version_key positions row
    → OnOk r (IsPermutation (rows_in w) (rows_in v ++ row ∷ [])) → OnErr r (rows_in w ≡ rows_in v)
    → (x : VersionRow) → Contains (rows_in w) x → Contains (rows_in v) x ⊎ (key ≡ version_key positions x)
of_either (Ok u) positions key v w row own moved same = of_added positions key v w row own moved
of_either (Err e) positions key v w row own moved same = λ x there. inl (subst (λ (xs : List VersionRow). Contains xs x) same there)

pub returns-clause-ok : goal.returns-clause-ok
returns-clause-ok c =
    let row : VersionRow = c.args.row in
    let v : KeyRows = c.or_insert-group.result.now in
    let w : KeyRows = c.add.new.self in
    let n : Groups = map_with_value c.in_ok-groups.field-0 w in
    let entered : Enters c.args.groups.now c.in_ok-copy.field-0 w n.entries = record { was_ordered = c.in_ok-groups.ensures.ordered; entries = c.in_ok-groups.ensures.update.1 w } in
    let read : v ≡ unwrap_or (get values_cmp c.args.groups.now c.in_ok-copy.field-0) c.none.result = c.or_insert-group.ensures.value ∙ ap (λ (o : Option KeyRows). unwrap_or o c.none.result) c.in_ok-groups.ensures.value in
    let added : OnOk c.add.result (IsPermutation (rows_of_groups n.entries) (row ∷ rows_of_groups c.args.groups.now.entries)) =
    on_ok c.add.result (λ (moved : IsPermutation (rows_in w) (rows_in v ++ row ∷ [])).
    rows_entered c.args.groups.now c.in_ok-copy.field-0 v w c.none.result [] (row ∷ []) n.entries entered read c.none.ensures
    (IsPermutation-trans (rows_in w) (rows_in v ++ row ∷ []) (row ∷ rows_in v) moved (IsPermutation-append_comm (rows_in v) (row ∷ [])))) c.add.ensures.ok in
    search (rules, added)

pub returns-clause-err : goal.returns-clause-err
returns-clause-err c =
    let v : KeyRows = c.or_insert-group.result.now in
    let w : KeyRows = c.add.new.self in
    let n : Groups = map_with_value c.in_ok-groups.field-0 w in
    let entered : Enters c.args.groups.now c.in_ok-copy.field-0 w n.entries = record { was_ordered = c.in_ok-groups.ensures.ordered; entries = c.in_ok-groups.ensures.update.1 w } in
    let read : v ≡ unwrap_or (get values_cmp c.args.groups.now c.in_ok-copy.field-0) c.none.result = c.or_insert-group.ensures.value ∙ ap (λ (o : Option KeyRows). unwrap_or o c.none.result) c.in_ok-groups.ensures.value in
    let same : OnErr c.add.result (rows_of_groups n.entries ≡ rows_of_groups c.args.groups.now.entries) =
    on_err c.add.result (λ (same : rows_in w ≡ rows_in v). none_entered c.args.groups.now c.in_ok-copy.field-0 v w c.none.result n.entries entered read c.none.ensures same) c.add.ensures.err in
    search (rules, same)

pub returns-clause-grouped : goal.returns-clause-grouped
returns-clause-grouped c = λ positions own grouped.
    let v : KeyRows = c.or_insert-group.result.now in
    let w : KeyRows = c.add.new.self in
    let n : Groups = map_with_value c.in_ok-groups.field-0 w in
    let entered : Enters c.args.groups.now c.in_ok-copy.field-0 w n.entries = record { was_ordered = c.in_ok-groups.ensures.ordered; entries = c.in_ok-groups.ensures.update.1 w } in
    let read : v ≡ unwrap_or (get values_cmp c.args.groups.now c.in_ok-copy.field-0) c.none.result = c.or_insert-group.ensures.value ∙ ap (λ (o : Option KeyRows). unwrap_or o c.none.result) c.in_ok-groups.ensures.value in
    let now : AreGrouped positions n =
    grouped_entered positions c.args.groups.now n c.in_ok-copy.field-0 v w c.none.result entered (c.in_ok-groups.ensures.update.2 w) read c.none.ensures
    (of_either c.add.result positions c.in_ok-copy.field-0 v w c.args.row (c.in_ok-copy.ensures ∙ own) c.add.ensures.ok c.add.ensures.err) grouped in
    search (rules, now)
