-- The least faulty days of a plan, by the rows after it.
use Rattle.std.proofs.Common.{◌≡◌, ◌==◌, ◌++◌, ℕ, ℤ, Bool, true, false, List, Some, ap, arith, cond, map, not, refl, subst, sym}
use Rattle.std.specs.Prelude.{IsPermutation, Option, filter}
use Rattle.std.proofs.lemmas.List.{map-append}
use Rattle.std.proofs.lemmas.List.Sorted.{IsPermutation-filter_both, IsPermutation-map, IsPermutation-refl, IsPermutation-sym, IsPermutation-trans}
use Rattle.period_core.specs.declared.row.PeriodRow.{PeriodRow}
use Rattle.period_core.specs.declared.value.Value.{Value}
use Rattle.period_core.specs.declared.version.VersionRow.{VersionRow}
use Rattle.temporal_model.proofs.Rearranged.{IsPermutation-filter}
use Rattle.temporal_model.specs.Snapshot.{covers_day, values_on}
use Rattle.catalog_core.specs.table.TableWords.{table_of}
use Rattle.catalog_core.specs.declared.change.Action.{Action}
use Rattle.catalog_core.specs.declared.change.Change.{Change}
use Rattle.catalog_core.specs.declared.change.Plan.{Plan}
use Rattle.catalog_core.specs.declared.table.Reference.{Reference}
use Rattle.catalog_core.specs.declared.table.TableDef.{TableDef}
use Rattle.history_model.specs.Effects.{rows_after}
use Rattle.history_model.specs.Histories.{State}
use Rattle.history_model.specs.Versions.{row_of}
use Rattle.portion_dml.specs.Plans.{AreLeftCurrent, HaveEffect}
use Rattle.portion_dml.proofs.Daily.{daily}
use Rattle.period_keys.specs.Faults.{IsPlanned}
use Rattle.period_keys.specs.Keys.{HasNoClash, IsEachCovered, IsKeyClash, IsLeastOf, IsUncovered, values_at}
use Rattle.period_keys.specs.Lawful.{HoldsTable, IsKeyFault, IsKeyOf, IsLawfulState, LacksParentBy, Refers, key_positions, own_positions, parent_positions, state_after}
use Rattle.period_keys.specs.Planned.{IsPlanOf}
use Rattle.period_keys.proofs.ByDays.{clashes_of_days}
use Rattle.period_keys.proofs.LawfulFacts.{faults_of_clashes, lacking_of_uncovered}
use Rattle.period_keys.proofs.Leasts.{IsLeastOf-same}
use Rattle.period_keys.proofs.Origins.{rows_moved}
use Rattle.period_keys.proofs.Pairs.{SomePair-permutation}
use Rattle.period_keys.proofs.PlanParts.{touched}

-- the rows that a plan leaves, in their order
abbrev untouched : Action → List VersionRow → List VersionRow
untouched action rows = filter (λ (v : VersionRow). not (touched action v)) rows

-- rows in another order hold the same on each day
pub shown_moved : (day : ℤ) (xs ys : List PeriodRow) → IsPermutation xs ys → IsPermutation (values_on xs day) (values_on ys day)
shown_moved day xs ys moved =
    let on_day : PeriodRow → Bool = λ (row : PeriodRow). covers_day row.period.start row.period.end day in
    IsPermutation-map (λ (row : PeriodRow). row.values) (filter on_day xs) (filter on_day ys) (IsPermutation-filter on_day xs ys moved)

-- the rows that stay, and those that go
pub split_of : (action : Action) (current : List VersionRow) (plan : Plan) → IsPlanOf action current plan → (stay : List VersionRow) × IsPermutation current (plan.ended ++ stay) × HaveEffect action (map row_of current) (map row_of stay ++ plan.added)
split_of action current plan planned =
    let listed : List VersionRow = planned.listed in
    let stay : List VersionRow = untouched action listed in
    let both : IsPermutation listed (filter (touched action) listed ++ stay) = IsPermutation-filter_both (touched action) (λ (v : VersionRow). not (touched action v)) (λ v. refl) listed in
    let taken : IsPermutation listed (plan.ended ++ stay) = subst (λ (xs : List VersionRow). IsPermutation listed (xs ++ stay)) (sym planned.plans.ended) both in
    let after : List PeriodRow = map row_of stay ++ plan.added in
    let left : AreLeftCurrent listed plan after = record { stay = stay; taken = taken; rest = IsPermutation-refl after } in (
      stay,
      IsPermutation-trans current listed (plan.ended ++ stay) planned.are_rows taken,
      λ day. IsPermutation-trans (values_on after day) (rows_after action day (values_on (map row_of listed) day)) (rows_after action day (values_on (map row_of current) day))
          (daily action listed plan after planned.plans left day)
          (rows_moved action day (values_on (map row_of listed) day) (values_on (map row_of current) day)
          (shown_moved day (map row_of listed) (map row_of current) (IsPermutation-sym (map row_of current) (map row_of listed) (IsPermutation-map row_of current listed planned.are_rows)))),
    )

-- no two rows of a lawful state's table clash
pub no_clash : (catalog : List TableDef) (before : State) (table : ℕ) (def : TableDef) (rows : List PeriodRow) → IsLawfulState catalog before → table_of catalog table ≡ Some def → HoldsTable rows before table → HasNoClash (key_positions def) rows
no_clash catalog before table def rows lawful is holds day clash =
    let Same : List Value → List Value → Type 0 = λ v w. values_at (key_positions def) v ≡ values_at (key_positions def) w in
    lawful.keys table def is day (SomePair-permutation Same (λ v w e. sym e) (values_on rows day) (before table day) (holds day) ((clashes_of_days (key_positions def) rows day).0 clash))

pub least_key_fault : (catalog : List TableDef) (before : State) (change : Change) (positions : List ℕ) (current : List VersionRow) (plan : Plan) (found : Option ℤ)
    → IsKeyOf catalog change.table positions → IsPlanned catalog before change current plan
    → ((stay : List VersionRow) → HasNoClash positions (map row_of current) → IsPermutation current (plan.ended ++ stay) → IsLeastOf (IsKeyClash positions (map row_of stay ++ plan.added)) found)
    → IsLeastOf (IsKeyFault catalog before change) found
least_key_fault catalog before change positions current plan found (def, is, at) planned least =
    let rows : List PeriodRow = map row_of current in
    let none : HasNoClash (key_positions def) rows = no_clash catalog before change.table def rows planned.lawful is planned.holds in
    let (stay, taken, effect) = split_of change.action current plan planned.planned in
    let after : List PeriodRow = map row_of stay ++ plan.added in
    let found_least : IsLeastOf (IsKeyClash (key_positions def) after) found =
    subst (λ (ps : List ℕ). IsLeastOf (IsKeyClash ps after) found) at (least stay (subst (λ (ps : List ℕ). HasNoClash ps rows) (sym at) none) taken) in
    IsLeastOf-same (IsKeyClash (key_positions def) after) (IsKeyFault catalog before change) (faults_of_clashes catalog before change def rows after is planned.holds effect none) found found_least

-- ---- references

-- the changed table's rows after the plan hold its state after the change
pub holds_after : (before : State) (change : Change) (rows after : List PeriodRow) → HoldsTable rows before change.table → HaveEffect change.action rows after → HoldsTable after (state_after change before) change.table
holds_after before change rows after holds effect day =
    subst (IsPermutation (values_on after day)) (sym (ap (λ b. cond b (rows_after change.action day (before change.table day)) (before change.table day)) (itself change.table)))
    (IsPermutation-trans (values_on after day) (rows_after change.action day (values_on rows day)) (rows_after change.action day (before change.table day)) (effect day)
    (rows_moved change.action day (values_on rows day) (before change.table day) (holds day)))
  where
    itself : (n : ℕ) → (n == n) ≡ true
    itself n = grind arith

-- rows that hold another table hold it after the change
pub holds_still : (before : State) (change : Change) (table : ℕ) (rows : List PeriodRow) → (table ≡ change.table → ⊥) → HoldsTable rows before table → HoldsTable rows (state_after change before) table
holds_still before change table rows other holds day =
    subst (IsPermutation (values_on rows day)) (sym (ap (λ b. cond b (rows_after change.action day (before table day)) (before table day)) (apart table change.table other))) (holds day)
  where
    apart : (a b : ℕ) → (a ≡ b → ⊥) → (a == b) ≡ false
    apart a b differ = by_test (a == b) refl
      where
        by_test : (t : Bool) → (a == b) ≡ t → (a == b) ≡ false
        by_test true e = absurd (differ (grind (arith, e)))
        by_test false e = e

-- all children are covered in a lawful state
pub covered : (catalog : List TableDef) (before : State) (number : ℕ) (child : TableDef) (reference : Reference) (parent : TableDef) (children parents : List PeriodRow)
    → IsLawfulState catalog before → Refers catalog number child reference parent → HoldsTable children before number → HoldsTable parents before reference.parent
    → IsEachCovered (own_positions child reference) children (parent_positions parent reference) parents
covered catalog before number child reference parent children parents lawful refers below above day alone =
    lawful.references day (number, child, reference, parent, refers, (lacking_of_uncovered before number child reference parent children parents below above day).0 alone)

pub least_child_fault : (catalog : List TableDef) (before : State) (change : Change) (current : List VersionRow) (plan : Plan) (child : TableDef) (reference : Reference) (parent : TableDef) (own : List ℕ)
    (above : List PeriodRow) (found : Option ℤ) → own ≡ own_positions child reference → IsPlanned catalog before change current plan
    → Refers catalog change.table child reference parent → (reference.parent ≡ change.table → ⊥) → HoldsTable above before reference.parent
    → ((rows ended stay : List PeriodRow) → IsEachCovered own rows (parent_positions parent reference) above → IsPermutation rows (ended ++ stay) → IsLeastOf (IsUncovered own (stay ++ plan.added) (parent_positions parent reference) above) found)
    → IsLeastOf (LacksParentBy (state_after change before) change.table child reference parent) found
least_child_fault catalog before change current plan child reference parent own above found is planned refers other holds least =
    let rows : List PeriodRow = map row_of current in
    let keys : List ℕ = parent_positions parent reference in
    let (stay, taken, effect) = split_of change.action current plan planned.planned in
    let after : List PeriodRow = map row_of stay ++ plan.added in
    let each : IsEachCovered own rows keys above = subst (λ (ps : List ℕ). IsEachCovered ps rows keys above) (sym is) (covered catalog before change.table child reference parent rows above planned.lawful refers planned.holds holds) in
    let split : IsPermutation rows (map row_of plan.ended ++ map row_of stay) = subst (IsPermutation rows) (map-append row_of plan.ended stay) (IsPermutation-map row_of current (plan.ended ++ stay) taken) in
    let alone : IsLeastOf (IsUncovered (own_positions child reference) after keys above) found = subst (λ (ps : List ℕ). IsLeastOf (IsUncovered ps after keys above) found) is (least rows (map row_of plan.ended) (map row_of stay) each split) in
    IsLeastOf-same (IsUncovered (own_positions child reference) after keys above) (LacksParentBy (state_after change before) change.table child reference parent)
    (lacking_of_uncovered (state_after change before) change.table child reference parent after above (holds_after before change rows after planned.holds effect) (holds_still before change reference.parent above other holds)) found alone

pub least_parent_fault : (catalog : List TableDef) (before : State) (change : Change) (current : List VersionRow) (plan : Plan) (number : ℕ) (child : TableDef) (reference : Reference) (parent : TableDef) (keys : List ℕ)
    (below : List PeriodRow) (found : Option ℤ) → keys ≡ parent_positions parent reference → IsPlanned catalog before change current plan
    → Refers catalog number child reference parent → reference.parent ≡ change.table → (number ≡ change.table → ⊥) → HoldsTable below before number
    → ((stay : List PeriodRow) → IsEachCovered (own_positions child reference) below keys (map row_of current) → IsPermutation (map row_of current) (map row_of plan.ended ++ stay)
    → IsLeastOf (IsUncovered (own_positions child reference) below keys (stay ++ plan.added)) found)
    → IsLeastOf (LacksParentBy (state_after change before) number child reference parent) found
least_parent_fault catalog before change current plan number child reference parent keys below found is planned refers changed other holds least =
    let rows : List PeriodRow = map row_of current in
    let own : List ℕ = own_positions child reference in
    let (stay, taken, effect) = split_of change.action current plan planned.planned in
    let after : List PeriodRow = map row_of stay ++ plan.added in
    let held : HoldsTable rows before reference.parent = subst (HoldsTable rows before) (sym changed) planned.holds in
    let each : IsEachCovered own below keys rows = subst (λ (ps : List ℕ). IsEachCovered own below ps rows) (sym is) (covered catalog before number child reference parent below rows planned.lawful refers holds held) in
    let split : IsPermutation rows (map row_of plan.ended ++ map row_of stay) = subst (IsPermutation rows) (map-append row_of plan.ended stay) (IsPermutation-map row_of current (plan.ended ++ stay) taken) in
    let alone : IsLeastOf (IsUncovered own below (parent_positions parent reference) after) found = subst (λ (ps : List ℕ). IsLeastOf (IsUncovered own below ps after) found) is (least (map row_of stay) each split) in
    IsLeastOf-same (IsUncovered own below (parent_positions parent reference) after) (LacksParentBy (state_after change before) number child reference parent)
    (lacking_of_uncovered (state_after change before) number child reference parent below after (holds_still before change number below other holds)
    (subst (HoldsTable after (state_after change before)) (sym changed) (holds_after before change rows after planned.holds effect))) found alone
