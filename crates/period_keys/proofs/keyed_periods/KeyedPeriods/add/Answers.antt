use Rattle.std.proofs.Common.{◌≡◌, ◌++◌, ◌∷◌, [], ◌∙◌, List, Some, rules, sym, ap, subst}
use Rattle.std.specs.Prelude.{Option, OnErr, OnOk, if◌then◌else◌, unwrap_or}
use Rattle.std.specs.BTreeMap.{BTreeMap, get, Updates}
use Rattle.std.specs.BTreeMap.Entry.{map_with_value}
use Rattle.std.specs.List.Sorted.{IsPermutation}
use Rattle.std.specs.Ordering.{eq_by_cmp}
use Rattle.period_core.specs.Order.{values_cmp}
use Rattle.period_core.specs.declared.period.Period.{Period}
use Rattle.period_core.specs.declared.value.Value.{Value as ColumnValue}
use Rattle.period_keys.specs.declared.ordered_periods.OrderedPeriods.{OrderedPeriods}
use Rattle.period_keys.proofs.Answered.{on_err, on_ok}
use Rattle.period_keys.proofs.Periods.{read, read_changed, read_moved, read_or, cond_same}
use Rattle.period_keys.proofs.keyed_periods.KeyedPeriods.add.Goals as goal

-- the periods of an entry of the index
abbrev items_of : OrderedPeriods → List Period
items_of periods = periods.items.items

pub returns-clause-ok : goal.returns-clause-ok
returns-clause-ok c =
    let m : BTreeMap (List ColumnValue) OrderedPeriods = c.args.self.now.entries in
    let key : List ColumnValue = c.args.key.now in
    let v : OrderedPeriods = c.or_insert-periods.result.now in
    let w : OrderedPeriods = c.add.new.self in
    let n : BTreeMap (List ColumnValue) OrderedPeriods = map_with_value c.in_ok-self.field-0 w in
    let updates : Updates values_cmp m n key (Some w) = subst (λ (k : List ColumnValue). Updates values_cmp m n k (Some w)) c.in_ok-copy.ensures (c.in_ok-self.ensures.update.0 w) in
    let found : v ≡ unwrap_or (get values_cmp m c.in_ok-copy.field-0) c.new.result = c.or_insert-periods.ensures.value ∙ ap (λ (o : Option OrderedPeriods). unwrap_or o c.new.result) c.in_ok-self.ensures.value in
    let old : read items_of m key ≡ items_of v = subst (λ (k : List ColumnValue). read items_of m k ≡ items_of v) c.in_ok-copy.ensures (read_or items_of m c.in_ok-copy.field-0 v c.new.result found c.new.ensures) in
    let added : OnOk c.add.result ((other : List ColumnValue) → IsPermutation (read items_of n other) (if eq_by_cmp values_cmp key other then read items_of m other ++ c.args.period ∷ [] else read items_of m other)) =
    on_ok c.add.result (λ (moved : IsPermutation (items_of w) (items_of v ++ c.args.period ∷ [])).
    read_moved items_of m n key w (c.args.period ∷ []) updates (subst (λ (xs : List Period). IsPermutation (items_of w) (xs ++ c.args.period ∷ [])) (sym old) moved)) c.add.ensures.ok in
    search (rules, added)

pub returns-clause-err : goal.returns-clause-err
returns-clause-err c =
    let m : BTreeMap (List ColumnValue) OrderedPeriods = c.args.self.now.entries in
    let key : List ColumnValue = c.args.key.now in
    let v : OrderedPeriods = c.or_insert-periods.result.now in
    let w : OrderedPeriods = c.add.new.self in
    let n : BTreeMap (List ColumnValue) OrderedPeriods = map_with_value c.in_ok-self.field-0 w in
    let updates : Updates values_cmp m n key (Some w) = subst (λ (k : List ColumnValue). Updates values_cmp m n k (Some w)) c.in_ok-copy.ensures (c.in_ok-self.ensures.update.0 w) in
    let found : v ≡ unwrap_or (get values_cmp m c.in_ok-copy.field-0) c.new.result = c.or_insert-periods.ensures.value ∙ ap (λ (o : Option OrderedPeriods). unwrap_or o c.new.result) c.in_ok-self.ensures.value in
    let old : read items_of m key ≡ items_of v = subst (λ (k : List ColumnValue). read items_of m k ≡ items_of v) c.in_ok-copy.ensures (read_or items_of m c.in_ok-copy.field-0 v c.new.result found c.new.ensures) in
    let kept : OnErr c.add.result ((other : List ColumnValue) → read items_of n other ≡ read items_of m other) =
    on_err c.add.result (λ (same : items_of w ≡ items_of v) other.
    read_changed items_of m n key w (λ list. list) updates (same ∙ sym old) other ∙ cond_same (eq_by_cmp values_cmp key other) (read items_of m other)) c.add.ensures.err in
    search (rules, kept)
