-- The columns that both sides of a join share: one equality more.
use Rattle.std.proofs.Common.{◌≡◌, ◌<◌, ◌≤◌, ◌+◌, ◌-◌, ℕ, Bool, true, false, List, [], ◌∷◌, ◌++◌, Option, Some, None, length, get_or, refl, sym, ◌∙◌, ap, subst, arith, length-append}
use Rattle.std.specs.Prelude.{slice_get}
use Rattle.std.specs.List.{list_all}
use Rattle.std.specs.Ordering.{is_eq}
use Rattle.std.specs.declared.cmp.Ordering.{Ordering}
use Rattle.std.specs.declared.cmp.Ordering.TheVariants as order
use Rattle.std.proofs.lemmas.List.Folds.{list_all_at}
use Rattle.period_core.specs.Order.{value_cmp}
use Rattle.period_core.specs.OrderLaws.{value_cmp-same}
use Rattle.period_core.specs.declared.value.Value.{Value}
use Rattle.sql_statements.specs.declared.statement.Comparison.{Comparison}
use Rattle.sql_statements.specs.declared.statement.Comparison.TheVariants.{Equal}
use Rattle.sql_statements.specs.declared.tree.Tree.{Tree}
use Rattle.catalog_core.specs.Conditions.{compared, compares, meets, side_value}
use Rattle.catalog_core.specs.declared.condition.Comparand.{Comparand}
use Rattle.catalog_core.specs.declared.condition.Comparand.TheVariants.{Position}
use Rattle.catalog_core.specs.declared.condition.CompareValues.{CompareValues}
use Rattle.catalog_core.specs.declared.query.resolved.Select.{Select}
use Rattle.snapshot_audit.specs.declared.shared_columns.SharedColumns.{SharedColumns}
use Rattle.snapshot_audit.specs.Keys.{IsSameAt, Reads, ReadsMore}
use Rattle.snapshot_audit.specs.Pairs.{ReadSame}
use Rattle.snapshot_audit.proofs.KeyOrder.{reads_push}
use Rattle.snapshot_audit.proofs.Ruling.{slice_get-left, slice_get-right}

-- the shared columns, with those at two more positions
pub columns_more :
    (width more left right : ℕ) (old new : SharedColumns) → left < width → width ≤ right → right - width < more
    → new.first.items ≡ old.first.items ++ left ∷ [] → new.second.items ≡ old.second.items ++ (right - width) ∷ []
    → ReadsMore width more (IsSameAt left right) old new
columns_more width more left right old new below above within f s first second rest key e g (value, one, two) r q =
    let n : length (first ++ second) ≡ length first + length second = length-append first second in
    let a : slice_get first left ≡ Some value =
    sym (slice_get-left first second left (omega arith)) ∙ sym (slice_get-left (first ++ second) rest left (omega arith)) ∙ one in
    let b : slice_get second (right - width) ≡ Some value =
    sym (slice_get-right first second right (right - width) (omega arith) (omega arith)) ∙ sym (slice_get-left (first ++ second) rest right (omega arith)) ∙ two in (
      key ++ value ∷ [],
      subst (λ l. Reads l first (key ++ value ∷ [])) (sym f) (reads_push old.first.items left first key value r a),
      subst (λ l. Reads l second (key ++ value ∷ [])) (sym s) (reads_push old.second.items (right - width) second key value q b),
    )

-- two sides that are equal exist and are the same
is_tie : (o : Ordering) → is_eq o ≡ true → o ≡ order.Equal
is_tie order.Less e = cc
is_tie order.Equal e = refl
is_tie order.Greater e = cc

same_value : (left right : Option Value) → compared Equal left right ≡ true → (value : Value) × (left ≡ Some value) × (right ≡ Some value)
same_value None right e = absurd (cc)
same_value (Some left) None e = absurd (cc)
same_value (Some left) (Some right) e = (left, refl, ap (λ (v : Value). Some v) (sym (value_cmp-same left right (is_tie (value_cmp left right) e))))

-- an equality of two positions compares their values
positions_compared :
    (test : CompareValues) (left right : ℕ) (row : List Value) → test.comparison ≡ Equal → test.left ≡ Position left → test.right ≡ Position right
    → compares row test ≡ true → compared Equal (slice_get row left) (slice_get row right) ≡ true
positions_compared test left right row is one two met =
    subst (λ (r : Comparand). compared Equal (slice_get row left) (side_value r row) ≡ true) two
    (subst (λ (l : Comparand). compared Equal (side_value l row) (side_value test.right row) ≡ true) one
    (subst (λ (k : Comparison). compared k (side_value test.left row) (side_value test.right row) ≡ true) is met))

-- the shared columns, with an equality's if one is of each side
pub test_more :
    (width more : ℕ) (test : CompareValues) (left right : ℕ) (old mid new : SharedColumns) → test.comparison ≡ Equal → test.left ≡ Position left
    → test.right ≡ Position right → ReadsMore width more (IsSameAt left right) old mid → ReadsMore width more (IsSameAt right left) mid new
    → ReadsMore width more (λ values. compares values test ≡ true) old new
test_more width more test left right old mid new is one two first_step second_step first second rest key e g met r q =
    let row : List Value = (first ++ second) ++ rest in
    let (value, l, k) = same_value (slice_get row left) (slice_get row right) (positions_compared test left right row is one two met) in
    let (longer, a, b) = first_step first second rest key e g (value, l, k) r q in
    second_step first second rest longer e g (value, k, l) a b

-- an element of a list all of whose elements pass
passes_at : {X : Type 0} (p : X → Bool) (xs : List X) (i : ℕ) (d : X) → i < length xs → list_all p xs ≡ true → p (get_or xs i d) ≡ true
passes_at p xs i d inside all = elim (p (get_or xs i d)) as (λ b. p (get_or xs i d) ≡ b → p (get_or xs i d) ≡ true) [
  | true ↦ λ e. e
  | false ↦ λ e. absurd (let no : list_all p xs ≡ false = list_all_at p xs i d inside e in cc)
] refl

-- the shared columns of the conditions so far, and of one more
pub condition_more :
    (select : Select) (width more i : ℕ) (condition : Tree CompareValues) (old new : SharedColumns) → i < length select.conjuncts
    → condition ≡ get_or select.conjuncts i condition → ReadSame select width more old
    → ReadsMore width more (λ values. meets condition values ≡ true) old new → ReadSame select width more new
condition_more select width more i condition old new inside is before step first second e g (rest, met) =
    let (key, r, q) = before first second e g (rest, met) in
    let row : List Value = (first ++ second) ++ rest in
    let holds : meets condition row ≡ true =
    subst (λ c. meets c row ≡ true) (sym is) (passes_at (λ c. meets c row) select.conjuncts i condition inside met) in
    step first second rest key e g holds r q
