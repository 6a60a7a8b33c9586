-- A query's set by the rows of its selects.
use Rattle.std.proofs.Common.{◌≡◌, ◌↔◌, ◌+◌, ℕ, zero, suc, ℤ, List, [], ◌∷◌, ◌++◌, length, drop, refl, sym, ◌∙◌, ap, subst, inl, inr, arith, append_assoc, length-append}
use Rattle.std.specs.List.{All}
use Rattle.std.proofs.lemmas.List.Elements.{All-append, All-cons, All-nil}
use Rattle.period_core.specs.declared.value.Value.{Value}
use Rattle.period_core.specs.declared.row.PeriodRow.{PeriodRow}
use Rattle.temporal_model.specs.Snapshot.{Equivalent, IsDay}
use Rattle.sql_statements.specs.declared.tree.SetOperator.{SetOperator}
use Rattle.sql_statements.specs.declared.tree.SetOperator.TheVariants.{Union, Except, Intersect}
use Rattle.catalog_core.specs.declared.query.resolved.Select.{Select}
use Rattle.catalog_core.specs.query.Queries.{Query, one, both}
use Rattle.history_model.specs.OrdinaryQuery.{InAnswerOver, InCombined}
use Rattle.snapshot_audit.specs.Differences.{AddsRowsOf, AreRowsOf, InLists, InSelectOn, select_count}
use Rattle.snapshot_audit.specs.Staggered.{AreStaggered}
use Rattle.snapshot_audit.specs.Verdicts.{AgreesAlways}

-- a set operator over sets that are alike
pub combined_alike :
    (operator : SetOperator) (A B C D : List Value → Type 0) (values : List Value) → (A values ↔ C values) → (B values ↔ D values)
    → (InCombined operator A B values ↔ InCombined operator C D values)
combined_alike Union A B C D values p q = (
  λ h. elim h [ inl a ↦ inl (p.0 a) | inr b ↦ inr (q.0 b) ],
  λ h. elim h [ inl c ↦ inl (p.1 c) | inr d ↦ inr (q.1 d) ],
)
combined_alike Except A B C D values p q = (λ (a, none). (p.0 a, λ d. none (q.1 d)), λ (c, none). (p.1 c, λ b. none (q.0 b)))
combined_alike Intersect A B C D values p q = (λ (a, b). (p.0 a, q.0 b), λ (c, d). (p.1 c, q.1 d))

-- ---- the rows of a query's selects

drop_front : {X : Type 0} (xs ys : List X) (n : ℕ) → length xs ≡ n → drop n (xs ++ ys) ≡ ys
drop_front [] ys zero e = refl
drop_front [] ys (suc n) e = absurd (omega arith)
drop_front (x ∷ xs) ys zero e = absurd (omega arith)
drop_front (x ∷ xs) ys (suc n) e = drop_front xs ys n (omega arith)

pub rows_count : (tables : List (List PeriodRow)) (query : Query) (lists : List (List PeriodRow)) → AreRowsOf tables query lists → length lists ≡ select_count query
rows_count tables (one select) lists (rows, is, staggered, agrees) = ap length is
rows_count tables (both operator left right) lists (first, second, is, l, r) =
    let a : length first ≡ select_count left = rows_count tables left first l in
    let b : length second ≡ select_count right = rows_count tables right second r in
    let n : length (first ++ second) ≡ length first + length second = length-append first second in
    ap length is ∙ omega arith

pub rows_staggered : (tables : List (List PeriodRow)) (query : Query) (lists : List (List PeriodRow)) → AreRowsOf tables query lists → All AreStaggered lists
rows_staggered tables (one select) lists (rows, is, staggered, agrees) =
    subst (All AreStaggered) (sym is) (All-cons AreStaggered rows [] staggered (All-nil AreStaggered))
rows_staggered tables (both operator left right) lists (first, second, is, l, r) =
    subst (All AreStaggered) (sym is) (All-append AreStaggered first second (rows_staggered tables left first l) (rows_staggered tables right second r))

-- on each day that a period can cover the rows make the query's set
pub rows_make :
    (tables : List (List PeriodRow)) (query : Query) (lists more : List (List PeriodRow)) (day : ℤ) (values : List Value) → IsDay day
    → AreRowsOf tables query lists → (InLists query (lists ++ more) day values ↔ InAnswerOver query tables day values)
rows_make tables (one select) lists more day values is_day (rows, is, staggered, agrees) =
    subst (λ ls. InLists (one select) (ls ++ more) day values ↔ InAnswerOver (one select) tables day values) (sym is) (agrees day is_day values)
rows_make tables (both operator left right) lists more day values is_day (first, second, is, l, r) =
    let n : length first ≡ select_count left = rows_count tables left first l in
    let whole : lists ++ more ≡ first ++ (second ++ more) = ap (λ ls. ls ++ more) is ∙ append_assoc first second more in
    let behind : drop (select_count left) (lists ++ more) ≡ second ++ more = ap (drop (select_count left)) whole ∙ drop_front first (second ++ more) (select_count left) n in
    combined_alike operator (InLists left (lists ++ more) day) (InLists right (drop (select_count left) (lists ++ more)) day)
    (InAnswerOver left tables day) (InAnswerOver right tables day) values
    (subst (λ ls. InLists left ls day values ↔ InAnswerOver left tables day values) (sym whole) (rows_make tables left first (second ++ more) day values is_day l))
    (subst (λ ls. InLists right ls day values ↔ InAnswerOver right tables day values) (sym behind) (rows_make tables right second more day values is_day r))

-- ---- lists that are added

pub adds_select :
    (tables : List (List PeriodRow)) (select : Select) (old : List (List PeriodRow)) (rows list : List PeriodRow)
    → AgreesAlways (InSelectOn tables select) rows → AreStaggered list → Equivalent rows list
    → AddsRowsOf tables (one select) old (old ++ list ∷ [])
adds_select tables select old rows list agrees staggered same = (
  list ∷ [],
  refl,
  (
    list,
    refl,
    staggered,
    λ day is_day values. (
      λ h. (agrees day is_day values).0 ((same day values).1 h),
      λ h. (same day values).0 ((agrees day is_day values).1 h),
    ),
  ),
)

-- the rows of a query are added to no lists
pub adds_alone :
    (tables : List (List PeriodRow)) (query : Query) (old new : List (List PeriodRow)) → old ≡ [] → AddsRowsOf tables query old new
    → AreRowsOf tables query new
adds_alone tables query old new none (added, is, are) =
    subst (AreRowsOf tables query) (sym (is ∙ ap (λ ls. ls ++ added) none)) are
