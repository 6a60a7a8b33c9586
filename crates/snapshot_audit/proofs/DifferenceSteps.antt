-- From the days on which rows of some values start or end to all days.
use Rattle.std.proofs.Common.{◌≡◌, ◌↔◌, ◌⊎◌, ◌+ℤ◌, ◌-ℤ◌, ◌≤ℤ◌, ◌<ℤ◌, ℕ, zero, suc, ℤ, pos, negsuc, List, [], ◌∷◌, ◌++◌, Option, Some, None, get_or, drop, true, false, refl, sym, ◌∙◌, ap, subst, inl, inr, arith, append-nil}
use Rattle.std.specs.Prelude.{MatchOption}
use Rattle.std.specs.List.{Contains}
use Rattle.std.specs.Ordering.{eq_by_cmp}
use Rattle.std.proofs.lemmas.Int.{ints, by_lt_z}
use Rattle.std.proofs.lemmas.List.Elements.{Contains-push_cases}
use Rattle.period_core.specs.Calendar.{first_day, last_day}
use Rattle.period_core.specs.Order.{values_cmp}
use Rattle.period_core.specs.OrderLaws.{values_eq}
use Rattle.period_core.specs.declared.value.Value.{Value}
use Rattle.period_core.specs.declared.row.PeriodRow.{PeriodRow}
use Rattle.temporal_model.specs.Snapshot.{Equivalent, InSnapshot, IsDay}
use Rattle.temporal_model.proofs.Days.{InSnapshot-IsDay}
use Rattle.temporal_model.proofs.Members.{Contains-here, Contains-there, Contains-nil, Contains-cons_cases}
use Rattle.temporal_model.proofs.Snapshots.{held, in_snapshot}
use Rattle.catalog_core.specs.query.Queries.{Query, one, both}
use Rattle.sql_statements.specs.declared.tree.SetOperator.{SetOperator}
use Rattle.sql_statements.specs.declared.tree.SetOperator.TheVariants.{Union, Except, Intersect}
use Rattle.history_model.specs.OrdinaryQuery.{InAnswerOver, InCombined}
use Rattle.snapshot_audit.specs.Differences.{AgreesIn, AreRowsOf, ChangesOn, ChangesOnAny, Checks, InLists, IsAt, IsBefore, IsDifference, select_count}
use Rattle.snapshot_audit.specs.Verdicts.{AgreesAlways, IsFirstDifference}
use Rattle.snapshot_audit.proofs.QueryLists.{combined_alike, rows_make}

-- ---- checks

module _ (query : Query) (lists : List (List PeriodRow)) (answer : List PeriodRow) where
  pub checks_none : (Marks : ℤ → List Value → Type 0) (least : Option ℤ) → ((day : ℤ) (values : List Value) → Marks day values → ⊥) → Checks query lists answer Marks least least
  checks_none Marks least none = record {
    keeps = λ day h. h;
    agrees = λ day values marked. absurd (none day values marked);
    differs = λ h. h;
  }

  pub checks_more :
      (A B C : ℤ → List Value → Type 0) (least mid result : Option ℤ) → ((day : ℤ) (values : List Value) → C day values → (A day values ⊎ B day values))
      → Checks query lists answer A least mid → Checks query lists answer B mid result → Checks query lists answer C least result
  checks_more A B C least mid result split early late = record {
    keeps = λ day h. early.keeps day (late.keeps day h);
    agrees = λ day values marked is_day before. elim (split day values marked) [
      | inl a ↦ early.agrees day values a is_day (late.keeps day before)
      | inr b ↦ late.agrees day values b is_day before
    ];
    differs = λ h. late.differs (early.differs h);
  }

  pub checks_agreed :
      (day : ℤ) (values : List Value) (least : Option ℤ) → AgreesIn query lists answer day values → Checks query lists answer (IsAt day values) least least
  checks_agreed day values least agreed = record {
    keeps = λ other h. h;
    agrees = λ other others (same, its) is_day before.
        subst (λ d. AgreesIn query lists answer d others) same (subst (AgreesIn query lists answer day) its agreed);
    differs = λ h. h;
  }

  before_earlier : (least : Option ℤ) (day other : ℤ) → IsBefore least day → other <ℤ day → IsBefore least other
  before_earlier None day other before less = tt
  before_earlier (Some d) day other before less = let first : day <ℤ d = before in omega (arith, ints)

  pub checks_differed :
      (day : ℤ) (values : List Value) (least : Option ℤ) → IsDay day → IsBefore least day → (AgreesIn query lists answer day values → ⊥)
      → Checks query lists answer (IsAt day values) least (Some day)
  checks_differed day values least is_day before differs = record {
    keeps = λ other less. before_earlier least day other before less;
    agrees = λ other others (same, its) is less. absurd (let wrong : day <ℤ day = subst (λ d. d <ℤ day) (sym same) less in omega (arith, ints));
    differs = λ h. (is_day, (values, differs));
  }

  -- the differences, with one more row's start and end
  pub checks_row :
      (rows : List PeriodRow) (row : PeriodRow) (least mid then result : Option ℤ) → Checks query lists answer (ChangesOn rows) least mid
      → Checks query lists answer (IsAt row.period.start row.values) mid then → Checks query lists answer (IsAt row.period.end row.values) then result
      → Checks query lists answer (ChangesOn (rows ++ row ∷ [])) least result
  checks_row rows row least mid then result old start end =
      checks_more (ChangesOn rows) (λ day values. IsAt row.period.start row.values day values ⊎ IsAt row.period.end row.values day values)
      (ChangesOn (rows ++ row ∷ [])) least mid result
      (λ day values (r, c, same, ends). elim (Contains-push_cases rows row r c) [
        | inl before ↦ inl (r, before, same, ends)
        | inr is ↦ inr (elim ends [
          | inl s ↦ inl (ap (λ (x : PeriodRow). x.period.start) is ∙ s, ap (λ (x : PeriodRow). x.values) is ∙ same)
          | inr e ↦ inr (ap (λ (x : PeriodRow). x.period.end) is ∙ e, ap (λ (x : PeriodRow). x.values) is ∙ same)
        ])
      ])
      old
      (checks_more (IsAt row.period.start row.values) (IsAt row.period.end row.values)
      (λ day values. IsAt row.period.start row.values day values ⊎ IsAt row.period.end row.values day values) mid then result (λ day values h. h) start end)

  -- the differences in the lists so far, and one more
  pub checks_list :
      (done : List (List PeriodRow)) (rows : List PeriodRow) (least mid result : Option ℤ) → Checks query lists answer (ChangesOnAny answer done) least mid
      → Checks query lists answer (ChangesOn rows) mid result → Checks query lists answer (ChangesOnAny answer (done ++ rows ∷ [])) least result
  checks_list done rows least mid result old next =
      checks_more (ChangesOnAny answer done) (ChangesOn rows) (ChangesOnAny answer (done ++ rows ∷ [])) least mid result
      (λ day values h. elim h [
        | inl its ↦ inl (inl its)
        | inr (list, c, its) ↦ elim (Contains-push_cases done rows list c) [
          | inl before ↦ inl (inr (list, before, its))
          | inr is ↦ inr (subst (λ l. ChangesOn l day values) (sym is) its)
        ]
      ])
      old next

  pub checks_answer : (least result : Option ℤ) → Checks query lists answer (ChangesOn answer) least result → Checks query lists answer (ChangesOnAny answer []) least result
  checks_answer least result old = record {
    keeps = old.keeps;
    agrees = λ day values marked. elim marked [
      | inl its ↦ old.agrees day values its
      | inr (list, c, its) ↦ absurd (Contains-nil list c)
    ];
    differs = old.differs;
  }

-- ---- from a day to the next

-- a snapshot has the same values on two days if no row with them starts or ends between
snapshot_step :
    (rows : List PeriodRow) (day prev : ℤ) (values : List Value) → prev +ℤ pos 1 ≡ day → (ChangesOn rows day values → ⊥)
    → (InSnapshot rows prev values ↔ InSnapshot rows day values)
snapshot_step rows day prev values next none = (
  λ h.
      let (row, c, same, (from, to)) = held rows prev values h in
      in_snapshot rows day values (
        row,
        c,
        same,
        (
          omega (arith, ints),
          by_lt_z {P = day <ℤ row.period.end} day row.period.end (λ less. less)
              (λ upto. absurd (none (row, c, same, inr (between row.period.end day prev next to upto)))),
        ),
      ),
  λ h.
      let (row, c, same, (from, to)) = held rows day values h in
      in_snapshot rows prev values (
        row,
        c,
        same,
        (
          by_lt_z {P = row.period.start ≤ℤ prev} prev row.period.start
              (λ later. absurd (none (row, c, same, inl (between row.period.start day prev next later from))))
              (λ upto. upto),
          omega (arith, ints),
        ),
      ),
)
  where
    between : (x day prev : ℤ) → prev +ℤ pos 1 ≡ day → prev <ℤ x → x ≤ℤ day → x ≡ day
    between x day prev next less upto = omega (arith, ints)

contains_drop : {X : Type 0} (n : ℕ) (xs : List X) (x : X) → Contains (drop n xs) x → Contains xs x
contains_drop zero xs x c = c
contains_drop (suc n) [] x c = c
contains_drop (suc n) (y ∷ xs) x c = Contains-there y xs x (contains_drop n xs x c)

lists_step :
    (query : Query) (lists : List (List PeriodRow)) (day prev : ℤ) (values : List Value) → prev +ℤ pos 1 ≡ day
    → ((rows : List PeriodRow) → Contains lists rows → ChangesOn rows day values → ⊥)
    → (InLists query lists prev values ↔ InLists query lists day values)
lists_step (one select) [] day prev values next none = (λ h. h, λ h. h)
lists_step (one select) (rows ∷ lists) day prev values next none = snapshot_step rows day prev values next (none rows (Contains-here rows lists))
lists_step (both operator left right) lists day prev values next none =
    combined_alike operator (InLists left lists prev) (InLists right (drop (select_count left) lists) prev)
    (InLists left lists day) (InLists right (drop (select_count left) lists) day) values
    (lists_step left lists day prev values next none)
    (lists_step right (drop (select_count left) lists) day prev values next (λ rows c. none rows (contains_drop (select_count left) lists rows c)))

-- nothing is held if no list holds anything
lists_empty :
    (query : Query) (lists : List (List PeriodRow)) (day : ℤ) (values : List Value)
    → ((rows : List PeriodRow) → InSnapshot rows day values → ⊥) → InLists query lists day values → ⊥
lists_empty (one select) lists day values none h = none (get_or lists 0 []) h
lists_empty (both operator left right) lists day values none h =
    nowhere operator ((combined_alike operator (InLists left lists day) (InLists right (drop (select_count left) lists) day) (λ list. ⊥) (λ list. ⊥) values
    (λ l. lists_empty left lists day values none l, λ x. absurd x)
    (λ r. lists_empty right (drop (select_count left) lists) day values none r, λ x. absurd x)).0 h)
  where
    nowhere : (o : SetOperator) → InCombined o (λ list. ⊥) (λ list. ⊥) values → ⊥
    nowhere Union (inl x) = x
    nowhere Union (inr x) = x
    nowhere Except h = h.0
    nowhere Intersect h = h.0

-- ---- whether something changes

same_day : (a b : ℤ) → (a ≡ b) ⊎ (a ≡ b → ⊥)
same_day a b = by_lt_z {P = (a ≡ b) ⊎ (a ≡ b → ⊥)} a b (λ less. inr (λ same. (let wrong : a <ℤ a = subst (λ d. a <ℤ d) (sym same) less in omega (arith, ints))))
    (λ upto. by_lt_z {P = (a ≡ b) ⊎ (a ≡ b → ⊥)} b a (λ more. inr (λ same. (let wrong : b <ℤ b = subst (λ d. b <ℤ d) same more in omega (arith, ints))))
    (λ from. inl (omega (arith, ints))))

same_or_not : (a b : List Value) → (a ≡ b) ⊎ (a ≡ b → ⊥)
same_or_not a b =
    let test = values_eq a b in
    elim (eq_by_cmp values_cmp a b) as (λ t. eq_by_cmp values_cmp a b ≡ t → (a ≡ b) ⊎ (a ≡ b → ⊥)) [
      | true ↦ λ e. inl (test.0 e)
      | false ↦ λ e. inr (λ same. let yes : eq_by_cmp values_cmp a b ≡ true = test.1 same in cc)
    ] refl

abbrev RowChanges : PeriodRow → ℤ → List Value → Type 0
RowChanges row day values = (row.values ≡ values) × ((row.period.start ≡ day) ⊎ (row.period.end ≡ day))

row_changes : (row : PeriodRow) (day : ℤ) (values : List Value) → RowChanges row day values ⊎ (RowChanges row day values → ⊥)
row_changes row day values = elim (same_or_not row.values values) [
  | inr other ↦ inr (λ h. other h.0)
  | inl same ↦ elim (same_day row.period.start day) [
    | inl starts ↦ inl (same, inl starts)
    | inr not_start ↦ elim (same_day row.period.end day) [
      | inl ends ↦ inl (same, inr ends)
      | inr not_end ↦ inr (λ (s, h). elim h [ inl x ↦ not_start x | inr y ↦ not_end y ])
    ]
  ]
]

changes_on : (rows : List PeriodRow) (day : ℤ) (values : List Value) → ChangesOn rows day values ⊎ (ChangesOn rows day values → ⊥)
changes_on [] day values = inr (λ (row, c, same, ends). Contains-nil row c)
changes_on (row ∷ rows) day values = elim (row_changes row day values) [
  | inl here ↦ inl (row, Contains-here row rows, here.0, here.1)
  | inr not_here ↦ elim (changes_on rows day values) [
    | inl (r, c, same, ends) ↦ inl (r, Contains-there row rows r c, same, ends)
    | inr none ↦ inr (λ (r, c, same, ends). elim (Contains-cons_cases row rows r c) [
      | inl is ↦ not_here (subst (λ x. RowChanges x day values) (sym is) (same, ends))
      | inr more ↦ none (r, more, same, ends)
    ])
  ]
]

abbrev AnyChanges : List (List PeriodRow) → ℤ → List Value → Type 0
AnyChanges lists day values = (rows : List PeriodRow) × Contains lists rows × ChangesOn rows day values

any_changes : (lists : List (List PeriodRow)) (day : ℤ) (values : List Value) → AnyChanges lists day values ⊎ (AnyChanges lists day values → ⊥)
any_changes [] day values = inr (λ (rows, c, h). Contains-nil rows c)
any_changes (list ∷ lists) day values = elim (changes_on list day values) [
  | inl here ↦ inl (list, Contains-here list lists, here)
  | inr not_here ↦ elim (any_changes lists day values) [
    | inl (rows, c, h) ↦ inl (rows, Contains-there list lists rows c, h)
    | inr none ↦ inr (λ (rows, c, h). elim (Contains-cons_cases list lists rows c) [
      | inl is ↦ not_here (subst (λ l. ChangesOn l day values) (sym is) h)
      | inr more ↦ none (rows, more, h)
    ])
  ]
]

-- ---- all days

module _
    (query : Query) (lists : List (List PeriodRow)) (answer : List PeriodRow) (result : Option ℤ)
    (checked : Checks query lists answer (ChangesOnAny answer lists) None result) where
  -- two sets that agree on a day do so on the next, if nothing of the values changes or it is
  -- checked
  agrees_next :
      (day prev : ℤ) (values : List Value) → prev +ℤ pos 1 ≡ day → IsDay day → IsBefore result day → AgreesIn query lists answer prev values
      → AgreesIn query lists answer day values
  agrees_next day prev values next is_day before old = elim (changes_on answer day values) [
    | inl change ↦ checked.agrees day values (inl change) is_day before
    | inr still ↦ elim (any_changes lists day values) [
      | inl change ↦ checked.agrees day values (inr change) is_day before
      | inr none ↦
          let own = snapshot_step answer day prev values next still in
          let other = lists_step query lists day prev values next (λ rows c h. none (rows, c, h)) in
          (λ h. other.0 (old.0 (own.1 h)), λ h. own.0 (old.1 (other.1 h)))
    ]
  ]

  agrees_from_first :
      (n : ℕ) (day : ℤ) (values : List Value) → (first_day -ℤ pos 1) +ℤ pos n ≡ day → day <ℤ last_day → IsBefore result day
      → AgreesIn query lists answer day values
  agrees_from_first zero day values at below before =
      let none : (rows : List PeriodRow) → InSnapshot rows day values → ⊥ = λ rows h. (let from : first_day ≤ℤ day = (InSnapshot-IsDay rows day values h).0 in omega (arith, ints)) in
      (λ h. absurd (none answer h), λ h. absurd (lists_empty query lists day values none h))
  agrees_from_first (suc n) day values at below before =
      let prev : ℤ = (first_day -ℤ pos 1) +ℤ pos n in
      let next : prev +ℤ pos 1 ≡ day = omega (arith, ints) in
      agrees_next day prev values next (omega (arith, ints), below) before
      (agrees_from_first n prev values refl (omega (arith, ints)) (sooner result day prev before (omega (arith, ints))))
    where
      sooner : (least : Option ℤ) (day other : ℤ) → IsBefore least day → other <ℤ day → IsBefore least other
      sooner None day other before less = tt
      sooner (Some d) day other before less = let first : day <ℤ d = before in omega (arith, ints)

  natural : (z : ℤ) → pos 0 ≤ℤ z → (n : ℕ) × (pos n ≡ z)
  natural (pos n) h = (n, refl)
  natural (negsuc n) h = absurd (omega (arith, ints))

  agrees_before : (day : ℤ) (values : List Value) → IsDay day → IsBefore result day → AgreesIn query lists answer day values
  agrees_before day values is_day before =
      let from : first_day ≤ℤ day = is_day.0 in
      let (n, is) = natural (day -ℤ (first_day -ℤ pos 1)) (omega (arith, ints)) in
      agrees_from_first n day values (omega (arith, ints)) is_day.1 before

  module _ (tables : List (List PeriodRow)) (rows : List PeriodRow) (same : Equivalent rows answer) (are : AreRowsOf tables query lists) where
    agrees_as :
        (day : ℤ) (values : List Value) → IsDay day
        → (AgreesIn query lists answer day values ↔ (InSnapshot rows day values ↔ InAnswerOver query tables day values))
    agrees_as day values is_day =
        let made = subst (λ ls. InLists query ls day values ↔ InAnswerOver query tables day values) (append-nil lists) (rows_make tables query lists [] day values is_day are) in
        let its = same day values in (
          λ agrees. (λ h. made.0 (agrees.0 (its.0 h)), λ h. its.1 (agrees.1 (made.1 h))),
          λ agrees. (λ h. made.1 (agrees.0 (its.1 h)), λ h. its.0 (agrees.1 (made.0 h))),
        )

    pub found : MatchOption result (AgreesAlways (InAnswerOver query tables) rows) (IsFirstDifference (InAnswerOver query tables) rows)
    found = elim result as (λ r. r ≡ result → MatchOption r (AgreesAlways (InAnswerOver query tables) rows) (IsFirstDifference (InAnswerOver query tables) rows)) [
      | None ↦ λ is. λ day is_day values. (agrees_as day values is_day).0 (agrees_before day values is_day (subst (λ r. IsBefore r day) is tt))
      | Some day ↦ λ is.
          let (is_day, (values, unlike)) = subst (IsDifference query lists answer) (sym is) (checked.differs tt) in
          record {
            is_day = is_day;
            differs = λ agrees. unlike ((agrees_as day values is_day).1 (agrees values));
            before = λ earlier e less others. (agrees_as earlier others e).0 (agrees_before earlier others e (subst (λ r. IsBefore r earlier) is less));
          }
    ] refl
