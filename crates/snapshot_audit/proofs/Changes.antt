-- Change days: the ends of rows as they are gathered, and the last change day up to a day.
use Rattle.std.proofs.Common.{◌≡◌, ◌↔◌, ◌⊎◌, ◌<ℤ◌, ◌≤ℤ◌, ℤ, List, [], ◌∷◌, ◌++◌, get_or, sym, subst, inl, inr, arith}
use Rattle.std.specs.List.{AllPairs, Contains}
use Rattle.std.specs.FinMap.{int_cmp-IsAntisymmetric}
use Rattle.std.specs.Ordering.{int_cmp}
use Rattle.std.specs.declared.cmp.Ordering.TheVariants.{Less}
use Rattle.std.proofs.lemmas.Cmp.{int_ranked}
use Rattle.std.proofs.lemmas.Int.{ints, by_lt_z}
use Rattle.std.proofs.lemmas.List.Elements.{Contains-append_left, Contains-append_right, Contains-append_cases, Contains-push, Contains-push_cases}
use Rattle.period_core.specs.Calendar.{first_day}
use Rattle.period_core.specs.declared.row.PeriodRow.{PeriodRow}
use Rattle.temporal_model.proofs.Members.{Contains-here, Contains-there, Contains-nil, Contains-one, Contains-cons_cases, AllPairs-head, AllPairs-tail}
use Rattle.snapshot_audit.specs.Sets.{IsSortedOnce}
use Rattle.snapshot_audit.specs.ChangeDays.{EndsOn, EndsAmong, IsChangeDay, AreChangeDays}

-- ---- gathering

-- the days are the old ones and the ends of the rows
abbrev pub HasEnds : List ℤ → List PeriodRow → List ℤ → Type 0
HasEnds old rows days = (day : ℤ) → (Contains days day ↔ (Contains old day ⊎ EndsOn rows day))

EndsOn-before : (rows : List PeriodRow) (row : PeriodRow) (day : ℤ) → EndsOn rows day → EndsOn (rows ++ row ∷ []) day
EndsOn-before rows row day (r, c, e) = (r, Contains-append_left rows (row ∷ []) r c, e)

pub HasEnds-none : (old : List ℤ) → HasEnds old [] old
HasEnds-none old day = (
  λ h. inl h,
  λ h. elim h [ inl k ↦ k | inr ends ↦ absurd (Contains-nil ends.0 ends.1) ],
)

-- the ends of rows, with one more row's start and end
pub HasEnds-more :
    (old : List ℤ) (rows : List PeriodRow) (days : List ℤ) (row : PeriodRow) → HasEnds old rows days
    → HasEnds old (rows ++ row ∷ []) ((days ++ row.period.start ∷ []) ++ row.period.end ∷ [])
HasEnds-more old rows days row has day = (
  λ h. elim (Contains-push_cases (days ++ row.period.start ∷ []) row.period.end day h) [
    | inl c ↦ elim (Contains-push_cases days row.period.start day c) [
      | inl there ↦ elim ((has day).0 there) [
        | inl k ↦ inl k
        | inr ends ↦ inr (EndsOn-before rows row day ends)
      ]
      | inr is ↦ inr (row, Contains-push rows row, inl is)
    ]
    | inr is ↦ inr (row, Contains-push rows row, inr is)
  ],
  λ h. elim h [
    | inl k ↦ kept ((has day).1 (inl k))
    | inr ends ↦ elim (Contains-push_cases rows row ends.0 ends.1) [
      | inl c ↦ kept ((has day).1 (inr (ends.0, c, ends.2)))
      | inr is ↦ new (subst (λ (r : PeriodRow). (r.period.start ≡ day) ⊎ (r.period.end ≡ day)) (sym is) ends.2)
    ]
  ],
) where
  kept : Contains days day → Contains ((days ++ row.period.start ∷ []) ++ row.period.end ∷ []) day
  kept c = Contains-append_left (days ++ row.period.start ∷ []) (row.period.end ∷ []) day (Contains-append_left days (row.period.start ∷ []) day c)

  new : (row.period.start ≡ day) ⊎ (row.period.end ≡ day) → Contains ((days ++ row.period.start ∷ []) ++ row.period.end ∷ []) day
  new (inl is) = Contains-append_left (days ++ row.period.start ∷ []) (row.period.end ∷ []) day (subst (Contains (days ++ row.period.start ∷ [])) is (Contains-push days row.period.start))
  new (inr is) = subst (Contains ((days ++ row.period.start ∷ []) ++ row.period.end ∷ [])) is (Contains-push (days ++ row.period.start ∷ []) row.period.end)

-- the days are the old ones and the ends of the rows of the lists
abbrev pub HasEndsAmong : List ℤ → List (List PeriodRow) → List ℤ → Type 0
HasEndsAmong old lists days = (day : ℤ) → (Contains days day ↔ (Contains old day ⊎ EndsAmong lists day))

-- the ends of the rows of two parts of the lists
pub HasEndsAmong-both :
    (old : List ℤ) (left right : List (List PeriodRow)) (days more : List ℤ) → HasEndsAmong old left days
    → HasEndsAmong days right more → HasEndsAmong old (left ++ right) more
HasEndsAmong-both old left right days more has next day = (
  λ h. elim ((next day).0 h) [
    | inl k ↦ elim ((has day).0 k) [
      | inl was ↦ inl was
      | inr (rows, c, ends) ↦ inr (rows, Contains-append_left left right rows c, ends)
    ]
    | inr (rows, c, ends) ↦ inr (rows, Contains-append_right left right rows c, ends)
  ],
  λ h. elim h [
    | inl was ↦ (next day).1 (inl ((has day).1 (inl was)))
    | inr (rows, c, ends) ↦ elim (Contains-append_cases left right rows c) [
      | inl l ↦ (next day).1 (inl ((has day).1 (inr (rows, l, ends))))
      | inr r ↦ (next day).1 (inr (rows, r, ends))
    ]
  ],
)

-- the ends of the rows of one list
HasEndsAmong-one : (old : List ℤ) (rows : List PeriodRow) (days : List ℤ) → HasEnds old rows days → HasEndsAmong old (rows ∷ []) days
HasEndsAmong-one old rows days has day = (
  λ h. elim ((has day).0 h) [
    | inl k ↦ inl k
    | inr ends ↦ inr (rows, Contains-here rows [], ends)
  ],
  λ h. elim h [
    | inl k ↦ (has day).1 (inl k)
    | inr (list, c, ends) ↦ (has day).1 (inr (subst (λ l. EndsOn l day) (sym (Contains-one rows list c)) ends))
  ],
)

-- the ends of the rows of the lists so far, and one more
pub HasEndsAmong-more :
    (old : List ℤ) (lists : List (List PeriodRow)) (rows : List PeriodRow) (days more : List ℤ)
    → HasEndsAmong old lists days → HasEnds days rows more → HasEndsAmong old (lists ++ rows ∷ []) more
HasEndsAmong-more old lists rows days more has ends =
    HasEndsAmong-both old lists (rows ∷ []) days more has (HasEndsAmong-one days rows more ends)

-- the days are the change days of the lists, in any order
abbrev pub HasChangeDays : List (List PeriodRow) → List ℤ → Type 0
HasChangeDays lists days = (day : ℤ) → (Contains days day ↔ IsChangeDay lists day)

-- 0001-01-01, the ends of the rows of one list, and the ends of the rest's
pub HasChangeDays-from :
    (rows : List PeriodRow) (lists : List (List PeriodRow)) (days more : List ℤ)
    → HasEnds (first_day ∷ []) rows days → HasEndsAmong days lists more → HasChangeDays (rows ∷ lists) more
HasChangeDays-from rows lists days more has next day =
    let all : HasEndsAmong (first_day ∷ []) (rows ∷ lists) more = HasEndsAmong-both (first_day ∷ []) (rows ∷ []) lists days more (HasEndsAmong-one (first_day ∷ []) rows days has) next in (
      λ h. elim ((all day).0 h) [
        | inl k ↦ inl (Contains-one first_day day k)
        | inr ends ↦ inr ends
      ],
      λ h. (all day).1 (elim h [
        | inl is ↦ inl (subst (Contains (first_day ∷ [])) is (Contains-here first_day []))
        | inr ends ↦ inr ends
      ]),
    )

-- ---- the last change day up to a day

-- the greatest of the days that is no later than the day: none lies after it and up to the day
pub record IsLastUpTo (days : List ℤ) (day last : ℤ) : Type 0 where
  pub inside : Contains days last
  pub upto : last ≤ℤ day
  pub none : (other : ℤ) → Contains days other → last <ℤ other → day <ℤ other

-- some day of an ascending list is the last up to a day, if the first is no later
pub last_upto :
    (first : ℤ) (days : List ℤ) (day : ℤ) → AllPairs (λ a b. a <ℤ b) (first ∷ days) → first ≤ℤ day
    → (last : ℤ) × IsLastUpTo (first ∷ days) day last
last_upto first [] day up from = (
  first,
  record {
    inside = Contains-here first [];
    upto = from;
    none = λ other c after. elim (Contains-cons_cases first [] other c) [
      | inl is ↦ absurd (let below : first <ℤ first = subst (λ d. first <ℤ d) (sym is) after in omega (arith, ints))
      | inr none ↦ absurd (Contains-nil other none)
    ];
  },
)
last_upto first (second ∷ days) day up from =
    by_lt_z {P = (last : ℤ) × IsLastUpTo (first ∷ second ∷ days) day last} day second
    (λ later. (
      first,
      record {
        inside = Contains-here first (second ∷ days);
        upto = from;
        none = λ other c after. elim (Contains-cons_cases first (second ∷ days) other c) [
          | inl is ↦ absurd (let below : first <ℤ first = subst (λ d. first <ℤ d) (sym is) after in omega (arith, ints))
          | inr more ↦ elim (Contains-cons_cases second days other more) [
            | inl is ↦ subst (λ d. day <ℤ d) is later
            | inr rest ↦ let next : second <ℤ other = AllPairs-head (λ a b. a <ℤ b) second days (AllPairs-tail (λ a b. a <ℤ b) first (second ∷ days) up) other rest in
                omega (arith, ints)
          ]
        ];
      },
    ))
    (λ upto. let (last, is) = last_upto second days day (AllPairs-tail (λ a b. a <ℤ b) first (second ∷ days) up) upto in (
      last,
      record {
        inside = Contains-there first (second ∷ days) last is.inside;
        upto = is.upto;
        none = λ other c after. elim (Contains-cons_cases first (second ∷ days) other c) [
          | inl same ↦ absurd (let before : first <ℤ last = AllPairs-head (λ a b. a <ℤ b) first (second ∷ days) up last is.inside in
              let past : last <ℤ first = subst (λ d. last <ℤ d) (sym same) after in omega (arith, ints))
          | inr more ↦ is.none other more after
        ];
      },
    ))

-- the change days, once they are sorted without repeats
pub change_days_from_once :
    (lists : List (List PeriodRow)) (days once : List ℤ) → HasChangeDays lists days → IsSortedOnce int_cmp days once
    → AreChangeDays lists once
change_days_from_once lists days once has is = record {
  ascending = λ i j d lt below. int_ranked (get_or once i d) (get_or once j d) Less (sym (is.ascending i j d lt below));
  members = λ day. (
    λ h. (has day).0 ((is.members int_cmp-IsAntisymmetric day).0 h),
    λ h. (is.members int_cmp-IsAntisymmetric day).1 ((has day).1 h),
  );
}
