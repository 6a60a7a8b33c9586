-- Two rows, by their values and days, and the values that a list holds if one row is left out.
use Rattle.std.proofs.Common.{◌≡◌, ◌<ℤ◌, ◌≤ℤ◌, ◌↔◌, ℤ, List, [], ◌∷◌, ◌++◌, sym, ◌∙◌, ap, subst, inl, inr, ◌⊎◌, arith}
use Rattle.std.specs.List.{Contains}
use Rattle.std.specs.declared.cmp.Ordering.TheVariants.{Less, Equal}
use Rattle.std.proofs.lemmas.Int.{ints}
use Rattle.std.proofs.lemmas.List.Elements.{Contains-append_left, Contains-append_right, Contains-append_cases, Contains-push, Contains-push_cases}
use Rattle.period_core.specs.Order.{values_cmp}
use Rattle.period_core.specs.OrderLaws.{values_cmp_total, values_cmp-refl}
use Rattle.period_core.specs.declared.value.Value.{Value}
use Rattle.period_core.specs.declared.row.PeriodRow.{PeriodRow}
use Rattle.temporal_model.specs.Snapshot.{InSnapshot, values_on}
use Rattle.temporal_model.proofs.Members.{Contains-here, Contains-there, Contains-cons_cases, Contains-nil, AllPairs-head}
use Rattle.temporal_model.proofs.Snapshots.{held, in_snapshot, values_on-append}
use Rattle.sequenced_ops.specs.Sweeping.{RowHolds, Precedes, IsDisjoint}

-- ---- the values that a list holds if one row is left out

pub holds-nil : (day : ℤ) (vs : List Value) → InSnapshot [] day vs → ⊥
holds-nil day vs h = Contains-nil vs h

pub holds-cons : (row : PeriodRow) (rows : List PeriodRow) (day : ℤ) (vs : List Value) → (InSnapshot (row ∷ rows) day vs ↔ (RowHolds row day vs ⊎ InSnapshot rows day vs))
holds-cons row rows day vs = (
  λ h.
      let (r, c, v, (from, to)) = held (row ∷ rows) day vs h in
      elim (Contains-cons_cases row rows r c) [
        | inl e ↦ let starts : row.period.start ≡ r.period.start = ap (λ (x : PeriodRow). x.period.start) e in
            let ends : row.period.end ≡ r.period.end = ap (λ (x : PeriodRow). x.period.end) e in
            inl (ap (λ (x : PeriodRow). x.values) e ∙ v, omega (arith, ints), omega (arith, ints))
        | inr k ↦ inr (in_snapshot rows day vs (r, k, v, (from, to)))
      ],
  λ h.
      in_snapshot (row ∷ rows) day vs
      (elim h [
        | inl here ↦ (row, Contains-here row rows, here.0, (here.1, here.2))
        | inr rest ↦ let (r, c, v, covers) = held rows day vs rest in (r, Contains-there row rows r c, v, covers)
      ]),
)

pub holds-push : (rows : List PeriodRow) (row : PeriodRow) (day : ℤ) (vs : List Value) → (InSnapshot (rows ++ row ∷ []) day vs ↔ (InSnapshot rows day vs ⊎ RowHolds row day vs))
holds-push rows row day vs = (
  λ h.
      let (r, c, v, (from, to)) = held (rows ++ row ∷ []) day vs h in
      elim (Contains-push_cases rows row r c) [
        | inl old ↦ inl (in_snapshot rows day vs (r, old, v, (from, to)))
        | inr e ↦ let starts : row.period.start ≡ r.period.start = ap (λ (x : PeriodRow). x.period.start) e in
            let ends : row.period.end ≡ r.period.end = ap (λ (x : PeriodRow). x.period.end) e in
            inr (ap (λ (x : PeriodRow). x.values) e ∙ v, omega (arith, ints), omega (arith, ints))
      ],
  λ h.
      in_snapshot (rows ++ row ∷ []) day vs
      (elim h [
        | inl old ↦ let (r, c, v, covers) = held rows day vs old in (r, Contains-append_left rows (row ∷ []) r c, v, covers)
        | inr here ↦ (row, Contains-push rows row, here.0, (here.1, here.2))
      ]),
)

-- ---- rows that precede all rows of a list

pub Precedes-apart : (a b : PeriodRow) → a.values ≡ b.values → Precedes a b → a.period.end ≤ℤ b.period.start
Precedes-apart a b e (inl less) =
    absurd (let tie : values_cmp a.values b.values ≡ Equal = subst (λ vs. values_cmp a.values vs ≡ Equal) e (values_cmp-refl a.values) in cc)
Precedes-apart a b e (inr same) = same.1

-- a row precedes each of the same values that ends no later than one that it precedes
pub Precedes-shorter : (a b c : PeriodRow) → a.values ≡ b.values → a.period.end ≤ℤ b.period.end → Precedes b c → Precedes a c
Precedes-shorter a b c e ends (inl less) = inl (subst (λ vs. values_cmp vs c.values ≡ Less) (sym e) less)
Precedes-shorter a b c e ends (inr same) = inr (e ∙ same.0, let apart : b.period.end ≤ℤ c.period.start = same.1 in omega (arith, ints))

pub Precedes-trans : (a b c : PeriodRow) → Precedes a b → Precedes b c → Precedes a c
Precedes-trans a b c (inl less) (inl more) = inl (values_cmp_total.trans a.values b.values c.values less more)
Precedes-trans a b c (inl less) (inr same) = inl (subst (λ vs. values_cmp a.values vs ≡ Less) same.0 less)
Precedes-trans a b c (inr same) h =
    let ordered : b.period.start <ℤ b.period.end = b.period.ordered in
    let apart : a.period.end ≤ℤ b.period.start = same.1 in
    Precedes-shorter a b c same.0 (omega (arith, ints)) h

-- rows that all come after a row hold nothing of it before its end
pub unheld :
    (row : PeriodRow) (rows : List PeriodRow) → ((later : PeriodRow) → Contains rows later → Precedes row later)
    → (day : ℤ) (vs : List Value) → row.values ≡ vs → day <ℤ row.period.end → InSnapshot rows day vs → ⊥
unheld row rows all day vs e before h =
    let (r, c, v, (from, to)) = held rows day vs h in
    let apart : row.period.end ≤ℤ r.period.start = Precedes-apart row r (e ∙ sym v) (all r c) in
    omega (arith, ints)

-- a row precedes a list of rows if it precedes the first of them
pub precedes_all :
    (row first : PeriodRow) (rest : List PeriodRow) → IsDisjoint (first ∷ rest) → Precedes row first
    → (later : PeriodRow) → Contains (first ∷ rest) later → Precedes row later
precedes_all row first rest disjoint h later c =
    elim (Contains-cons_cases first rest later c) [
      | inl e ↦ subst (Precedes row) e h
      | inr k ↦ Precedes-trans row first later h (AllPairs-head Precedes first rest disjoint later k)
    ]

pub holds-append : (rows others : List PeriodRow) (day : ℤ) (vs : List Value) → (InSnapshot (rows ++ others) day vs ↔ (InSnapshot rows day vs ⊎ InSnapshot others day vs))
holds-append rows others day vs = (
  λ h. Contains-append_cases (values_on rows day) (values_on others day) vs (subst (λ (l : List (List Value)). Contains l vs) (values_on-append rows others day) h),
  λ h. subst (λ (l : List (List Value)). Contains l vs) (sym (values_on-append rows others day))
      (elim h [
        | inl one ↦ Contains-append_left (values_on rows day) (values_on others day) vs one
        | inr two ↦ Contains-append_right (values_on rows day) (values_on others day) vs two
      ]),
)
