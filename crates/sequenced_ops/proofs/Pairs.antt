-- The steps of a join: a pair that is pushed, and pairs that the conditions rule out.
use Rattle.std.proofs.Common.{◌≡◌, ◌<ℤ◌, ◌≤ℤ◌, ◌↔◌, ℤ, List, [], ◌∷◌, ◌++◌, sym, ◌∙◌, subst, inl, inr, ◌⊎◌, arith}
use Rattle.std.specs.List.{Contains}
use Rattle.std.proofs.lemmas.Int.{ints, by_lt_z}
use Rattle.std.proofs.lemmas.List.Elements.{Contains-append_left, Contains-push, Contains-push_cases}
use Rattle.period_core.specs.DaySets.{InPeriod}
use Rattle.period_core.specs.declared.value.Value.{Value}
use Rattle.period_core.proofs.PeriodEnds.{days_from, days_to, day_in}
use Rattle.period_core.specs.declared.row.PeriodRow.{PeriodRow}
use Rattle.temporal_model.specs.Snapshot.{InSnapshot}
use Rattle.temporal_model.proofs.Members.{Contains-here, Contains-there, Contains-cons_cases, Contains-nil}
use Rattle.sequenced_ops.specs.declared.keyed.KeyedRow.{KeyedRow}
use Rattle.sequenced_ops.specs.declared.keyed.Side.{Side}
use Rattle.sequenced_ops.specs.declared.keyed.Side.TheVariants.{Left, Right}
use Rattle.sequenced_ops.specs.Operations.{Cond}
use Rattle.sequenced_ops.specs.Joining.{Adds, CanMeet, InPairsWith, PairHolds, SidedPair, HasExpired}
use Rattle.sequenced_ops.proofs.TwoRows.{holds-push}

-- ---- one pair

pub pair_pushed :
    (rows : List PeriodRow) (first second : KeyedRow) (new : PeriodRow) → first.key ≡ second.key → new.values ≡ first.values.now ++ second.values.now
    → ((day : ℤ) → (InPeriod new.period day ↔ (InPeriod first.period day × InPeriod second.period day))) → (day : ℤ) (vs : List Value)
    → (InSnapshot (rows ++ new ∷ []) day vs ↔ (InSnapshot rows day vs ⊎ PairHolds first second day vs))
pair_pushed rows first second new same values days day vs = (
  λ h. elim ((holds-push rows new day vs).0 h) [
    | inl old ↦ inl old
    | inr here ↦ let both = (days day).0 (day_in new.period day here.1 here.2) in inr (same, both.0, both.1, sym values ∙ here.0)
  ],
  λ h. (holds-push rows new day vs).1 (elim h [
    | inl old ↦ inl old
    | inr both ↦ let inside = (days day).1 (both.1, both.2) in inr (values ∙ both.3, days_from new.period day inside, days_to new.period day inside)
  ]),
)

-- ---- the pairs of one row

-- the rows added already; of the pairs that can meet the conditions none lacks but those with what
-- is left
pub record PairsLeft (conjuncts : List Cond) (old : List PeriodRow) (row : KeyedRow) (active : List KeyedRow) (rows : List PeriodRow) (rest : List KeyedRow) : Type 0 where
  pub kept : (day : ℤ) (vs : List Value) → InSnapshot old day vs → InSnapshot rows day vs
  pub sound : (day : ℤ) (vs : List Value) → InSnapshot rows day vs → InSnapshot old day vs ⊎ InPairsWith row active day vs
  pub complete : (day : ℤ) (vs : List Value) → InPairsWith row active day vs → CanMeet conjuncts vs → InSnapshot rows day vs ⊎ InPairsWith row rest day vs

-- each of the active rows remains, or it is left, or it is gone
abbrev pub Accounted : KeyedRow → List KeyedRow → List KeyedRow → List KeyedRow → Type 0
Accounted row active kept rest = (other : KeyedRow) → Contains active other → (Contains kept other ⊎ (Contains rest other ⊎ HasExpired other row))

pub pairs-cons :
    (row other : KeyedRow) (rest : List KeyedRow) (day : ℤ) (vs : List Value)
    → (InPairsWith row (other ∷ rest) day vs ↔ (SidedPair row.side row other day vs ⊎ InPairsWith row rest day vs))
pairs-cons row other rest day vs = (
  λ (x, c, pair). elim (Contains-cons_cases other rest x c) [
    | inl e ↦ inl (subst (λ y. SidedPair row.side row y day vs) (sym e) pair)
    | inr k ↦ inr (x, k, pair)
  ],
  λ h. elim h [
    | inl pair ↦ (other, Contains-here other rest, pair)
    | inr more ↦ (more.0, Contains-there other rest more.0 more.1, more.2)
  ],
)

-- a pair has a common key and a common day
pair-meets :
    (side : Side) (row other : KeyedRow) (day : ℤ) (vs : List Value) → SidedPair side row other day vs
    → (other.key ≡ row.key) × InPeriod other.period day × InPeriod row.period day
pair-meets Left row other day vs pair = (sym pair.0, pair.2, pair.1)
pair-meets Right row other day vs pair = (pair.0, pair.1, pair.2)

-- a row that is gone has no pair
pub gone-no_pair :
    (row other : KeyedRow) → HasExpired other row → (day : ℤ) (vs : List Value) → SidedPair row.side row other day vs → ⊥
gone-no_pair row other gone day vs pair =
    let (same, inside, mine) = pair-meets row.side row other day vs pair in
    let to : day <ℤ other.period.end = days_to other.period day inside in
    let start : row.period.start ≤ℤ day = days_from row.period day mine in
    let apart : other.period.end ≤ℤ row.period.start = gone same in
    omega (arith, ints)

pub gone_passed :
    (row other : KeyedRow) (rest : List KeyedRow) → HasExpired other row → (day : ℤ) (vs : List Value)
    → (InPairsWith row (other ∷ rest) day vs ↔ InPairsWith row rest day vs)
gone_passed row other rest gone day vs = (
  λ h. elim ((pairs-cons row other rest day vs).0 h) [ inl pair ↦ absurd (gone-no_pair row other gone day vs pair) | inr more ↦ more ],
  λ more. (pairs-cons row other rest day vs).1 (inr more),
)

pub not_going_on :
    (row other : KeyedRow) → ((other.key ≡ row.key) × (row.period.start <ℤ other.period.end) → ⊥) → HasExpired other row
not_going_on row other not same =
    by_lt_z {P = other.period.end ≤ℤ row.period.start} row.period.start other.period.end (λ less. absurd (not (same, less))) (λ upto. upto)

no_pairs : (row : KeyedRow) (day : ℤ) (vs : List Value) → InPairsWith row [] day vs → ⊥
no_pairs row day vs (other, c, pair) = Contains-nil other c

module _ (conjuncts : List Cond) (old : List PeriodRow) (row : KeyedRow) (active : List KeyedRow) where
  pub pairs_left_all : PairsLeft conjuncts old row active old active
  pairs_left_all = record { kept = λ day vs h. h; sound = λ day vs h. inl h; complete = λ day vs h can. inr h }

  pub pairs_left_met :
      (rows more : List PeriodRow) (other : KeyedRow) (rest : List KeyedRow) → Contains active other
      → PairsLeft conjuncts old row active rows (other ∷ rest) → Adds conjuncts (SidedPair row.side row other) rows more
      → PairsLeft conjuncts old row active more rest
  pairs_left_met rows more other rest there before adds = record {
    kept = λ day vs h. adds.kept day vs (before.kept day vs h);
    sound = λ day vs h. elim (adds.sound day vs h) [
      | inl was ↦ before.sound day vs was
      | inr pair ↦ inr (other, there, pair)
    ];
    complete = λ day vs h can. elim (before.complete day vs h can) [
      | inl was ↦ inl (adds.kept day vs was)
      | inr left ↦ elim ((pairs-cons row other rest day vs).0 left) [
        | inl pair ↦ inl (adds.complete day vs pair can)
        | inr later ↦ inr later
      ]
    ];
  }

  pub pairs_left_gone :
      (rows : List PeriodRow) (other : KeyedRow) (rest : List KeyedRow) → HasExpired other row
      → PairsLeft conjuncts old row active rows (other ∷ rest) → PairsLeft conjuncts old row active rows rest
  pairs_left_gone rows other rest gone before = record {
    kept = before.kept;
    sound = before.sound;
    complete = λ day vs h can. elim (before.complete day vs h can) [
      | inl was ↦ inl was
      | inr left ↦ inr ((gone_passed row other rest gone day vs).0 left)
    ];
  }

  pub pairs_left_none : (rows : List PeriodRow) → PairsLeft conjuncts old row active rows [] → Adds conjuncts (InPairsWith row active) old rows
  pairs_left_none rows before = record {
    kept = before.kept;
    sound = before.sound;
    complete = λ day vs h can. elim (before.complete day vs h can) [
      | inl was ↦ was
      | inr left ↦ absurd (no_pairs row day vs left)
    ];
  }

-- the next active row remains
pub accounted_kept :
    (row other : KeyedRow) (active kept rest : List KeyedRow) → Accounted row active kept (other ∷ rest)
    → Accounted row active (kept ++ other ∷ []) rest
accounted_kept row other active kept rest all x c =
    elim (all x c) [
      | inl k ↦ inl (Contains-append_left kept (other ∷ []) x k)
      | inr more ↦ elim more [
        | inl there ↦ elim (Contains-cons_cases other rest x there) [
          | inl e ↦ inl (subst (Contains (kept ++ other ∷ [])) e (Contains-push kept other))
          | inr k ↦ inr (inl k)
        ]
        | inr gone ↦ inr (inr gone)
      ]
    ]

-- the next active row is gone
pub accounted_gone :
    (row other : KeyedRow) (active kept rest : List KeyedRow) → HasExpired other row → Accounted row active kept (other ∷ rest)
    → Accounted row active kept rest
accounted_gone row other active kept rest gone all x c =
    elim (all x c) [
      | inl k ↦ inl k
      | inr more ↦ elim more [
        | inl there ↦ elim (Contains-cons_cases other rest x there) [
          | inl e ↦ inr (inr (subst (λ y. HasExpired y row) e gone))
          | inr k ↦ inr (inl k)
        ]
        | inr out ↦ inr (inr out)
      ]
    ]

pub kept_inside :
    (active kept : List KeyedRow) (other : KeyedRow) → ((x : KeyedRow) → Contains kept x → Contains active x) → Contains active other
    → (x : KeyedRow) → Contains (kept ++ other ∷ []) x → Contains active x
kept_inside active kept other inside mine x c =
    elim (Contains-push_cases kept other x c) [ inl k ↦ inside x k | inr e ↦ subst (Contains active) e mine ]

pub accounted_all :
    (row : KeyedRow) (active kept : List KeyedRow) → Accounted row active kept [] → (x : KeyedRow) → Contains active x
    → (Contains kept x ⊎ HasExpired x row)
accounted_all row active kept all x c =
    elim (all x c) [
      | inl k ↦ inl k
      | inr more ↦ elim more [ inl there ↦ absurd (Contains-nil x there) | inr gone ↦ inr gone ]
    ]
