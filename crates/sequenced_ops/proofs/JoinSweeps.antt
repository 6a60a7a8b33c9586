-- The sweep of a join: what the rows that are done, those that are active and those that are left say of one another.
use Rattle.std.proofs.Common.{◌≡◌, ◌≤ℤ◌, ◌↔◌, ℤ, List, [], ◌∷◌, ◌++◌, true, false, refl, sym, ◌∙◌, ap, subst, inl, inr, ◌⊎◌, arith}
use Rattle.std.specs.List.{Contains, AllPairs}
use Rattle.std.specs.declared.cmp.Ordering.TheVariants.{Less, Equal, Greater}
use Rattle.std.specs.Ordering.{is_lt, ordering_reverse}
use Rattle.std.proofs.lemmas.Int.{ints}
use Rattle.std.proofs.lemmas.List.Elements.{Contains-append_left, Contains-push, Contains-push_cases}
use Rattle.period_core.specs.declared.value.Value.{Value}
use Rattle.temporal_model.proofs.Members.{Contains-here, Contains-there, AllPairs-head}
use Rattle.sequenced_ops.specs.declared.keyed.JoinKey.{JoinKey}
use Rattle.sequenced_ops.specs.declared.keyed.KeyedRow.{KeyedRow}
use Rattle.sequenced_ops.specs.declared.keyed.Side.{Side}
use Rattle.sequenced_ops.specs.declared.keyed.Side.TheVariants.{Left, Right}
use Rattle.sequenced_ops.specs.Joining.{key_cmp, InPairs, InPairsWith, PairHolds, SidedPair, HasExpired, Follows}
use Rattle.sequenced_ops.proofs.Keys.{key_cmp_total, key_cmp-same}
use Rattle.sequenced_ops.proofs.Pairs.{gone-no_pair}

-- ---- rows that are gone

not_after_both :
    (a x : JoinKey) → is_lt (key_cmp x a) ≡ false → is_lt (key_cmp a x) ≡ false → a ≡ x
not_after_both a x p q =
    elim (key_cmp a x) as (λ o. key_cmp a x ≡ o → a ≡ x) [
      | Less ↦ λ e. let wrong : is_lt (key_cmp a x) ≡ true = ap is_lt e in cc
      | Equal ↦ λ e. key_cmp-same a x e
      | Greater ↦ λ e. let back : key_cmp x a ≡ Less = key_cmp_total.antisymm x a ∙ ap ordering_reverse e in
          let wrong : is_lt (key_cmp x a) ≡ true = ap is_lt back in cc
    ] refl

-- a row that has expired for another has expired for those that follow it
gone_later : (a x b : KeyedRow) → Follows a x → Follows x b → HasExpired a x → HasExpired a b
gone_later a x b p q gone same =
    let back : is_lt (key_cmp a.key x.key) ≡ false = subst (λ k. is_lt (key_cmp k x.key) ≡ false) (sym same) q.0 in
    let key : a.key ≡ x.key = not_after_both a.key x.key p.0 back in
    let ended : a.period.end ≤ℤ x.period.start = gone key in
    let begun : x.period.start ≤ℤ b.period.start = q.1 (sym key ∙ same) in
    omega (arith, ints)

-- ---- the active rows of a side

-- the active rows are rows of the side that are done, and each other such row is gone for all that are left
pub record Active (side : Side) (done active rest : List KeyedRow) : Type 0 where
  pub there : (a : KeyedRow) → Contains active a → Contains done a × (a.side ≡ side)
  pub others : (a : KeyedRow) → Contains done a → a.side ≡ side → (Contains active a ⊎ ((b : KeyedRow) → Contains rest b → HasExpired a b))

-- each row that is done comes before each that is left
abbrev pub DoneBefore : List KeyedRow → List KeyedRow → Type 0
DoneBefore done rest = (a b : KeyedRow) → Contains done a → Contains rest b → Follows a b

pub done_more :
    (done : List KeyedRow) (x : KeyedRow) (rest : List KeyedRow) → AllPairs Follows (x ∷ rest) → DoneBefore done (x ∷ rest)
    → DoneBefore (done ++ x ∷ []) rest
done_more done x rest up before a b c d =
    elim (Contains-push_cases done x a c) [
      | inl k ↦ before a b k (Contains-there x rest b d)
      | inr e ↦ subst (λ y. Follows y b) e (AllPairs-head Follows x rest up b d)
    ]

-- the row of the other side met the active ones
pub active_met :
    (side : Side) (done active left : List KeyedRow) (x : KeyedRow) (rest : List KeyedRow) → (x.side ≡ side → ⊥)
    → AllPairs Follows (x ∷ rest) → DoneBefore done (x ∷ rest)
    → ((a : KeyedRow) → Contains left a → Contains active a)
    → ((a : KeyedRow) → Contains active a → (Contains left a ⊎ HasExpired a x))
    → Active side done active (x ∷ rest) → Active side (done ++ x ∷ []) left rest
active_met side done active left x rest other up before kept gone old = record {
  there = λ a c. let was = old.there a (kept a c) in (Contains-append_left done (x ∷ []) a was.0, was.1);
  others = λ a c e. elim (Contains-push_cases done x a c) [
    | inl k ↦ elim (old.others a k e) [
      | inl active ↦ elim (gone a active) [
        | inl stays ↦ inl stays
        | inr out ↦ inr (λ b d. gone_later a x b (before a x k (Contains-here x rest)) (AllPairs-head Follows x rest up b d) out)
      ]
      | inr out ↦ inr (λ b d. out b (Contains-there x rest b d))
    ]
    | inr same ↦ absurd (other (ap (λ (y : KeyedRow). y.side) same ∙ e))
  ];
}

-- the row is added to the active ones of its side
pub active_added :
    (side : Side) (done active : List KeyedRow) (x : KeyedRow) (rest : List KeyedRow) → x.side ≡ side
    → Active side done active (x ∷ rest) → Active side (done ++ x ∷ []) (active ++ x ∷ []) rest
active_added side done active x rest mine old = record {
  there = λ a c. elim (Contains-push_cases active x a c) [
    | inl k ↦ let was = old.there a k in (Contains-append_left done (x ∷ []) a was.0, was.1)
    | inr e ↦ (subst (Contains (done ++ x ∷ [])) e (Contains-push done x), sym (ap (λ (y : KeyedRow). y.side) e) ∙ mine)
  ];
  others = λ a c e. elim (Contains-push_cases done x a c) [
    | inl k ↦ elim (old.others a k e) [
      | inl there ↦ inl (Contains-append_left active (x ∷ []) a there)
      | inr out ↦ inr (λ b d. out b (Contains-there x rest b d))
    ]
    | inr same ↦ inl (subst (Contains (active ++ x ∷ [])) same (Contains-push active x))
  ];
}

-- ---- the pairs that are done

wrong_side : (a : KeyedRow) → a.side ≡ Left → a.side ≡ Right → ⊥
wrong_side a p q = let wrong : Left ≡ Right = sym p ∙ q in cc

pub pairs_left :
    (done rights : List KeyedRow) (x : KeyedRow) (rest : List KeyedRow) → x.side ≡ Left → Active Right done rights (x ∷ rest)
    → (day : ℤ) (vs : List Value)
    → (InPairs (done ++ x ∷ []) day vs ↔ (InPairs done day vs ⊎ InPairsWith x rights day vs))
pairs_left done rights x rest mine active day vs = (
  λ (a, b, in_a, in_b, left, right, pair). elim (Contains-push_cases done x b in_b) [
    | inl old_b ↦ elim (Contains-push_cases done x a in_a) [
      | inl old_a ↦ inl (a, b, old_a, old_b, left, right, pair)
      | inr e ↦
          let now : PairHolds x b day vs = subst (λ y. PairHolds y b day vs) (sym e) pair in
          let sided : SidedPair x.side x b day vs = subst (λ s. SidedPair s x b day vs) (sym mine) now in
          elim (active.others b old_b right) [
            | inl there ↦ inr (b, there, sided)
            | inr out ↦ absurd (gone-no_pair x b (out x (Contains-here x rest)) day vs sided)
          ]
    ]
    | inr e ↦ absurd (wrong_side b (sym (ap (λ (y : KeyedRow). y.side) e) ∙ mine) right)
  ],
  λ h. elim h [
    | inl (a, b, in_a, in_b, left, right, pair) ↦ (a, b, Contains-append_left done (x ∷ []) a in_a, Contains-append_left done (x ∷ []) b in_b, left, right, pair)
    | inr (b, there, sided) ↦
        let was = active.there b there in
        (x, b, Contains-push done x, Contains-append_left done (x ∷ []) b was.0, mine, was.1, subst (λ s. SidedPair s x b day vs) mine sided)
  ],
)

pub pairs_right :
    (done lefts : List KeyedRow) (x : KeyedRow) (rest : List KeyedRow) → x.side ≡ Right → Active Left done lefts (x ∷ rest)
    → (day : ℤ) (vs : List Value)
    → (InPairs (done ++ x ∷ []) day vs ↔ (InPairs done day vs ⊎ InPairsWith x lefts day vs))
pairs_right done lefts x rest mine active day vs = (
  λ (a, b, in_a, in_b, left, right, pair). elim (Contains-push_cases done x a in_a) [
    | inl old_a ↦ elim (Contains-push_cases done x b in_b) [
      | inl old_b ↦ inl (a, b, old_a, old_b, left, right, pair)
      | inr e ↦
          let now : PairHolds a x day vs = subst (λ y. PairHolds a y day vs) (sym e) pair in
          let sided : SidedPair x.side x a day vs = subst (λ s. SidedPair s x a day vs) (sym mine) now in
          elim (active.others a old_a left) [
            | inl there ↦ inr (a, there, sided)
            | inr out ↦ absurd (gone-no_pair x a (out x (Contains-here x rest)) day vs sided)
          ]
    ]
    | inr e ↦ absurd (wrong_side a left (sym (ap (λ (y : KeyedRow). y.side) e) ∙ mine))
  ],
  λ h. elim h [
    | inl (a, b, in_a, in_b, left, right, pair) ↦ (a, b, Contains-append_left done (x ∷ []) a in_a, Contains-append_left done (x ∷ []) b in_b, left, right, pair)
    | inr (a, there, sided) ↦
        let was = active.there a there in
        (a, x, Contains-append_left done (x ∷ []) a was.0, Contains-push done x, was.1, mine, subst (λ s. SidedPair s x a day vs) mine sided)
  ],
)
