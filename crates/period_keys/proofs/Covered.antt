-- Locality of references: which children a change of children or of parents can leave without a parent.
use Rattle.std.proofs.Common.{◌≡◌, ◌↔◌, ◌⊎◌, ◌≤ℤ◌, ◌<ℤ◌, ℕ, ℤ, List, [], ◌∷◌, ◌++◌, Option, arith, map, refl, sym, ◌∙◌, ap, subst, inl, inr}
use Rattle.std.specs.List.{Any, Contains, filter}
use Rattle.std.specs.List.Sorted.{IsPermutation}
use Rattle.std.proofs.lemmas.Int.{ints, by_lt_z}
use Rattle.std.proofs.lemmas.List.{map-append}
use Rattle.std.proofs.lemmas.List.Sorted.{IsPermutation-append_left, IsPermutation-append_right, IsPermutation-sym, IsPermutation-trans, Contains-permutation}
use Rattle.std.proofs.lemmas.List.Elements.{Contains-append_left, Contains-append_right, Contains-append_cases, filter-append}
use Rattle.period_core.specs.declared.value.Value.{Value}
use Rattle.period_core.specs.declared.period.Period.{Period}
use Rattle.period_core.specs.declared.row.PeriodRow.{PeriodRow}
use Rattle.period_keys.specs.declared.keyed_periods.KeyedPeriods.{KeyedPeriods}
use Rattle.period_keys.specs.Keys.{IsWithin, key_values, HasParent, IsEachCovered, IsUncovered, IsLeastOf}
use Rattle.period_keys.specs.Index.{has_key, periods_at, periods_of_key, AreAtKeys, IsIndexOf}
use Rattle.period_keys.specs.Gaps.{IsHeld, IsGap, LacksKeyOf}
use Rattle.period_keys.proofs.Indexes.{at_keys_moved}
use Rattle.period_keys.proofs.Leasts.{IsLeastOf-same}
use Rattle.period_keys.proofs.Members.{some_member, member_of, Any-append, Any-one, Any-nil, Any-permutation}
use Rattle.period_keys.proofs.Locality.{at_has, in_key, from_key, index_has, period_of}
use Rattle.temporal_model.proofs.Members.{Contains-nil}

-- a child of the key holds on the day, and none of the remaining periods does
abbrev pub LosesParent : (there children : List Value → List Period) → List Value → ℤ → Type 0
LosesParent there children key day = Any (λ child. IsGap (there key) child day) (children key)

-- a parent on a day is a period of the child's key that holds it
pub parent_is_held :
    (own : List ℕ) (child : PeriodRow) (keys : List ℕ) (above : List PeriodRow) (at : List Value → List Period) (day : ℤ) → AreAtKeys keys above at
    → (HasParent own child keys above day ↔ IsHeld (at (key_values own child)) day)
parent_is_held own child keys above at day is =
    let key : List Value = key_values own child in
    let Within : Period → Type 0 = λ period. IsWithin period day in (
      λ (parent, there, same, within).
          some_member Within (at key) parent.period
          ((at_has keys above at is key parent.period).1 (in_key keys above key parent there (sym same))) within,
      λ h.
          let (p, at_key, within) = member_of Within (at key) h in
          let (parent, there, same, period_is) = from_key keys above key p ((at_has keys above at is key p).0 at_key) in
          (parent, there, sym same, subst (λ q. IsWithin q day) (sym period_is) within),
    )

-- the children that exist after a change of children lack a parent if an added one does
pub uncovered_after :
    (own : List ℕ) (keys : List ℕ) (above before ended stay added : List PeriodRow) (parents : List Value → List Period)
    → AreAtKeys keys above parents → IsEachCovered own before keys above → IsPermutation before (ended ++ stay)
    → (day : ℤ) → (LacksKeyOf own added parents day ↔ IsUncovered own (stay ++ added) keys above day)
uncovered_after own keys above before ended stay added parents is covered moved day =
    let Lacks : PeriodRow → Type 0 = λ (child : PeriodRow). IsGap (parents (key_values own child)) child.period day in (
      λ h.
          let (child, there, (within, alone)) = member_of Lacks added h in
          (child, Contains-append_right stay added child there, within, λ parent. alone ((parent_is_held own child keys above parents day is).0 parent)),
      λ (child, there, within, alone).
          elim (Contains-append_cases stay added child there) [
            | inl stays ↦ absurd (covered day (child, Contains-permutation (ended ++ stay) before child (IsPermutation-sym before (ended ++ stay) moved) (Contains-append_right ended stay child stays), within, alone))
            | inr comes ↦ some_member Lacks added child comes (within, λ held. alone ((parent_is_held own child keys above parents day is).1 held))
          ],
    )

-- a key's periods in two lists of rows
pub periods_of_both : (keys : List ℕ) (rows others : List PeriodRow) (key : List Value) → periods_of_key keys (rows ++ others) key ≡ periods_of_key keys rows key ++ periods_of_key keys others key
periods_of_both keys rows others key =
    ap (map period_of) (filter-append (has_key keys key) rows others) ∙ map-append period_of (filter (has_key keys key) rows) (filter (has_key keys key) others)

-- a key's periods, without the periods of the removed rows and with those of the added rows, are the periods of the rows afterwards
pub there_afterwards :
    (keys : List ℕ) (parents : List Value → List Period) (gone new : KeyedPeriods) (before ended stay added : List PeriodRow) (key : List Value) (there : List Period)
    → AreAtKeys keys before parents → IsPermutation before (ended ++ stay) → IsIndexOf keys ended gone → IsIndexOf keys added new
    → ((left : List Period) → IsPermutation (parents key) (periods_at gone key ++ left) → IsPermutation there (left ++ periods_at new key))
    → IsPermutation there (periods_of_key keys (stay ++ added) key)
there_afterwards keys parents gone new before ended stay added key there is moved gone_is new_is made =
    let goes : List Period = periods_of_key keys ended key in
    let left : List Period = periods_of_key keys stay key in
    let split : IsPermutation (parents key) (goes ++ left) =
    subst (IsPermutation (parents key)) (periods_of_both keys ended stay key) (at_keys_moved keys before (ended ++ stay) parents moved is key) in
    let taken : IsPermutation (parents key) (periods_at gone key ++ left) =
    IsPermutation-trans (parents key) (goes ++ left) (periods_at gone key ++ left) split
    (IsPermutation-append_left left goes (periods_at gone key) (IsPermutation-sym (periods_at gone key) goes (gone_is key))) in
    subst (IsPermutation there) (sym (periods_of_both keys stay added key))
    (IsPermutation-trans there (left ++ periods_at new key) (left ++ periods_of_key keys added key) (made left taken)
    (IsPermutation-append_right left (periods_at new key) (periods_of_key keys added key) (new_is key)))

-- a day is in some of the periods, or in none
held_or_not : (periods : List Period) (day : ℤ) → IsHeld periods day ⊎ (IsHeld periods day → ⊥)
held_or_not [] day = inr (Any-nil (λ (p : Period). IsWithin p day))
held_or_not (p ∷ ps) day =
    let Within : Period → Type 0 = λ period. IsWithin period day in
    let either = Any-append Within (p ∷ []) ps in
    let one : IsWithin p day ⊎ (IsWithin p day → ⊥) =
    by_lt_z {P = IsWithin p day ⊎ (IsWithin p day → ⊥)} day p.start (λ early. inr (λ w. (let from : p.start ≤ℤ day = w.0 in omega (arith, ints))))
    (λ from. by_lt_z {P = IsWithin p day ⊎ (IsWithin p day → ⊥)} day p.end (λ to. inl (from, to)) (λ late. inr (λ w. (let to : day <ℤ p.end = w.1 in omega (arith, ints))))) in
    elim one [
      | inl w ↦ inl (either.1 (inl ((Any-one Within p).1 w)))
      | inr apart ↦ elim (held_or_not ps day) [
        | inl held ↦ inl (either.1 (inr held))
        | inr none ↦ inr (λ h. elim (either.0 h) [ inl first ↦ apart ((Any-one Within p).0 first) | inr rest ↦ none rest ])
      ]
    ]

-- the children that lack a parent after a change of parents are of the key of an ended one
pub uncovered_of_parents :
    (own keys : List ℕ) (below before ended stay added : List PeriodRow) (touched : List (List Value)) (children parents : List Value → List Period) (gone : KeyedPeriods)
    → AreAtKeys own below children → AreAtKeys keys before parents → IsIndexOf keys ended gone → ((key : List Value) (p : Period) → Contains (periods_at gone key) p → Contains touched key)
    → IsEachCovered own below keys before → IsPermutation before (ended ++ stay)
    → (day : ℤ) → (Any (λ key. LosesParent (periods_of_key keys (stay ++ added)) children key day) touched ↔ IsUncovered own below keys (stay ++ added) day)
uncovered_of_parents own keys below before ended stay added touched children parents gone is above_is gone_is keys_are covered moved day =
    let after : List PeriodRow = stay ++ added in
    let there : List Value → List Period = periods_of_key keys after in
    let Lacks : List Value → Period → Type 0 = λ key child. IsGap (there key) child day in
    let Loses : List Value → Type 0 = λ key. LosesParent there children key day in
    let Within : Period → Type 0 = λ period. IsWithin period day in (
      λ h.
          let (key, at, lost) = member_of Loses touched h in
          let (p, at_key, (within, alone)) = member_of (Lacks key) (children key) lost in
          let (child, in_below, same, period_is) = from_key own below key p ((at_has own below children is key p).0 at_key) in (
            child,
            in_below,
            subst (λ q. IsWithin q day) (sym period_is) within,
            λ (parent, in_after, key_is, holds). alone (some_member Within (there key) parent.period (in_key keys after key parent in_after (same ∙ sym key_is)) holds),
          ),
      λ (child, in_below, within, alone).
          let key : List Value = key_values own child in
          let had : HasParent own child keys before day =
          elim (held_or_not (parents key) day) [
            | inl held ↦ (parent_is_held own child keys before parents day above_is).1 held
            | inr none ↦ absurd (covered day (child, in_below, within, λ parent. none ((parent_is_held own child keys before parents day above_is).0 parent)))
          ] in
          let (parent, in_before, key_is, holds) = had in
          elim (Contains-append_cases ended stay parent (Contains-permutation before (ended ++ stay) parent moved in_before)) [
            | inl goes ↦
                let lacks : Lacks key child.period = (
                  within,
                  λ held.
                      let (p, at_key, in_p) = member_of Within (there key) held in
                      let (row, in_after, same, period_is) = from_key keys after key p at_key in
                      alone (row, in_after, sym same, subst (λ q. IsWithin q day) (sym period_is) in_p),
                ) in
                let in_gone : Contains (periods_at gone key) parent.period = (index_has keys ended gone gone_is key parent.period).1 (in_key keys ended key parent goes (sym key_is)) in
                some_member Loses touched key (keys_are key parent.period in_gone)
                (some_member (Lacks key) (children key) child.period
                ((at_has own below children is key child.period).1 (in_key own below key child in_below refl)) lacks)
            | inr stays ↦ absurd (alone (parent, Contains-append_left stay added parent stays, key_is, holds))
          ],
    )

-- the gaps of children under a key's periods before the change are the gaps under the rows after it
pub lost_least :
    (there after cs : List Period) (children : List Value → List Period) (key : List Value) (found : Option ℤ) → cs ≡ children key → IsPermutation there after
    → IsLeastOf (λ day. Any (λ child. IsGap there child day) cs) found → IsLeastOf (λ day. Any (λ child. IsGap after child day) (children key)) found
lost_least there after cs children key found cs_is moved least =
    let Gap : List Period → ℤ → Period → Type 0 = λ list day child. IsGap list child day in
    let Within : ℤ → Period → Type 0 = λ day p. IsWithin p day in
    let gaps : (day : ℤ) → (Any (Gap there day) cs ↔ Any (Gap after day) cs) = λ day. (
      λ h. let (child, at, (within, alone)) = member_of (Gap there day) cs h in
          some_member (Gap after day) cs child at (within, λ held. alone (Any-permutation (Within day) after there (IsPermutation-sym there after moved) held)),
      λ h. let (child, at, (within, alone)) = member_of (Gap after day) cs h in
          some_member (Gap there day) cs child at (within, λ held. alone (Any-permutation (Within day) there after moved held)),
    ) in
    subst (λ (list : List Period). IsLeastOf (λ day. Any (Gap after day) list) found) cs_is
    (IsLeastOf-same (λ day. Any (Gap there day) cs) (λ day. Any (Gap after day) cs) gaps found least)

-- the children that lack a parent, by the keys of their index
pub lacking_by_key : (own : List ℕ) (rows : List PeriodRow) (by_key : KeyedPeriods) (parents : List Value → List Period) (keys : List (List Value)) → IsIndexOf own rows by_key
    → ((key : List Value) → (Contains keys key ↔ (periods_at by_key key ≡ [] → ⊥)))
    → (day : ℤ) → (Any (λ key. LosesParent parents (periods_at by_key) key day) keys ↔ LacksKeyOf own rows parents day)
lacking_by_key own rows by_key parents keys is keys_are day =
    let Gap : List Value → Period → Type 0 = λ key child. IsGap (parents key) child day in
    let Loses : List Value → Type 0 = λ key. LosesParent parents (periods_at by_key) key day in
    let Lacks : PeriodRow → Type 0 = λ (row : PeriodRow). Gap (key_values own row) row.period in (
      λ h.
          let (key, at, lost) = member_of Loses keys h in
          let (p, at_key, gap) = member_of (Gap key) (periods_at by_key key) lost in
          let (row, there, same, period_is) = from_key own rows key p ((index_has own rows by_key is key p).0 at_key) in
          some_member Lacks rows row there (subst (λ (k : List Value). Gap k row.period) same (subst (Gap key) (sym period_is) gap)),
      λ h.
          let (row, there, gap) = member_of Lacks rows h in
          let key : List Value = key_values own row in
          let at : Contains (periods_at by_key key) row.period = (index_has own rows by_key is key row.period).1 (in_key own rows key row there refl) in
          some_member Loses keys key ((keys_are key).1 (λ none. Contains-nil row.period (subst (λ (list : List Period). Contains list row.period) none at)))
          (some_member (Gap key) (periods_at by_key key) row.period at gap),
    )
