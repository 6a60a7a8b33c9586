-- Locality: whether a change makes two rows of one key share a day, the rows of the keys that it adds decide.
use Rattle.std.proofs.Common.{◌≡◌, ◌↔◌, ◌⊎◌, ℕ, ℤ, List, ◌++◌, sym, ◌∙◌, subst, inl, inr}
use Rattle.std.specs.List.{Any, Contains, filter}
use Rattle.std.specs.List.Sorted.{IsPermutation}
use Rattle.std.proofs.lemmas.List.Sorted.{IsPermutation-sym, Contains-permutation}
use Rattle.std.proofs.lemmas.List.Elements.{Contains-append_right, Contains-append_cases}
use Rattle.period_core.specs.OrderLaws.{values_eq}
use Rattle.period_core.specs.declared.value.Value.{Value}
use Rattle.period_core.specs.declared.period.Period.{Period}
use Rattle.period_core.specs.declared.row.PeriodRow.{PeriodRow}
use Rattle.period_keys.specs.declared.keyed_periods.KeyedPeriods.{KeyedPeriods}
use Rattle.period_keys.specs.Keys.{IsWithin, BothHold, key_values, ShareKeyOn, IsKeyClash, HasNoClash}
use Rattle.period_keys.specs.Index.{periods_at, has_key, periods_of_key, AreAtKeys, IsIndexOf, SharesDayOfKept, MeetsKept, AddsClash}
use Rattle.period_keys.proofs.Members.{some_member, member_of, in_filter, from_filter, in_map, from_map}
use Rattle.period_keys.proofs.Pairs.{SomeCross, SomePair-append, SomePair-left, SomePair-right, SomePair-cross, SomePair-permutation}

abbrev pub period_of : PeriodRow → Period
period_of row = row.period

-- the period and some of the periods both hold the day
abbrev pub SharesDay : List Period → Period → ℤ → Type 0
SharesDay periods period day = Any (BothHold day period) periods

-- the period of a row of the key is one of the key's periods
pub in_key : (positions : List ℕ) (rows : List PeriodRow) (key : List Value) (row : PeriodRow) → Contains rows row → key ≡ key_values positions row → Contains (periods_of_key positions rows key) row.period
in_key positions rows key row c e =
    in_map period_of (filter (has_key positions key) rows) row
    (in_filter (has_key positions key) rows row c ((values_eq key (key_values positions row)).1 e))

pub from_key : (positions : List ℕ) (rows : List PeriodRow) (key : List Value) (period : Period) → Contains (periods_of_key positions rows key) period → (row : PeriodRow) × Contains rows row × (key ≡ key_values positions row) × (row.period ≡ period)
from_key positions rows key period c =
    let (row, kept, is) = from_map period_of (filter (has_key positions key) rows) period c in
    let (there, passes) = from_filter (has_key positions key) rows row kept in
    (row, there, (values_eq key (key_values positions row)).0 passes, is)

ShareKeyOn-sym : (positions : List ℕ) (day : ℤ) (a b : PeriodRow) → ShareKeyOn positions day a b → ShareKeyOn positions day b a
ShareKeyOn-sym positions day a b h = (sym h.0, (h.1.1, h.1.0))

pub IsKeyClash-permutation : (positions : List ℕ) (day : ℤ) (xs ys : List PeriodRow) → IsPermutation xs ys → IsKeyClash positions xs day → IsKeyClash positions ys day
IsKeyClash-permutation positions day xs ys moved h =
    SomePair-permutation (ShareKeyOn positions day) (ShareKeyOn-sym positions day) xs ys moved h

-- a clash of a row of one list with one of the other is a day that the second row's period shares with the periods of its key
pub cross_by_key :
    (positions : List ℕ) (rows others : List PeriodRow) (day : ℤ)
    → (SomeCross (ShareKeyOn positions day) rows others ↔ Any (λ (row : PeriodRow). SharesDay (periods_of_key positions rows (key_values positions row)) row.period day) others)
cross_by_key positions rows others day = (
  λ (x, y, in_rows, in_others, (key, (on_x, on_y))).
      some_member (λ (row : PeriodRow). SharesDay (periods_of_key positions rows (key_values positions row)) row.period day) others y in_others
      (some_member (BothHold day y.period) (periods_of_key positions rows (key_values positions y)) x.period (in_key positions rows (key_values positions y) x in_rows (sym key)) (on_y, on_x)),
  λ h.
      let (y, in_others, shares) = member_of (λ (row : PeriodRow). SharesDay (periods_of_key positions rows (key_values positions row)) row.period day) others h in
      let (p, in_key, both) = member_of (BothHold day y.period) (periods_of_key positions rows (key_values positions y)) shares in
      let (x, in_rows, key, is) = from_key positions rows (key_values positions y) p in_key in
      (x, y, in_rows, in_others, (sym key, (subst (λ q. IsWithin q day) (sym is) both.1, both.0))),
)

-- a clash of two lists together
pub clash_of_both :
    (positions : List ℕ) (rows others : List PeriodRow) (day : ℤ)
    → (IsKeyClash positions (rows ++ others) day
    ↔ (IsKeyClash positions rows day ⊎ (Any (λ (row : PeriodRow). SharesDay (periods_of_key positions rows (key_values positions row)) row.period day) others ⊎ IsKeyClash positions others day)))
clash_of_both positions rows others day =
    let R : PeriodRow → PeriodRow → Type 0 = ShareKeyOn positions day in (
      λ h. elim (SomePair-append R rows others h) [
        | inl first ↦ inl first
        | inr (inl cross) ↦ inr (inl ((cross_by_key positions rows others day).0 cross))
        | inr (inr second) ↦ inr (inr second)
      ],
      λ h. elim h [
        | inl first ↦ SomePair-left R rows others first
        | inr (inl cross) ↦ SomePair-cross R rows others ((cross_by_key positions rows others day).1 cross)
        | inr (inr second) ↦ SomePair-right R rows others second
      ],
    )

-- the periods at a key are the periods of the rows of this key
pub at_has : (positions : List ℕ) (rows : List PeriodRow) (at : List Value → List Period) → AreAtKeys positions rows at → (key : List Value) (period : Period)
    → (Contains (at key) period ↔ Contains (periods_of_key positions rows key) period)
at_has positions rows at is key period = (
  λ c. Contains-permutation (at key) (periods_of_key positions rows key) period (is key) c,
  λ c. Contains-permutation (periods_of_key positions rows key) (at key) period (IsPermutation-sym (at key) (periods_of_key positions rows key) (is key)) c,
)

-- the periods of an index at a key are the periods of the rows of this key
pub index_has : (positions : List ℕ) (rows : List PeriodRow) (index : KeyedPeriods) → IsIndexOf positions rows index → (key : List Value) (period : Period)
    → (Contains (periods_at index key) period ↔ Contains (periods_of_key positions rows key) period)
index_has positions rows index is key period = at_has positions rows (periods_at index) is key period

-- if no two rows of a key share a day, a key's periods that do not go are the periods of its rows that stay
pub kept_are_staying :
    (positions : List ℕ) (at : List Value → List Period) (before ended stay : List PeriodRow)
    → AreAtKeys positions before at → HasNoClash positions before → IsPermutation before (ended ++ stay)
    → (key : List Value) (period : Period) (day : ℤ)
    → (SharesDayOfKept (at key) (periods_of_key positions ended key) period day
    ↔ SharesDay (periods_of_key positions stay key) period day)
kept_are_staying positions at before ended stay is none moved key period day =
    let Kept : Period → Type 0 = λ other. BothHold day period other × (Contains (periods_of_key positions ended key) other → ⊥) in (
      λ h.
          let (p, at_key, (both, kept)) = member_of Kept (at key) h in
          let (row, there, same, period_is) = from_key positions before key p ((at_has positions before at is key p).0 at_key) in
          elim (Contains-append_cases ended stay row (Contains-permutation before (ended ++ stay) row moved there)) [
            | inl goes ↦ absurd (kept (subst (Contains (periods_of_key positions ended key)) period_is (in_key positions ended key row goes same)))
            | inr stays ↦ some_member (BothHold day period) (periods_of_key positions stay key) p (subst (Contains (periods_of_key positions stay key)) period_is (in_key positions stay key row stays same)) both
          ],
      λ h.
          let (p, at_key, both) = member_of (BothHold day period) (periods_of_key positions stay key) h in
          let (row, stays, same, period_is) = from_key positions stay key p at_key in
          let there : Contains before row = Contains-permutation (ended ++ stay) before row (IsPermutation-sym before (ended ++ stay) moved) (Contains-append_right ended stay row stays) in
          let in_index : Contains (at key) p = (at_has positions before at is key p).1 (subst (Contains (periods_of_key positions before key)) period_is (in_key positions before key row there same)) in
          let kept : Contains (periods_of_key positions ended key) p → ⊥ =
          λ goes.
          let (gone, in_ended, gone_same, gone_is) = from_key positions ended key p goes in
          let pair : ShareKeyOn positions day gone row = (sym gone_same ∙ same, (subst (λ q. IsWithin q day) (sym gone_is) both.1, subst (λ q. IsWithin q day) (sym period_is) both.1)) in
          let clash : IsKeyClash positions (ended ++ stay) day = SomePair-cross (ShareKeyOn positions day) ended stay (gone, row, in_ended, stays, pair) in
          none day (IsKeyClash-permutation positions day (ended ++ stay) before (IsPermutation-sym before (ended ++ stay) moved) clash) in
          some_member Kept (at key) p in_index (both, kept),
    )

-- rows that stay do not clash if none did before
pub none_of_staying : (positions : List ℕ) (before ended stay : List PeriodRow) → HasNoClash positions before → IsPermutation before (ended ++ stay) → HasNoClash positions stay
none_of_staying positions before ended stay none moved day h =
    none day (IsKeyClash-permutation positions day (ended ++ stay) before (IsPermutation-sym before (ended ++ stay) moved) (SomePair-right (ShareKeyOn positions day) ended stay h))

-- the law: given none before, the clashes after a change are those that its added rows make
pub clashes_after :
    (positions : List ℕ) (at : List Value → List Period) (before ended stay added : List PeriodRow)
    → AreAtKeys positions before at → HasNoClash positions before → IsPermutation before (ended ++ stay)
    → (day : ℤ) → (AddsClash positions at ended added day ↔ IsKeyClash positions (stay ++ added) day)
clashes_after positions at before ended stay added is none moved day =
    let Meets : PeriodRow → Type 0 = MeetsKept positions at ended day in
    let Shares : PeriodRow → Type 0 = λ (row : PeriodRow). SharesDay (periods_of_key positions stay (key_values positions row)) row.period day in
    let same : (row : PeriodRow) → (Meets row ↔ Shares row) = λ row. kept_are_staying positions at before ended stay is none moved (key_values positions row) row.period day in (
      λ h. (clash_of_both positions stay added day).1 (elim h [
        | inl meets ↦ let (row, there, m) = member_of Meets added meets in inr (inl (some_member Shares added row there ((same row).0 m)))
        | inr among ↦ inr (inr among)
      ]),
      λ h. elim ((clash_of_both positions stay added day).0 h) [
        | inl old ↦ absurd (none_of_staying positions before ended stay none moved day old)
        | inr (inl shares) ↦ let (row, there, s) = member_of Shares added shares in inl (some_member Meets added row there ((same row).1 s))
        | inr (inr among) ↦ inr among
      ],
    )
