-- Steps of the check of a change: the days that the next added row shares with remaining rows, and with the added rows before it.
use Rattle.std.proofs.Common.{◌≡◌, ◌↔◌, ◌∙◌, ℕ, ℤ, List, Option, sym, ap, subst}
use Rattle.std.specs.List.{Contains}
use Rattle.std.specs.List.Sorted.{IsPermutation}
use Rattle.std.proofs.lemmas.List.Sorted.{IsPermutation-sym, Contains-permutation}
use Rattle.period_core.specs.declared.value.Value.{Value}
use Rattle.period_core.specs.declared.period.Period.{Period}
use Rattle.period_core.specs.declared.row.PeriodRow.{PeriodRow}
use Rattle.period_keys.specs.declared.keyed_periods.KeyedPeriods.{KeyedPeriods}
use Rattle.period_keys.specs.Keys.{BothHold, key_values, IsLeastOf}
use Rattle.period_keys.specs.Index.{periods_at, periods_of_key, IsIndexOf, SharesDayOfKept, MeetsKept}
use Rattle.period_keys.proofs.Members.{some_member, member_of}
use Rattle.period_keys.proofs.Leasts.{IsLeastOf-same}

-- the day that a row shares with remaining ones, found in an index of the removed rows
pub meets_kept :
    (positions : List ℕ) (at : List Value → List Period) (gone : KeyedPeriods) (ended : List PeriodRow) (row : PeriodRow) (key : List Value) (periods going : List Period) (found : Option ℤ)
    → key ≡ key_values positions row → periods ≡ at key → going ≡ periods_at gone key → IsIndexOf positions ended gone
    → IsLeastOf (SharesDayOfKept periods going row.period) found → IsLeastOf (λ day. MeetsKept positions at ended day row) found
meets_kept positions at gone ended row key periods going found key_is periods_is going_is indexed least =
    let own : List Value = key_values positions row in
    let at_key : periods ≡ at own = periods_is ∙ ap at key_is in
    let moved : IsPermutation going (periods_of_key positions ended own) =
    subst (λ (xs : List Period). IsPermutation xs (periods_of_key positions ended own)) (sym (going_is ∙ ap (periods_at gone) key_is)) (indexed own) in
    let Kept : List Period → ℤ → Period → Type 0 = λ gone day other. BothHold day row.period other × (Contains gone other → ⊥) in
    let same : (day : ℤ) → (SharesDayOfKept periods going row.period day ↔ SharesDayOfKept periods (periods_of_key positions ended own) row.period day) = λ day. (
      λ h. let (p, there, (both, kept)) = member_of (Kept going day) periods h in
          some_member (Kept (periods_of_key positions ended own) day) periods p there (both, λ goes. kept (Contains-permutation (periods_of_key positions ended own) going p (IsPermutation-sym going (periods_of_key positions ended own) moved) goes)),
      λ h. let (p, there, (both, kept)) = member_of (Kept (periods_of_key positions ended own) day) periods h in
          some_member (Kept going day) periods p there (both, λ goes. kept (Contains-permutation going (periods_of_key positions ended own) p moved goes)),
    ) in
    subst (λ (xs : List Period). IsLeastOf (SharesDayOfKept xs (periods_of_key positions ended own) row.period) found) at_key
    (IsLeastOf-same (SharesDayOfKept periods going row.period) (SharesDayOfKept periods (periods_of_key positions ended own) row.period) same found least)
