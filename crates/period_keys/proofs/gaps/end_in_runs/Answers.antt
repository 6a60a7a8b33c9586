use Rattle.std.proofs.Common.{◌≡◌, ◌++◌, ℤ, List, Option, Some, None, inl, inr}
use Rattle.std.specs.Prelude.{MatchOption}
use Rattle.std.specs.List.{Any}
use Rattle.period_core.specs.declared.period.Period.{Period}
use Rattle.period_keys.specs.Keys.{IsWithin}
use Rattle.period_keys.specs.Gaps.{IsHeld}
use Rattle.period_keys.proofs.Members.{Any-append}
use Rattle.period_keys.proofs.gaps.end_in_runs.Goals as goal

-- a period that holds the day, and ends then
abbrev Ends : ℤ → ℤ → Period → Type 0
Ends day end period = IsWithin period day × (period.end ≡ end)

pub returns-in-Some : goal.returns-in-Some
returns-in-Some c = (Any-append (Ends c.args.day c.in-Some.end) c.args.first.now c.args.second.now).1 (inl c.in-Some.ensures)

pub returns-in-Some-end_near : goal.returns-in-Some-end_near
returns-in-Some-end_near c = (Any-append (Ends c.args.day c.in-Some-end_near.end) c.args.first.now c.args.second.now).1 (inr c.in-Some-end_near.ensures)

pub returns-in-Some-end_of_any : goal.returns-in-Some-end_of_any
returns-in-Some-end_of_any c = (Any-append (Ends c.args.day c.in-Some-end_of_any.end) c.args.first.now c.args.second.now).1 (inl c.in-Some-end_of_any.ensures)

-- if no period of the first list holds the day, a period of the second may
of_second : (first second : List Period) (day : ℤ) (found : Option ℤ) → (IsHeld first day → ⊥) → MatchOption found (IsHeld second day → ⊥) (λ end. Any (Ends day end) second)
    → MatchOption found (IsHeld (first ++ second) day → ⊥) (λ end. Any (Ends day end) (first ++ second))
of_second first second day (Some end) none found = (Any-append (Ends day end) first second).1 (inr found)
of_second first second day None none found = λ held. elim ((Any-append (λ (period : Period). IsWithin period day) first second).0 held) [ inl one ↦ none one | inr other ↦ found other ]

pub returns : goal.returns
returns c = of_second c.args.first.now c.args.second.now c.args.day c.end_of_any-2.result (λ held. c.in_default-end_of_any.ensures held) c.end_of_any-2.ensures
