use Rattle.std.proofs.Common.{◌≡◌, ◌<◌, ◌-◌, ◌∷◌, ℕ, List, length, get_or, sym, subst, arith}
use Rattle.std.specs.List.{remove}
use Rattle.std.specs.List.Sorted.{IsPermutation}
use Rattle.std.proofs.lemmas.List.Sorted.{IsPermutation-remove}
use Rattle.period_core.specs.declared.period.Period.{Period}
use Rattle.period_keys.proofs.Runs.{AreRuns, late_gone, settled_gone}
use Rattle.period_keys.proofs.ordered_periods.OrderedPeriods.take_one.Goals as goal

pub invariant_of-self : goal.invariant_of-self
invariant_of-self c =
    let own = c.args.self.now in
    let runs : AreRuns own.settled own.items.items = record { within = own.within; ordered = own.ordered; late = own.late } in
    let left : AreRuns (own.settled - 1) c.remove-taken.new.self.items =
    subst (AreRuns (own.settled - 1)) (sym c.remove-taken.ensures.items) (settled_gone own.settled c.in-Some.place own.items.items runs c.if-place-self.true) in
    record { within = left.within; ordered = left.ordered; late = left.late }

pub invariant_of-self-else-place-self : goal.invariant_of-self-else-place-self
invariant_of-self-else-place-self c =
    let own = c.args.self.now in
    let there : c.in-Some.place < length own.items.items = c.in-Some.ensures.0 in
    let runs : AreRuns own.settled own.items.items = record { within = own.within; ordered = own.ordered; late = own.late } in
    let left : AreRuns own.settled c.remove-taken.new.self.items =
    subst (AreRuns own.settled) (sym c.remove-taken.ensures.items) (late_gone own.settled c.in-Some.place own.items.items runs (omega (arith, c.if-place-self.false)) there) in
    record { within = left.within; ordered = left.ordered; late = left.late }

-- the periods without the one at a place are the old ones but for it
less : (old new : List Period) (place : ℕ) (x : Period) → new ≡ remove old place → (place < length old) × (get_or old place x ≡ x) → IsPermutation old (x ∷ new)
less old new place x gone there = subst (λ rest. IsPermutation old (x ∷ rest)) (sym gone) (IsPermutation-remove old place x there.0 (sym there.1))

pub returns-then-place-self-clause-taken : goal.returns-then-place-self-clause-taken
returns-then-place-self-clause-taken c = less c.args.self.now.items.items c.remove-taken.new.self.items c.in-Some.place c.args.period.now c.remove-taken.ensures.items c.in-Some.ensures

pub returns-else-place-self-clause-taken : goal.returns-else-place-self-clause-taken
returns-else-place-self-clause-taken c = less c.args.self.now.items.items c.remove-taken.new.self.items c.in-Some.place c.args.period.now c.remove-taken.ensures.items c.in-Some.ensures
