use Rattle.std.proofs.Common.{◌≡◌, ◌+◌, ◌++◌, ◌∷◌, [], ℕ, List, sym, subst}
use Rattle.std.specs.List.{insert}
use Rattle.std.specs.List.Sorted.{IsPermutation}
use Rattle.std.proofs.lemmas.List.Sorted.{IsPermutation-sym, IsPermutation-trans}
use Rattle.period_core.specs.declared.period.Period.{Period}
use Rattle.period_keys.proofs.InOrder.{inserted}
use Rattle.period_keys.proofs.Runs.{AreRuns, ComesIn, comes_late, settles}
use Rattle.period_keys.proofs.ordered_periods.OrderedPeriods.add.Goals as goal

pub invariant_of-self-then-settles : goal.invariant_of-self-then-settles
invariant_of-self-then-settles c =
    let own = c.args.self.now in
    let x : Period = c.args.period in
    let place : ℕ = c.insertion_point-place.result.0 in
    let put : c.insert.new.self.items ≡ insert own.items.items place x = c.in_ok-insert.ensures.items in
    let runs : AreRuns own.settled own.items.items = record { within = own.within; ordered = own.ordered; late = own.late } in
    let comes : ComesIn x.start own.settled own.items.items place c.insertion_point-place.result.1 =
    subst (λ (ps : List Period). ComesIn x.start own.settled ps place c.insertion_point-place.result.1) c.as_slice.ensures.value (c.insertion_point-place.ensures.settles, c.insertion_point-place.ensures.late) in
    let fits = comes.0 c.if-settles.true in
    let left : AreRuns (own.settled + 1) c.insert.new.self.items = subst (AreRuns (own.settled + 1)) (sym put) (settles own.settled place own.items.items x runs fits.0 fits.1) in
    record { within = left.within; ordered = left.ordered; late = left.late }

pub invariant_of-self-else-settles : goal.invariant_of-self-else-settles
invariant_of-self-else-settles c =
    let own = c.args.self.now in
    let x : Period = c.args.period in
    let place : ℕ = c.insertion_point-place.result.0 in
    let put : c.insert.new.self.items ≡ insert own.items.items place x = c.in_ok-insert.ensures.items in
    let runs : AreRuns own.settled own.items.items = record { within = own.within; ordered = own.ordered; late = own.late } in
    let comes : ComesIn x.start own.settled own.items.items place c.insertion_point-place.result.1 =
    subst (λ (ps : List Period). ComesIn x.start own.settled ps place c.insertion_point-place.result.1) c.as_slice.ensures.value (c.insertion_point-place.ensures.settles, c.insertion_point-place.ensures.late) in
    let (p, is, fits) = comes.1 c.if-settles.false in
    let left : AreRuns own.settled c.insert.new.self.items = subst (AreRuns own.settled) (sym put) (comes_late own.settled place p own.items.items x runs is fits) in
    record { within = left.within; ordered = left.ordered; late = left.late }

-- the periods with one more at its place are the old ones and it
more : (old new : List Period) (place : ℕ) (x : Period) → new ≡ insert old place x → IsPermutation new (old ++ x ∷ [])
more old new place x put = subst (λ (xs : List Period). IsPermutation xs (old ++ x ∷ [])) (sym put) (inserted old place x)

pub returns-then-settles-clause-ok : goal.returns-then-settles-clause-ok
returns-then-settles-clause-ok c = more c.args.self.now.items.items c.insert.new.self.items c.insertion_point-place.result.0 c.args.period c.in_ok-insert.ensures.items

pub returns-then-should_merge-clause-ok : goal.returns-then-should_merge-clause-ok
returns-then-should_merge-clause-ok c =
    IsPermutation-trans c.settle.new.self.items.items c.insert.new.self.items (c.args.self.now.items.items ++ c.args.period ∷ [])
    (IsPermutation-sym c.insert.new.self.items c.settle.new.self.items.items c.settle.ensures)
    (more c.args.self.now.items.items c.insert.new.self.items c.insertion_point-place.result.0 c.args.period c.in_ok-insert.ensures.items)

pub returns-else-should_merge-clause-ok : goal.returns-else-should_merge-clause-ok
returns-else-should_merge-clause-ok c = more c.args.self.now.items.items c.insert.new.self.items c.insertion_point-place.result.0 c.args.period c.in_ok-insert.ensures.items
