use Rattle.std.proofs.Common.{◌≡◌, ◌≤ℤ◌, ℤ, Bool, IfSome, None, Option, Some, inl, inr, refl, sym, true, true≢false}
use Rattle.std.specs.Prelude.{◌↔◌, IsSome, IsTrue, MatchOption}
use Rattle.bitemporal_file.proofs.over.open_engine.Goals as goal

-- the latest moment, where a store is wanted in time
told_time : (latest : Option ℤ) (in_time : Bool) (Tells : ℤ → Type 0) (clock : ℤ) → IsSome latest ↔ IsTrue in_time → IfSome latest Tells → IfSome latest (λ time. clock ≤ℤ time) → in_time ≡ true → (time : ℤ) × Tells time × (clock ≤ℤ time)
told_time (Some time) in_time Tells clock some told by wanted = (time, told, by)
told_time None in_time Tells clock some told by wanted = absurd (true≢false (sym (some.1 wanted)))

-- a clock that is later than the latest moment
late : (latest : Option ℤ) (in_time : Bool) (Tells Ahead : ℤ → Type 0) → IsSome latest ↔ IsTrue in_time → IfSome latest Tells → MatchOption latest ⊥ Ahead → (in_time ≡ true) × ((time : ℤ) × Tells time × Ahead time)
late (Some time) in_time Tells Ahead some told ahead = (some.0 refl, (time, told, ahead))
late None in_time Tells Ahead some told ahead = absurd ahead

pub returns-in-Ok-clause-timely : goal.returns-in-Ok-clause-timely
returns-in-Ok-clause-timely g c = told_time c.latest_of.result c.args.in_time g.C.System.tells c.in-Ok.engine.clock c.latest_of.ensures.wanted c.latest_of.ensures.told c.in-Ok.ensures.by

pub returns-in-Some-clause-refused : goal.returns-in-Some-clause-refused
returns-in-Some-clause-refused g c = let refuses = rw c.in-Some.is at c.in-Err.ensures.refused in inl (c.in-Some.refusal, refuses, refl)

pub returns-in-None-clause-refused : goal.returns-in-None-clause-refused
returns-in-None-clause-refused g c =
    let ahead = rw c.in-None.is at c.in-Err.ensures.refused in
    let (wanted, found) = late c.latest_of.result c.args.in_time g.C.System.tells _ c.latest_of.ensures.wanted c.latest_of.ensures.told ahead in
    inr (wanted, refl, found)
