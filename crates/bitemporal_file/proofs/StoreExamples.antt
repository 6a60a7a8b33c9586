-- Worked rows: clocks that are ahead of the system's time.
use Rattle.std.specs.Prelude.{◌≡◌, ◌≤ℤ◌, ℤ, false, pos, refl, true}
use Rattle.std.proofs.Common.{arith, inl, inr, subst}
use Rattle.std.proofs.lemmas.Int.{ints}
use Rattle.sqlite.specs.Held.{Held, state}
use Rattle.sqlite.specs.Store.{Ghosts}
use Rattle.version_store.specs.StoreState.{IsUsable}
use Rattle.history_model.specs.Histories.{History, clock_of}
use Rattle.script_engine.specs.engine.Stored.{DatabaseRepresents}
use Rattle.command_line.specs.declared.fault.RunFault.TheVariants.{ClockAhead}
use Rattle.command_line.specs.declared.file_command.Request.{Request}
use Rattle.bitemporal_file.specs.StoreRuns.{IsInTime, IsUnusedFor, is_in_time}

-- --now wants a store in time, and not beside --clock-ahead
now_alone : (asked : Request) → is_in_time (record asked { timed = true; clock_ahead = false }) ≡ true
now_alone asked = refl

now_with_clock_ahead : (asked : Request) → is_in_time (record asked { timed = true; clock_ahead = true }) ≡ false
now_with_clock_ahead asked = refl

module _ {S : Type 0} (g : Ghosts S) (opened left : Held S) where
  -- a store whose clock is at 7 is not used in time if the system told 5 alone
  not_in_time : IsUsable g left → (history : History) → DatabaseRepresents history (state g opened).now → clock_of history ≡ pos 7 → IsInTime g (λ time. time ≡ pos 5) true opened left → ⊥
  not_in_time usable history stands clock in_time =
      let (time, told, by) = in_time refl in
      let bound : pos 7 ≤ℤ time = subst (λ (n : ℤ). n ≤ℤ time) clock (by usable history stands) in
      let wrong : pos 7 ≤ℤ pos 5 = subst (λ (n : ℤ). pos 7 ≤ℤ n) told bound in
      omega (arith, ints, wrong)

  -- one that is not wanted in time is not refused for its clock
  not_refused : (tells : ℤ → Type 0) → IsUnusedFor g tells false opened ClockAhead left → ⊥
  not_refused tells (inl (refusal, refuses, is)) = cc
  not_refused tells (inr (wanted, is, ahead)) = cc
