use Rattle.std.proofs.Common.{◌≡◌, ◌≤◌, ◌<◌, ◌-◌, ◌==◌, ℕ, false, get_or, true}
use Rattle.bitemporal_file.proofs.program.component_of.Given as goal

abbrev pub invariant-loop-i : goal.invariant-loop-i
invariant-loop-i l = record {
  within : l.start ≤ l.i;
  behind : (k : ℕ) → l.start ≤ k → k < l.i → (get_or l.path k 0 == 47) ≡ false;
  slash : 0 < l.start → (get_or l.path (l.start - 1) 0 == 47) ≡ true;
}
