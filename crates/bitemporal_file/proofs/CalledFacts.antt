-- The last component of a path, by which the program knows its name.
use Rattle.std.proofs.Common.{◌≡◌, ◌≤◌, ◌<◌, ◌-◌, ◌==◌, ℕ, List, ap, arith, drop, false, get_or, length, true}
use Rattle.std.specs.Prelude.{not}
use Rattle.std.specs.List.{suffix_len}
use Rattle.std.proofs.lemmas.Bool.{not_from_false, not_from_true}
use Rattle.std.proofs.lemmas.List.Sums.{suffix_len_is}
use Rattle.bitemporal_file.specs.Program.{last_component}

pub component-from : (path : List ℕ) (start : ℕ) → start ≤ length path → ((k : ℕ) → start ≤ k → k < length path → (get_or path k 0 == 47) ≡ false) → (0 < start → (get_or path (start - 1) 0 == 47) ≡ true) → drop start path ≡ last_component path
component-from path start within behind slash =
    let rest : suffix_len (λ byte. not (byte == 47)) path ≡ length path - start =
    suffix_len_is (λ byte. not (byte == 47)) path start 0 within (λ k from below. not_from_false (get_or path k 0 == 47) (behind k from below)) (λ some. not_from_true (get_or path (start - 1) 0 == 47) (slash some)) in
    let place : start ≡ length path - suffix_len (λ byte. not (byte == 47)) path = omega (arith, rest, within) in
    ap (λ n. drop n path) place
