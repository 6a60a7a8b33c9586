-- The bytes taken from a reader are the front of those that it had.
use Rattle.std.proofs.Common.{◌≡◌, ◌≤◌, ◌+◌, ℕ, List, [], ◌++◌, Option, Some, None, length, length-append, take, IfSome, refl, ◌∙◌, arith}
use Rattle.std.proofs.lemmas.List.{append-nil, take_all, take-append-le}
use Rattle.std.proofs.KnownBytes.{Consumes-trans}
use Rattle.std.specs.Io.KnownBytes.{Consumes, IsAtEnd}
use Rattle.command_line.specs.Reading.{TakesAtMost}

pub taken-front : (before after : Option (List ℕ)) (text : List ℕ) (n : ℕ) → Consumes before after text → length text ≡ n → IfSome before (λ all. text ≡ take n all)
taken-front None after text n taken len = tt
taken-front (Some all) None text n taken len = absurd taken
taken-front (Some all) (Some rest) text n taken len =
    let enough : n ≤ length text = omega arith in
    let low : length text ≤ n = omega arith in
    rw (taken, take-append-le n text rest enough, take_all n text low) refl

pub taken-whole : (before mid after : Option (List ℕ)) (text none : List ℕ) (n : ℕ) → Consumes before mid text → Consumes mid after none → none ≡ [] → IsAtEnd after → length text ≤ n → IfSome before (λ all. text ≡ take n all)
taken-whole None mid after text none n taken last empty end low = tt
taken-whole (Some all) None after text none n taken last empty end low = absurd taken
taken-whole (Some all) (Some rest) None text none n taken last empty end low = absurd last
taken-whole (Some all) (Some rest) (Some left) text none n taken last empty end low =
    let nothing : rest ≡ [] = rw (empty, end) at last in
    let same : all ≡ text = rw nothing at taken ∙ append-nil text in
    rw (same, take_all n text low) refl

pub taken-more : (before mid after : Option (List ℕ)) (text more : List ℕ) (n : ℕ) → Consumes before mid text → Consumes mid after more → length text + length more ≤ n → TakesAtMost n before after
taken-more before mid after text more n taken last low =
    (text ++ more, Consumes-trans before mid after text more taken last, omega (arith, length-append text more, low))
