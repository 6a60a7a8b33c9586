-- Queries in parentheses, read one level below.
use Rattle.std.proofs.Common.{◌≡◌, ℕ, suc, ◌-◌, ◌<◌, List, None, refl, ap, ◌∙◌, arith}
use Rattle.sql_statements.specs.Lexemes.{Lexeme}
use Rattle.sql_front.specs.reading.QueryReaders.{inner_query_read, query_read, steps_read, step_read, term_read, intersections_read, intersection_read, primary_read}

pub inner_none : (n : ℕ) (ts : List Lexeme) → n ≡ 0 → inner_query_read n ts ≡ None
unfolding inner_query_read
inner_none n ts e = rw e refl

below : (n : ℕ) (ts : List Lexeme) → inner_query_read (suc n) ts ≡ query_read n ts
unfolding inner_query_read query_read steps_read step_read term_read intersections_read intersection_read primary_read
below n ts = refl

pub inner_below : (n : ℕ) (ts : List Lexeme) → 0 < n → inner_query_read n ts ≡ query_read (n - 1) ts
inner_below n ts h =
    let e : n ≡ suc (n - 1) = omega arith in
    ap (λ (k : ℕ). inner_query_read k ts) e ∙ below (n - 1) ts

pub ruleset inner_views = (inner_none, inner_below)
