-- The size of a query, by which the recursion over it ends.
use Rattle.std.proofs.Common.{◌≡◌, ◌<◌, ◌≤◌, ◌+◌, ◌∷◌, ◌∙◌, ℕ, zero, suc, List, [], arith, get_or, length, map, ap}
use Rattle.std.specs.Global.{Box, Vec}
use Rattle.sql_statements.proofs.QueryViews.{combined_view}
use Rattle.sql_statements.specs.Plain.{plain_query, plain_step, steps_of}
use Rattle.sql_statements.specs.Trees.{Query, Steps, combined, last, simple, step}
use Rattle.sql_statements.specs.declared.tree.QueryTree as code
use Rattle.statement_resolution.proofs.lemmas.query.QueryWalks.{Step, Written}

-- the selects of a query, and the chains of set operators
abbrev mutual
  pub size_of : Query → ℕ
  size_of (simple select) = 1
  size_of (combined first steps) = 1 + (size_of first + size_among steps)

  pub size_among : Steps → ℕ
  size_among last = 0
  size_among (step operator query steps) = size_of query + size_among steps

whole_size : (query : Written) (first : Box Written) (steps : Vec Step) → query ≡ code.Combined first steps
    → size_of (plain_query query) ≡ 1 + (size_of (plain_query first.value) + size_among (steps_of (map plain_step steps.items)))
whole_size query first steps is = ap size_of (ap plain_query is ∙ combined_view first steps)

pub first_smaller : (query q : Written) (first : Box Written) (steps : Vec Step) → query ≡ code.Combined first steps → q ≡ first.value → size_of (plain_query q) < size_of (plain_query query)
first_smaller query q first steps is same =
    let at : size_of (plain_query q) ≡ size_of (plain_query first.value) = ap (λ (w : Written). size_of (plain_query w)) same in
    omega (arith, at, whole_size query first steps is)

among_at : (steps : List Step) (i : ℕ) (d : Step) → i < length steps → size_of (plain_query (get_or steps i d).1) ≤ size_among (steps_of (map plain_step steps))
among_at [] i d here = absurd (omega (arith, here))
among_at (s ∷ steps) zero d here = omega arith
among_at (s ∷ steps) (suc i) d here =
    let later : i < length steps = omega (arith, here) in
    omega (arith, among_at steps i d later)

pub step_smaller : (query : Written) (first : Box Written) (steps : Vec Step) (items : List Step) (i : ℕ) (s : Step) → query ≡ code.Combined first steps → items ≡ steps.items → i < length items → s ≡ get_or items i s
    → size_of (plain_query s.1) < size_of (plain_query query)
step_smaller query first steps items i s is same here item =
    let at : size_of (plain_query s.1) ≡ size_of (plain_query (get_or items i s).1) = ap (λ (x : Step). size_of (plain_query x.1)) item in
    let all : size_among (steps_of (map plain_step items)) ≡ size_among (steps_of (map plain_step steps.items)) = ap (λ (xs : List Step). size_among (steps_of (map plain_step xs))) same in
    omega (arith, at, all, among_at items i s here, whole_size query first steps is)
