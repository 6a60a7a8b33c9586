-- The parts of a sequenced query: its selects, its set operators, and the two sides of each.
use Rattle.std.specs.Prelude.{◌++◌, ◌+◌, ℕ, List, [], ◌∷◌}
use Rattle.sql_statements.specs.Trees.{Query, Select, Steps, combined, last, simple, step}

-- the selects of a query, in the order of the text
abbrev mutual
  pub selects_of : Query → List Select
  selects_of (simple select) = select ∷ []
  selects_of (combined first steps) = selects_of first ++ selects_among steps

  pub selects_among : Steps → List Select
  selects_among last = []
  selects_among (step operator query steps) = selects_of query ++ selects_among steps

-- the number of set operators of a query, nested ones counted
abbrev mutual
  pub operator_count : Query → ℕ
  operator_count (simple select) = 0
  operator_count (combined first steps) = operator_count first + operator_count_among steps

  pub operator_count_among : Steps → ℕ
  operator_count_among last = 0
  operator_count_among (step operator query steps) =
      1 + operator_count query + operator_count_among steps

-- the first select of a query, which names its columns
abbrev pub first_select : Query → Select
first_select (simple select) = select
first_select (combined first steps) = first_select first

-- the first selects of the two sides of each set operator
abbrev mutual
  pub sides_of : Query → List (Select × Select)
  sides_of (simple select) = []
  sides_of (combined first steps) = sides_of first ++ sides_among (first_select first) steps

  pub sides_among : Select → Steps → List (Select × Select)
  sides_among left last = []
  sides_among left (step operator query steps) =
      (left, first_select query) ∷ sides_of query ++ sides_among left steps
