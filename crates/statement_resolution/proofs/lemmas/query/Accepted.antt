-- An accepted query by positions: its steps from left to right, and how many tables it has.
use Rattle.std.proofs.Common.{◌≡◌, ◌<◌, ◌≤◌, ◌+◌, ◌*◌, ◌++◌, ◌∷◌, ◌||◌, ◌∙◌, ℕ, Bool, false, List, [], arith, drop, get_or, length, length-append, map, nat_lt, refl, subst, sym, ap}
use Rattle.std.specs.Global.{Box, Vec}
use Rattle.std.specs.List.{list_any}
use Rattle.std.proofs.lemmas.Bool.{or_parts}
use Rattle.std.proofs.lemmas.Bool.Decides.{nat_tests}
use Rattle.sql_statements.proofs.QueryViews.{combined_view, simple_view}
use Rattle.sql_statements.specs.Plain.{plain_query, plain_select, plain_step, steps_of}
use Rattle.sql_statements.specs.Trees as written
use Rattle.sql_statements.specs.Trees.{Select, Steps, combined, last, simple, step}
use Rattle.sql_statements.specs.declared.statement.SelectDistinct.{SelectDistinct}
use Rattle.sql_statements.specs.declared.tree.QueryTree as code
use Rattle.statement_resolution.proofs.lemmas.query.QueryWalks.{Step, Written}
use Rattle.statement_resolution.proofs.lemmas.query.ValuePlaces.{drop_at, drop_past}
use Rattle.statement_resolution.specs.Limits.{most_operators}
use Rattle.statement_resolution.specs.query.Places.{table_count}
use Rattle.catalog_core.specs.query.Queries.{Query, both}
use Rattle.statement_resolution.specs.query.QueryParts.{operator_count, operator_count_among, selects_among, selects_of}
use Rattle.statement_resolution.specs.query.Refusals.{is_above_limit, is_too_long}
use Rattle.statement_resolution.specs.query.Resolving.{ResolvesSteps, ResolvesTree}
use Rattle.statement_resolution.specs.query.Scopes.{tables_of}
use Rattle.catalog_core.specs.declared.table.TableDef.{TableDef}

-- ---- the steps that are left

abbrev pub rest_of : List Step → ℕ → Steps
rest_of steps i = steps_of (map plain_step (drop i steps))

pub rest_at : (steps : List Step) (i : ℕ) (s : Step) → i < length steps → s ≡ get_or steps i s → rest_of steps i ≡ step s.0 (plain_query s.1) (rest_of steps (i + 1))
rest_at steps i s here item = ap (λ (xs : List Step). steps_of (map plain_step xs)) (drop_at steps i s here item)

pub rest_past : (steps : List Step) (i : ℕ) → length steps ≤ i → rest_of steps i ≡ last
rest_past steps i done = ap (λ (xs : List Step). steps_of (map plain_step xs)) (drop_past steps i done)

module _ (catalog : List TableDef) where
  -- the query that is asked, once the steps that are left follow what is on their left
  abbrev pub Follows : written.Query → Query → Steps → Type 0
  Follows whole left steps = (q : Query) → ResolvesSteps catalog left steps q → ResolvesTree catalog whole q

  pub follows_first : (query : Written) (first : Box Written) (steps : Vec Step) (items : List Step) (left : Query) → query ≡ code.Combined first steps → items ≡ steps.items
      → ResolvesTree catalog (plain_query first.value) left → Follows (plain_query query) left (rest_of items 0)
  follows_first query first steps items left is same resolved =
      λ q later. subst (λ (w : written.Query). ResolvesTree catalog w q) (sym (ap plain_query is ∙ combined_view first steps))
      (left, resolved, subst (λ (xs : List Step). ResolvesSteps catalog left (steps_of (map plain_step xs)) q) same later)

  pub follows_next : (whole : written.Query) (left right next : Query) (steps : List Step) (i : ℕ) (s : Step) → i < length steps → s ≡ get_or steps i s
      → Follows whole left (rest_of steps i) → ResolvesTree catalog (plain_query s.1) right → next ≡ both s.0 left right → Follows whole next (rest_of steps (i + 1))
  follows_next whole left right next steps i s here item so_far resolved is =
      λ q later. so_far q (subst (λ (ss : Steps). ResolvesSteps catalog left ss q) (sym (rest_at steps i s here item))
      (right, resolved, subst (λ (l : Query). ResolvesSteps catalog l (rest_of steps (i + 1)) q) is later))

  pub follows_last : (whole : written.Query) (left : Query) (steps : List Step) (i : ℕ) → length steps ≤ i → Follows whole left (rest_of steps i) → ResolvesTree catalog whole left
  follows_last whole left steps i done so_far = so_far left (subst (λ (ss : Steps). ResolvesSteps catalog left ss left) (sym (rest_past steps i done)) refl)

-- ---- the number of tables

count_append : (xs ys : List Select) → table_count (xs ++ ys) ≡ table_count xs + table_count ys
count_append [] ys = omega arith
count_append (x ∷ xs) ys = omega (arith, count_append xs ys)

pub count_one : (query : Written) (s : SelectDistinct) → query ≡ code.Select s → table_count (selects_of (plain_query query)) ≡ length (tables_of (plain_select s))
count_one query s is =
    let sum : length (tables_of (plain_select s)) + 0 ≡ length (tables_of (plain_select s)) = omega arith in
    ap (λ (w : written.Query). table_count (selects_of w)) (ap plain_query is ∙ simple_view s) ∙ sum

pub count_first : (query : Written) (first : Box Written) (steps : Vec Step) (items : List Step) → query ≡ code.Combined first steps → items ≡ steps.items
    → table_count (selects_of (plain_query query)) ≡ table_count (selects_of (plain_query first.value)) + table_count (selects_among (rest_of items 0))
count_first query first steps items is same =
    ap (λ (w : written.Query). table_count (selects_of w)) (ap plain_query is ∙ combined_view first steps)
    ∙ count_append (selects_of (plain_query first.value)) (selects_among (steps_of (map plain_step steps.items)))
    ∙ ap (λ (xs : List Step). table_count (selects_of (plain_query first.value)) + table_count (selects_among (steps_of (map plain_step xs)))) (sym same)

pub count_next : (steps : List Step) (i : ℕ) (s : Step) → i < length steps → s ≡ get_or steps i s
    → table_count (selects_among (rest_of steps i)) ≡ table_count (selects_of (plain_query s.1)) + table_count (selects_among (rest_of steps (i + 1)))
count_next steps i s here item =
    ap (λ (ss : Steps). table_count (selects_among ss)) (rest_at steps i s here item) ∙ count_append (selects_of (plain_query s.1)) (selects_among (rest_of steps (i + 1)))

pub count_last : (steps : List Step) (i : ℕ) → length steps ≤ i → table_count (selects_among (rest_of steps i)) ≡ 0
count_last steps i done = ap (λ (ss : Steps). table_count (selects_among ss)) (rest_past steps i done)

few_tables : (n : ℕ) (b : Bool) → (nat_lt 4 n || b) ≡ false → n ≤ 4
few_tables n b few = let no : nat_lt 4 n ≡ false = (or_parts (nat_lt 4 n) b few).0 in grind (arith, nat_tests)

count_within : (ss : List Select) → list_any is_too_long ss ≡ false → table_count ss ≤ 4 * length ss
unfolding is_too_long
count_within [] few = omega arith
count_within (s ∷ ss) few =
    let parts = or_parts (nat_lt 4 (length (tables_of s)) || nat_lt 32 (length s.items)) (list_any is_too_long ss) few in
    let one : length (tables_of s) ≤ 4 = few_tables (length (tables_of s)) (nat_lt 32 (length s.items)) parts.0 in
    omega (arith, count_within ss parts.1)

mutual
  selects_within : (q : written.Query) → length (selects_of q) ≤ 1 + operator_count q
  selects_within (simple s) = omega arith
  selects_within (combined first steps) = omega (arith, length-append (selects_of first) (selects_among steps), selects_within first, steps_within steps)

  steps_within : (steps : Steps) → length (selects_among steps) ≤ operator_count_among steps
  steps_within last = omega arith
  steps_within (step operator query steps) = omega (arith, length-append (selects_of query) (selects_among steps), selects_within query, steps_within steps)

-- ---- the limits

pub few_references : (query : written.Query) → is_above_limit query ≡ false → 0 + table_count (selects_of query) < 1000
few_references query few_parts =
    let limits = or_parts (nat_lt most_operators (operator_count query)) (list_any is_too_long (selects_of query)) few_parts in
    let operators : nat_lt 16 (operator_count query) ≡ false = limits.0 in
    let few : operator_count query ≤ 16 = grind (arith, nat_tests) in
    omega (arith, few, count_within (selects_of query) limits.1, selects_within query)
