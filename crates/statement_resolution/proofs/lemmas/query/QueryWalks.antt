-- A query of the program by its parts, in loops over its steps: its selects, its set operators, and
-- their sides.
use Rattle.std.proofs.Common.{◌≡◌, ◌<◌, ◌≤◌, ◌+◌, ◌++◌, ◌∷◌, ◌||◌, ◌∙◌, ℕ, Bool, List, [], Option, None, Some, IfNone, arith, drop, flat_map, get_or, length, length-append, map, refl, sym, take, take_all, ap}
use Rattle.std.specs.Global.{Box, Vec}
use Rattle.std.specs.List.{list_any}
use Rattle.std.proofs.lemmas.List.{length-map, map-append, take-append-drop, take_more}
use Rattle.std.proofs.lemmas.List.Folds.{list_any-append}
use Rattle.std.proofs.lemmas.Grind.{flat_map-append}
use Rattle.sql_statements.proofs.QueryViews.{combined_view}
use Rattle.sql_statements.specs.Plain.{plain_chain, plain_join, plain_query, plain_step, steps_of}
use Rattle.sql_statements.specs.Trees.{Query, Select, Steps}
use Rattle.sql_statements.specs.declared.statement.JoinChain.{JoinChain}
use Rattle.sql_statements.specs.declared.statement.SelectDistinct.{SelectDistinct}
use Rattle.sql_statements.specs.declared.tree.QueryTree as code
use Rattle.sql_statements.specs.declared.tree.SetOperator.{SetOperator}
use Rattle.statement_resolution.proofs.lemmas.judged.FaultSums.{among_after, among_append, both_clear, clear_at, either_assoc, either_crossed, either_turned}
use Rattle.statement_resolution.proofs.lemmas.query.ReferenceLists.{front_tables, front_tables_more, tables_in}
use Rattle.statement_resolution.specs.Faults.{either, faults_among, no_faults}
use Rattle.statement_resolution.specs.query.Faults.{kinds_faults, operand_faults, query_faults, select_faults, side_kinds}
use Rattle.statement_resolution.specs.query.QueryParts.{first_select, operator_count, operator_count_among, selects_among, selects_of, sides_among, sides_of}
use Rattle.statement_resolution.specs.query.Scopes.{chain_tables}
use Rattle.statement_resolution.specs.declared.faults.Faults.{Faults}
use Rattle.catalog_core.specs.declared.table.TableDef.{TableDef}
use Rattle.catalog_core.specs.declared.table.ValueKind.{ValueKind}

-- a set operator, and the query after it
abbrev pub Step : Type 0
Step = SetOperator × code.QueryTree SelectDistinct

abbrev pub Written : Type 0
Written = code.QueryTree SelectDistinct

-- ---- the tables of a select are counted

pub count_more : (chains : List JoinChain) (i : ℕ) (c : JoinChain) → i < length chains → c ≡ get_or chains i c
    → length (front_tables chains (i + 1)) ≡ length (front_tables chains i) + (1 + length c.joins)
count_more chains i c here item =
    let own : length (chain_tables (plain_chain c)) ≡ 1 + length c.joins =
    omega (arith, length-map (map plain_join c.joins) (λ j. j.reference), length-map c.joins plain_join) in
    ap length (front_tables_more chains i c here item) ∙ length-append (front_tables chains i) (chain_tables (plain_chain c)) ∙ ap (λ n. length (front_tables chains i) + n) own

pub count_front : (chains : List JoinChain) (i : ℕ) → length (front_tables chains i) ≤ length (tables_in chains)
count_front chains i =
    let split : tables_in chains ≡ front_tables chains i ++ tables_in (drop i chains) =
    ap tables_in (sym (take-append-drop i chains)) ∙ ap (flat_map chain_tables) (map-append plain_chain (take i chains) (drop i chains))
    ∙ flat_map-append chain_tables (map plain_chain (take i chains)) (map plain_chain (drop i chains)) in
    omega (arith, ap length split ∙ length-append (front_tables chains i) (tables_in (drop i chains)))

-- ---- some select

some_among : (holds : Select → Bool) (steps : List Step) → list_any holds (selects_among (steps_of (map plain_step steps))) ≡ list_any (λ (s : Step). list_any holds (selects_of (plain_query s.1))) steps
some_among holds [] = refl
some_among holds (step ∷ steps) =
    list_any-append holds (selects_of (plain_query step.1)) (selects_among (steps_of (map plain_step steps)))
    ∙ ap (λ (b : Bool). list_any holds (selects_of (plain_query step.1)) || b) (some_among holds steps)

-- a test of some select of a query
abbrev pub some_of : (Select → Bool) → Written → Bool
some_of holds query = list_any holds (selects_of (plain_query query))

abbrev pub some_in_step : (Select → Bool) → Step → Bool
some_in_step holds step = some_of holds step.1

pub some_of_many : (holds : Select → Bool) (first : Box Written) (steps : Vec Step)
    → some_of holds (code.Combined first steps) ≡ (some_of holds first.value || list_any (some_in_step holds) steps.items)
some_of_many holds first steps =
    ap (λ (q : Query). list_any holds (selects_of q)) (combined_view first steps)
    ∙ list_any-append holds (selects_of (plain_query first.value)) (selects_among (steps_of (map plain_step steps.items)))
    ∙ ap (λ (b : Bool). some_of holds first.value || b) (some_among holds steps.items)

-- ---- the set operators are counted

abbrev pub count_of : Written → ℕ
count_of query = operator_count (plain_query query)

abbrev pub count_steps : List Step → ℕ
count_steps steps = operator_count_among (steps_of (map plain_step steps))

count_append : (steps others : List Step) → count_steps (steps ++ others) ≡ count_steps steps + count_steps others
count_append [] others = omega arith
count_append (s ∷ steps) others = omega (arith, count_append steps others)

pub steps_more : (steps : List Step) (i : ℕ) (s : Step) → i < length steps → s ≡ get_or steps i s
    → count_steps (take (i + 1) steps) ≡ count_steps (take i steps) + (1 + count_of s.1)
steps_more steps i s here item =
    let one : count_steps (s ∷ []) ≡ 1 + count_of s.1 = omega arith in
    ap count_steps (take_more steps i s here) ∙ ap (λ (x : Step). count_steps (take i steps ++ x ∷ [])) (sym item)
    ∙ count_append (take i steps) (s ∷ []) ∙ ap (λ n. count_steps (take i steps) + n) one

pub steps_front : (steps : List Step) (i : ℕ) → count_steps (take i steps) ≤ count_steps steps
steps_front steps i =
    omega (arith, ap count_steps (take-append-drop i steps), count_append (take i steps) (drop i steps))

pub count_many : (first : Box Written) (steps : Vec Step) → count_of (code.Combined first steps) ≡ count_of first.value + count_steps steps.items
count_many first steps = ap operator_count (combined_view first steps)

-- ---- faults, of one part after the other

module _ (catalog : List TableDef) where
  -- of the query after a set operator, and of the operator
  abbrev pub step_faults : Select → Step → Faults
  step_faults left step = either (query_faults catalog (plain_query step.1)) (operand_faults catalog (left, first_select (plain_query step.1)))

  of_steps : (left : Select) (steps : List Step)
      → either (faults_among (select_faults catalog) (selects_among (steps_of (map plain_step steps)))) (faults_among (operand_faults catalog) (sides_among left (steps_of (map plain_step steps))))
      ≡ faults_among (step_faults left) steps
  of_steps left [] = refl
  of_steps left (step ∷ steps) =
      let query : Query = plain_query step.1 in
      let rest : Steps = steps_of (map plain_step steps) in
      let here : Faults = operand_faults catalog (left, first_select query) in
      let selects : Faults = faults_among (select_faults catalog) (selects_of query) in
      let sides : Faults = faults_among (operand_faults catalog) (sides_of query) in
      let more_selects : Faults = faults_among (select_faults catalog) (selects_among rest) in
      let more_sides : Faults = faults_among (operand_faults catalog) (sides_among left rest) in
      ap (λ (f : Faults). either f (faults_among (operand_faults catalog) ((left, first_select query) ∷ sides_of query ++ sides_among left rest))) (among_append (select_faults catalog) (selects_of query) (selects_among rest))
      ∙ ap (either (either selects more_selects)) (among_append (operand_faults catalog) ((left, first_select query) ∷ sides_of query) (sides_among left rest))
      ∙ either_crossed selects more_selects (either here sides) more_sides
      ∙ ap (λ (f : Faults). either f (either more_selects more_sides)) (sym (either_turned selects sides here))
      ∙ ap (either (step_faults left step)) (of_steps left steps)

  pub faults_many : (first : Box Written) (steps : Vec Step)
      → query_faults catalog (plain_query (code.Combined first steps)) ≡ either (query_faults catalog (plain_query first.value)) (faults_among (step_faults (first_select (plain_query first.value))) steps.items)
  faults_many first steps =
      let query : Query = plain_query first.value in
      let rest : Steps = steps_of (map plain_step steps.items) in
      let left : Select = first_select query in
      let selects : Faults = faults_among (select_faults catalog) (selects_of query) in
      let more_selects : Faults = faults_among (select_faults catalog) (selects_among rest) in
      ap (query_faults catalog) (combined_view first steps)
      ∙ ap (λ (f : Faults). either f (faults_among (operand_faults catalog) (sides_of query ++ sides_among left rest))) (among_append (select_faults catalog) (selects_of query) (selects_among rest))
      ∙ ap (either (either selects more_selects)) (among_append (operand_faults catalog) (sides_of query) (sides_among left rest))
      ∙ either_crossed selects more_selects (faults_among (operand_faults catalog) (sides_of query)) (faults_among (operand_faults catalog) (sides_among left rest))
      ∙ ap (either (query_faults catalog query)) (of_steps left steps.items)

  -- a query without a fault: its first part and its steps have none
  clear_many : (query : Written) (first : Box Written) (steps : Vec Step) → query ≡ code.Combined first steps → query_faults catalog (plain_query query) ≡ no_faults
      → (query_faults catalog (plain_query first.value) ≡ no_faults) × (faults_among (step_faults (first_select (plain_query first.value))) steps.items ≡ no_faults)
  clear_many query first steps is clean =
      both_clear (query_faults catalog (plain_query first.value)) (faults_among (step_faults (first_select (plain_query first.value))) steps.items)
      (sym (faults_many first steps) ∙ sym (ap (λ q. query_faults catalog (plain_query q)) is) ∙ clean)

  pub clear_first : (query q : Written) (first : Box Written) (steps : Vec Step) → query ≡ code.Combined first steps → q ≡ first.value → query_faults catalog (plain_query query) ≡ no_faults
      → query_faults catalog (plain_query q) ≡ no_faults
  clear_first query q first steps is same clean = ap (λ w. query_faults catalog (plain_query w)) same ∙ (clear_many query first steps is clean).0

  pub clear_step : (query : Written) (first : Box Written) (steps : Vec Step) (items : List Step) (i : ℕ) (s : Step) → query ≡ code.Combined first steps → items ≡ steps.items → i < length items → s ≡ get_or items i s
      → query_faults catalog (plain_query query) ≡ no_faults → query_faults catalog (plain_query s.1) ≡ no_faults
  clear_step query first steps items i s is same here item clean =
      let f : Step → Faults = step_faults (first_select (plain_query first.value)) in
      (both_clear (query_faults catalog (plain_query s.1)) _ (clear_at f items i s here item (ap (faults_among f) same ∙ (clear_many query first steps is clean).1))).0

-- in a loop, with the step in hand
pub step_more : (catalog : List TableDef) (left : Select) (old : Faults) (steps : List Step) (i : ℕ) (s : Step) (before between after : Faults) (kinds next_kinds : List (Option ValueKind))
    → i < length steps → s ≡ get_or steps i s → before ≡ either old (faults_among (step_faults catalog left) (take i steps))
    → between ≡ either before (query_faults catalog (plain_query s.1)) → kinds ≡ side_kinds catalog left → next_kinds ≡ side_kinds catalog (first_select (plain_query s.1))
    → after ≡ either between (kinds_faults kinds next_kinds) → after ≡ either old (faults_among (step_faults catalog left) (take (i + 1) steps))
step_more catalog left old steps i s before between after kinds next_kinds here item so_far of_query of_left of_right of_operator =
    of_operator
    ∙ ap (λ (ks : List (Option ValueKind)). either between (kinds_faults ks next_kinds)) of_left
    ∙ ap (λ (ks : List (Option ValueKind)). either between (kinds_faults (side_kinds catalog left) ks)) of_right
    ∙ ap (λ (f : Faults). either f (operand_faults catalog (left, first_select (plain_query s.1)))) of_query
    ∙ either_assoc before (query_faults catalog (plain_query s.1)) (operand_faults catalog (left, first_select (plain_query s.1)))
    ∙ among_after (step_faults catalog left) old steps i s before (step_faults catalog left s) here item so_far refl

-- ---- more set operators than are left

pub if_none_any : {A : Type 0} (o : Option A) (P : Type 0) → P → IfNone o P
if_none_any None P p = p
if_none_any (Some x) P p = tt

pub too_many : (query : Written) (first : Box Written) (steps : Vec Step) (items : List Step) (room start left i : ℕ) (s : Step)
    → query ≡ code.Combined first steps → items ≡ steps.items → start + count_of first.value ≡ room
    → left + count_steps (take i items) ≡ start → i < length items → s ≡ get_or items i s → left < 1 + count_of s.1 → room < count_of query
too_many query first steps items room start left i s is same begun so_far here item few =
    let whole : count_of query ≡ count_of first.value + count_steps items =
    ap count_of is ∙ count_many first steps ∙ ap (λ (xs : List Step). count_of first.value + count_steps xs) (sym same) in
    omega (arith, steps_more items i s here item, steps_front items (i + 1))

pub left_over : (query : Written) (first : Box Written) (steps : Vec Step) (items : List Step) (room start left i : ℕ)
    → query ≡ code.Combined first steps → items ≡ steps.items → start + count_of first.value ≡ room
    → left + count_steps (take i items) ≡ start → length items ≤ i → left + count_of query ≡ room
left_over query first steps items room start left i is same begun so_far done =
    let whole : count_of query ≡ count_of first.value + count_steps items =
    ap count_of is ∙ count_many first steps ∙ ap (λ (xs : List Step). count_of first.value + count_steps xs) (sym same) in
    omega (arith, ap count_steps (take_all i items done))
