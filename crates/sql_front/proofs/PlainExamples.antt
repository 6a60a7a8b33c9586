-- Worked rows of the program's statements as plain trees.
use denote.RawPtr.{Ptr}
use Rattle.std.proofs.Common.{◌≡◌, [], ◌∷◌, Some, None, codes, refl, sym, ap, ap₂, ◌∙◌, lit≤}
use Rattle.std.specs.Global.{Box, Global, Vec}
use Rattle.sql_statements.specs.declared.statement.Compare.{Compare}
use Rattle.sql_statements.specs.declared.statement.SelectDistinct.{SelectDistinct}
use Rattle.sql_statements.specs.declared.statement.Statement as statements
use Rattle.sql_statements.specs.declared.statement.StatementForm.TheVariants as variant
use Rattle.sql_statements.specs.declared.tree.QueryTree as queries
use Rattle.sql_statements.specs.declared.tree.SetOperator.TheVariants.{Except, Union}
use Rattle.sql_statements.specs.declared.tree.Tree as trees
use Rattle.sql_statements.specs.declared.tree.Tree.TheFolds.{fold-roll-Tree}
use Rattle.sql_statements.specs.declared.tree.Tree.TheOpen as layer
use Rattle.sql_statements.specs.declared.tree.Tree.TheVariants as rolls
use Rattle.sql_statements.specs.Trees.{Condition, Query, Statement, any, combined, conditions_of, delete, last, negated, sequenced, simple, step, test}
use Rattle.sql_statements.specs.Plain.{condition_layer, plain, plain_condition, plain_query, plain_select}
use Rattle.sql_front.proofs.ConditionViews.{or_view, test_view}
use Rattle.sql_statements.proofs.QueryViews.{combined_view, simple_view}

-- wherever in memory the parts lie
module _ (place : Ptr) (global : Global) where
  abbrev boxed : {T : Type 0} → T → Box T
  boxed value = record { ptr = place; alloc = global; value = value }

  abbrev one_other : {T : Type 0} → T → Vec T
  one_other other = record { ptr = place; len = 1; cap = 1; alloc = global; items = other ∷ []; ok = (refl, lit≤ tt); small = lit≤ tt }

  abbrev two_others : {T : Type 0} → T → T → Vec T
  two_others other another = record { ptr = place; len = 2; cap = 2; alloc = global; items = other ∷ another ∷ []; ok = (refl, lit≤ tt); small = lit≤ tt }

  -- ---- conditions

  module _ {T : Type 0} (b c : T) where
    -- the condition NOT c
    abbrev inverse : trees.Tree T
    inverse = trees.Not (boxed (trees.Test c))

    inverse_plain : plain_condition inverse ≡ negated (test c)
    inverse_plain =
        ap plain_condition (sym (rolls.rolls-Not (boxed (trees.Test c))))
        ∙ fold-roll-Tree T (Condition T) condition_layer (layer.Not (boxed (trees.Test c)))
        ∙ ap negated (test_view c)

    -- the condition b OR NOT c
    abbrev either : trees.Tree T
    either = trees.Or (boxed (trees.Test b)) (one_other inverse)

    abbrev either_tree : Condition T
    either_tree = any (conditions_of (test b ∷ negated (test c) ∷ []))

    either_plain : plain_condition either ≡ either_tree
    either_plain =
        or_view (boxed (trees.Test b)) (one_other inverse)
        ∙ ap₂ (λ (t u : Condition T). any (conditions_of (t ∷ u ∷ []))) (test_view b) inverse_plain

  -- ---- changes

  -- DELETE FROM T WHERE b OR NOT c
  abbrev deletion : Compare → Compare → statements.Statement
  deletion b c = record { form = variant.Delete (record { table = codes "T"; portion = None; condition = Some (either b c) }) }

  abbrev deleted : Condition Compare → Statement
  deleted condition = delete (record { table = codes "T"; portion = None; condition = Some condition })

  deletion_plain : (b c : Compare) → plain (deletion b c) ≡ deleted (either_tree b c)
  deletion_plain b c = ap deleted (either_plain b c)

  -- ---- queries

  module _ (s t u : SelectDistinct) where
    -- VALIDTIME s EXCEPT t UNION u
    abbrev question : statements.Statement
    question = record { form = variant.Sequenced (queries.Combined (boxed (queries.Select s)) (two_others (Except, queries.Select t) (Union, queries.Select u))) }

    -- the operators keep their order
    question_plain : plain question ≡ sequenced (combined (simple (plain_select s)) (step Except (simple (plain_select t)) (step Union (simple (plain_select u)) last)))
    question_plain =
        ap sequenced (combined_view (boxed (queries.Select s)) (two_others (Except, queries.Select t) (Union, queries.Select u))
        ∙ ap (λ (q : Query). combined q (step Except (plain_query (queries.Select t)) (step Union (plain_query (queries.Select u)) last))) (simple_view s)
        ∙ ap₂ (λ (q r : Query). combined (simple (plain_select s)) (step Except q (step Union r last))) (simple_view t) (simple_view u))
