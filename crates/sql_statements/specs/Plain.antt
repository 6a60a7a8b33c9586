-- The program's trees as plain trees.
use Rattle.std.specs.Prelude.{List, [], ◌∷◌, map}
use Rattle.std.specs.Option.{option_map}
use Rattle.sql_statements.specs.declared.tree.SetOperator.{SetOperator}
use Rattle.sql_statements.specs.declared.tree.Tree as trees
use Rattle.sql_statements.specs.declared.tree.Tree.TheOpen as layer
use Rattle.sql_statements.specs.declared.tree.Tree.TheFolds.{fold-Tree}
use Rattle.sql_statements.specs.declared.tree.QueryTree as queries
use Rattle.sql_statements.specs.declared.tree.QueryTree.TheOpen as query_layer
use Rattle.sql_statements.specs.declared.tree.QueryTree.TheFolds.{fold-QueryTree}
use Rattle.sql_statements.specs.declared.statement.Join as joins
use Rattle.sql_statements.specs.declared.statement.JoinChain as chains
use Rattle.sql_statements.specs.declared.statement.SelectDistinct as selects
use Rattle.sql_statements.specs.declared.statement.UpdateRows as updates
use Rattle.sql_statements.specs.declared.statement.DeleteRows as deletes
use Rattle.sql_statements.specs.declared.statement.StoredQuery as stored_queries
use Rattle.sql_statements.specs.declared.statement.Statement as statements
use Rattle.sql_statements.specs.declared.statement.StatementForm as forms
use Rattle.sql_statements.specs.declared.statement.StatementForm.TheVariants as variant
use Rattle.sql_statements.specs.Trees.{Condition, any, all, more, negated, test, conditions_of}
use Rattle.sql_statements.specs.Trees.{Join, JoinChain, Select, Query, simple, combined, Steps}
use Rattle.sql_statements.specs.Trees.{last, step, Update, Delete, Stored, Statement, at, create}
use Rattle.sql_statements.specs.Trees.{insert, update, delete, sequenced, stored}

-- one layer of a condition, over what its parts are
abbrev pub condition_layer : {T : Type 0} → layer.Tree-F T (Condition T) → Condition T
condition_layer (layer.Or first others) = any (more first.value (conditions_of others.items))
condition_layer (layer.And first others) = all (more first.value (conditions_of others.items))
condition_layer (layer.Not part) = negated part.value
condition_layer (layer.Test leaf) = test leaf

-- a condition, as a plain tree
abbrev pub plain_condition : {T : Type 0} → trees.Tree T → Condition T
plain_condition {T} = fold-Tree T (Condition T) condition_layer

-- a join, as a plain tree
abbrev pub plain_join : joins.Join → Join
plain_join j = record { reference = j.reference; condition = plain_condition j.condition }

-- a chain of joins, as a plain tree
abbrev pub plain_chain : chains.JoinChain → JoinChain
plain_chain c = record { first = c.first; joins = map plain_join c.joins }

-- a select, as a plain tree
abbrev pub plain_select : selects.SelectDistinct → Select
plain_select s = record {
  items = s.items;
  chains = map plain_chain s.chains;
  condition = option_map plain_condition s.condition;
}

-- set operators with the queries after them
abbrev pub steps_of : List (SetOperator × Query) → Steps
steps_of [] = last
steps_of (s ∷ more_steps) = step s.0 s.1 (steps_of more_steps)

-- one layer of a query
abbrev pub query_layer_of : query_layer.QueryTree-F selects.SelectDistinct Query → Query
query_layer_of (query_layer.Select s) = simple (plain_select s)
query_layer_of (query_layer.Combined first steps) = combined first.value (steps_of steps.items)

-- a query, as a plain tree
abbrev pub plain_query : queries.QueryTree selects.SelectDistinct → Query
plain_query = fold-QueryTree selects.SelectDistinct Query query_layer_of

-- a set operator with the query after it, as a plain tree
abbrev pub plain_step : SetOperator × queries.QueryTree selects.SelectDistinct → SetOperator × Query
plain_step s = (s.0, plain_query s.1)

-- an UPDATE, as a plain tree
abbrev pub plain_update : updates.UpdateRows → Update
plain_update u = record {
  table = u.table;
  portion = u.portion;
  assignments = u.assignments;
  condition = option_map plain_condition u.condition;
}

-- a DELETE, as a plain tree
abbrev pub plain_delete : deletes.DeleteRows → Delete
plain_delete d = record {
  table = d.table;
  portion = d.portion;
  condition = option_map plain_condition d.condition;
}

-- a stored query, as a plain tree
abbrev pub plain_stored : stored_queries.StoredQuery → Stored
plain_stored s = record {
  table = s.table;
  window = s.window;
  condition = option_map plain_condition s.condition;
}

-- the plain tree of a statement
abbrev pub plain_form : forms.StatementForm → Statement
plain_form (variant.At moment) = at moment
plain_form (variant.Create table) = create table
plain_form (variant.Insert rows) = insert rows
plain_form (variant.Update rows) = update (plain_update rows)
plain_form (variant.Delete rows) = delete (plain_delete rows)
plain_form (variant.Sequenced query) = sequenced (plain_query query)
plain_form (variant.Stored query) = stored (plain_stored query)

-- the statement as a plain tree
abbrev pub plain : statements.Statement → Statement
plain statement = plain_form statement.form
