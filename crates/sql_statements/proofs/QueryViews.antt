-- The program's queries as plain trees.
use Rattle.std.proofs.Common.{◌≡◌, map, sym, ap, ◌∙◌}
use Rattle.sql_statements.specs.declared.tree.QueryTree as code
use Rattle.sql_statements.specs.declared.tree.QueryTree.TheVariants as rolls
use Rattle.sql_statements.specs.declared.tree.QueryTree.TheOpen as layer
use Rattle.sql_statements.specs.declared.tree.QueryTree.TheFolds.{fold-roll-QueryTree}
use Rattle.sql_statements.specs.declared.statement.SelectDistinct as selects
use Rattle.sql_statements.specs.Plain.{plain_query, plain_select, plain_step, query_layer_of, steps_of}
use Rattle.sql_statements.specs.Trees.{Query, simple, combined}

-- a select of the program, as a plain query
pub simple_view : (s : selects.SelectDistinct) → plain_query (code.Select s) ≡ simple (plain_select s)
simple_view s =
    ap plain_query (sym (rolls.rolls-Select s))
    ∙ fold-roll-QueryTree selects.SelectDistinct Query query_layer_of (layer.Select s)

-- a chain of set operators of the program, as a plain query
pub combined_view : (first : _) (steps : _) → plain_query (code.Combined first steps) ≡ combined (plain_query first.value) (steps_of (map plain_step steps.items))
combined_view first steps =
    ap plain_query (sym (rolls.rolls-Combined first steps))
    ∙ fold-roll-QueryTree selects.SelectDistinct Query query_layer_of (layer.Combined first steps)
