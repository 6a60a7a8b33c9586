use Rattle.std.proofs.Common.{◌∙◌, subst, sym}
use Rattle.script_engine.specs.engine.Stored.{TablesRepresent}
use Rattle.script_engine.proofs.Needed.{needed_always}
use Rattle.script_engine.proofs.engine.needed_rows.needed_after.Goals as goal

pub returns-clause-needed : goal.returns-clause-needed
returns-clause-needed c = λ history represents wide.
    let its : TablesRepresent history c.looked_up_after.new.tables = subst (TablesRepresent history) (sym (c.looked_up_after.ensures.same ∙ c.rows_left.ensures.same)) represents in
    needed_always history c.args.starts.now c.args.lists.now c.args.conditions.now.conjuncts.now c.args.conditions.now.start c.args.conditions.now.reference.now c.in_ok-needed_by.field-0.items
    (c.in_ok-needed_by.ensures.needed history its wide c.in_ok-alone.ensures.left)
