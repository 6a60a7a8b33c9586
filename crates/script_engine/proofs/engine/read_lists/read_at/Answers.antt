use Rattle.std.proofs.Common.{◌<◌, ℕ, List, Option, Some, set, subst, sym}
use Rattle.period_core.specs.declared.row.PeriodRow.{PeriodRow}
use Rattle.std.proofs.lemmas.List.{length-set}
use Rattle.script_engine.specs.engine.Needed.{IsNeededAfter, ReadOn, SeesWidth}
use Rattle.script_engine.proofs.Needed.{kept_set, read_at_place, read_set}
use Rattle.script_engine.proofs.engine.read_lists.read_at.Goals as goal

pub returns-clause-read : goal.returns-clause-read
returns-clause-read c =
    let select = c.args.select.now in
    let lists : List (Option (List PeriodRow)) = c.args.lists.now.items in
    let conditions = c.conditions_of-conditions.result in
    let reference = conditions.reference.now in
    let rows : List PeriodRow = c.in-Some.rows.items in
    subst (λ (l : List PeriodRow). ReadOn c.args.tables.now select lists (set lists c.args.place (Some l))) (sym c.from_vec.ensures) (record {
      count = length-set lists c.args.place (Some rows);
      kept = kept_set lists c.args.place rows;
      needed = λ history represents known starts_are old.
          let needed : SeesWidth history reference conditions.width → IsNeededAfter history select.starts.now lists conditions.conjuncts.now conditions.start reference rows = λ wide.
          subst (λ (seen : List (Option (List PeriodRow))). IsNeededAfter history select.starts.now seen conditions.conjuncts.now conditions.start reference rows) c.as_slice-seen.ensures.value
          ((rw c.in-Some.is at c.in_ok-found.ensures.needed) history represents wide) in
          read_at_place history represents.contents select.references.now select.starts.now lists select.conjuncts.now conditions.conjuncts.now c.args.place conditions.start conditions.width reference rows
          represents.said known starts_are c.conditions_of-conditions.ensures.conjuncts c.conditions_of-conditions.ensures.reference c.conditions_of-conditions.ensures.start c.conditions_of-conditions.ensures.width needed old;
    })

pub returns-clause-there : goal.returns-clause-there
returns-clause-there c = λ whole. read_set c.args.lists.now.items c.args.place c.from_vec.result (subst (λ (long : ℕ). c.args.place < long) (sym c.requires.places.1) c.requires.place)
