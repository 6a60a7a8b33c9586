use Rattle.std.proofs.Common.{◌+◌, List, get_or, set}
use Rattle.std.proofs.lemmas.Option.{slice_get-get_or}
use Rattle.period_keys.specs.Lawful.{own_positions}
use Rattle.period_keys.specs.TableRows.{TableRows}
use Rattle.period_keys.proofs.Answered.{on_ok}
use Rattle.period_keys.proofs.TableLists.{have_more_set, have_more_trans, written_at}
use Rattle.period_keys.proofs.table_list.index_table.Goals as goal

pub returns-in_err-index_as_child-clause-kept : goal.returns-in_err-index_as_child-clause-kept
returns-in_err-index_as_child-clause-kept c =
    let tables : List TableRows = c.args.tables.now in
    have_more_set tables c.args.place (get_or tables c.args.place c.index-tables-place.result) c.index_as_child.new.table
    (slice_get-get_or tables c.args.place c.index-tables-place.result c.requires.place) c.index_as_child.ensures.kept

pub returns-clause-kept : goal.returns-clause-kept
returns-clause-kept c =
    let tables : List TableRows = c.args.tables.now in
    have_more_trans tables (set tables c.args.place c.index_as_child.new.table) c.index_parents.new.tables
    (have_more_set tables c.args.place (get_or tables c.args.place c.index-tables-place.result) c.index_as_child.new.table
    (slice_get-get_or tables c.args.place c.index-tables-place.result c.requires.place) c.index_as_child.ensures.kept) c.index_parents.ensures.kept

pub returns-clause-ok : goal.returns-clause-ok
returns-clause-ok c =
    let table : TableRows = c.index_as_child.new.table in
    on_ok c.index_parents.result (λ parents reference parent there is. record {
      children = c.index_parents.ensures.kept.indexed (c.args.place + 1) (own_positions c.args.child.now reference)
          (table, written_at c.args.tables.now c.args.place table c.requires.place, c.in_ok-index_as_child.ensures.ok reference there);
      parents = parents reference there parent is;
    }) c.index_parents.ensures.ok
