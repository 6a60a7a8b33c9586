use Rattle.std.proofs.Common.{◌++◌, List, map, sym, subst}
use Rattle.std.specs.Prelude.{IsPermutation}
use Rattle.period_core.specs.declared.row.PeriodRow.{PeriodRow}
use Rattle.period_core.specs.declared.version.VersionRow.{VersionRow}
use Rattle.history_model.specs.Versions.{row_of}
use Rattle.period_keys.specs.declared.period_indexes.PeriodIndex.{PeriodIndex}
use Rattle.period_keys.specs.PeriodIndexes.{EachIndexes}
use Rattle.period_keys.specs.TableRows.{TableRows}
use Rattle.period_keys.specs.Versions.{begun}
use Rattle.period_keys.proofs.Partly.{begun_rows, each_after_taken, written_back}
use Rattle.period_keys.proofs.RowsWithin.{entries_left}
use Rattle.period_keys.proofs.table_index.TableIndex.undo_add.Goals as goal

pub invariant_of-self : goal.invariant_of-self
invariant_of-self c =
    let rows : List PeriodRow = c.args.rows.now in
    let first : List VersionRow = map (begun c.args.moment) rows in
    let old : List VersionRow = c.self.inside.rows.rows in
    let items : List PeriodIndex = c.self.inside.indexes.items in
    let given : List PeriodIndex = c.as_mut_slice.result.now in
    let new : List PeriodIndex = c.take_from_each.new.indexes in
    let (rest, there) = c.requires.there in
    let moved : IsPermutation old (first ++ rest) = subst (λ (t : TableRows). IsPermutation t.rows (first ++ rest)) (sym c.self.view_is) there in (
      subst (EachIndexes (map row_of c.undo_add.new.self.rows)) (sym (written_back c.self.inside.indexes.len items given new c.as_mut_slice.ensures.value c.as_mut_slice.ensures.len c.take_from_each.ensures.same))
          (each_after_taken old c.undo_add.new.self.rows first rest rows given new moved (c.undo_add.ensures.rows rest moved) (begun_rows c.args.moment rows) c.take_from_each.ensures.rows
          (subst (EachIndexes (map row_of old)) (sym c.as_mut_slice.ensures.value) c.self.invariant.0)),
      entries_left c.self.inside.rows.positions c.undo_add.new.self.positions old c.undo_add.new.self.rows first rest c.self.inside.secondary.items c.undo_add.ensures.same moved (c.undo_add.ensures.rows rest moved) c.self.invariant.1,
    )
