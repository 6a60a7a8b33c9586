use Rattle.std.proofs.Common.{◌++◌, ◌∙◌, ℕ, List, map, sym, subst}
use Rattle.std.specs.Prelude.{IsPermutation}
use Rattle.std.proofs.lemmas.List.Sorted.{IsPermutation-append_comm, IsPermutation-map, IsPermutation-sym, IsPermutation-trans}
use Rattle.period_core.specs.declared.row.PeriodRow.{PeriodRow}
use Rattle.period_core.specs.declared.version.VersionRow.{VersionRow}
use Rattle.history_model.specs.Versions.{row_of}
use Rattle.period_keys.specs.declared.period_indexes.PeriodIndex.{PeriodIndex}
use Rattle.period_keys.specs.declared.secondary_index.SecondaryIndex.{SecondaryIndex}
use Rattle.period_keys.specs.PeriodIndexes.{EachIndexes}
use Rattle.period_keys.specs.Versions.{begun}
use Rattle.period_keys.proofs.Partly.{begun_rows, each_moved, rows_joined, written_back}
use Rattle.period_keys.proofs.RowsWithin.{entries_back, entries_moved}
use Rattle.period_keys.proofs.table_index.TableIndex.add_all.Goals as goal

pub invariant_of-self : goal.invariant_of-self
invariant_of-self c =
    let key : List ℕ = c.self.inside.rows.positions in
    let old : List VersionRow = c.self.inside.rows.rows in (
      c.self.invariant.0,
      entries_back key key old old c.self.inside.secondary.len c.self.inside.secondary.items c.as_mut_slice.result.now c.add_entries_to_each.new.indexes c.as_mut_slice.ensures.value c.as_mut_slice.ensures.len c.add_entries_to_each.ensures.size
          (λ have. c.add_entries_to_each.ensures.kept key old have) c.self.invariant.1,
    )

pub invariant_of-self-in_err-add_all : goal.invariant_of-self-in_err-add_all
invariant_of-self-in_err-add_all c =
    let key : List ℕ = c.self.inside.rows.positions in
    let old : List VersionRow = c.self.inside.rows.rows in
    let new : List VersionRow = c.add_all.new.self.rows in
    let entered : List SecondaryIndex = c.add_entries_to_each.new.indexes in
    let same = c.in_err-add_all.ensures.err in (
      each_moved (map row_of old) (map row_of new) c.self.inside.indexes.items (IsPermutation-sym (map row_of new) (map row_of old) (IsPermutation-map row_of new old same.rows)) c.self.invariant.0,
      entries_back key c.add_all.new.self.positions old new c.self.inside.secondary.len c.self.inside.secondary.items c.as_mut_slice.result.now entered c.as_mut_slice.ensures.value c.as_mut_slice.ensures.len c.add_entries_to_each.ensures.size
          (λ have. entries_moved key c.add_all.new.self.positions old new entered same.positions same.rows (c.add_entries_to_each.ensures.kept key old have)) c.self.invariant.1,
    )

pub invariant_of-self-in-Err : goal.invariant_of-self-in-Err
invariant_of-self-in-Err c =
    let key : List ℕ = c.self.inside.rows.positions in
    let old : List VersionRow = c.self.inside.rows.rows in
    let back : List VersionRow = c.undo_add.new.self.rows in
    let given : List PeriodIndex = c.as_mut_slice-2.result.now in
    let new : List PeriodIndex = c.add_to_each.new.indexes in
    let entered : List SecondaryIndex = c.add_entries_to_each.new.indexes in
    let same : IsPermutation back old = c.undo_add.ensures.rows old c.in_ok-add_all.ensures.ok.rows in (
      subst (EachIndexes (map row_of back)) (sym (written_back c.self.inside.indexes.len c.self.inside.indexes.items given new c.as_mut_slice-2.ensures.value c.as_mut_slice-2.ensures.len c.add_to_each.ensures.same))
          (each_moved (map row_of old) (map row_of back) new (IsPermutation-sym (map row_of back) (map row_of old) (IsPermutation-map row_of back old same))
          (c.in-Err.ensures.err (map row_of old) (subst (EachIndexes (map row_of old)) (sym c.as_mut_slice-2.ensures.value) c.self.invariant.0))),
      entries_back key c.undo_add.new.self.positions old back c.self.inside.secondary.len c.self.inside.secondary.items c.as_mut_slice.result.now entered c.as_mut_slice.ensures.value c.as_mut_slice.ensures.len c.add_entries_to_each.ensures.size
          (λ have. entries_moved key c.undo_add.new.self.positions old back entered (c.undo_add.ensures.same ∙ c.in_ok-add_all.ensures.ok.positions) same (c.add_entries_to_each.ensures.kept key old have)) c.self.invariant.1,
    )

pub invariant_of-self-in_default : goal.invariant_of-self-in_default
invariant_of-self-in_default c =
    let key : List ℕ = c.self.inside.rows.positions in
    let rows : List PeriodRow = c.args.rows.now in
    let first : List VersionRow = map (begun c.args.moment) rows in
    let old : List VersionRow = c.self.inside.rows.rows in
    let all : List VersionRow = c.add_all.new.self.rows in
    let given : List PeriodIndex = c.as_mut_slice-2.result.now in
    let new : List PeriodIndex = c.add_to_each.new.indexes in
    let entered : List SecondaryIndex = c.add_entries_to_each.new.indexes in
    let joined : IsPermutation (map row_of all) (rows ++ map row_of old) = rows_joined all first old rows c.in_ok-add_all.ensures.ok.rows (begun_rows c.args.moment rows) in
    let order : IsPermutation (map row_of old ++ rows) (map row_of all) =
    IsPermutation-trans (map row_of old ++ rows) (rows ++ map row_of old) (map row_of all) (IsPermutation-append_comm (map row_of old) rows) (IsPermutation-sym (map row_of all) (rows ++ map row_of old) joined) in (
      subst (EachIndexes (map row_of all)) (sym (written_back c.self.inside.indexes.len c.self.inside.indexes.items given new c.as_mut_slice-2.ensures.value c.as_mut_slice-2.ensures.len c.add_to_each.ensures.same))
          (each_moved (map row_of old ++ rows) (map row_of all) new order
          (c.in_default.ensures.ok (map row_of old) (subst (EachIndexes (map row_of old)) (sym c.as_mut_slice-2.ensures.value) c.self.invariant.0))),
      entries_back key c.add_all.new.self.positions old all c.self.inside.secondary.len c.self.inside.secondary.items c.as_mut_slice.result.now entered c.as_mut_slice.ensures.value c.as_mut_slice.ensures.len c.add_entries_to_each.ensures.size
          (λ have. entries_moved key c.add_all.new.self.positions (first ++ old) all entered c.in_ok-add_all.ensures.ok.positions c.in_ok-add_all.ensures.ok.rows (c.in_ok-add_entries_to_each.ensures.ok key old c.args.moment have)) c.self.invariant.1,
    )
