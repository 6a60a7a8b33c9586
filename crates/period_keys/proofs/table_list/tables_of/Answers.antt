use Rattle.std.proofs.Common.{◌≡◌, ◌++◌, ◌∷◌, [], ◌∙◌, List, ap, arith, append-nil, append_assoc, length, map, subst, sym}
use Rattle.std.proofs.lemmas.List.{length-map, map-append, nil_from_length}
use Rattle.catalog_core.specs.declared.table.TableDef.{TableDef}
use Rattle.period_keys.specs.Current.{HaveIndexes, rows_by_key}
use Rattle.period_keys.specs.Rows.{RowsByKey}
use Rattle.period_keys.specs.TableRows.{TableRows}
use Rattle.period_keys.proofs.TableLists.{rows_are, same_count, written_over}
use Rattle.period_keys.proofs.table_list.tables_of.Goals as goal

-- all rows have their tables once none is left
all_taken : (tables : List TableRows) (left rows : List RowsByKey) → left ≡ [] → map rows_by_key tables ++ left ≡ rows → map rows_by_key tables ≡ rows
all_taken tables left rows none are = sym (append-nil (map rows_by_key tables)) ∙ ap (λ (list : List RowsByKey). map rows_by_key tables ++ list) (sym none) ∙ are

pub loop-table-init : goal.loop-table-init
loop-table-init c =
    ap (λ (list : List TableRows). map rows_by_key list ++ c.into_iter-table-iterator.result.rest.items) c.new-tables.ensures.items ∙ c.into_iter-table-iterator.ensures.into_iter_gives.0

pub loop-table-preserved : goal.loop-table-preserved
loop-table-preserved c =
    let was : List TableRows = c.loop-table.tables.items in
    let left : List RowsByKey = c.next.new.self.rest.items in
    let new : TableRows = c.new.result in
    let front : List RowsByKey = map rows_by_key was in
    ap (λ (list : List TableRows). map rows_by_key list ++ left) c.in_ok-push.ensures.items
    ∙ ap (λ (list : List RowsByKey). list ++ left) (map-append rows_by_key was (new ∷ []))
    ∙ append_assoc front (rows_by_key new ∷ []) left
    ∙ ap (λ (t : RowsByKey). front ++ t ∷ left) (rows_are new c.in-Some.table c.new.ensures.positions c.new.ensures.rows)
    ∙ ap (λ (list : List RowsByKey). front ++ list) (sym c.in-Some.ensures.steps.0)
    ∙ c.loop-table.invariant

pub index_all-requires : goal.index_all-requires
index_all-requires c =
    let tables : List TableRows = c.loop-table.tables.items in
    ap length c.as_mut_slice.ensures.value ∙ sym (length-map tables rows_by_key)
    ∙ ap length (all_taken tables c.loop-table.table-iterator.rest.items c.args.rows.items (nil_from_length c.loop-table.table-iterator.rest.items (grind (arith, c.loop-table.table-iterator.rest.ok, c.in-None.ensures.steps))) c.loop-table.invariant)
    ∙ c.requires ∙ sym (ap length c.as_slice.ensures)

pub returns-clause-rows : goal.returns-clause-rows
returns-clause-rows c =
    let tables : List TableRows = c.loop-table.tables.items in
    let given : List TableRows = c.as_mut_slice.result.now in
    let new : List TableRows = c.index_all.new.tables in
    let left = written_over c.loop-table.tables.len tables given new c.as_mut_slice.ensures.value c.as_mut_slice.ensures.len (same_count given new c.index_all.ensures.kept) in
    ap (map rows_by_key) left ∙ c.index_all.ensures.kept.same ∙ ap (map rows_by_key) c.as_mut_slice.ensures.value
    ∙ all_taken tables c.loop-table.table-iterator.rest.items c.args.rows.items (nil_from_length c.loop-table.table-iterator.rest.items (grind (arith, c.loop-table.table-iterator.rest.ok, c.in-None.ensures.steps))) c.loop-table.invariant

pub returns-clause-indexed : goal.returns-clause-indexed
returns-clause-indexed c =
    let tables : List TableRows = c.loop-table.tables.items in
    let given : List TableRows = c.as_mut_slice.result.now in
    let new : List TableRows = c.index_all.new.tables in
    let left = written_over c.loop-table.tables.len tables given new c.as_mut_slice.ensures.value c.as_mut_slice.ensures.len (same_count given new c.index_all.ensures.kept) in
    subst (HaveIndexes c.args.catalog.now.tables) (sym left) (subst (λ (list : List TableDef). HaveIndexes list new) c.as_slice.ensures c.in_ok-index_all.ensures.ok)
