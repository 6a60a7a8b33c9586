use Rattle.std.proofs.Common.{◌≡◌, ◌++◌, ◌∷◌, [], ◌∙◌, List, ap, ap₂, map, subst, sym}
use Rattle.std.proofs.lemmas.List.{map-append}
use Rattle.catalog_core.specs.declared.table.TableDef.{TableDef}
use Rattle.period_keys.specs.Current.{AreParentsIndexed, HaveIndexes, HaveMoreIndexes, rows_by_key}
use Rattle.period_keys.specs.Lawful.{key_positions}
use Rattle.period_keys.specs.Rows.{RowsByKey}
use Rattle.period_keys.specs.TableRows.{TableRows}
use Rattle.period_keys.proofs.ReferenceFacts.{worked_out}
use Rattle.period_keys.proofs.TableLists.{rows_are, same_count, with_table_indexed, written_over}
use Rattle.period_keys.proofs.table_list.add_table.Goals as goal

pub returns-clause-indexed : goal.returns-clause-indexed
returns-clause-indexed c = λ was.
    let catalog : List TableDef = c.args.catalog.now.tables in
    let def : TableDef = c.args.definition.now in
    let old : List TableRows = c.args.tables.now.items in
    let given : List TableRows = c.as_mut_slice.result.now in
    let new : List TableRows = c.index_parents.new.tables in
    let table : TableRows = c.index_as_child.new.table in
    let left = written_over c.args.tables.now.len old given new c.as_mut_slice.ensures.value c.as_mut_slice.ensures.len (same_count given new c.index_parents.ensures.kept) in
    let items : c.push.new.self.items ≡ new ++ table ∷ [] = c.in_ok-push.ensures.items ∙ ap (λ (list : List TableRows). list ++ table ∷ []) left in
    let more : HaveMoreIndexes old new = subst (λ (list : List TableRows). HaveMoreIndexes list new) c.as_mut_slice.ensures.value c.index_parents.ensures.kept in
    let parents : AreParentsIndexed catalog def new = subst (λ (list : List TableDef). AreParentsIndexed list def new) c.as_slice-2.ensures c.in_ok-index_parents.ensures.ok in
    subst (HaveIndexes (catalog ++ def ∷ [])) (sym items)
    (with_table_indexed catalog old new def table c.requires.there c.requires.earlier more parents c.in_ok-index_as_child.ensures.ok was)

pub returns-clause-rows : goal.returns-clause-rows
returns-clause-rows c =
    let def : TableDef = c.args.definition.now in
    let old : List TableRows = c.args.tables.now.items in
    let given : List TableRows = c.as_mut_slice.result.now in
    let new : List TableRows = c.index_parents.new.tables in
    let table : TableRows = c.index_as_child.new.table in
    let none : RowsByKey = record { positions = key_positions def; rows = [] } in
    let left = written_over c.args.tables.now.len old given new c.as_mut_slice.ensures.value c.as_mut_slice.ensures.len (same_count given new c.index_parents.ensures.kept) in
    let items : c.push.new.self.items ≡ new ++ table ∷ [] = c.in_ok-push.ensures.items ∙ ap (λ (list : List TableRows). list ++ table ∷ []) left in
    let key : c.from_vec.result ≡ key_positions def = worked_out def def.key c.as_slice.result.now c.in_ok-key.key.items c.from_vec.result c.from_vec.ensures c.in_ok-key.ensures c.as_slice.ensures in
    let empty : rows_by_key table ≡ none =
    rows_are table none (c.index_as_child.ensures.kept.positions ∙ c.new-table.ensures.positions ∙ c.new.ensures.positions ∙ key) (c.index_as_child.ensures.kept.rows ∙ c.new-table.ensures.rows ∙ c.new.ensures.rows) in
    ap (map rows_by_key) items ∙ map-append rows_by_key new (table ∷ [])
    ∙ ap₂ (λ (first : List RowsByKey) (last : RowsByKey). first ++ last ∷ []) (c.index_parents.ensures.kept.same ∙ ap (map rows_by_key) c.as_mut_slice.ensures.value) empty
