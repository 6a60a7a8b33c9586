use Rattle.std.proofs.Common.{◌≡◌, ◌<◌, ◌∙◌, ◌++◌, ◌∷◌, ℕ, false, List, [], ap, arith, get_or, length, map, subst, sym, take, take_all}
use Rattle.std.proofs.lemmas.List.{map-append, map_more}
use Rattle.period_core.specs.declared.value.Value.{Value}
use Rattle.sql_statements.specs.declared.statement.InsertRows.{InsertRows}
use Rattle.statement_resolution.proofs.lemmas.change.GivenPlaces.{has_date, period_there, same_row}
use Rattle.statement_resolution.proofs.lemmas.change.GivenPositions.{has_date_there, has_positions, names_given, positions_inside, same_parts}
use Rattle.statement_resolution.proofs.lemmas.change.GivenValues.{date_parts}
use Rattle.statement_resolution.proofs.lemmas.change.GivenValues as rows
use Rattle.statement_resolution.specs.change.Insertion.{has_other_count, has_faulty_value}
use Rattle.statement_resolution.specs.change.Resolution.{RowParts, row_parts, written_row}
use Rattle.statement_resolution.specs.declared.change.insert_values.ValueFault.TheVariants as fault
use Rattle.catalog_core.specs.declared.table.TableDef.{TableDef}
use Rattle.statement_resolution.proofs.change.inserted_rows.inserted_rows.Goals as goal

pub row_positions-requires-clause-given : goal.row_positions-requires-clause-given
row_positions-requires-clause-given c =
    let t = c.args.table.now in
    let insert = c.args.insert.now in
    has_positions t insert.columns c.args.places.now c.requires.distinct c.requires.placed (names_given t insert c.requires.count)

-- the row that the loop has in hand
in_hand : (t : TableDef) (insert : InsertRows) (all : List (List Value)) (i : ℕ) (row : List Value) → has_other_count t insert ≡ false → has_faulty_value fault.Kind t insert ≡ false
    → all ≡ insert.rows → i < length all → row ≡ get_or all i row → rows.RowParts t insert row
in_hand t insert all i row counted right same here item =
    rows.row_parts t insert i row counted right (subst (λ (rs : List (List Value)). i < length rs) same here) (subst (λ (rs : List (List Value)). row ≡ get_or rs i row) same item)

pub inserted_row-requires-clause-values : goal.inserted_row-requires-clause-values
inserted_row-requires-clause-values c =
    let t = c.args.table.now in
    let insert = c.args.insert.now in
    let parts = in_hand t insert c.as_slice-rows.result.now c.loop-row.row-index c.row-item.result c.requires.count c.requires.kinds c.as_slice-rows.ensures.value c.loop-row-test.true c.row-item.is in
    rw c.as_slice.ensures.value (positions_inside t insert.columns c.args.places.now c.in_ok-at.at c.row-item.result c.requires.placed c.in_ok-at.ensures parts.count)

pub inserted_row-requires-clause-start : goal.inserted_row-requires-clause-start
inserted_row-requires-clause-start c =
    let t = c.args.table.now in
    let insert = c.args.insert.now in
    let places = c.args.places.now in
    let row = c.row-item.result in
    let parts = in_hand t insert c.as_slice-rows.result.now c.loop-row.row-index row c.requires.count c.requires.kinds c.as_slice-rows.ensures.value c.loop-row-test.true c.row-item.is in
    let date = has_date t insert.columns places row t.period.start c.requires.distinct c.requires.placed parts.names parts.count parts.kinds (date_parts t c.requires.dated).start in
    rw c.as_slice.ensures.value (has_date_there places row t.period.start c.in_ok-at.at.start c.in_ok-at.ensures.start date)

pub inserted_row-requires-clause-end : goal.inserted_row-requires-clause-end
inserted_row-requires-clause-end c =
    let t = c.args.table.now in
    let insert = c.args.insert.now in
    let places = c.args.places.now in
    let row = c.row-item.result in
    let parts = in_hand t insert c.as_slice-rows.result.now c.loop-row.row-index row c.requires.count c.requires.kinds c.as_slice-rows.ensures.value c.loop-row-test.true c.row-item.is in
    let date = has_date t insert.columns places row t.period.end c.requires.distinct c.requires.placed parts.names parts.count parts.kinds (date_parts t c.requires.dated).end in
    rw c.as_slice.ensures.value (has_date_there places row t.period.end c.in_ok-at.at.end c.in_ok-at.ensures.end date)

pub loop-row-preserved : goal.loop-row-preserved
loop-row-preserved c =
    let t = c.args.table.now in
    let places = c.args.places.now in
    let all = c.as_slice-rows.result.now in
    let i = c.loop-row.row-index in
    let row = c.row-item.result in
    let given = c.in_ok-parts.parts in
    let write : List Value → RowParts = written_row t c.args.insert.now.columns in
    let same = same_row t c.args.insert.now.columns places c.as_slice.result.now c.requires.distinct c.requires.placed (period_there t c.requires.dated) in
    let one : write row ≡ row_parts given = ap write (sym c.as_slice.ensures.value) ∙ same ∙ same_parts t places c.in_ok-at.at c.as_slice.result.now c.in_ok-at.ensures ∙ c.in_ok-parts.ensures in
    record {
      room = omega arith;
      count = omega arith;
      rows =
          map_more write all i row c.loop-row-test.true
          ∙ ap (λ (r : List Value). map write (take i all) ++ write r ∷ []) (sym c.row-item.is)
          ∙ ap (λ (ps : List RowParts). ps ++ write row ∷ []) c.loop-row.invariant.rows
          ∙ ap (λ (r : RowParts). map row_parts c.loop-row.given.items ++ r ∷ []) one
          ∙ sym (map-append row_parts c.loop-row.given.items (given ∷ []))
          ∙ sym (ap (map row_parts) c.push_reserved.ensures.items);
    }

pub returns : goal.returns
returns c =
    let write : List Value → RowParts = written_row c.args.table.now c.args.insert.now.columns in
    ap (map write) (sym c.as_slice-rows.ensures.value ∙ sym (take_all c.loop-row.row-index c.as_slice-rows.result.now c.loop-row-test.false)) ∙ c.loop-row.invariant.rows
