use Rattle.std.proofs.Common.{◌≡◌, ◌↔◌, ◌<◌, ◌≤◌, ◌+◌, ◌∙◌, ℕ, suc, List, Bool, Some, true, false, ap, arith, get_or, length, map, refl, subst, sym}
use Rattle.std.specs.Prelude.{IsTrue}
use Rattle.std.proofs.lemmas.Option.{slice_get_read}
use Rattle.period_core.specs.declared.version.VersionRow.{VersionRow}
use Rattle.catalog_core.specs.table.TableWords.{table_of}
use Rattle.catalog_core.specs.declared.table.TableDef.{TableDef}
use Rattle.history_model.specs.Histories.{State}
use Rattle.history_model.specs.Versions.{row_of}
use Rattle.period_keys.specs.Current.{HaveIndexes, HoldCurrent, HoldsCurrent, rows_by_key}
use Rattle.period_keys.specs.Lawful.{HoldsTable, IsLawfulState, IsLawfulTable}
use Rattle.period_keys.specs.Rows.{RowsByKey}
use Rattle.period_keys.specs.TableRows.{TableRows}
use Rattle.period_keys.proofs.ReferenceFacts.{number_at}
use Rattle.period_keys.proofs.StateFacts.{below_step, held_at, lawful_of_tables, state_unlawful}
use Rattle.period_keys.proofs.lawful_states.is_lawful.Goals as goal

-- the rows of the table at a place, as they are looked up, hold it
held_rows : (catalog : List TableDef) (state : State) (tables : List TableRows) (place : ℕ) (def : TableDef) (table : TableRows) (rows : RowsByKey)
    → HoldCurrent catalog state (map rows_by_key tables) → length tables ≡ length catalog → place < length catalog → table_of catalog (place + 1) ≡ Some def → table ≡ get_or tables place table
    → rows.positions ≡ table.positions → rows.rows ≡ table.rows → HoldsCurrent state (place + 1) def rows
held_rows catalog state tables place def table rows hold count inside def_is table_is positions_are rows_are =
    let below : place < length tables = subst (λ n. place < n) (sym count) inside in
    let held = held_at catalog state tables place def table hold def_is (number_at tables place table below table_is) in
    record {
      keyed = positions_are ∙ held.keyed;
      holds = subst (λ (list : List VersionRow). HoldsTable (map row_of list) state (place + 1)) (sym rows_are) held.holds;
    }

pub is_table_lawful-requires-clause-indexed : goal.is_table_lawful-requires-clause-indexed
is_table_lawful-requires-clause-indexed c =
    let definitions : List TableDef = c.as_slice-definitions.result.now in
    let have : HaveIndexes definitions c.args.tables.now = subst (λ (list : List TableDef). HaveIndexes list c.args.tables.now) (sym c.as_slice-definitions.ensures) c.requires.indexed in
    have (c.loop-place.place + 1) c.index-definitions-place.result
    (number_at definitions c.loop-place.place c.index-definitions-place.result c.loop-place-test.true c.index-definitions-place.is)

pub is_table_lawful-requires-clause-table : goal.is_table_lawful-requires-clause-table
is_table_lawful-requires-clause-table c =
    number_at c.as_slice-definitions.result.now c.loop-place.place c.index-definitions-place.result c.loop-place-test.true c.index-definitions-place.is

pub returns-then-not-branch : goal.returns-then-not-branch
returns-then-not-branch c = λ state hold.
    let definitions : List TableDef = c.as_slice-definitions.result.now in
    let place : ℕ = c.loop-place.place in
    let def : TableDef = c.index-definitions-place.result in
    let known : HoldCurrent definitions state (map rows_by_key c.args.tables.now) = subst (λ (list : List TableDef). HoldCurrent list state (map rows_by_key c.args.tables.now)) (sym c.as_slice-definitions.ensures) hold in
    let def_is : table_of definitions (place + 1) ≡ Some def = number_at definitions place def c.loop-place-test.true c.index-definitions-place.is in
    let held : HoldsCurrent state (place + 1) def c.rows-rows.result.now =
    held_rows definitions state c.args.tables.now place def c.index-tables-place.result c.rows-rows.result.now known
    (c.requires.count ∙ sym (ap length c.as_slice-definitions.ensures)) c.loop-place-test.true def_is c.index-tables-place.is c.rows-rows.ensures.positions c.rows-rows.ensures.rows in
    let off : c.in_ok-is_table_lawful.field-0 ≡ false = grind (arith, c.if-not-branch.true) in
    subst (λ (list : List TableDef). IsTrue false ↔ IsLawfulState list state) c.as_slice-definitions.ensures
    (state_unlawful definitions state (place + 1) def def_is
    (subst (λ (b : Bool). IsTrue b ↔ IsLawfulTable definitions state (place + 1) def) off (c.in_ok-is_table_lawful.ensures state known held)))

pub loop-place-preserved : goal.loop-place-preserved
loop-place-preserved c = λ state known.
    let definitions : List TableDef = c.as_slice-definitions.result.now in
    let place : ℕ = c.loop-place.place in
    let def : TableDef = c.index-definitions-place.result in
    let def_is : table_of definitions (place + 1) ≡ Some def = number_at definitions place def c.loop-place-test.true c.index-definitions-place.is in
    let held : HoldsCurrent state (place + 1) def c.rows-rows.result.now =
    held_rows definitions state c.args.tables.now place def c.index-tables-place.result c.rows-rows.result.now known
    (c.requires.count ∙ sym (ap length c.as_slice-definitions.ensures)) c.loop-place-test.true def_is c.index-tables-place.is c.rows-rows.ensures.positions c.rows-rows.ensures.rows in
    let on : c.in_ok-is_table_lawful.field-0 ≡ true = grind (arith, c.if-not-branch.false) in
    let next : place + 1 ≡ suc place = omega arith in
    below_step definitions state place def (slice_get_read definitions (length definitions) place def refl c.loop-place-test.true c.index-definitions-place.is) (c.loop-place.invariant state known)
    (subst (λ (n : ℕ). IsLawfulTable definitions state n def) next ((c.in_ok-is_table_lawful.ensures state known held).0 on))

pub returns : goal.returns
returns c = λ state hold.
    let definitions : List TableDef = c.as_slice-definitions.result.now in
    let known : HoldCurrent definitions state (map rows_by_key c.args.tables.now) = subst (λ (list : List TableDef). HoldCurrent list state (map rows_by_key c.args.tables.now)) (sym c.as_slice-definitions.ensures) hold in
    let all : length definitions ≤ c.loop-place.place = omega (arith, c.loop-place-test.false) in
    subst (λ (list : List TableDef). IsTrue true ↔ IsLawfulState list state) c.as_slice-definitions.ensures (
      λ t. lawful_of_tables definitions state c.loop-place.place all (c.loop-place.invariant state known),
      λ lawful. refl,
    )
