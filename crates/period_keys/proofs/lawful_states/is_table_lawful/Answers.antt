use Rattle.std.proofs.Common.{◌≡◌, ◌↔◌, ◌∙◌, ℕ, ℤ, List, Bool, Option, true, false, arith, map, subst, sym, take}
use Rattle.std.specs.Prelude.{Contains, IsTrue}
use Rattle.std.proofs.lemmas.List.{take_all}
use Rattle.catalog_core.specs.declared.table.Reference.{Reference}
use Rattle.catalog_core.specs.declared.table.TableDef.{TableDef}
use Rattle.history_model.specs.Histories.{State}
use Rattle.history_model.specs.Versions.{row_of}
use Rattle.period_keys.specs.Current.{HoldsCurrent}
use Rattle.period_keys.specs.Keys.{IsKeyClash, IsLeastOf}
use Rattle.period_keys.specs.Lawful.{IsCoveredBy, key_positions}
use Rattle.period_keys.specs.Rows.{RowsByKey}
use Rattle.period_keys.proofs.Members.{first_more}
use Rattle.period_keys.proofs.StateFacts.{table_covered, table_uncovered, table_with_clash}
use Rattle.period_keys.proofs.lawful_states.is_table_lawful.Goals as goal

-- the least clash of rows by the table's key
by_key : (state : State) (number : ℕ) (def : TableDef) (table : RowsByKey) (found : Option ℤ) → HoldsCurrent state number def table
    → IsLeastOf (IsKeyClash table.positions (map row_of table.rows)) found → IsLeastOf (IsKeyClash (key_positions def) (map row_of table.rows)) found
by_key state number def table found held least = subst (λ (ps : List ℕ). IsLeastOf (IsKeyClash ps (map row_of table.rows)) found) held.keyed least

pub returns-then-is_some : goal.returns-then-is_some
returns-then-is_some c = λ state hold held.
    let table : RowsByKey = c.args.rows.now in
    table_with_clash c.args.definitions.now state c.args.number c.args.table.now (map row_of table.rows) c.in_ok-clash.clash held.holds
    (by_key state c.args.number c.args.table.now table c.in_ok-clash.clash held c.in_ok-clash.ensures) (sym c.is_some.ensures ∙ c.if-is_some.true)

pub returns-then-not-branch : goal.returns-then-not-branch
returns-then-not-branch c = λ state hold held.
    let table : TableDef = c.args.table.now in
    let here : Reference = c.reference-item.result in
    let there : Contains table.references here = subst (λ (list : List Reference). Contains list here) c.as_slice-references.ensures (c.loop-reference.reference-index, c.loop-reference-test.true, sym c.reference-item.is) in
    let off : c.in_ok-is_covered.field-0 ≡ false = grind (arith, c.if-not-branch.true) in
    table_uncovered c.args.definitions.now state c.args.number table here there
    (subst (λ (b : Bool). IsTrue b ↔ IsCoveredBy c.args.definitions.now state c.args.number table here) off (c.in_ok-is_covered.ensures state hold))

pub loop-reference-preserved : goal.loop-reference-preserved
loop-reference-preserved c = λ state hold.
    let Covered : Reference → Type 0 = IsCoveredBy c.args.definitions.now state c.args.number c.args.table.now in
    let on : c.in_ok-is_covered.field-0 ≡ true = grind (arith, c.if-not-branch.false) in
    first_more Covered Covered c.as_slice-references.result.now c.loop-reference.reference-index c.reference-item.result c.loop-reference-test.true c.reference-item.is
    (λ reference before. before) ((c.in_ok-is_covered.ensures state hold).0 on) (c.loop-reference.invariant state hold)

pub returns : goal.returns
returns c = λ state hold held.
    let table : RowsByKey = c.args.rows.now in
    let references : List Reference = c.as_slice-references.result.now in
    let all : take c.loop-reference.reference-index references ≡ references = take_all _ _ (omega arith) in
    table_covered c.args.definitions.now state c.args.number c.args.table.now (map row_of table.rows) c.in_ok-clash.clash held.holds
    (by_key state c.args.number c.args.table.now table c.in_ok-clash.clash held c.in_ok-clash.ensures) (sym c.is_some.ensures ∙ c.if-is_some.false)
    (λ reference there. c.loop-reference.invariant state hold reference (subst (λ (list : List Reference). Contains list reference) (sym (all ∙ c.as_slice-references.ensures)) there))
