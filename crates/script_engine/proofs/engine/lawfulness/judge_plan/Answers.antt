use Rattle.std.proofs.Common.{◌≡◌, ◌∙◌, List, Option, None, Some, ap, inr, refl, subst, sym}
use Rattle.period_core.specs.declared.version.VersionRow.{VersionRow}
use Rattle.catalog_core.specs.declared.table.TableDef.{TableDef}
use Rattle.catalog_core.specs.table.TableWords.{table_of}
use Rattle.period_keys.specs.Faults.{IsPlanned}
use Rattle.period_keys.specs.Keys.{IsLeastOf}
use Rattle.period_keys.specs.Lawful.{IsKeyFault, IsKeyOf, IsReferenceFault}
use Rattle.period_keys.specs.TableRows.{TableRows}
use Rattle.script_engine.proofs.Judged.{is_planned, is_planned_in, key_is}
use Rattle.script_engine.proofs.engine.lawfulness.judge_plan.Goals as goal

pub returns-in-Some-clause-fault : goal.returns-in-Some-clause-fault
returns-in-Some-clause-fault c = inr (
  tt,
  λ change before same plan lawful hold.
      let catalog : List TableDef = c.args.catalog.now.tables in
      let tables : List TableRows = c.args.tables.now in
      let (def, defined) = c.requires.defined in
      let is : table_of catalog change.table ≡ Some def = ap (table_of catalog) same ∙ defined in
      let there : table_of tables change.table ≡ Some c.args.table.now = ap (table_of tables) same ∙ c.requires.table in
      subst (IsLeastOf (IsKeyFault catalog before change)) c.in-Some.is
      (c.in_ok-clash.ensures catalog before change
      (subst (IsKeyOf catalog change.table) (sym c.rows.ensures.positions)
      (key_is catalog tables c.args.table.now change c.args.plan.now def c.requires.follow is there plan before lawful hold))
      (subst (λ (rows : List VersionRow). IsPlanned catalog before change rows c.args.plan.now) (sym c.rows.ensures.rows)
      (is_planned catalog tables c.args.table.now change c.args.plan.now def c.requires.follow is there plan before lawful hold))),
)

none_if_not_some : {X : Type 0} (found : Option X) → ((x : X) → found ≡ Some x → ⊥) → found ≡ None
none_if_not_some None off = refl
none_if_not_some (Some x) off = absurd (off x refl)

pub returns-in-None-clause-lawful : goal.returns-in-None-clause-lawful
returns-in-None-clause-lawful c = λ change before same plan lawful hold.
    let catalog : List TableDef = c.args.catalog.now.tables in
    let tables : List TableRows = c.args.tables.now in
    let (def, defined) = c.requires.defined in
    let is : table_of catalog change.table ≡ Some def = ap (table_of catalog) same ∙ defined in
    let there : table_of tables change.table ≡ Some c.args.table.now = ap (table_of tables) same ∙ c.requires.table in
    record {
      keys =
          subst (IsLeastOf (IsKeyFault catalog before change)) (none_if_not_some c.in_ok-clash.clash (λ day found. c.in_default.not-Some day found))
          (c.in_ok-clash.ensures catalog before change
          (subst (IsKeyOf catalog change.table) (sym c.rows.ensures.positions)
          (key_is catalog tables c.args.table.now change c.args.plan.now def c.requires.follow is there plan before lawful hold))
          (subst (λ (rows : List VersionRow). IsPlanned catalog before change rows c.args.plan.now) (sym c.rows.ensures.rows)
          (is_planned catalog tables c.args.table.now change c.args.plan.now def c.requires.follow is there plan before lawful hold)));
      references =
          subst (IsLeastOf (IsReferenceFault catalog before change)) c.in-None.is
          (c.in_ok-lacking.ensures before change same (is_planned_in catalog tables c.args.table.now change c.args.plan.now def c.requires.follow is there plan before lawful hold));
    }

pub returns-in-Some-lacking-clause-fault : goal.returns-in-Some-lacking-clause-fault
returns-in-Some-lacking-clause-fault c = inr (
  tt,
  λ change before same plan lawful hold.
      let catalog : List TableDef = c.args.catalog.now.tables in
      let tables : List TableRows = c.args.tables.now in
      let (def, defined) = c.requires.defined in
      let is : table_of catalog change.table ≡ Some def = ap (table_of catalog) same ∙ defined in
      let there : table_of tables change.table ≡ Some c.args.table.now = ap (table_of tables) same ∙ c.requires.table in (
        subst (IsLeastOf (IsKeyFault catalog before change)) (none_if_not_some c.in_ok-clash.clash (λ day found. c.in_default.not-Some day found))
            (c.in_ok-clash.ensures catalog before change
            (subst (IsKeyOf catalog change.table) (sym c.rows.ensures.positions)
            (key_is catalog tables c.args.table.now change c.args.plan.now def c.requires.follow is there plan before lawful hold))
            (subst (λ (rows : List VersionRow). IsPlanned catalog before change rows c.args.plan.now) (sym c.rows.ensures.rows)
            (is_planned catalog tables c.args.table.now change c.args.plan.now def c.requires.follow is there plan before lawful hold))),
        subst (IsLeastOf (IsReferenceFault catalog before change)) c.in-Some-lacking.is
            (c.in_ok-lacking.ensures before change same (is_planned_in catalog tables c.args.table.now change c.args.plan.now def c.requires.follow is there plan before lawful hold)),
      ),
)
