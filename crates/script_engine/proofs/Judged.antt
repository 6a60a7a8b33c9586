-- A change that is planned over the rows in memory, as it is judged.
use Rattle.std.proofs.Common.{◌≡◌, ◌∙◌, List, Some, map, subst, sym}
use Rattle.catalog_core.specs.table.TableWords.{table_of}
use Rattle.catalog_core.specs.declared.change.Change.{Change}
use Rattle.catalog_core.specs.declared.change.Plan.{Plan}
use Rattle.catalog_core.specs.declared.table.TableDef.{TableDef}
use Rattle.history_model.specs.Histories.{State}
use Rattle.period_keys.specs.Current.{HoldCurrent, HoldsCurrent, rows_by_key}
use Rattle.period_keys.specs.Faults.{IsPlanned, IsPlannedIn}
use Rattle.period_keys.specs.Lawful.{IsKeyOf, IsLawfulState}
use Rattle.period_keys.specs.Planned.{IsPlanOf}
use Rattle.period_keys.specs.Rows.{RowsByKey}
use Rattle.period_keys.specs.TableRows.{TableRows}
use Rattle.script_engine.specs.engine.InMemory.{FollowCatalog}
use Rattle.script_engine.proofs.Indexed.{rows_there}
use Rattle.script_engine.proofs.LastState.{earlier_of}

same_rows : (x y : RowsByKey) → Some x ≡ Some y → x ≡ y
same_rows x y e = cc

same_table : (x y : TableRows) → Some x ≡ Some y → x ≡ y
same_table x y e = cc

module _ (catalog : List TableDef) (tables : List TableRows) (table : TableRows) (change : Change) (plan : Plan) (def : TableDef)
    (follow : FollowCatalog catalog tables) (is : table_of catalog change.table ≡ Some def) (there : table_of tables change.table ≡ Some table) (planned : IsPlanOf change.action table.rows plan)
    (before : State) (lawful : IsLawfulState catalog before) (hold : HoldCurrent catalog before (map rows_by_key tables)) where
  -- the table's rows are those that the state has
  held : HoldsCurrent before change.table def (rows_by_key table)
  held =
      let (rows, rows_are, holds) = hold change.table def is in
      subst (HoldsCurrent before change.table def) (same_rows rows (rows_by_key table) (sym rows_are ∙ rows_there tables change.table table there)) holds

  pub key_is : IsKeyOf catalog change.table table.positions
  key_is = (def, is, held.keyed)

  pub is_planned : IsPlanned catalog before change table.rows plan
  is_planned = record { lawful = lawful; holds = held.holds; planned = planned }

  pub is_planned_in : IsPlannedIn catalog before tables change plan
  is_planned_in = record {
    earlier = earlier_of catalog follow.lawful;
    lawful = lawful;
    holds = hold;
    planned = λ other other_there. subst (λ (t : TableRows). IsPlanOf change.action t.rows plan) (same_table table other (sym there ∙ other_there)) planned;
  }
