-- Worked rows of tables in memory: workers refer to departments by the second of their values. If the departments go, a worker is left without a parent.
use Rattle.std.proofs.Common.{◌==◌, ◌∷◌, [], cond, pos, None, List, refl}
use Rattle.std.specs.Prelude.{codes}
use Rattle.period_core.specs.declared.value.Value.TheVariants.{Int}
use Rattle.temporal_model.proofs.Members.{Contains-here, Contains-nil}
use Rattle.catalog_core.specs.table.TableWords.{is_value_column}
use Rattle.catalog_core.specs.declared.change.Action.TheVariants.{Delete}
use Rattle.catalog_core.specs.declared.change.Change.{Change}
use Rattle.catalog_core.specs.declared.table.ColumnKind.TheVariants as kind
use Rattle.catalog_core.specs.declared.table.Column.{Column}
use Rattle.catalog_core.specs.declared.table.Reference.{Reference}
use Rattle.catalog_core.specs.declared.table.TableDef.{TableDef}
use Rattle.history_model.specs.Histories.{State}
use Rattle.period_keys.specs.Faults.{IsFaultBy}

-- the columns of a period and of the system time, and more columns after them
abbrev with_periods : List Column → List Column
with_periods columns =
    record { name = codes "S"; kind = kind.Date }
    ∷ record { name = codes "E"; kind = kind.Date }
    ∷ record { name = codes "SS"; kind = kind.RowStart None }
    ∷ record { name = codes "SE"; kind = kind.RowEnd None }
    ∷ columns

-- DEP (.., DNO INTEGER, key DNO)
abbrev departments : TableDef
departments =
    record {
      name = codes "DEP";
      columns = with_periods (record { name = codes "DNO"; kind = kind.Integer } ∷ []);
      period = record { name = codes "P"; start = 0; end = 1 };
      key = 4 ∷ [];
      references = [];
      sound = refl;
    }

-- DNO refers to DNO of table 1
abbrev to_department : Reference
to_department = record { parent = 1; own = 5 ∷ []; keys = 4 ∷ [] }

-- WRK (.., WNO INTEGER, DNO INTEGER, key WNO)
abbrev workers : TableDef
workers =
    record {
      name = codes "WRK";
      columns = with_periods (record { name = codes "WNO"; kind = kind.Integer } ∷ record { name = codes "DNO"; kind = kind.Integer } ∷ []);
      period = record { name = codes "P"; start = 0; end = 1 };
      key = 4 ∷ [];
      references = to_department ∷ [];
      sound = refl;
    }

-- on each day department 5 and a worker of it
abbrev before : State
before number day = cond (number == 1) ((Int (pos 5) ∷ []) ∷ []) ((Int (pos 1) ∷ Int (pos 5) ∷ []) ∷ [])

-- the change that ends all departments
abbrev closing : Change
closing = record { table = 1; action = Delete None None }

left_alone : IsFaultBy (departments ∷ workers ∷ []) before closing 2 workers (pos 12) to_department
unfolding is_value_column
left_alone = (departments, refl, (Int (pos 1) ∷ Int (pos 5) ∷ [], Contains-here (Int (pos 1) ∷ Int (pos 5) ∷ []) [], λ parent there same. Contains-nil parent there))
