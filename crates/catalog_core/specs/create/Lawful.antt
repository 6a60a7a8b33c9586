-- The definitions that a CREATE gives.
use Rattle.std.specs.Prelude.{List}
use Rattle.period_core.specs.Leasts.{NoneApplies}
use Rattle.sql_statements.specs.declared.create.CreateTable.{CreateTable}
use Rattle.catalog_core.specs.RefusalConditions.{Holds}
use Rattle.catalog_core.specs.create.Creation.{create_conditions}
use Rattle.catalog_core.specs.create.Definition.{Defines}
use Rattle.catalog_core.specs.declared.table.TableDef.{TableDef}

-- some CREATE that is accepted over these tables gives this definition
abbrev pub IsLawful : List TableDef → TableDef → Type 0
IsLawful tables d =
    (c : CreateTable)
    × NoneApplies (Holds (create_conditions tables c))
    × Defines tables c d
