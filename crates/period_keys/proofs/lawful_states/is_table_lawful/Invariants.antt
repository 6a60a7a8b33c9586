use Rattle.std.proofs.Common.{map, take}
use Rattle.std.specs.Prelude.{Contains}
use Rattle.catalog_core.specs.declared.table.Reference.{Reference}
use Rattle.history_model.specs.Histories.{State}
use Rattle.period_keys.specs.Current.{HoldCurrent, rows_by_key}
use Rattle.period_keys.specs.Lawful.{IsCoveredBy}
use Rattle.period_keys.proofs.lawful_states.is_table_lawful.Given as goal

abbrev pub invariant-loop-reference : goal.invariant-loop-reference
invariant-loop-reference l = (state : State) → HoldCurrent l.definitions state (map rows_by_key l.tables)
    → (reference : Reference) → Contains (take l.reference-index l.references) reference → IsCoveredBy l.definitions state l.number l.table reference
