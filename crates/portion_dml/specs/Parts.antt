-- Rows over parts of a period.
use Rattle.std.specs.Prelude.{List, [], ◌∷◌, Option, Some, None}
use Rattle.period_core.specs.declared.period.Period.{Period}
use Rattle.period_core.specs.declared.value.Value.{Value}
use Rattle.history_model.specs.Portions.{PlainRow}

-- the row with the values over the period, if there is one
abbrev pub row_over : List Value → Option Period → List PlainRow
row_over values None = []
row_over values (Some p) = record { values = values; start = p.start; end = p.end } ∷ []
