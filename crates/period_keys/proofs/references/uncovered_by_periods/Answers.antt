use Rattle.std.proofs.Common.{List, map, subst}
use Rattle.period_core.specs.declared.row.PeriodRow.{PeriodRow}
use Rattle.history_model.specs.Versions.{row_of}
use Rattle.period_keys.specs.declared.periods_by_key.PeriodsByKey.{PeriodsByKey}
use Rattle.period_keys.specs.Gaps.{LacksKeyOf}
use Rattle.period_keys.specs.Index.{AreAtKeys}
use Rattle.period_keys.specs.LookUps.{periods_by, periods_of_rows}
use Rattle.period_keys.specs.Rows.{RowsByKey}
use Rattle.period_keys.proofs.ByGroups.{lack_of_same}
use Rattle.period_keys.proofs.Leasts.{IsLeastOf-same}
use Rattle.period_keys.proofs.VersionKeys.{at_keys}
use Rattle.period_keys.proofs.references.uncovered_by_periods.Goals as goal

pub returns-in_ok-found-in-OfRows : goal.returns-in_ok-found-in-OfRows
returns-in_ok-found-in-OfRows c = λ own rows is.
    let table : RowsByKey = c.in-OfRows.current.now in
    let all : List PeriodRow = map row_of table.rows in
    let known : AreAtKeys own rows (periods_of_rows table) = subst (λ (p : PeriodsByKey). AreAtKeys own rows (periods_by p)) c.in-OfRows.is is in
    IsLeastOf-same (LacksKeyOf table.positions all (periods_by c.args.parents.now)) (LacksKeyOf own rows (periods_by c.args.parents.now))
    (lack_of_same table.positions own all rows (periods_of_rows table) (periods_by c.args.parents.now) (at_keys table) known) c.in_ok-found-in-OfRows.found c.in_ok-found-in-OfRows.ensures
