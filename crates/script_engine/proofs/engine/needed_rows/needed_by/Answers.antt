use Rattle.std.proofs.Common.{◌++◌, ◌∙◌, List, ap, map, subst, sym}
use Rattle.history_model.specs.Versions.{row_of}
use Rattle.period_core.specs.declared.row.PeriodRow.{PeriodRow}
use Rattle.period_keys.specs.Current.{rows_by_key}
use Rattle.period_keys.specs.FixedKeys.{IsRangeWithin}
use Rattle.period_keys.specs.declared.row_range.RowRange.{RowRange}
use Rattle.script_engine.specs.engine.Needed.{IsNeeded}
use Rattle.script_engine.proofs.Read.{its_read, read_needed}
use Rattle.script_engine.proofs.engine.needed_rows.needed_by.Goals as goal

pub returns-clause-needed : goal.returns-clause-needed
returns-clause-needed c = λ history represents wide leave.
    let conjuncts = c.args.conditions.now.conjuncts.now in
    let start = c.args.conditions.now.start in
    let reference = c.args.conditions.now.reference.now in
    let tables = c.args.tables.now in
    let access = c.of-access.result in
    let before : List PeriodRow = c.new-rows.result.items in
    let new : List PeriodRow = c.read_chained.new.rows.items in
    let (some, read, made) = its_read history (map rows_by_key tables.current) tables.ended reference represents access conjuncts start before new c.of-access.ensures.table c.in_ok-read_chained.ensures.read in
    let within : IsRangeWithin conjuncts start c.args.conditions.now.width access.rows.positions access.rows.range =
    subst (λ (rows : RowRange). IsRangeWithin conjuncts start c.args.conditions.now.width rows.positions rows.range) (sym c.of-access.ensures.rows) leave in
    subst (IsNeeded history conjuncts start reference) (sym (made ∙ ap (λ (rows : List PeriodRow). rows ++ map row_of some) c.new-rows.ensures.items))
    (read_needed history (map rows_by_key tables.current) tables.ended reference represents conjuncts start c.args.conditions.now.width access some c.of-access.ensures.window read wide within)
