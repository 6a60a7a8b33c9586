use Rattle.std.proofs.Common.{◌≡◌, ◌++◌, ◌∙◌, [], List, ap, map, subst, sym, true}
use Rattle.history_model.specs.Versions.{row_of}
use Rattle.period_core.specs.declared.row.PeriodRow.{PeriodRow}
use Rattle.period_core.specs.declared.version.VersionRow.{VersionRow}
use Rattle.period_keys.specs.Current.{rows_by_key}
use Rattle.period_keys.specs.Versions.{has_key_in}
use Rattle.period_keys.specs.declared.row_range.RowRange.{RowRange}
use Rattle.script_engine.specs.engine.Answering.{SeesRows}
use Rattle.script_engine.specs.engine.Reading.{is_within}
use Rattle.script_engine.proofs.Read.{all_read, its_read}
use Rattle.script_engine.proofs.engine.sequenced_queries.seen_by.Goals as goal

pub returns : goal.returns
returns c = λ history represents.
    let reference = c.args.reference.now in
    let tables = map rows_by_key c.args.tables.now.current in
    let lists = c.args.tables.now.ended in
    let access = c.of-access.result in
    let new : List PeriodRow = c.read.new.rows.items in
    let (some, read, made) = its_read history tables lists reference represents access [] 0 c.new-rows.result.items new c.of-access.ensures.table c.in_ok-read.ensures in
    let whole : (v : VersionRow) → is_within access v ≡ true = λ v. subst (λ (rows : RowRange). has_key_in rows.positions rows.range v ≡ true) (sym c.of-access.ensures.rows) (c.all.ensures v) in
    subst (SeesRows history reference) (sym (c.from_vec.ensures ∙ made ∙ ap (λ (rows : List PeriodRow). rows ++ map row_of some) c.new-rows.ensures.items))
    (all_read history tables lists reference represents access some c.of-access.ensures.window whole read)
