use Rattle.std.proofs.Common.{◌++◌, List, length, sym, subst, arith}
use Rattle.std.proofs.lemmas.List.{take_all}
use Rattle.period_core.specs.declared.row.PeriodRow.{PeriodRow}
use Rattle.period_keys.specs.Index.{IsIndexOf}
use Rattle.period_keys.proofs.changes.take_rows.Goals as goal

pub returns : goal.returns
returns c = λ positions rest made was.
    let rows : List PeriodRow = c.args.rows.now in
    c.take_first.ensures positions rest made
    (subst (λ (list : List PeriodRow). IsIndexOf positions (list ++ rest) c.args.index.now) (sym (take_all (length rows) rows (omega arith))) was)
