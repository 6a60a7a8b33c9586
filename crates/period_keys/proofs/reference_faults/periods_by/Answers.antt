use Rattle.std.proofs.Common.{map, subst}
use Rattle.history_model.specs.Versions.{row_of}
use Rattle.period_keys.specs.Index.{AreAtKeys}
use Rattle.period_keys.specs.LookUps.{periods_by}
use Rattle.period_keys.specs.TableRows.{TableRows}
use Rattle.period_keys.proofs.TableLists.{table_at}
use Rattle.period_keys.proofs.reference_faults.periods_by.Goals as goal

pub returns : goal.returns
returns c = λ table found.
    subst (λ (t : TableRows). AreAtKeys c.args.positions.now (map row_of t.rows) (periods_by c.in-Some.periods))
    (table_at c.args.tables.now c.args.number table c.index-tables-number.result c.index-tables-number.is found) c.in-Some.ensures.found
