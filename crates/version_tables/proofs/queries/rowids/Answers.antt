use Rattle.std.proofs.Common.{rules}
use Rattle.sqlite.specs.Held.{state}
use Rattle.std.specs.Prelude.{[]}
use Rattle.version_tables.specs.Texts.{rowids_text}
use Rattle.sqlite_value.proofs.OrderLemmas.{then-Equal}
use Rattle.version_tables.specs.Represents.{rowid_shown}
use Rattle.version_tables.specs.Rows.{by_rowid}
use Rattle.version_tables.proofs.Whole.{all_shown, in_order_by}
use Rattle.version_tables.proofs.Asks.{rowid_project, meta_order, rowid_names, rowid_asks}
use Rattle.version_tables.proofs.Reasons.{rowid_fails, keeps_faults}
use Rattle.version_tables.proofs.Selects.{rowid_reads, query_unchanged, query_keeps}
use Rattle.version_tables.proofs.queries.rowids.Goals as goal

pub returns-clause-shows : goal.returns-clause-shows
returns-clause-shows g c clean has =
    in_order_by rowid_shown _ by_rowid ((state g.S.Store c.args.connection.now).now.trees 2) (λ x y. then-Equal (by_rowid x y)) c.query_all.result
    (all_shown rowids_text 2 rowid_project meta_order rowid_names rowid_asks (state g.S.Store c.args.connection.now) (state g.S.Store c.query_all.new.self) has c.query_all.result (c.query_all.ensures.ok clean))

pub returns-clause-reads : goal.returns-clause-reads
returns-clause-reads g c =
    let old = state g.S.Store c.args.connection.now in
    let new = state g.S.Store c.query_all.new.self in
    record {
      clean = search rules;
      unchanged = λ clean. query_unchanged rowids_text rowid_reads [] old new c.query_all.result (c.query_all.ensures.ok clean);
      keeps = λ clean. query_keeps rowids_text rowid_reads [] old new (search rules) c.query_all.result (c.query_all.ensures.ok clean) (c.query_all.ensures.err clean);
      faults = keeps_faults old new c.query_all.ensures.survives;
      why = λ clean has. rowid_fails old new has c.query_all.result (c.query_all.ensures.err clean);
    }
