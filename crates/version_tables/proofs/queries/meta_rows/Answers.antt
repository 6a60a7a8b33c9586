use Rattle.std.proofs.Common.{rules}
use Rattle.sqlite.specs.Held.{state}
use Rattle.std.specs.Prelude.{[]}
use Rattle.version_tables.specs.Texts.{meta_rows_text}
use Rattle.version_tables.specs.Represents.{meta_shown}
use Rattle.version_tables.proofs.Whole.{order_cmp, all_shown, in_order}
use Rattle.version_tables.proofs.Asks.{meta_project, meta_order, meta_names, meta_asks}
use Rattle.version_tables.proofs.Reasons.{meta_fails, keeps_faults}
use Rattle.version_tables.proofs.Selects.{meta_reads, query_unchanged, query_keeps}
use Rattle.version_tables.proofs.queries.meta_rows.Goals as goal

pub returns-clause-shows : goal.returns-clause-shows
returns-clause-shows g c clean has =
    in_order meta_shown (order_cmp 0 meta_project meta_order) ((state g.S.Store c.args.connection.now).now.trees 0) c.query_all.result
    (all_shown meta_rows_text 0 meta_project meta_order meta_names meta_asks (state g.S.Store c.args.connection.now) (state g.S.Store c.query_all.new.self) has c.query_all.result (c.query_all.ensures.ok clean))

pub returns-clause-reads : goal.returns-clause-reads
returns-clause-reads g c =
    let old = state g.S.Store c.args.connection.now in
    let new = state g.S.Store c.query_all.new.self in
    record {
      clean = search rules;
      unchanged = λ clean. query_unchanged meta_rows_text meta_reads [] old new c.query_all.result (c.query_all.ensures.ok clean);
      keeps = λ clean. query_keeps meta_rows_text meta_reads [] old new (search rules) c.query_all.result (c.query_all.ensures.ok clean) (c.query_all.ensures.err clean);
      faults = keeps_faults old new c.query_all.ensures.survives;
      why = λ clean has. meta_fails old new has c.query_all.result (c.query_all.ensures.err clean);
    }
