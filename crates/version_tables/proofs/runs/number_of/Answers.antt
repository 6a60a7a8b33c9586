use Rattle.std.proofs.Common.{◌≡◌, Err, rules, to_z, of_z, w64}
use Rattle.std.proofs.lemmas.Result.{err_from_is_err_and}
use Rattle.sqlite.specs.Held.{state}
use Rattle.version_tables.specs.Runs.{recorded}
use Rattle.version_tables.proofs.Numbered.{number_fails}
use Rattle.version_tables.proofs.Selects.{in_time, number_reads, query_commits_nothing, unchanged_by}
use Rattle.version_tables.specs.Texts.{number_text}
use Rattle.version_tables.proofs.runs.number_of.Goals as goal

pub returns-in_err-rows-clause-inside : goal.returns-in_err-rows-clause-inside
returns-in_err-rows-clause-inside g c = record {
  kept = λ clean. query_commits_nothing number_text number_reads _ (state g.S.Store c.args.transaction.now.conn.now) (state g.S.Store c.query_all.new.self.conn.now) c.query_all.result (c.query_all.ensures.ok clean) (c.query_all.ensures.err clean);
  survives = c.query_all.ensures.survives;
}

pub returns-in_err-rows-clause-why : goal.returns-in_err-rows-clause-why
returns-in_err-rows-clause-why g c clean has =
    let old = state g.S.Store c.args.transaction.now.conn.now in
    let new = state g.S.Store c.query_all.new.self.conn.now in
    let p = err_from_is_err_and c.from_residual.result c.from_residual.ensures.1 in
    let start : to_z w64 (of_z w64 c.args.key.now.key.start) ≡ c.args.key.now.key.start = search rules in
    let from : to_z w64 (of_z w64 c.args.key.now.from) ≡ c.args.key.now.from = search rules in
    let late = rw (c.params-to_sql.ensures, c.params-to_sql-2.ensures, c.params-to_sql-3.ensures, c.params-to_sql-4.ensures, c.as_slice-values.ensures.value, start, from) at (c.in_err-rows.ensures.err clean) in
    rw (p.1, p.2) (number_fails old new (recorded c.args.table c.args.key.now) has (Err _) (in_time number_text number_reads _ old new (Err _) late))

pub returns-clause-inside : goal.returns-clause-inside
returns-clause-inside g c = record {
  kept = λ clean. query_commits_nothing number_text number_reads _ (state g.S.Store c.args.transaction.now.conn.now) (state g.S.Store c.query_all.new.self.conn.now) c.query_all.result (c.query_all.ensures.ok clean) (c.query_all.ensures.err clean);
  survives = c.query_all.ensures.survives;
}

pub returns-clause-read : goal.returns-clause-read
returns-clause-read g c clean = unchanged_by number_text number_reads _ (state g.S.Store c.args.transaction.now.conn.now) (state g.S.Store c.query_all.new.self.conn.now) _ (c.in_ok-rows.ensures.ok clean)
