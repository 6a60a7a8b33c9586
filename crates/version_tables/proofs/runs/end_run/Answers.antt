use Rattle.std.proofs.Common.{◌∙◌, Err, Ok, IsTrue, arith, map, refl, subst, sym, w64}
use Rattle.std.proofs.lemmas.Int.{to_z-of_z}
use Rattle.std.specs.List.Sorted.{IsPermutation}
use Rattle.std.proofs.lemmas.Result.{err_from_is_err_and}
use Rattle.sqlite.specs.Effect.{Database, IsDatabase}
use Rattle.sqlite.specs.Held.{state}
use Rattle.sqlite.specs.State.{HasCleanDisk}
use Rattle.version_tables.specs.Healthy.{IsHealthy}
use Rattle.version_tables.specs.Represents.{Represents}
use Rattle.version_tables.specs.Runs.{recorded}
use Rattle.version_tables.specs.Steps.{CommitsNothing}
use Rattle.version_tables.specs.Texts.{run_keys_text}
use Rattle.version_tables.proofs.Clashes.{own_of}
use Rattle.version_tables.proofs.Keeping.{keeps_same, leaves_then, statement_leaves, version_own}
use Rattle.version_tables.proofs.Numbered.{HaveKeys, end_run_is, keys_read, run_ends, run_fails, run_healthy, run_keys_fail, run_sound}
use Rattle.version_tables.proofs.OwnKeys.{healthy_still}
use Rattle.version_tables.proofs.Selects.{in_time, query_commits_nothing, run_reads, unchanged_by}
use Rattle.version_tables.proofs.Steps.{nothing_then, one_statement, reason_then}
use Rattle.version_tables.proofs.runs.end_run.Goals as goal

pub returns-in_err-rows-clause-inside : goal.returns-in_err-rows-clause-inside
returns-in_err-rows-clause-inside g c = record {
  kept = λ clean. query_commits_nothing run_keys_text run_reads _ (state g.S.Store c.args.transaction.now.conn.now) (state g.S.Store c.query_all.new.self.conn.now) c.query_all.result (c.query_all.ensures.ok clean) (c.query_all.ensures.err clean);
  survives = c.query_all.ensures.survives;
}

pub returns-in_err-rows-clause-why : goal.returns-in_err-rows-clause-why
returns-in_err-rows-clause-why g c clean begun healthy records was short =
    let old = state g.S.Store c.args.transaction.now.conn.now in
    let new = state g.S.Store c.query_all.new.self.conn.now in
    let p = err_from_is_err_and c.from_residual.result c.from_residual.ensures.1 in
    let late = rw (c.params-to_sql.ensures, c.params-to_sql-2.ensures, to_z-of_z w64 c.args.first c.ranges.first, to_z-of_z w64 c.args.last c.ranges.last) at (c.in_err-rows.ensures.err clean) in
    rw (p.1, p.2) (run_keys_fail old new c.args.first c.args.last was.schema (Err _) (in_time run_keys_text run_reads _ old new (Err _) late))

-- ---- the keys are others

pub returns-then-not-are_keys-clause-made : goal.returns-then-not-are_keys-clause-made
returns-then-not-are_keys-clause-made g c clean begun =
    let old = state g.S.Store c.args.transaction.now.conn.now in
    let new = state g.S.Store c.query_all.new.self.conn.now in
    let same = unchanged_by run_keys_text run_reads _ old new _ (c.in_ok-rows.ensures.ok clean) in
    (subst IsTrue (sym same.0.mode) begun, λ sound m was. (subst IsDatabase (sym same.0.now_is) sound, subst (λ (d : Database). Represents d m) (sym same.0.now_is) was))

pub returns-then-not-are_keys-clause-others : goal.returns-then-not-are_keys-clause-others
returns-then-not-are_keys-clause-others g c clean has =
    let old = state g.S.Store c.args.transaction.now.conn.now in
    let new = state g.S.Store c.query_all.new.self.conn.now in
    keeps_same old.now new.now (unchanged_by run_keys_text run_reads _ old new _ (c.in_ok-rows.ensures.ok clean)).0.now_is

pub returns-then-not-are_keys-clause-inside : goal.returns-then-not-are_keys-clause-inside
returns-then-not-are_keys-clause-inside g c = record {
  kept = λ clean. query_commits_nothing run_keys_text run_reads _ (state g.S.Store c.args.transaction.now.conn.now) (state g.S.Store c.query_all.new.self.conn.now) c.query_all.result (c.query_all.ensures.ok clean) (c.query_all.ensures.err clean);
  survives = c.query_all.ensures.survives;
}

pub returns-then-not-are_keys-clause-healthy : goal.returns-then-not-are_keys-clause-healthy
returns-then-not-are_keys-clause-healthy g c clean begun left healthy _ records was =
    let old = state g.S.Store c.args.transaction.now.conn.now in
    let new = state g.S.Store c.query_all.new.self.conn.now in
    let same = unchanged_by run_keys_text run_reads _ old new _ (c.in_ok-rows.ensures.ok clean) in
    subst (IsHealthy left) (sym same.0.now_is) (healthy_still left old.now healthy)

-- ---- the keys are these

pub returns-in_err-execute-clause-inside : goal.returns-in_err-execute-clause-inside
returns-in_err-execute-clause-inside g c =
    let read : CommitsNothing g.S.Store c.args.transaction.now.conn.now c.query_all.new.self.conn.now = record {
      kept = λ clean. query_commits_nothing run_keys_text run_reads _ (state g.S.Store c.args.transaction.now.conn.now) (state g.S.Store c.query_all.new.self.conn.now) c.query_all.result (c.query_all.ensures.ok clean) (c.query_all.ensures.err clean);
      survives = c.query_all.ensures.survives;
    } in
    nothing_then g.S.Store _ _ _ read (one_statement g.S.Store _ _ _ _ c.execute.result c.execute.ensures.ended c.execute.ensures.runs c.execute.ensures.survives)

pub returns-clause-inside : goal.returns-clause-inside
returns-clause-inside g c =
    let read : CommitsNothing g.S.Store c.args.transaction.now.conn.now c.query_all.new.self.conn.now = record {
      kept = λ clean. query_commits_nothing run_keys_text run_reads _ (state g.S.Store c.args.transaction.now.conn.now) (state g.S.Store c.query_all.new.self.conn.now) c.query_all.result (c.query_all.ensures.ok clean) (c.query_all.ensures.err clean);
      survives = c.query_all.ensures.survives;
    } in
    nothing_then g.S.Store _ _ _ read (one_statement g.S.Store _ _ _ _ c.execute.result c.execute.ensures.ended c.execute.ensures.runs c.execute.ensures.survives)

pub returns-clause-others : goal.returns-clause-others
returns-clause-others g c =
    let old = state g.S.Store c.args.transaction.now.conn.now in
    let mid = state g.S.Store c.query_all.new.self.conn.now in
    leaves_then g.S.Store c.args.transaction.now.conn.now c.query_all.new.self.conn.now c.execute.new.self.conn.now
    (λ clean has. keeps_same old.now mid.now (unchanged_by run_keys_text run_reads _ old mid _ (c.in_ok-rows.ensures.ok clean)).0.now_is)
    (one_statement g.S.Store _ _ _ _ c.execute.result c.execute.ensures.ended c.execute.ensures.runs c.execute.ensures.survives)
    (statement_leaves version_own _ _ _ end_run_is refl g.S.Store _ _ (Ok c.in_ok-execute.field-0) c.in_ok-execute.ensures.ended c.in_ok-execute.ensures.runs)

pub returns-in_err-execute-clause-why : goal.returns-in_err-execute-clause-why
returns-in_err-execute-clause-why g c clean begun healthy m was short =
    let old = state g.S.Store c.args.transaction.now.conn.now in
    let mid = state g.S.Store c.query_all.new.self.conn.now in
    let new = state g.S.Store c.execute.new.self.conn.now in
    let ks = map (recorded c.args.table) c.args.keys.now in
    let clean_mid : HasCleanDisk mid = omega (arith, c.execute.ensures.survives.clean) in
    let asked = rw (c.params-to_sql.ensures, c.params-to_sql-2.ensures, to_z-of_z w64 c.args.first c.ranges.first, to_z-of_z w64 c.args.last c.ranges.last) at (c.in_ok-rows.ensures.ok clean_mid) in
    let same = unchanged_by run_keys_text run_reads _ old mid _ asked in
    let rows = sym c.as_slice.ensures.value ∙ c.are_keys.ensures c.if-not-are_keys.false in
    let these : HaveKeys old.now c.args.first c.args.last ks = subst (IsPermutation _) rows (keys_read old mid c.args.first c.args.last _ was.schema asked) in
    let p = err_from_is_err_and c.from_residual-in_err-execute.result c.from_residual-in_err-execute.ensures.1 in
    let runs = rw (c.params-to_sql-3.ensures, c.params-to_sql-4.ensures, c.params-to_sql-5.ensures, to_z-of_z w64 c.args.first c.ranges.first, to_z-of_z w64 c.args.last c.ranges.last, to_z-of_z w64 c.args.to c.ranges.to) at (c.in_err-execute.ensures.runs clean (subst IsTrue (sym same.0.mode) begun)) in
    let why = run_fails mid m (subst (λ (d : Database). Represents d m) (sym same.0.now_is) was) (own_of old.now m was healthy.sound) c.args.first c.args.last c.args.to ks (subst (λ (d : Database). HaveKeys d c.args.first c.args.last ks) (sym same.0.now_is) these) 0 (subst (IsHealthy 0) (sym same.0.now_is) healthy) short new _ runs in
    rw (p.1, p.2) (reason_then _ old mid new clean_mid c.query_all.ensures.survives c.execute.ensures.survives why)

pub returns-clause-made : goal.returns-clause-made
returns-clause-made g c clean begun =
    let old = state g.S.Store c.args.transaction.now.conn.now in
    let mid = state g.S.Store c.query_all.new.self.conn.now in
    let new = state g.S.Store c.execute.new.self.conn.now in
    let ks = map (recorded c.args.table) c.args.keys.now in
    let clean_mid : HasCleanDisk mid = omega (arith, c.execute.ensures.survives.clean) in
    let asked = rw (c.params-to_sql.ensures, c.params-to_sql-2.ensures, to_z-of_z w64 c.args.first c.ranges.first, to_z-of_z w64 c.args.last c.ranges.last) at (c.in_ok-rows.ensures.ok clean_mid) in
    let same = unchanged_by run_keys_text run_reads _ old mid _ asked in
    let rows = sym c.as_slice.ensures.value ∙ c.are_keys.ensures c.if-not-are_keys.false in
    let runs = rw (c.params-to_sql-3.ensures, c.params-to_sql-4.ensures, c.params-to_sql-5.ensures, to_z-of_z w64 c.args.first c.ranges.first, to_z-of_z w64 c.args.last c.ranges.last, to_z-of_z w64 c.args.to c.ranges.to) at (c.in_ok-execute.ensures.runs clean (subst IsTrue (sym same.0.mode) begun)) in (
      runs.1.mode,
      λ sound m was.
          let these : HaveKeys old.now c.args.first c.args.last ks = subst (IsPermutation _) rows (keys_read old mid c.args.first c.args.last _ was.schema asked) in
          let was_mid = subst (λ (d : Database). Represents d m) (sym same.0.now_is) was in (
            run_sound mid new c.args.first c.args.last c.args.to _ was_mid.schema runs.0,
            run_ends mid m was_mid (own_of old.now m was sound) c.args.first c.args.last c.args.to ks (subst (λ (d : Database). HaveKeys d c.args.first c.args.last ks) (sym same.0.now_is) these) new _ runs.0,
          ),
    )

pub returns-clause-healthy : goal.returns-clause-healthy
returns-clause-healthy g c clean begun left healthy _ m was =
    let old = state g.S.Store c.args.transaction.now.conn.now in
    let mid = state g.S.Store c.query_all.new.self.conn.now in
    let new = state g.S.Store c.execute.new.self.conn.now in
    let ks = map (recorded c.args.table) c.args.keys.now in
    let clean_mid : HasCleanDisk mid = omega (arith, c.execute.ensures.survives.clean) in
    let asked = rw (c.params-to_sql.ensures, c.params-to_sql-2.ensures, to_z-of_z w64 c.args.first c.ranges.first, to_z-of_z w64 c.args.last c.ranges.last) at (c.in_ok-rows.ensures.ok clean_mid) in
    let same = unchanged_by run_keys_text run_reads _ old mid _ asked in
    let rows = sym c.as_slice.ensures.value ∙ c.are_keys.ensures c.if-not-are_keys.false in
    let these : HaveKeys old.now c.args.first c.args.last ks = subst (IsPermutation _) rows (keys_read old mid c.args.first c.args.last _ was.schema asked) in
    let runs = rw (c.params-to_sql-3.ensures, c.params-to_sql-4.ensures, c.params-to_sql-5.ensures, to_z-of_z w64 c.args.first c.ranges.first, to_z-of_z w64 c.args.last c.ranges.last, to_z-of_z w64 c.args.to c.ranges.to) at (c.in_ok-execute.ensures.runs clean (subst IsTrue (sym same.0.mode) begun)) in
    run_healthy mid m (subst (λ (d : Database). Represents d m) (sym same.0.now_is) was) (own_of old.now m was healthy.sound) c.args.first c.args.last c.args.to ks (subst (λ (d : Database). HaveKeys d c.args.first c.args.last ks) (sym same.0.now_is) these) left (subst (IsHealthy left) (sym same.0.now_is) (healthy_still left old.now healthy)) new _ runs.0
