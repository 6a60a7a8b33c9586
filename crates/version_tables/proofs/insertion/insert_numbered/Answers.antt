use Rattle.std.proofs.Common.{◌≡◌, ◌+◌, ℕ, Ok, ap, arith, length, refl, subst, ◌∙◌, w64}
use Rattle.std.proofs.lemmas.Int.{to_z-of_z}
use Rattle.sqlite.specs.Values.{bound}
use Rattle.sqlite.specs.Held.{state}
use Rattle.version_tables.specs.Adding.{given_numbered}
use Rattle.version_tables.specs.Healthy.{IsHealthy}
use Rattle.version_tables.proofs.Adds.{adds_numbered, numbered_fails, numbered_leaves, numbers}
use Rattle.version_tables.proofs.Keeping.{statement_leaves, version_own}
use Rattle.version_tables.proofs.Steps.{one_statement}
use Rattle.version_tables.proofs.insertion.insert_numbered.Goals as goal

pub returns-in-Ok-clause-made : goal.returns-in-Ok-clause-made
returns-in-Ok-clause-made g c clean begun =
    let rows = c.args.rows.now in
    let given : bound c.as_slice.result.now ≡ given_numbered c.args.table c.args.from c.args.to c.args.first rows = ap bound c.as_slice.ensures.value ∙ rw (to_z-of_z w64 c.args.from c.ranges.from, to_z-of_z w64 c.args.to c.ranges.to, to_z-of_z w64 c.args.first c.ranges.first) at c.in_ok-parameters.ensures in
    adds_numbered c.args.table c.args.from c.args.to c.args.first rows c.requires.rows (state g.S.Store c.args.transaction.now.conn.now) (state g.S.Store c.execute.new.self.conn.now) (Ok c.in-Ok.field-0) (rw given at (c.in-Ok.ensures.runs clean begun)) begun

pub returns-clause-inside : goal.returns-clause-inside
returns-clause-inside g c = one_statement g.S.Store _ _ _ _ c.execute.result c.execute.ensures.ended c.execute.ensures.runs c.execute.ensures.survives

pub returns-in-Ok-clause-others : goal.returns-in-Ok-clause-others
returns-in-Ok-clause-others g c =
    statement_leaves version_own _ _ _ (numbers c.args.rows.now c.requires.rows) refl g.S.Store _ _ (Ok c.in-Ok.field-0) c.in-Ok.ensures.ended c.in-Ok.ensures.runs

pub returns-clause-why : goal.returns-clause-why
returns-clause-why g c clean begun healthy records was can =
    let rows = c.args.rows.now in
    let given : bound c.as_slice.result.now ≡ given_numbered c.args.table c.args.from c.args.to c.args.first rows = ap bound c.as_slice.ensures.value ∙ rw (to_z-of_z w64 c.args.from c.ranges.from, to_z-of_z w64 c.args.to c.ranges.to, to_z-of_z w64 c.args.first c.ranges.first) at c.in_ok-parameters.ensures in
    let all : length rows ≡ length rows + 0 = omega arith in
    numbered_fails c.args.table c.args.from c.args.to c.args.first rows c.requires.rows (state g.S.Store c.args.transaction.now.conn.now) records was 0 (subst (λ (n : ℕ). IsHealthy n (state g.S.Store c.args.transaction.now.conn.now).now) all healthy) can.0 can.1
    (state g.S.Store c.execute.new.self.conn.now) c.in-Err.error (rw given at (c.in-Err.ensures.runs clean begun))

pub returns-in-Ok-clause-room : goal.returns-in-Ok-clause-room
returns-in-Ok-clause-room g c clean begun left healthy next records was =
    let rows = c.args.rows.now in
    let given : bound c.as_slice.result.now ≡ given_numbered c.args.table c.args.from c.args.to c.args.first rows = ap bound c.as_slice.ensures.value ∙ rw (to_z-of_z w64 c.args.from c.ranges.from, to_z-of_z w64 c.args.to c.ranges.to, to_z-of_z w64 c.args.first c.ranges.first) at c.in_ok-parameters.ensures in
    numbered_leaves c.args.table c.args.from c.args.to c.args.first rows c.requires.rows (state g.S.Store c.args.transaction.now.conn.now) records was left healthy next
    (state g.S.Store c.execute.new.self.conn.now) c.in-Ok.field-0 (rw given at (c.in-Ok.ensures.runs clean begun)).0
