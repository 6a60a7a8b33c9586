use Rattle.std.proofs.Common.{◌≡◌, ◌+◌, ◌-◌, ◌<◌, ◌≤◌, ℕ, arith, rules, refl, ap, ◌∙◌, subst, sym, [], length, map, take}
use Rattle.std.proofs.lemmas.List.{length-map, nil_from_length}
use Rattle.std.proofs.lemmas.Result.{err_from_is_err_and}
use Rattle.sqlite.specs.State.{HasCleanDisk}
use Rattle.period_core.specs.Encoding.{encoded}
use Rattle.period_core.specs.declared.row.PeriodRow.{PeriodRow}
use Rattle.version_tables.specs.Healthy.{CanAdd, IsHealthy, IsShort}
use Rattle.version_tables.proofs.OwnKeys.{healthy_less}
use Rattle.version_store.specs.Contents.{Contents}
use Rattle.version_store.specs.DistinctKeys.{HaveDistinctKeys}
use Rattle.version_store.specs.Written.{written}
use Rattle.version_store.proofs.Causes.{all_at, can_add_all, caused_then, distinct_part}
use Rattle.sqlite.specs.Held.{state}
use Rattle.period_core.specs.Moments.{forever}
use Rattle.version_tables.specs.Represents.{Records, Represents, all_added, new_version}
use Rattle.version_tables.proofs.Keeping.{leaves_same, leaves_then}
use Rattle.version_tables.proofs.Steps.{nothing_then}
use Rattle.version_store.specs.Changed.{added_at}
use Rattle.version_store.specs.PendingRemovals.{HasExcept}
use Rattle.version_store.proofs.Leaves.{all_adds, new_of}
use Rattle.version_store.proofs.AfterCalls.{on_ok}
use Rattle.version_store.proofs.Sweeps.{added_more, none_added}
use Rattle.version_store.proofs.insertion.add_rows.Goals as goal

pub returns-then-is_empty-clause-made : goal.returns-then-is_empty-clause-made
returns-then-is_empty-clause-made g c clean begun =
    let old = (state g.S.Store c.args.transaction.now.conn.now).now in
    let now = (state g.S.Store c.insert_rows.new.transaction.conn.now).now in
    let table = c.args.table in
    let moment = c.args.moment in
    let rows = c.args.rows.now in
    let none : c.args.pending.now.keys ≡ [] = nil_from_length _ (c.is_empty.ensures.0 c.if-is_empty.true) in
    let new : map (new_version table moment forever) c.as_slice.result.now ≡ map (new_of table moment) rows = ap (map (new_version table moment forever)) c.as_slice.ensures.value ∙ c.in_ok-new.ensures.same table moment in
    on_ok c.insert_rows.result
    (λ made. (
      made.0,
      λ m has.
          subst (λ l. HasExcept now table moment l (added_at table moment rows m)) (sym none)
          (all_adds table moment rows c.in_ok-new.ensures.held old now m (subst (λ l. HasExcept old table moment l m) none has) (subst (λ vs. (records : Records) → Represents old records → Represents now (all_added vs records)) new made.1)),
    ))
    (c.insert_rows.ensures.made clean begun)

pub loop-row-init : goal.loop-row-init
loop-row-init g c =
    (refl, search rules, leaves_same g.S.Store c.args.transaction.now.conn.now c.args.transaction.now.conn.now refl, λ clean begun. (begun, λ m has. subst (HasExcept (state g.S.Store c.args.transaction.now.conn.now).now c.args.table c.args.moment c.args.pending.now.keys) (sym (none_added c.args.table c.args.moment m)) has), λ left clean begun healthy m has. (let all : length c.args.rows.now + left ≡ (length c.args.rows.now - 0) + left = omega arith in subst (λ (n : ℕ). IsHealthy n (state g.S.Store c.args.transaction.now.conn.now).now) all healthy))

pub loop-row-preserved : goal.loop-row-preserved
loop-row-preserved g c =
    let was = c.loop-row.invariant in
    let step = c.add_row.ensures in (
      step.same_reference ∙ was.0,
      nothing_then g.S.Store _ _ _ was.1 step.inside,
      leaves_then g.S.Store c.args.transaction.now.conn.now _ _ was.2 step.inside c.in_ok-add_row.ensures.others,
      λ clean begun.
          let mid = was.3 (omega (arith, step.inside.survives.clean)) begun in
          let made = c.in_ok-add_row.ensures.made clean mid.0 in
          (made.0, λ m stands. subst (HasExcept (state g.S.Store c.add_row.new.transaction.conn.now).now c.args.table c.args.moment c.add_row.new.pending.keys) (added_more c.args.table c.args.moment c.args.rows.now c.loop-row.row-index c.row-item.result c.loop-row-test.true c.row-item.is m) (made.1 _ (mid.1 m stands))),
      λ left clean begun healthy m stands.
          let clean_mid : HasCleanDisk (state g.S.Store c.loop-row.transaction.conn.now) = omega (arith, step.inside.survives.clean) in
          let mid = was.3 clean_mid begun in
          let sound = was.4 left clean_mid begun healthy m stands in
          let size = length c.args.rows.now in
          let i = c.loop-row.row-index in
          let low : i < size = c.loop-row-test.true in
          let one : (size - i) + left ≡ 1 + ((size - (i + 1)) + left) = omega (arith, low) in
          c.in_ok-add_row.ensures.healthy clean mid.0 ((size - (i + 1)) + left) (subst (λ (n : ℕ). IsHealthy n (state g.S.Store c.loop-row.transaction.conn.now).now) one sound) (added_at c.args.table c.args.moment (take i c.args.rows.now) m) (mid.1 m stands),
    )

-- ---- why it fails, and that the database stays healthy

pub returns-then-is_empty-clause-why : goal.returns-then-is_empty-clause-why
returns-then-is_empty-clause-why g c clean begun healthy m was can =
    let old = (state g.S.Store c.args.transaction.now.conn.now).now in
    let table = c.args.table in
    let moment = c.args.moment in
    let rows = c.args.rows.now in
    let none : c.args.pending.now.keys ≡ [] = nil_from_length _ (c.is_empty.ensures.0 c.if-is_empty.true) in
    let new : map (new_version table moment forever) c.as_slice.result.now ≡ map (new_of table moment) rows = ap (map (new_version table moment forever)) c.as_slice.ensures.value ∙ c.in_ok-new.ensures.same table moment in
    let has = subst (λ l. HasExcept old table moment l m) none was in
    let size : length rows ≡ length c.as_slice.result.now = sym (length-map rows (new_of table moment)) ∙ sym (ap length new) ∙ length-map c.as_slice.result.now (new_version table moment forever) in
    c.insert_rows.ensures.why clean begun (subst (λ (n : ℕ). IsHealthy n old) size healthy) (record (written m) { versions = has.versions }) has.rows
    (subst (λ vs. CanAdd vs (record (written m) { versions = has.versions })) (sym new) (can_add_all table moment rows c.in_ok-new.ensures.held old m has can.0 can.1))

pub returns-then-is_empty-clause-healthy : goal.returns-then-is_empty-clause-healthy
returns-then-is_empty-clause-healthy g c clean begun left healthy m was =
    let old = (state g.S.Store c.args.transaction.now.conn.now).now in
    let table = c.args.table in
    let moment = c.args.moment in
    let rows = c.args.rows.now in
    let new : map (new_version table moment forever) c.as_slice.result.now ≡ map (new_of table moment) rows = ap (map (new_version table moment forever)) c.as_slice.ensures.value ∙ c.in_ok-new.ensures.same table moment in
    let size : length rows ≡ length c.as_slice.result.now = sym (length-map rows (new_of table moment)) ∙ sym (ap length new) ∙ length-map c.as_slice.result.now (new_version table moment forever) in
    c.insert_rows.ensures.healthy clean begun left (subst (λ (n : ℕ). IsHealthy (n + left) old) size healthy) tt _ was.rows

pub returns-in_err-add_row-clause-why : goal.returns-in_err-add_row-clause-why
returns-in_err-add_row-clause-why g c clean begun healthy m was can =
    let table = c.args.table in
    let moment = c.args.moment in
    let rows = c.args.rows.now in
    let i = c.loop-row.row-index in
    let row = c.row-item.result in
    let so_far = c.loop-row.invariant in
    let step = c.add_row.ensures in
    let clean_mid : HasCleanDisk (state g.S.Store c.loop-row.transaction.conn.now) = omega (arith, step.inside.survives.clean) in
    let mid = so_far.3 clean_mid begun in
    let zero : length rows ≡ length rows + 0 = omega arith in
    let sound = so_far.4 0 clean_mid begun (subst (λ (n : ℕ). IsHealthy n (state g.S.Store c.args.transaction.now.conn.now).now) zero healthy) m was in
    let low : i < length rows = c.loop-row-test.true in
    let some : 1 ≤ (length rows - i) + 0 = omega (arith, low) in
    let short = all_at (λ (r : PeriodRow). IsShort (encoded r.values)) rows i row low c.row-item.is can.0 in
    let distinct = subst (λ (d : Contents). HaveDistinctKeys d.versions) (sym (added_more table moment rows i row low c.row-item.is m)) (distinct_part table moment rows (i + 1) m can.1) in
    let why = c.in_err-add_row.ensures.why clean mid.0 (healthy_less 1 ((length rows - i) + 0) _ some sound) (added_at table moment (take i rows) m) (mid.1 m was) (short, distinct) in
    let p = err_from_is_err_and c.from_residual-in_err-add_row.result c.from_residual-in_err-add_row.ensures.1 in
    rw (p.1, p.2) (caused_then (state g.S.Store c.args.transaction.now.conn.now) (state g.S.Store c.loop-row.transaction.conn.now) (state g.S.Store c.add_row.new.transaction.conn.now) clean_mid so_far.1.survives step.inside.survives _ why)

pub returns-clause-healthy : goal.returns-clause-healthy
returns-clause-healthy g c clean begun left healthy m was =
    let sound = c.loop-row.invariant.4 left clean begun healthy m was in
    let some : left ≤ (length c.args.rows.now - c.loop-row.row-index) + left = omega arith in
    healthy_less left ((length c.args.rows.now - c.loop-row.row-index) + left) _ some sound
