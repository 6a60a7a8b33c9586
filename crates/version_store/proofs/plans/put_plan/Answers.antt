use Rattle.std.proofs.Common.{◌≡◌, ◌+◌, ◌≤◌, ℕ, List, ap, arith, length, subst, subst₂, sym}
use Rattle.std.specs.List.{AllByRecursion}
use Rattle.std.proofs.lemmas.Result.{err_from_is_err_and}
use Rattle.sqlite.specs.State.{HasCleanDisk}
use Rattle.period_core.specs.Encoding.{encoded}
use Rattle.version_tables.specs.Healthy.{IsHealthy, IsShort}
use Rattle.version_tables.proofs.OwnKeys.{healthy_less, healthy_none}
use Rattle.version_tables.proofs.Steps.{nothing_then}
use Rattle.version_store.specs.DistinctKeys.{HaveDistinctKeys}
use Rattle.version_store.proofs.Causes.{caused_then, if_err}
use Rattle.sqlite.specs.Held.{state}
use Rattle.period_core.specs.declared.row.PeriodRow.{PeriodRow}
use Rattle.period_core.specs.declared.version.VersionRow.{VersionRow}
use Rattle.version_tables.specs.declared.version_key.VersionKey.{VersionKey}
use Rattle.version_tables.proofs.Keeping.{leaves_then}
use Rattle.version_store.specs.Changed.{planned}
use Rattle.version_store.specs.PendingRemovals.{HasExcept}
use Rattle.version_store.specs.Written.{Has}
use Rattle.version_store.proofs.Leaves.{begins, settles}
use Rattle.version_store.proofs.AfterCalls.{on_ok}
use Rattle.version_store.proofs.plans.put_plan.Goals as goal

pub returns-clause-made : goal.returns-clause-made
returns-clause-made g k clean begun =
    let old = (state g.S.Store k.args.transaction.now.conn.now).now in
    let new = (state g.S.Store k.remove_rows.new.transaction.conn.now).now in
    let table = k.args.table in
    let moment = k.args.moment in
    let ended = k.in_ok-end_rows.ensures.made (omega (arith, k.add_rows.ensures.inside.survives.clean, k.remove_rows.ensures.inside.survives.clean)) begun in
    let added = k.in_ok-add_rows.ensures.made (omega (arith, k.remove_rows.ensures.inside.survives.clean)) ended.0 in
    on_ok k.remove_rows.result
    (λ made. (
      made.0,
      λ sound c has.
          let first = subst (λ (l : List VersionKey). HasExcept old table moment l c) (sym k.new-pending.ensures.empty) (begins old table moment c has) in
          subst₂ (λ (a : List VersionRow) (b : List PeriodRow). Has new (planned table moment a b c)) k.as_slice.ensures k.as_slice-2.ensures (settles new table moment _ (made.1 _ (added.1 _ (ended.1 sound c first)))),
    ))
    (k.remove_rows.ensures.made clean added.0)

pub returns-clause-others : goal.returns-clause-others
returns-clause-others g k =
    let added = leaves_then g.S.Store k.args.transaction.now.conn.now _ _ k.in_ok-end_rows.ensures.others k.add_rows.ensures.inside k.in_ok-add_rows.ensures.others in
    on_ok k.remove_rows.result (leaves_then g.S.Store k.args.transaction.now.conn.now _ _ added k.remove_rows.ensures.inside) k.remove_rows.ensures.others

-- ---- why it fails, and that the database stays healthy

pub returns-in_err-end_rows-clause-why : goal.returns-in_err-end_rows-clause-why
returns-in_err-end_rows-clause-why g k clean begun healthy c has can =
    let old = (state g.S.Store k.args.transaction.now.conn.now).now in
    let first = subst (λ (l : List VersionKey). HasExcept old k.args.table k.args.moment l c) (sym k.new-pending.ensures.empty) (begins old k.args.table k.args.moment c has) in
    let none : 0 ≤ length k.args.plan.now.added = omega arith in
    let p = err_from_is_err_and k.from_residual.result k.from_residual.ensures.1 in
    rw (p.1, p.2) (k.in_err-end_rows.ensures.why clean begun (healthy_less 0 _ old none healthy) c first (subst (AllByRecursion (λ (r : VersionRow). IsShort (encoded r.values))) (sym k.as_slice.ensures) can.ended_short))

pub returns-in_err-add_rows-clause-why : goal.returns-in_err-add_rows-clause-why
returns-in_err-add_rows-clause-why g k clean begun healthy c has can =
    let old = (state g.S.Store k.args.transaction.now.conn.now).now in
    let table = k.args.table in
    let moment = k.args.moment in
    let first = subst (λ (l : List VersionKey). HasExcept old table moment l c) (sym k.new-pending.ensures.empty) (begins old table moment c has) in
    let clean_mid : HasCleanDisk (state g.S.Store k.end_rows.new.transaction.conn.now) = omega (arith, k.add_rows.ensures.inside.survives.clean) in
    let ended = k.in_ok-end_rows.ensures.made clean_mid begun in
    let size : length k.as_slice-2.result.now ≡ length k.args.plan.now.added = ap length k.as_slice-2.ensures in
    let many = subst (λ (n : ℕ). IsHealthy n old) (sym size) healthy in
    let sound = k.in_ok-end_rows.ensures.healthy clean_mid begun (length k.as_slice-2.result.now) (healthy_none _ old many) c first in
    let short = subst (AllByRecursion (λ (r : PeriodRow). IsShort (encoded r.values))) (sym k.as_slice-2.ensures) can.added_short in
    let distinct = subst₂ (λ (a : List VersionRow) (b : List PeriodRow). HaveDistinctKeys (planned table moment a b c).versions) (sym k.as_slice.ensures) (sym k.as_slice-2.ensures) can.distinct in
    let why = k.in_err-add_rows.ensures.why clean ended.0 sound _ (ended.1 healthy.sound c first) (short, distinct) in
    let p = err_from_is_err_and k.from_residual-in_err-add_rows.result k.from_residual-in_err-add_rows.ensures.1 in
    rw (p.1, p.2) (caused_then (state g.S.Store k.args.transaction.now.conn.now) (state g.S.Store k.end_rows.new.transaction.conn.now) (state g.S.Store k.add_rows.new.transaction.conn.now) clean_mid k.end_rows.ensures.inside.survives k.add_rows.ensures.inside.survives _ why)

pub returns-clause-why : goal.returns-clause-why
returns-clause-why g k clean begun healthy c has can =
    let old = (state g.S.Store k.args.transaction.now.conn.now).now in
    let table = k.args.table in
    let moment = k.args.moment in
    let first = subst (λ (l : List VersionKey). HasExcept old table moment l c) (sym k.new-pending.ensures.empty) (begins old table moment c has) in
    let clean2 : HasCleanDisk (state g.S.Store k.add_rows.new.transaction.conn.now) = omega (arith, k.remove_rows.ensures.inside.survives.clean) in
    let clean1 : HasCleanDisk (state g.S.Store k.end_rows.new.transaction.conn.now) = omega (arith, k.add_rows.ensures.inside.survives.clean, clean2) in
    let ended = k.in_ok-end_rows.ensures.made clean1 begun in
    let added = k.in_ok-add_rows.ensures.made clean2 ended.0 in
    let size : length k.as_slice-2.result.now ≡ length k.args.plan.now.added = ap length k.as_slice-2.ensures in
    let many = subst (λ (n : ℕ). IsHealthy n old) (sym size) healthy in
    let sound1 = k.in_ok-end_rows.ensures.healthy clean1 begun (length k.as_slice-2.result.now) (healthy_none _ old many) c first in
    let zero : length k.as_slice-2.result.now ≡ length k.as_slice-2.result.now + 0 = omega arith in
    let sound2 = k.in_ok-add_rows.ensures.healthy clean2 ended.0 0 (subst (λ (n : ℕ). IsHealthy n (state g.S.Store k.end_rows.new.transaction.conn.now).now) zero sound1) _ (ended.1 healthy.sound c first) in
    let both = nothing_then g.S.Store _ _ _ k.end_rows.ensures.inside k.add_rows.ensures.inside in
    if_err _ _ k.remove_rows.result (caused_then (state g.S.Store k.args.transaction.now.conn.now) (state g.S.Store k.add_rows.new.transaction.conn.now) (state g.S.Store k.remove_rows.new.transaction.conn.now) clean2 both.survives k.remove_rows.ensures.inside.survives)
    (k.remove_rows.ensures.why clean added.0 sound2 _ (added.1 _ (ended.1 healthy.sound c first)) tt)

pub returns-clause-healthy : goal.returns-clause-healthy
returns-clause-healthy g k clean begun left healthy c has =
    let old = (state g.S.Store k.args.transaction.now.conn.now).now in
    let table = k.args.table in
    let moment = k.args.moment in
    let first = subst (λ (l : List VersionKey). HasExcept old table moment l c) (sym k.new-pending.ensures.empty) (begins old table moment c has) in
    let clean2 : HasCleanDisk (state g.S.Store k.add_rows.new.transaction.conn.now) = omega (arith, k.remove_rows.ensures.inside.survives.clean) in
    let clean1 : HasCleanDisk (state g.S.Store k.end_rows.new.transaction.conn.now) = omega (arith, k.add_rows.ensures.inside.survives.clean, clean2) in
    let ended = k.in_ok-end_rows.ensures.made clean1 begun in
    let added = k.in_ok-add_rows.ensures.made clean2 ended.0 in
    let size : length k.as_slice-2.result.now ≡ length k.args.plan.now.added = ap length k.as_slice-2.ensures in
    let many = subst (λ (n : ℕ). IsHealthy (n + left) old) (sym size) healthy in
    let sound1 = k.in_ok-end_rows.ensures.healthy clean1 begun (length k.as_slice-2.result.now + left) (healthy_none _ old many) c first in
    let sound2 = k.in_ok-add_rows.ensures.healthy clean2 ended.0 left sound1 _ (ended.1 healthy.sound c first) in
    k.remove_rows.ensures.healthy clean added.0 left (healthy_none left _ sound2) _ (added.1 _ (ended.1 healthy.sound c first))
