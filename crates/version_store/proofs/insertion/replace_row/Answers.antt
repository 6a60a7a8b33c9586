use Rattle.std.proofs.Common.{◌≡◌, ◌∷◌, ◌+◌, ◌≤◌, [], ℕ, arith, rules, subst, sym, w64, to_z, of_z}
use Rattle.std.proofs.lemmas.Result.{err_from_is_err_and}
use Rattle.sqlite.specs.Held.{state}
use Rattle.sqlite.specs.State.{HasCleanDisk}
use Rattle.period_core.specs.Moments.{forever}
use Rattle.version_tables.specs.Healthy.{CanAdd, IsHealthy, IsShort}
use Rattle.version_tables.specs.Represents.{new_version, removed}
use Rattle.version_tables.proofs.Clashes.{own_of}
use Rattle.version_tables.proofs.OwnKeys.{healthy_less, one_of_key}
use Rattle.version_store.specs.PendingRemovals.{key_at}
use Rattle.version_store.proofs.Causes.{caused_then, if_err, not_filtered}
use Rattle.version_tables.proofs.Keeping.{leaves_then}
use Rattle.version_tables.proofs.Steps.{nothing_then}
use Rattle.version_store.proofs.Leaves.{same_moved, one_moved, none_moved}
use Rattle.version_store.proofs.AfterCalls.{caused_by, on_ok}
use Rattle.version_store.proofs.insertion.replace_row.Goals as goal

pub returns-in-0-clause-made : goal.returns-in-0-clause-made
returns-in-0-clause-made g c clean begun =
    let old = (state g.S.Store c.args.transaction.now.conn.now).now in
    let mid = (state g.S.Store c.move_ends.new.transaction.conn.now).now in
    let new = c.args.new.now in
    let it = c.in_ok-replaced.ensures.made (omega (arith, c.insert_row.ensures.inside.survives.clean)) begun in
    let f : to_z w64 (of_z w64 c.number.result) ≡ c.number.result = search rules in
    let t : to_z w64 (of_z w64 c.number-to.result) ≡ c.number-to.result = search rules in
    let s : to_z w64 (of_z w64 new.key.start) ≡ new.key.start = search rules in
    let e : to_z w64 (of_z w64 new.end) ≡ new.end = search rules in
    let moves = same_moved old mid c.in_ok-replaced.replaced _ _ _ _ _ _ c.args.table c.args.moment new (cc c.from.ensures) c.as_slice.ensures.value s (cc (f, c.number.ensures.value)) e (cc (t, c.number-to.ensures.value, c.forever.ensures)) it.1 in
    on_ok c.insert_row.result
    (λ done. (done.0, λ m was. let one = moves m was in done.1 _ (none_moved c.args.table new.key.values.items new.key.start c.args.moment new.end forever mid m c.in_ok-replaced.replaced one.1 c.in-0.is one.0)))
    (c.insert_row.ensures.made clean it.0)

pub returns-in-0-clause-inside : goal.returns-in-0-clause-inside
returns-in-0-clause-inside g c = nothing_then g.S.Store _ _ _ c.in_ok-replaced.ensures.inside c.insert_row.ensures.inside

pub returns-in-0-clause-others : goal.returns-in-0-clause-others
returns-in-0-clause-others g c =
    on_ok c.insert_row.result (leaves_then g.S.Store c.args.transaction.now.conn.now _ _ c.in_ok-replaced.ensures.others c.insert_row.ensures.inside) c.insert_row.ensures.others

pub returns-in-1-clause-made : goal.returns-in-1-clause-made
returns-in-1-clause-made g c clean begun =
    let old = (state g.S.Store c.args.transaction.now.conn.now).now in
    let now = (state g.S.Store c.move_ends.new.transaction.conn.now).now in
    let new = c.args.new.now in
    let it = c.in_ok-replaced.ensures.made clean begun in
    let f : to_z w64 (of_z w64 c.number.result) ≡ c.number.result = search rules in
    let t : to_z w64 (of_z w64 c.number-to.result) ≡ c.number-to.result = search rules in
    let s : to_z w64 (of_z w64 new.key.start) ≡ new.key.start = search rules in
    let e : to_z w64 (of_z w64 new.end) ≡ new.end = search rules in
    let moves = same_moved old now c.in_ok-replaced.replaced _ _ _ _ _ _ c.args.table c.args.moment new (cc c.from.ensures) c.as_slice.ensures.value s (cc (f, c.number.ensures.value)) e (cc (t, c.number-to.ensures.value, c.forever.ensures)) it.1 in
    (it.0, λ m was. let one = moves m was in one_moved c.args.table new.key.values.items new.key.start c.args.moment new.end forever now m c.in_ok-replaced.replaced one.1 c.in-1.is one.0)

-- ---- why it fails, and that the database stays healthy

pub returns-in_err-replaced-clause-why : goal.returns-in_err-replaced-clause-why
returns-in_err-replaced-clause-why g c clean begun healthy records was short =
    let less : 0 ≤ 1 = omega arith in
    let p = err_from_is_err_and c.from_residual.result c.from_residual.ensures.1 in
    rw p.1 (caused_by (state g.S.Store c.args.transaction.now.conn.now) (state g.S.Store c.move_ends.new.transaction.conn.now) _ _ p.2 (c.in_err-replaced.ensures.why clean begun (healthy_less 0 1 _ less healthy) records was (subst IsShort (sym c.as_slice.ensures.value) short)))

pub returns-in-0-clause-why : goal.returns-in-0-clause-why
returns-in-0-clause-why g c clean begun healthy records was short =
    let old = (state g.S.Store c.args.transaction.now.conn.now).now in
    let mid = (state g.S.Store c.move_ends.new.transaction.conn.now).now in
    let new = c.args.new.now in
    let f : to_z w64 (of_z w64 c.number.result) ≡ c.number.result = search rules in
    let t : to_z w64 (of_z w64 c.number-to.result) ≡ c.number-to.result = search rules in
    let s : to_z w64 (of_z w64 new.key.start) ≡ new.key.start = search rules in
    let e : to_z w64 (of_z w64 new.end) ≡ new.end = search rules in
    let clean_mid : HasCleanDisk (state g.S.Store c.move_ends.new.transaction.conn.now) = omega (arith, c.insert_row.ensures.inside.survives.clean) in
    let it = c.in_ok-replaced.ensures.made clean_mid begun in
    let one = same_moved old mid c.in_ok-replaced.replaced _ _ _ _ _ _ c.args.table c.args.moment new (cc c.from.ensures) c.as_slice.ensures.value s (cc (f, c.number.ensures.value)) e (cc (t, c.number-to.ensures.value, c.forever.ensures)) it.1 records was in
    let left = none_moved c.args.table new.key.values.items new.key.start c.args.moment new.end forever mid records c.in_ok-replaced.replaced one.1 c.in-0.is one.0 in
    let sound : IsHealthy 1 mid = c.in_ok-replaced.ensures.healthy clean_mid begun 1 healthy tt records was in
    let key = key_at c.args.table c.args.moment new.key in
    let can : CanAdd (new_version c.args.table c.args.moment forever new ∷ []) (removed key records) =
    record { short = (short, tt); own = (not_filtered key records.versions, own_of mid (removed key records) left sound.sound) } in
    if_err _ _ c.insert_row.result (caused_then (state g.S.Store c.args.transaction.now.conn.now) (state g.S.Store c.move_ends.new.transaction.conn.now) (state g.S.Store c.insert_row.new.transaction.conn.now) clean_mid c.in_ok-replaced.ensures.inside.survives c.insert_row.ensures.inside.survives)
    (c.insert_row.ensures.why clean it.0 sound (removed key records) left can)

pub returns-in-0-clause-healthy : goal.returns-in-0-clause-healthy
returns-in-0-clause-healthy g c clean begun left healthy _ records was =
    let old = (state g.S.Store c.args.transaction.now.conn.now).now in
    let mid = (state g.S.Store c.move_ends.new.transaction.conn.now).now in
    let new = c.args.new.now in
    let f : to_z w64 (of_z w64 c.number.result) ≡ c.number.result = search rules in
    let t : to_z w64 (of_z w64 c.number-to.result) ≡ c.number-to.result = search rules in
    let s : to_z w64 (of_z w64 new.key.start) ≡ new.key.start = search rules in
    let e : to_z w64 (of_z w64 new.end) ≡ new.end = search rules in
    let clean_mid : HasCleanDisk (state g.S.Store c.move_ends.new.transaction.conn.now) = omega (arith, c.insert_row.ensures.inside.survives.clean) in
    let it = c.in_ok-replaced.ensures.made clean_mid begun in
    let one = same_moved old mid c.in_ok-replaced.replaced _ _ _ _ _ _ c.args.table c.args.moment new (cc c.from.ensures) c.as_slice.ensures.value s (cc (f, c.number.ensures.value)) e (cc (t, c.number-to.ensures.value, c.forever.ensures)) it.1 records was in
    let rest = none_moved c.args.table new.key.values.items new.key.start c.args.moment new.end forever mid records c.in_ok-replaced.replaced one.1 c.in-0.is one.0 in
    let all : 1 + left ≡ 0 + (1 + left) = omega arith in
    let sound : IsHealthy (1 + left) mid = c.in_ok-replaced.ensures.healthy clean_mid begun (1 + left) (subst (λ (n : ℕ). IsHealthy n old) all healthy) tt records was in
    c.insert_row.ensures.healthy clean it.0 left sound tt (removed (key_at c.args.table c.args.moment new.key) records) rest

pub returns-in-1-clause-healthy : goal.returns-in-1-clause-healthy
returns-in-1-clause-healthy g c clean begun left healthy _ records was =
    let less : 0 + left ≤ 1 + left = omega arith in
    c.in_ok-replaced.ensures.healthy clean begun left (healthy_less (0 + left) (1 + left) _ less healthy) tt records was

pub returns-in_default-clause-why : goal.returns-in_default-clause-why
returns-in_default-clause-why g c clean begun healthy records was short =
    let old = (state g.S.Store c.args.transaction.now.conn.now).now in
    let mid = (state g.S.Store c.move_ends.new.transaction.conn.now).now in
    let new = c.args.new.now in
    let f : to_z w64 (of_z w64 c.number.result) ≡ c.number.result = search rules in
    let t : to_z w64 (of_z w64 c.number-to.result) ≡ c.number-to.result = search rules in
    let s : to_z w64 (of_z w64 new.key.start) ≡ new.key.start = search rules in
    let e : to_z w64 (of_z w64 new.end) ≡ new.end = search rules in
    let it = c.in_ok-replaced.ensures.made clean begun in
    let one = same_moved old mid c.in_ok-replaced.replaced _ _ _ _ _ _ c.args.table c.args.moment new (cc c.from.ensures) c.as_slice.ensures.value s (cc (f, c.number.ensures.value)) e (cc (t, c.number-to.ensures.value, c.forever.ensures)) it.1 records was in
    let few = one_of_key (key_at c.args.table c.args.moment new.key) records.versions (own_of old records was healthy.sound) in
    let same = one.1 in
    let other = c.in_default in
    absurd (omega (arith, few, same, other))
