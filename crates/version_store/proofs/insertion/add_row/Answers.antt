use Rattle.std.proofs.Common.{◌≡◌, ◌||◌, ◌∷◌, [], false, refl, sym, ap, subst, ◌∙◌}
use Rattle.sqlite.specs.Held.{state}
use Rattle.period_core.specs.Moments.{forever}
use Rattle.version_tables.specs.Healthy.{CanAdd, IsShort}
use Rattle.version_tables.proofs.Clashes.{own_of}
use Rattle.version_store.proofs.Causes.{none_there}
use Rattle.version_tables.specs.Represents.{Records, Represents, Version, added, new_version, removed, same_key}
use Rattle.version_store.specs.Contents.{added_in}
use Rattle.version_store.specs.PendingRemovals.{HasExcept, is_pending, key_at}
use Rattle.version_store.specs.Written.{written, written_version}
use Rattle.version_store.proofs.Leaves.{adds, replaces, same_row}
use Rattle.version_store.proofs.Places.{apart, one_fewer}
use Rattle.version_store.proofs.AfterCalls.{on_ok}
use Rattle.version_store.proofs.insertion.add_row.Goals as goal

pub returns-then-remove-clause-made : goal.returns-then-remove-clause-made
returns-then-remove-clause-made g c clean begun =
    let old = (state g.S.Store c.args.transaction.now.conn.now).now in
    let now = (state g.S.Store c.replace_row.new.transaction.conn.now).now in
    let table = c.args.table in
    let moment = c.args.moment in
    let row = c.args.row.now in
    let new = c.in_ok-new.new in
    let key = key_at table moment new.key in
    let before = c.args.pending.now.keys in
    let after = c.remove.new.self.keys in
    let is : new_version table moment forever new ≡ written_version (added_in table moment forever row) = same_row table moment row new c.in_ok-new.ensures.bytes c.in_ok-new.ensures.start c.in_ok-new.ensures.end in
    let fewer : (v : Version) → is_pending table moment before v ≡ (same_key key v || is_pending table moment after v) =
    λ v. one_fewer table moment new.key v before (sym c.if-remove.ensures.test) ∙ ap (λ l. same_key key v || is_pending table moment l v) (sym c.remove.ensures.keys) in
    let none = subst (λ w. is_pending table moment after w ≡ false) is (apart table moment new.key (new_version table moment forever new) refl refl after c.remove.ensures.updates.1) in
    on_ok c.replace_row.result
    (λ made. (made.0, λ m was. replaces table moment row c.in_ok-new.ensures.held old now key before after m was none fewer (subst (λ w. (records : Records) → Represents old records → Represents now (added w (removed key records))) is made.1)))
    (c.replace_row.ensures.made clean begun)

pub returns-clause-made : goal.returns-clause-made
returns-clause-made g c clean begun =
    let old = (state g.S.Store c.args.transaction.now.conn.now).now in
    let now = (state g.S.Store c.insert_row.new.transaction.conn.now).now in
    let table = c.args.table in
    let moment = c.args.moment in
    let row = c.args.row.now in
    let new = c.in_ok-new.new in
    let after = c.remove.new.self.keys in
    let is : new_version table moment forever new ≡ written_version (added_in table moment forever row) = same_row table moment row new c.in_ok-new.ensures.bytes c.in_ok-new.ensures.start c.in_ok-new.ensures.end in
    let none = subst (λ w. is_pending table moment after w ≡ false) is (apart table moment new.key (new_version table moment forever new) refl refl after c.remove.ensures.updates.1) in
    on_ok c.insert_row.result
    (λ made. (made.0, λ m was. adds table moment row c.in_ok-new.ensures.held old now after m (subst (λ l. HasExcept old table moment l m) (sym c.if-remove.ensures.unchanged) was) none (subst (λ w. (records : Records) → Represents old records → Represents now (added w records)) is made.1)))
    (c.insert_row.ensures.made clean begun)

-- ---- why it fails, and that the database stays healthy

pub returns-then-remove-clause-why : goal.returns-then-remove-clause-why
returns-then-remove-clause-why g c clean begun healthy m was can = c.replace_row.ensures.why clean begun healthy _ was.rows (subst IsShort (sym c.in_ok-new.ensures.bytes) can.0)

pub returns-then-remove-clause-healthy : goal.returns-then-remove-clause-healthy
returns-then-remove-clause-healthy g c clean begun left healthy m was = c.replace_row.ensures.healthy clean begun left healthy tt _ was.rows

pub returns-clause-why : goal.returns-clause-why
returns-clause-why g c clean begun healthy m was can =
    let old = (state g.S.Store c.args.transaction.now.conn.now).now in
    let table = c.args.table in
    let moment = c.args.moment in
    let row = c.args.row.now in
    let new = c.in_ok-new.new in
    let after = c.remove.new.self.keys in
    let is : new_version table moment forever new ≡ written_version (added_in table moment forever row) = same_row table moment row new c.in_ok-new.ensures.bytes c.in_ok-new.ensures.start c.in_ok-new.ensures.end in
    let none = subst (λ w. is_pending table moment after w ≡ false) is (apart table moment new.key (new_version table moment forever new) refl refl after c.remove.ensures.updates.1) in
    let has = subst (λ l. HasExcept old table moment l m) (sym c.if-remove.ensures.unchanged) was in
    let other = none_there table moment row c.in_ok-new.ensures.held old after m has none can.1 in
    let own = own_of old (record (written m) { versions = has.versions }) has.rows healthy.sound in
    let all : CanAdd (written_version (added_in table moment forever row) ∷ []) (record (written m) { versions = has.versions }) = record { short = (can.0, tt); own = (other, own) } in
    c.insert_row.ensures.why clean begun healthy (record (written m) { versions = has.versions }) has.rows (subst (λ w. CanAdd (w ∷ []) (record (written m) { versions = has.versions })) (sym is) all)

pub returns-clause-healthy : goal.returns-clause-healthy
returns-clause-healthy g c clean begun left healthy m was = c.insert_row.ensures.healthy clean begun left healthy tt _ was.rows
