use Rattle.std.proofs.Common.{◌≡◌, ◌||◌, refl, subst, sym, ap, ◌∙◌, rules, w64, to_z, of_z}
use Rattle.sqlite.specs.Held.{state}
use Rattle.std.proofs.lemmas.Result.{err_from_is_err_and}
use Rattle.version_tables.specs.Healthy.{IsShort}
use Rattle.version_store.proofs.AfterCalls.{caused_by}
use Rattle.version_tables.proofs.Keeping.{leaves_same}
use Rattle.version_store.specs.PendingRemovals.{is_pending}
use Rattle.version_store.proofs.Leaves.{closes, notes, same_place}
use Rattle.version_store.proofs.Places.{one_more}
use Rattle.version_store.proofs.Sweeps.{other_moment, same_ended, same_moment}
use Rattle.version_store.proofs.plans.end_row.Goals as goal

pub returns-then-from-number-clause-made : goal.returns-then-from-number-clause-made
returns-then-from-number-clause-made g c clean begun =
    let old = (state g.S.Store c.args.transaction.now.conn.now).now in
    let table = c.args.table in
    let moment = c.args.moment in
    let row = c.args.row.now in
    let key = c.in_ok-key.key in
    let before = c.args.pending.now.keys in
    let after = c.insert.new.self.keys in
    let h : to_z w64 (of_z w64 c.number.result) ≡ c.number.result = search rules in
    let f : to_z w64 (of_z w64 c.number-from.result) ≡ c.number-from.result = search rules in
    let from : row.from ≡ moment = sym c.number-from.ensures.value ∙ sym f ∙ ap (to_z w64) c.if-from-number.true ∙ h ∙ c.number.ensures.value in (
      begun,
      λ m was. notes table moment row c.in_ok-key.ensures.held old before after m was (same_moment row.from moment from)
          (λ v. ap (λ l. is_pending table moment l v) c.in_ok-insert.ensures.keys ∙ one_more table moment key v before ∙ ap (λ b. b || is_pending table moment before v) (same_place table moment row key c.in_ok-key.ensures.bytes c.in_ok-key.ensures.start (sym from) v)),
    )

pub returns-clause-made : goal.returns-clause-made
returns-clause-made g c clean begun =
    let old = (state g.S.Store c.args.transaction.now.conn.now).now in
    let new = (state g.S.Store c.end_version.new.transaction.conn.now).now in
    let row = c.args.row.now in
    let key = c.in_ok-key.key in
    let h : to_z w64 (of_z w64 c.number.result) ≡ c.number.result = search rules in
    let f : to_z w64 (of_z w64 c.number-from.result) ≡ c.number-from.result = search rules in
    let t : to_z w64 (of_z w64 c.number-2.result) ≡ c.number-2.result = search rules in
    let s : to_z w64 (of_z w64 key.start) ≡ key.start = search rules in
    let table : c.from.result ≡ c.args.table = cc c.from.ensures in
    let bytes = c.as_slice.ensures.value ∙ c.in_ok-key.ensures.bytes in
    let start : to_z w64 (of_z w64 key.start) ≡ row.period.start = s ∙ c.in_ok-key.ensures.start in
    let from : to_z w64 (of_z w64 c.number-from.result) ≡ row.from = cc (f, c.number-from.ensures.value) in
    let to : to_z w64 (of_z w64 c.number-2.result) ≡ c.args.moment = cc (t, c.number-2.ensures.value) in
    let began = other_moment row.from c.args.moment (λ e. c.if-from-number.false (ap (of_z w64) (c.number-from.ensures.value ∙ e ∙ sym c.number.ensures.value))) in
    let it = c.in_ok-end_version.ensures.made clean begun in
    (it.0, λ m was. closes c.args.table c.args.moment row c.in_ok-key.ensures.held old new c.args.pending.now.keys m was began (same_ended old new c.args.table c.args.moment row _ _ _ _ _ table bytes start from to it.1))

pub returns-then-from-number-clause-others : goal.returns-then-from-number-clause-others
returns-then-from-number-clause-others g c = leaves_same g.S.Store c.args.transaction.now.conn.now c.args.transaction.now.conn.now refl

pub returns-in_err-end_version-clause-why : goal.returns-in_err-end_version-clause-why
returns-in_err-end_version-clause-why g c clean begun healthy m was short =
    let p = err_from_is_err_and c.from_residual-in_err-end_version.result c.from_residual-in_err-end_version.ensures.1 in
    rw p.1 (caused_by (state g.S.Store c.args.transaction.now.conn.now) (state g.S.Store c.end_version.new.transaction.conn.now) _ _ p.2 (c.in_err-end_version.ensures.why clean begun healthy _ was.rows (subst IsShort (sym (c.as_slice.ensures.value ∙ c.in_ok-key.ensures.bytes)) short)))

pub returns-clause-healthy : goal.returns-clause-healthy
returns-clause-healthy g c clean begun left healthy m was = c.in_ok-end_version.ensures.healthy clean begun left healthy tt _ was.rows
