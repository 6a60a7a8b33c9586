use Rattle.std.proofs.Common.{ap, refl, rules, subst, sym, w64}
use Rattle.std.proofs.lemmas.Int.{to_z-of_z}
use Rattle.std.proofs.lemmas.Result.{err_from_is_err_and}
use Rattle.sqlite.specs.Does.{lacks_sequence}
use Rattle.sqlite.specs.Held.{Held, state}
use Rattle.sqlite.specs.State.{HasCleanDisk}
use Rattle.version_tables.specs.Making.{HasNone, IsBegunIn}
use Rattle.version_tables.specs.Presence.{HasNoStoreTable}
use Rattle.version_tables.specs.Steps.{HasReason}
use Rattle.version_tables.proofs.Creates.{begun_alone_if, nothing_made}
use Rattle.version_tables.proofs.Steps.{reason_kept}
use Rattle.version_tables.proofs.creation.create.Goals as goal

pub returns-clause-beside : goal.returns-clause-beside
returns-clause-beside g c clean none counters =
    let old = (state g.S.Store c.args.connection.now).now in
    let last = state g.S.Store c.make_tables.new.transaction.conn.now in
    let started = c.transaction-transaction.ensures.begun in
    let start = subst (λ (h : Held _). HasNone old (state g.S.Store h).now) (sym started) (nothing_made old none counters) in
    let begun : HasCleanDisk last → IsBegunIn c.args.form c.args.clock old last.now = λ sure.
    let made = rw (to_z-of_z w64 c.args.form c.ranges.form, to_z-of_z w64 c.args.clock c.ranges.clock) at (c.in_ok-make_tables.ensures.made sure (ap (λ (h : Held _). h.in_transaction) started)) in
    made.1 old start in
    search (rules, begun)

pub returns-clause-made : goal.returns-clause-made
returns-clause-made g c clean empty =
    begun_alone_if c.args.form c.args.clock _ _ _ c.commit.result empty
    (returns-clause-beside g c clean (subst HasNoStoreTable (sym empty) (record { meta = refl; table = refl; version = refl })) (ap lacks_sequence empty))

pub returns-in_err-make_tables-clause-why : goal.returns-in_err-make_tables-clause-why
returns-in_err-make_tables-clause-why g c clean empty =
    let old = state g.S.Store c.args.connection.now in
    let started = c.transaction-transaction.ensures.begun in
    let mid = state g.S.Store c.make_tables.new.transaction.conn.now in
    let sure : HasCleanDisk mid = search rules in
    let none = subst HasNoStoreTable (sym empty) (record { meta = refl; table = refl; version = refl }) in
    let start = subst (λ (h : Held _). HasNone old.now (state g.S.Store h).now) (sym started) (nothing_made old.now none (ap lacks_sequence empty)) in
    let failed = c.in_err-make_tables.ensures.why sure (ap (λ (h : Held _). h.in_transaction) started) old.now empty start in
    let p = err_from_is_err_and c.from_residual.result c.from_residual.ensures.1 in
    let kept : HasReason old (state g.S.Store c.drop-transaction.new.self.0) c.in_err-make_tables.field-0.0 =
    reason_kept old mid _ _ c.drop-transaction.ensures.survives (subst (λ (h : Held _). HasReason (state g.S.Store h) mid c.in_err-make_tables.field-0.0) started failed) in
    rw (p.1, p.2) (search (rules, kept))
