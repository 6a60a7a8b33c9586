use Rattle.std.proofs.Common.{sym, subst, ◌∙◌}
use Rattle.std.proofs.lemmas.Result.{err_from_is_err_and}
use Rattle.sqlite.specs.Held.{state}
use Rattle.version_tables.proofs.ColumnFacts.{never}
use Rattle.version_tables.proofs.Ordered.{own_rowids, rowids_rise}
use Rattle.version_tables.proofs.Whole.{in_some_order}
use Rattle.version_tables.specs.Represents.{rowid_shown}
use Rattle.version_tables.specs.Rows.{AreNumbered, AreRising, by_rowid}
use Rattle.version_store.proofs.AfterCalls.{unread_by}
use Rattle.version_store.proofs.inspection.check_numbers.Goals as goal

pub returns-clause-own : goal.returns-clause-own
returns-clause-own g c clean has =
    let tree = (state g.S.Store c.args.connection.now).now.trees 2 in
    let ids = c.in_ok-ids.ids.items in
    let numbered = subst AreNumbered c.deref.ensures.value (c.are_numbered.ensures.0 c.if-not-are_numbered.false) in
    let rising = subst AreRising c.deref-2.ensures.value (c.are_rising.ensures.0 c.if-not-are_rising.false) in
    own_rowids tree ids (in_some_order rowid_shown by_rowid tree ids (c.in_ok-ids.ensures.shows clean has)) numbered rising

-- ---- why the numbers are not read

pub returns-in_err-ids-clause-why : goal.returns-in_err-ids-clause-why
returns-in_err-ids-clause-why g c clean has on own =
    let p = err_from_is_err_and c.from_residual.result c.from_residual.ensures.1 in
    rw p.1 (unread_by (state g.S.Store c.args.connection.now) (state g.S.Store c.rowids.new.connection) _ _ p.2.1 (c.in_err-ids.ensures.reads.why clean has) on)

pub returns-in_err-ids-clause-other : goal.returns-in_err-ids-clause-other
returns-in_err-ids-clause-other g c =
    let p = err_from_is_err_and c.from_residual.result c.from_residual.ensures.1 in
    rw p.1 p.2.0

-- numbers of their own are integers that rise

pub returns-then-not-are_numbered-clause-why : goal.returns-then-not-are_numbered-clause-why
returns-then-not-are_numbered-clause-why g c clean has on own =
    let up = rowids_rise ((state g.S.Store c.args.connection.now).now.trees 2) c.in_ok-ids.ids.items (c.in_ok-ids.ensures.shows clean has) own.0 own.1 in
    never (sym c.if-not-are_numbered.true ∙ c.are_numbered.ensures.1 (subst AreNumbered (sym c.deref.ensures.value) up.0))

pub returns-then-not-are_rising-clause-why : goal.returns-then-not-are_rising-clause-why
returns-then-not-are_rising-clause-why g c clean has on own =
    let up = rowids_rise ((state g.S.Store c.args.connection.now).now.trees 2) c.in_ok-ids.ids.items (c.in_ok-ids.ensures.shows clean has) own.0 own.1 in
    never (sym c.if-not-are_rising.true ∙ c.are_rising.ensures.1 (subst AreRising (sym c.deref-2.ensures.value) up.1))
