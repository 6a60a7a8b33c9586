use Rattle.std.proofs.Common.{◌≡◌, ℤ, [], inl, inr, of_z, refl, subst, sym, to_z, w64, ap, ◌∙◌, rules, None, Some, option_copied}
use Rattle.std.proofs.lemmas.Int.{to_z-of_z}
use Rattle.sqlite.specs.Given.{row_if}
use Rattle.sqlite.specs.Held.{state}
use Rattle.sqlite.specs.State.{HasCleanDisk}
use Rattle.version_tables.specs.Giving.{IsAfterQuery}
use Rattle.version_tables.specs.Selections.{OfAllTables}
use Rattle.version_store.specs.Faults.{IsUnread}
use Rattle.version_store.proofs.AfterCalls.{unread_by}
use Rattle.version_store.proofs.ReadRows.{none_read}
use Rattle.version_store.proofs.VersionLists.{HasBadRow, IsReadAll, all_given, bad_given, one_given}
use Rattle.version_store.proofs.version_lists.fill_lists.Goals as goal

-- no row is read yet
pub rows-init : goal.rows-init
rows-init g c = record {
  same_reference = refl;
  mode = search rules;
  read = ([], c.in-Ok.ensures.begun, none_read c.args.form c.args.catalog.now.tables (to_z w64 (of_z w64 c.args.clock)) c.args.lists.now.items c.requires.count c.requires.none);
}

-- the query could not be begun

pub returns-in-Err-clause-why : goal.returns-in-Err-clause-why
returns-in-Err-clause-why g c clean has on =
    let old = c.args.connection.now in
    let after = c.version_rows.follows.lender-at-none in
    let refused = rw c.in-Err.is at c.version_rows.follows.holds-at-none in
    inr (unread_by (state g.S.Store old) (state g.S.Store after) c.in-Err.error _ c.from.ensures.1 (refused.why clean has) on)

-- an error as the query gives its next row

pub returns-in-Err-to_next_row-clause-same : goal.returns-in-Err-to_next_row-clause-same
returns-in-Err-to_next_row-clause-same g c =
    let was = c.rows.invariant.read in
    let left : IsAfterQuery g.S.Store c.args.connection.now c.to_next_row.new.rows.conn.now = c.in-Err-to_next_row.ensures.left OfAllTables c.args.connection.now was.0 was.1 in
    search rules

pub returns-in-Err-to_next_row-clause-clean : goal.returns-in-Err-to_next_row-clause-clean
returns-in-Err-to_next_row-clause-clean g c =
    let was = c.rows.invariant.read in
    let left : IsAfterQuery g.S.Store c.args.connection.now c.to_next_row.new.rows.conn.now = c.in-Err-to_next_row.ensures.left OfAllTables c.args.connection.now was.0 was.1 in
    search rules

pub returns-in-Err-to_next_row-clause-faults : goal.returns-in-Err-to_next_row-clause-faults
returns-in-Err-to_next_row-clause-faults g c =
    let was = c.rows.invariant.read in
    let left : IsAfterQuery g.S.Store c.args.connection.now c.to_next_row.new.rows.conn.now = c.in-Err-to_next_row.ensures.left OfAllTables c.args.connection.now was.0 was.1 in
    search rules

pub returns-in-Err-to_next_row-clause-why : goal.returns-in-Err-to_next_row-clause-why
returns-in-Err-to_next_row-clause-why g c clean has on =
    let old = c.args.connection.now in
    let now = c.to_next_row.new.rows.conn.now in
    let was = c.rows.invariant.read in
    let sure : HasCleanDisk (state g.S.Store now) = search rules in
    let why = c.in-Err-to_next_row.ensures.why OfAllTables old was.0 was.1 sure has in
    let unread : IsUnread (state g.S.Store old) (state g.S.Store now) c.from-in-Err-to_next_row.result =
    unread_by (state g.S.Store old) (state g.S.Store now) c.in-Err-to_next_row.error _ c.from-in-Err-to_next_row.ensures.1 why on in
    inr (search rules)

-- the query has no more rows

pub returns-in_default-get-clause-read : goal.returns-in_default-get-clause-read
returns-in_default-get-clause-read g c clean has =
    let was = c.rows.invariant.read in
    let now = c.to_next_row.new.rows in
    let none : row_if now.has_row now.conn.now ≡ None = sym c.get.ensures ∙ ap option_copied c.in_default-get.is in
    let clean_now : HasCleanDisk (state g.S.Store now.conn.now) = search rules in
    subst (λ (n : ℤ). IsReadAll g.S.Store c.args.form c.args.catalog.now.tables n c.args.connection.now c.rows.lists.items) (to_z-of_z w64 c.args.clock c.ranges.clock)
    (all_given g.S.Store c.args.form c.args.catalog.now.tables (to_z w64 (of_z w64 c.args.clock)) c.args.connection.now c.rows.rows.conn.now now.conn.now _ was _ (c.in_default.ensures.gives OfAllTables c.args.connection.now was.0 was.1) none clean_now has)

pub returns-in_default-get-clause-same : goal.returns-in_default-get-clause-same
returns-in_default-get-clause-same g c =
    let was = c.rows.invariant.read in
    let now = c.to_next_row.new.rows in
    let none : row_if now.has_row now.conn.now ≡ None = sym c.get.ensures ∙ ap option_copied c.in_default-get.is in
    let all = rw none at (c.in_default.ensures.gives OfAllTables c.args.connection.now was.0 was.1) in
    let left : IsAfterQuery g.S.Store c.args.connection.now now.conn.now = all.left in
    search rules

pub returns-in_default-get-clause-clean : goal.returns-in_default-get-clause-clean
returns-in_default-get-clause-clean g c =
    let was = c.rows.invariant.read in
    let now = c.to_next_row.new.rows in
    let none : row_if now.has_row now.conn.now ≡ None = sym c.get.ensures ∙ ap option_copied c.in_default-get.is in
    let all = rw none at (c.in_default.ensures.gives OfAllTables c.args.connection.now was.0 was.1) in
    let left : IsAfterQuery g.S.Store c.args.connection.now now.conn.now = all.left in
    search rules

pub returns-in_default-get-clause-faults : goal.returns-in_default-get-clause-faults
returns-in_default-get-clause-faults g c =
    let was = c.rows.invariant.read in
    let now = c.to_next_row.new.rows in
    let none : row_if now.has_row now.conn.now ≡ None = sym c.get.ensures ∙ ap option_copied c.in_default-get.is in
    let all = rw none at (c.in_default.ensures.gives OfAllTables c.args.connection.now was.0 was.1) in
    let left : IsAfterQuery g.S.Store c.args.connection.now now.conn.now = all.left in
    search rules

-- a row that is no good version's, or for which there is no memory

pub returns-in-Err-read_row-clause-bad : goal.returns-in-Err-read_row-clause-bad
returns-in-Err-read_row-clause-bad g c clean has bad =
    let was = c.rows.invariant.read in
    let now = c.to_next_row.new.rows in
    let some : row_if now.has_row now.conn.now ≡ Some c.in-Some.row.now = sym c.get.ensures ∙ ap option_copied c.in-Some.is in
    let clean_now : HasCleanDisk (state g.S.Store now.conn.now) = search rules in
    subst (λ (n : ℤ). HasBadRow g.S.Store c.args.form c.args.catalog.now.tables n c.args.connection.now) (to_z-of_z w64 c.args.clock c.ranges.clock)
    (bad_given g.S.Store c.args.form c.args.catalog.now.tables (to_z w64 (of_z w64 c.args.clock)) c.args.connection.now c.rows.rows.conn.now now.conn.now _ was c.in-Some.row.now _ (c.in_default.ensures.gives OfAllTables c.args.connection.now was.0 was.1) some clean_now has (c.in-Err-read_row.ensures.bad bad))

pub returns-in-Err-read_row-clause-why : goal.returns-in-Err-read_row-clause-why
returns-in-Err-read_row-clause-why g c clean has on = elim c.in-Err-read_row.ensures.named [ inl bad ↦ inl bad | inr memory ↦ inr (inl memory) ]

pub returns-in-Err-read_row-clause-same : goal.returns-in-Err-read_row-clause-same
returns-in-Err-read_row-clause-same g c =
    let was = c.rows.invariant.read in
    let now = c.to_next_row.new.rows in
    let some : row_if now.has_row now.conn.now ≡ Some c.in-Some.row.now = sym c.get.ensures ∙ ap option_copied c.in-Some.is in
    let on = rw some at (c.in_default.ensures.gives OfAllTables c.args.connection.now was.0 was.1) in
    let left : IsAfterQuery g.S.Store c.args.connection.now now.conn.now = on.left in
    search rules

pub returns-in-Err-read_row-clause-clean : goal.returns-in-Err-read_row-clause-clean
returns-in-Err-read_row-clause-clean g c =
    let was = c.rows.invariant.read in
    let now = c.to_next_row.new.rows in
    let some : row_if now.has_row now.conn.now ≡ Some c.in-Some.row.now = sym c.get.ensures ∙ ap option_copied c.in-Some.is in
    let on = rw some at (c.in_default.ensures.gives OfAllTables c.args.connection.now was.0 was.1) in
    let left : IsAfterQuery g.S.Store c.args.connection.now now.conn.now = on.left in
    search rules

pub returns-in-Err-read_row-clause-faults : goal.returns-in-Err-read_row-clause-faults
returns-in-Err-read_row-clause-faults g c =
    let was = c.rows.invariant.read in
    let now = c.to_next_row.new.rows in
    let some : row_if now.has_row now.conn.now ≡ Some c.in-Some.row.now = sym c.get.ensures ∙ ap option_copied c.in-Some.is in
    let on = rw some at (c.in_default.ensures.gives OfAllTables c.args.connection.now was.0 was.1) in
    let left : IsAfterQuery g.S.Store c.args.connection.now now.conn.now = on.left in
    search rules

-- one row more is read

pub rows-preserved : goal.rows-preserved
rows-preserved g c =
    let was = c.rows.invariant.read in
    let now = c.to_next_row.new.rows in
    let some : row_if now.has_row now.conn.now ≡ Some c.in-Some.row.now = sym c.get.ensures ∙ ap option_copied c.in-Some.is in
    record {
      same_reference = search rules;
      mode = search rules;
      read = one_given g.S.Store c.args.form c.args.catalog.now.tables (to_z w64 (of_z w64 c.args.clock)) c.args.connection.now c.rows.rows.conn.now now.conn.now _ _ was c.in-Some.row.now _ (c.in_default.ensures.gives OfAllTables c.args.connection.now was.0 was.1) some c.in_default-read_row.ensures.read;
    }
