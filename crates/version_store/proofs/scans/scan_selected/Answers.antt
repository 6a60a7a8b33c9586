use Rattle.std.proofs.Common.{◌≡◌, IsTrue, inl, inr, refl, sym, ap, ◌∙◌, rules, [], None, Some, option_copied}
use Rattle.period_core.specs.declared.refusal.Refusal.TheVariants.{Memory}
use Rattle.sqlite.specs.Given.{row_if}
use Rattle.sqlite.specs.Held.{state}
use Rattle.sqlite.specs.State.{HasCleanDisk}
use Rattle.version_tables.specs.Giving.{IsAfterQuery}
use Rattle.version_tables.specs.Selections.{OfTable}
use Rattle.version_store.specs.Scans.{chosen_of}
use Rattle.version_store.proofs.Scanned.{all_visits, last_readable, none_yet, one_visited, some_visits}
use Rattle.version_store.proofs.AfterCalls.{failed_by}
use Rattle.version_store.specs.StoreState.{IsFailure}
use Rattle.version_store.specs.Units.{in_microseconds}
use Rattle.version_store.proofs.scans.scan_selected.Goals as goal

-- the query could not be begun

pub returns-in-Err-clause-visited : goal.returns-in-Err-clause-visited
returns-in-Err-clause-visited g c clean d has chooses sure =
    let contents = in_microseconds c.args.form d in
    ([], chosen_of c.args.table chooses contents.versions, none_yet contents c.args.table chooses, refl, tt)

-- an error as the query gives its next row

pub returns-in-Err-to_next_row-clause-visited : goal.returns-in-Err-to_next_row-clause-visited
returns-in-Err-to_next_row-clause-visited g c clean d has chooses sure =
    let selection = c.args.selection in
    let clean_now : HasCleanDisk (state g.S.Store c.to_next_row.new.rows.conn.now) = search rules in
    some_visits g.S.Store c.args.form g.V.RowVisitor.next c.args.table selection c.args.connection.now c.rows.rows.conn.now _ _ _ c.refusal_of-in-Err-to_next_row.result c.rows.invariant.visited refl (c.to_next_row.ensures.clean clean_now) d has chooses sure

pub returns-in-Err-to_next_row-clause-same : goal.returns-in-Err-to_next_row-clause-same
returns-in-Err-to_next_row-clause-same g c =
    let selection = c.args.selection in
    let was = c.rows.invariant.visited in
    let left : IsAfterQuery g.S.Store c.args.connection.now c.to_next_row.new.rows.conn.now = c.in-Err-to_next_row.ensures.left (OfTable c.args.table selection) c.args.connection.now was.0 was.1 in
    search rules

pub returns-in-Err-to_next_row-clause-clean : goal.returns-in-Err-to_next_row-clause-clean
returns-in-Err-to_next_row-clause-clean g c =
    let selection = c.args.selection in
    let was = c.rows.invariant.visited in
    let left : IsAfterQuery g.S.Store c.args.connection.now c.to_next_row.new.rows.conn.now = c.in-Err-to_next_row.ensures.left (OfTable c.args.table selection) c.args.connection.now was.0 was.1 in
    search rules

-- the query has no more rows

pub returns-in_default-get-clause-visited : goal.returns-in_default-get-clause-visited
returns-in_default-get-clause-visited g c clean d has chooses sure =
    let selection = c.args.selection in
    let was = c.rows.invariant.visited in
    let now = c.to_next_row.new.rows in
    let none : row_if now.has_row now.conn.now ≡ None = sym c.get.ensures ∙ ap option_copied c.in_default-get.is in
    let clean_now : HasCleanDisk (state g.S.Store now.conn.now) = search rules in
    all_visits g.S.Store c.args.form g.V.RowVisitor.next c.args.table selection c.args.connection.now c.rows.rows.conn.now now.conn.now _ _ c.rows.invariant.visited _ (c.in_default.ensures.gives (OfTable c.args.table selection) c.args.connection.now was.0 was.1) none clean_now d has chooses sure

pub returns-in_default-get-clause-same : goal.returns-in_default-get-clause-same
returns-in_default-get-clause-same g c =
    let selection = c.args.selection in
    let was = c.rows.invariant.visited in
    let now = c.to_next_row.new.rows in
    let none : row_if now.has_row now.conn.now ≡ None = sym c.get.ensures ∙ ap option_copied c.in_default-get.is in
    let all = rw none at (c.in_default.ensures.gives (OfTable c.args.table selection) c.args.connection.now was.0 was.1) in
    let left : IsAfterQuery g.S.Store c.args.connection.now now.conn.now = all.left in
    search rules

pub returns-in_default-get-clause-clean : goal.returns-in_default-get-clause-clean
returns-in_default-get-clause-clean g c =
    let selection = c.args.selection in
    let was = c.rows.invariant.visited in
    let now = c.to_next_row.new.rows in
    let none : row_if now.has_row now.conn.now ≡ None = sym c.get.ensures ∙ ap option_copied c.in_default-get.is in
    let all = rw none at (c.in_default.ensures.gives (OfTable c.args.table selection) c.args.connection.now was.0 was.1) in
    let left : IsAfterQuery g.S.Store c.args.connection.now now.conn.now = all.left in
    search rules

-- the visitor refuses a row

pub returns-in-Err-visit_row-clause-visited : goal.returns-in-Err-visit_row-clause-visited
returns-in-Err-visit_row-clause-visited g c clean d has chooses sure =
    let selection = c.args.selection in
    let clean_now : HasCleanDisk (state g.S.Store c.to_next_row.new.rows.conn.now) = search rules in
    some_visits g.S.Store c.args.form g.V.RowVisitor.next c.args.table selection c.args.connection.now c.rows.rows.conn.now _ _ _ c.in-Err-visit_row.refusal c.rows.invariant.visited c.in-Err-visit_row.ensures.refused (c.to_next_row.ensures.clean clean_now) d has chooses sure

pub returns-in-Err-visit_row-clause-same : goal.returns-in-Err-visit_row-clause-same
returns-in-Err-visit_row-clause-same g c =
    let selection = c.args.selection in
    let was = c.rows.invariant.visited in
    let now = c.to_next_row.new.rows in
    let some : row_if now.has_row now.conn.now ≡ Some c.in-Some.row.now = sym c.get.ensures ∙ ap option_copied c.in-Some.is in
    let on = rw some at (c.in_default.ensures.gives (OfTable c.args.table selection) c.args.connection.now was.0 was.1) in
    let left : IsAfterQuery g.S.Store c.args.connection.now now.conn.now = on.left in
    search rules

pub returns-in-Err-visit_row-clause-clean : goal.returns-in-Err-visit_row-clause-clean
returns-in-Err-visit_row-clause-clean g c =
    let selection = c.args.selection in
    let was = c.rows.invariant.visited in
    let now = c.to_next_row.new.rows in
    let some : row_if now.has_row now.conn.now ≡ Some c.in-Some.row.now = sym c.get.ensures ∙ ap option_copied c.in-Some.is in
    let on = rw some at (c.in_default.ensures.gives (OfTable c.args.table selection) c.args.connection.now was.0 was.1) in
    let left : IsAfterQuery g.S.Store c.args.connection.now now.conn.now = on.left in
    search rules

-- the visitor takes one row more

pub rows-preserved : goal.rows-preserved
rows-preserved g c =
    let selection = c.args.selection in
    let was = c.rows.invariant.visited in
    let now = c.to_next_row.new.rows in
    let some : row_if now.has_row now.conn.now ≡ Some c.in-Some.row.now = sym c.get.ensures ∙ ap option_copied c.in-Some.is in
    let gives = c.in_default.ensures.gives (OfTable c.args.table selection) c.args.connection.now was.0 was.1 in
    record {
      same_reference = search rules;
      mode = search rules;
      answered = c.in_default-visit_row.ensures.answered;
      visited = one_visited g.S.Store c.args.form g.V.RowVisitor.next c.args.table selection c.args.connection.now c.rows.rows.conn.now now.conn.now _ _ _ c.rows.invariant.visited c.in-Some.row.now _ gives some c.in_default-visit_row.ensures.visited;
    }

-- the query gives more rows than there can be

pub returns-clause-visited : goal.returns-clause-visited
returns-clause-visited g c clean d has chooses sure =
    let selection = c.args.selection in
    let clean_now : HasCleanDisk (state g.S.Store c.rows.rows.conn.now) = search rules in
    some_visits g.S.Store c.args.form g.V.RowVisitor.next c.args.table selection c.args.connection.now c.rows.rows.conn.now _ _ _ Memory c.rows.invariant.visited refl clean_now d has chooses sure

-- the reason of the visitor's refusal

pub returns-in-Err-clause-why : goal.returns-in-Err-clause-why
returns-in-Err-clause-why g c usable d has dated =
    let old = c.args.connection.now in
    let after = c.rows_of.follows.lender-at-none in
    let refused = rw c.in-Err.is at c.rows_of.follows.holds-at-none in
    inr (failed_by g.S.Store old after c.in-Err.error c.refusal_of.result c.refusal_of.ensures.memory (refused.why usable.0 has.rows.schema) ((refused.left.keeps usable.0).was_open usable.1))

pub returns-in-Err-to_next_row-clause-why : goal.returns-in-Err-to_next_row-clause-why
returns-in-Err-to_next_row-clause-why g c usable d has dated =
    let old = c.args.connection.now in
    let selection = c.args.selection in
    let now = c.to_next_row.new.rows.conn.now in
    let was = c.rows.invariant.visited in
    let sure : HasCleanDisk (state g.S.Store now) = search rules in
    let on : IsTrue (state g.S.Store now).is_open = search rules in
    let left : IsAfterQuery g.S.Store old now = c.in-Err-to_next_row.ensures.left (OfTable c.args.table selection) old was.0 was.1 in
    let refusal = c.refusal_of-in-Err-to_next_row.result in
    let failed : IsFailure g.S.Store old now refusal =
    failed_by g.S.Store old now c.in-Err-to_next_row.error refusal c.refusal_of-in-Err-to_next_row.ensures.memory (c.in-Err-to_next_row.ensures.why (OfTable c.args.table selection) old was.0 was.1 sure has.rows.schema) ((left.keeps sure).was_open on) in
    inr (search rules)

pub returns-in-Err-visit_row-clause-why : goal.returns-in-Err-visit_row-clause-why
returns-in-Err-visit_row-clause-why g c usable d has dated =
    let selection = c.args.selection in
    let was = c.rows.invariant.visited in
    let now = c.to_next_row.new.rows in
    let sure : HasCleanDisk (state g.S.Store now.conn.now) = search rules in
    let some : row_if now.has_row now.conn.now ≡ Some c.in-Some.row.now = sym c.get.ensures ∙ ap option_copied c.in-Some.is in
    let gives = c.in_default.ensures.gives (OfTable c.args.table selection) c.args.connection.now was.0 was.1 in
    let readable = last_readable g.S.Store c.args.form g.V.RowVisitor.next c.args.table selection c.args.connection.now c.rows.rows.conn.now now.conn.now _ _ was c.in-Some.row.now _ gives some sure d has dated in
    elim (c.in-Err-visit_row.ensures.why readable.0 readable.2 readable.3 readable.1) [ inl own ↦ inl own | inr memory ↦ inr (inl memory) ]

-- faults of the database

pub returns-in-Err-to_next_row-clause-faults : goal.returns-in-Err-to_next_row-clause-faults
returns-in-Err-to_next_row-clause-faults g c =
    let was = c.rows.invariant.visited in
    let left : IsAfterQuery g.S.Store c.args.connection.now c.to_next_row.new.rows.conn.now = c.in-Err-to_next_row.ensures.left (OfTable c.args.table c.args.selection) c.args.connection.now was.0 was.1 in
    search rules

pub returns-in_default-get-clause-faults : goal.returns-in_default-get-clause-faults
returns-in_default-get-clause-faults g c =
    let was = c.rows.invariant.visited in
    let now = c.to_next_row.new.rows in
    let none : row_if now.has_row now.conn.now ≡ None = sym c.get.ensures ∙ ap option_copied c.in_default-get.is in
    let all = rw none at (c.in_default.ensures.gives (OfTable c.args.table c.args.selection) c.args.connection.now was.0 was.1) in
    let left : IsAfterQuery g.S.Store c.args.connection.now now.conn.now = all.left in
    search rules

pub returns-in-Err-visit_row-clause-faults : goal.returns-in-Err-visit_row-clause-faults
returns-in-Err-visit_row-clause-faults g c =
    let was = c.rows.invariant.visited in
    let now = c.to_next_row.new.rows in
    let some : row_if now.has_row now.conn.now ≡ Some c.in-Some.row.now = sym c.get.ensures ∙ ap option_copied c.in-Some.is in
    let on = rw some at (c.in_default.ensures.gives (OfTable c.args.table c.args.selection) c.args.connection.now was.0 was.1) in
    let left : IsAfterQuery g.S.Store c.args.connection.now now.conn.now = on.left in
    search rules
