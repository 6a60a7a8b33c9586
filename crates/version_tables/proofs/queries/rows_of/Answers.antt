use Rattle.std.proofs.Common.{◌≡◌, IfOk, false, IsTrue, rules, refl, of_z, to_z, w64}
use Rattle.sqlite.specs.Held.{state}
use Rattle.version_tables.specs.declared.selection.Selection.TheVariants.{Whole, EndingAt, Overlapping}
use Rattle.version_tables.specs.Selections.{OfTable}
use Rattle.version_tables.proofs.Giving.{given_none, not_begun}
use Rattle.version_tables.proofs.queries.rows_of.Goals as goal

pub returns-in-Whole : goal.returns-in-Whole
returns-in-Whole g c =
    let old = c.args.connection.now in
    let selection = Whole in
    let after = c.query.follows.lender-at-none in
    let settled : IsTrue (state g.S.Store old).is_open → (state g.S.Store old).now ≡ (state g.S.Store old).committed = search rules in
    let mode : IfOk c.query.result (λ rows. rows.conn.now.in_transaction ≡ false) = search rules in (
      (refl, c.query.follows.holds, not_begun g.S.Store (OfTable c.args.table selection) old after c.requires settled c.query.result (rw c.params-to_sql.ensures at c.query.follows.holds-at-none)),
      record {
        refused = tt;
        same_reference = c.query.ensures.same_reference;
        begun = rw c.in-Whole.is (given_none g.S.Store (OfTable c.args.table selection) old (λ rows. rows.conn.now) _ c.query.result settled (rw c.params-to_sql.ensures at c.query.ensures.begun) c.query.ensures.survives mode);
        mode = mode;
      },
    )

pub returns-in-EndingAt : goal.returns-in-EndingAt
returns-in-EndingAt g c =
    let old = c.args.connection.now in
    let selection = EndingAt c.in-EndingAt.end in
    let after = c.query-in-EndingAt.follows.lender-at-none in
    let end : to_z w64 (of_z w64 c.in-EndingAt.end) ≡ c.in-EndingAt.end = search rules in
    let settled : IsTrue (state g.S.Store old).is_open → (state g.S.Store old).now ≡ (state g.S.Store old).committed = search rules in
    let mode : IfOk c.query-in-EndingAt.result (λ rows. rows.conn.now.in_transaction ≡ false) = search rules in (
      (refl, c.query-in-EndingAt.follows.holds, not_begun g.S.Store (OfTable c.args.table selection) old after c.requires settled c.query-in-EndingAt.result (rw (c.params-to_sql-in-EndingAt.ensures, c.params-to_sql-in-EndingAt-2.ensures, end) at c.query-in-EndingAt.follows.holds-at-none)),
      record {
        refused = tt;
        same_reference = c.query-in-EndingAt.ensures.same_reference;
        begun = rw c.in-EndingAt.is (given_none g.S.Store (OfTable c.args.table selection) old (λ rows. rows.conn.now) _ c.query-in-EndingAt.result settled (rw (c.params-to_sql-in-EndingAt.ensures, c.params-to_sql-in-EndingAt-2.ensures, end) at c.query-in-EndingAt.ensures.begun) c.query-in-EndingAt.ensures.survives mode);
        mode = mode;
      },
    )

pub returns-in-Overlapping : goal.returns-in-Overlapping
returns-in-Overlapping g c =
    let old = c.args.connection.now in
    let selection = Overlapping c.in-Overlapping.start c.in-Overlapping.end in
    let after = c.query-in-Overlapping.follows.lender-at-none in
    let start : to_z w64 (of_z w64 c.in-Overlapping.start) ≡ c.in-Overlapping.start = search rules in
    let end : to_z w64 (of_z w64 c.in-Overlapping.end) ≡ c.in-Overlapping.end = search rules in
    let settled : IsTrue (state g.S.Store old).is_open → (state g.S.Store old).now ≡ (state g.S.Store old).committed = search rules in
    let mode : IfOk c.query-in-Overlapping.result (λ rows. rows.conn.now.in_transaction ≡ false) = search rules in (
      (refl, c.query-in-Overlapping.follows.holds, not_begun g.S.Store (OfTable c.args.table selection) old after c.requires settled c.query-in-Overlapping.result (rw (c.params-to_sql-in-Overlapping.ensures, c.params-to_sql-in-Overlapping-2.ensures, c.params-to_sql-in-Overlapping-3.ensures, start, end) at c.query-in-Overlapping.follows.holds-at-none)),
      record {
        refused = tt;
        same_reference = c.query-in-Overlapping.ensures.same_reference;
        begun = rw c.in-Overlapping.is (given_none g.S.Store (OfTable c.args.table selection) old (λ rows. rows.conn.now) _ c.query-in-Overlapping.result settled (rw (c.params-to_sql-in-Overlapping.ensures, c.params-to_sql-in-Overlapping-2.ensures, c.params-to_sql-in-Overlapping-3.ensures, start, end) at c.query-in-Overlapping.ensures.begun) c.query-in-Overlapping.ensures.survives mode);
        mode = mode;
      },
    )
