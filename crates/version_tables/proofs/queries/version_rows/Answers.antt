use Rattle.std.proofs.Common.{◌≡◌, IfOk, false, IsTrue, rules, refl}
use Rattle.sqlite.specs.Held.{state}
use Rattle.version_tables.specs.Selections.{OfAllTables}
use Rattle.version_tables.proofs.Giving.{given_none, not_begun}
use Rattle.version_tables.proofs.queries.version_rows.Goals as goal

pub returns : goal.returns
returns g c =
    let old = c.args.connection.now in
    let after = c.query.follows.lender-at-none in
    let settled : IsTrue (state g.S.Store old).is_open → (state g.S.Store old).now ≡ (state g.S.Store old).committed = search rules in
    let mode : IfOk c.query.result (λ rows. rows.conn.now.in_transaction ≡ false) = search rules in (
      (refl, c.query.follows.holds, not_begun g.S.Store OfAllTables old after c.requires settled c.query.result c.query.follows.holds-at-none),
      record {
        refused = tt;
        same_reference = c.query.ensures.same_reference;
        begun = given_none g.S.Store OfAllTables old (λ rows. rows.conn.now) _ c.query.result settled c.query.ensures.begun c.query.ensures.survives mode;
        mode = mode;
      },
    )
