use Rattle.sqlite.specs.Given.{row_if}
use Rattle.version_tables.proofs.Giving.{gives_next, left_so, why_so}
use Rattle.version_tables.proofs.queries.to_next_row.Goals as goal

pub returns-clause-gives : goal.returns-clause-gives
returns-clause-gives g c query first given was =
    let now = c.advance.new.self.conn.now in
    gives_next g.S.Store query first c.args.rows.now.conn.now now given was c.advance.ensures.survives c.advance.ensures.mode (row_if c.advance.new.self.has_row now) c.advance.result c.advance.ensures.ok c.advance.ensures.same

pub returns-clause-left : goal.returns-clause-left
returns-clause-left g c query first given was =
    left_so g.S.Store query first c.args.rows.now.conn.now c.advance.new.self.conn.now given was c.advance.ensures.survives c.advance.ensures.mode c.advance.result c.advance.ensures.kept

pub returns-clause-why : goal.returns-clause-why
returns-clause-why g c query first given was =
    why_so g.S.Store query first c.args.rows.now.conn.now c.advance.new.self.conn.now given was c.advance.ensures.survives c.advance.ensures.mode c.advance.result c.advance.ensures.err
