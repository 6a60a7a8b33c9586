use Rattle.std.proofs.Common.{Ok}
use Rattle.catalog_core.specs.query.Queries.{plain_query}
use Rattle.script_engine.proofs.Answering.{have_seen}
use Rattle.script_engine.proofs.Audited.{audit_is}
use Rattle.script_engine.proofs.engine.audits.audit_of.Goals as goal

pub returns-clause-confirms : goal.returns-clause-confirms
returns-clause-confirms c history kept known right =
    let query = plain_query c.args.query.now in
    audit_is history query c.args.answer.now c.in_ok-seen.seen (Ok c.in_ok-verdict.verdict) right
    (have_seen history query c.in_ok-seen.seen known.placed (c.in_ok-seen.ensures history kept)) c.in_ok-verdict.ensures tt
