use Rattle.script_engine.proofs.AuditLaws.{audits_agree}
use Rattle.script_engine.proofs.laws.audits_agree.Goals as goal

pub returns : goal.returns
returns c = audits_agree
