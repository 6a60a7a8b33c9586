use Rattle.script_engine.proofs.AuditCounts.{counts_once}
use Rattle.script_engine.proofs.laws.audits_count_once.Goals as goal

pub returns : goal.returns
returns c = counts_once
