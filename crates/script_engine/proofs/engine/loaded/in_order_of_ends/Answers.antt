use Rattle.std.proofs.Common.{rules}
use Rattle.std.proofs.lemmas.Fn.{always_returns_same}
use Rattle.period_core.specs.declared.version.VersionRow.{VersionRow}
use Rattle.script_engine.proofs.EndedLoaded.{in_order}
use Rattle.script_engine.proofs.engine.loaded.in_order_of_ends.Goals as goal

pub returns-clause-ordered : goal.returns-clause-ordered
returns-clause-ordered c = in_order c.sort_by_key.new.self.items (c.in_ok-sort_by_key.ensures.sorted (λ (v : VersionRow). v.to) (always_returns_same _ _ _ (λ a r f' k. search rules)))
