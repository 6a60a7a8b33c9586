use Rattle.std.proofs.Common.{◌≡◌, take}
use Rattle.history_model.specs.Histories.{History}
use Rattle.history_model.specs.OrdinaryQuery.{VisibleInHistory}
use Rattle.script_engine.specs.engine.Needed.{HaveRowFrom, IsPrunedAfter, SeesWidth}
use Rattle.script_engine.specs.engine.Stored.{TablesRepresent}
use Rattle.script_engine.proofs.engine.looked_up_rows.looked_up.Given as goal

abbrev pub invariant-loop-seen : goal.invariant-loop-seen
invariant-loop-seen l = record {
  same : l.tables ≡ l.fn.tables;
  needed : (history : History) → TablesRepresent history l.fn.tables → SeesWidth history l.reference l.conditions.width
      → IsPrunedAfter (HaveRowFrom (take l.seen l.previous) l.at) l.conditions.conjuncts.now l.conditions.start (λ day. VisibleInHistory history day l.reference) l.rows.items;
}
