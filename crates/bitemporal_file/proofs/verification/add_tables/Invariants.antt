use Rattle.std.proofs.Common.{◌≡◌, ◌++◌, ℕ, List}
use Rattle.md5.specs.Md5.{Holds}
use Rattle.version_store.specs.StoreState.{IsUsable, SparesOthers}
use Rattle.history_model.specs.Histories.{History}
use Rattle.history_sums.specs.Sums.{tables_bytes}
use Rattle.script_engine.specs.engine.Stored.{EngineRepresents, WasUsable}
use Rattle.bitemporal_file.specs.Verification.{version_counts}
use Rattle.bitemporal_file.proofs.verification.add_tables.Given as goal

abbrev pub invariant-loop-i : goal.invariant-loop-i
invariant-loop-i g l = record {
  counts : IsUsable g.S.Store l.engine.connection → (history : History) → EngineRepresents g.S.Store history l.fn.engine → l.counts.items ≡ version_counts history l.i;
  added : IsUsable g.S.Store l.engine.connection → (history : History) → EngineRepresents g.S.Store history l.fn.engine → (bytes : List ℕ) → Holds l.fn.sum bytes → Holds l.sum (bytes ++ tables_bytes history l.i);
  same : IsUsable g.S.Store l.engine.connection → (history : History) → EngineRepresents g.S.Store history l.fn.engine → EngineRepresents g.S.Store history l.engine;
  usable : WasUsable g.S.Store l.fn.engine.connection l.engine.connection;
  others : SparesOthers g.S.Store l.fn.engine.connection l.engine.connection;
}
