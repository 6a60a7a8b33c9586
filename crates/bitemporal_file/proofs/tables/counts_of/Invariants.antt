use Rattle.std.proofs.Common.{◌≡◌, ◌+◌, ◌<◌, ℕ, get_or, length}
use Rattle.version_store.specs.StoreState.{IsUsable, SparesOthers}
use Rattle.history_model.specs.Histories.{History}
use Rattle.script_engine.specs.engine.Stored.{EngineRepresents, WasUsable}
use Rattle.bitemporal_file.specs.Listing.{version_count}
use Rattle.bitemporal_file.proofs.tables.counts_of.Given as goal

abbrev pub invariant-loop-i : goal.invariant-loop-i
invariant-loop-i g l = record {
  size : length l.counts.items ≡ l.i;
  counts : IsUsable g.S.Store l.engine.connection → (history : History) → EngineRepresents g.S.Store history l.fn.engine → (place : ℕ) → place < l.i → get_or l.counts.items place 0 ≡ version_count history (place + 1);
  same : IsUsable g.S.Store l.engine.connection → (history : History) → EngineRepresents g.S.Store history l.fn.engine → EngineRepresents g.S.Store history l.engine;
  usable : WasUsable g.S.Store l.fn.engine.connection l.engine.connection;
  others : SparesOthers g.S.Store l.fn.engine.connection l.engine.connection;
}
