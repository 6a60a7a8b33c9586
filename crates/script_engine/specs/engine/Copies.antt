-- Copies of a store.
use Rattle.std.specs.Prelude.{◌≡◌}
use Rattle.sqlite.specs.Held.{Held, state}
use Rattle.sqlite.specs.Store.{Ghosts}
use Rattle.history_model.specs.Histories.{History}
use Rattle.script_engine.specs.engine.Stored.{DatabaseRepresents}

-- the database is what the history says, as it was last committed
pub record Holds {S : Type 0} (g : Ghosts S) (history : History) (connection : Held S) : Type 0
  where
    pub now : DatabaseRepresents history (state g connection).now
    pub committed : (state g connection).committed ≡ (state g connection).now
