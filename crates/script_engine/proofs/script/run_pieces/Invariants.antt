use Rattle.std.proofs.Common.{◌≡◌, List, length, map, take, true}
use Rattle.sql_front.specs.TokenSpans.{lexemes_at}
use Rattle.sql_front.specs.Pieces.{spanned}
use Rattle.history_model.specs.Histories.{History}
use Rattle.version_store.specs.StoreState.{IsUsable, SparesOthers}
use Rattle.script_engine.specs.engine.Stored.{EngineRepresents, RepresentsSome, WasUsable}
use Rattle.script_engine.specs.script.Listening.{ReceivesAll}
use Rattle.script_engine.specs.script.Script.{StepPieces}
use Rattle.script_engine.proofs.script.run_pieces.Given as goal

abbrev pub invariant-loop-i : goal.invariant-loop-i
invariant-loop-i g l = record {
  usable : WasUsable g.S.Store l.fn.engine.connection l.engine.connection;
  others : SparesOthers g.S.Store l.fn.engine.connection l.engine.connection;
  run : (results : List g.row.K.Denot) × ReceivesAll g.L.Listener.hears 1 l.fn.listener results true l.listener
      × (length results ≡ l.i)
      × StepPieces g.K.PieceResult.is_step_over l.fn.engine (map (spanned (lexemes_at l.script l.tokens)) (take l.i l.pieces)) results l.engine
      × (IsUsable g.S.Store l.engine.connection → (history : History) → EngineRepresents g.S.Store history l.fn.engine →
      RepresentsSome g.S.Store (StepPieces g.K.PieceResult.is_step history (map (spanned (lexemes_at l.script l.tokens)) (take l.i l.pieces)) results) l.engine);
}
