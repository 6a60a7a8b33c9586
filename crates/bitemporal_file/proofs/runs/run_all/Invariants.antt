use Rattle.std.proofs.Common.{◌≡◌, All, List, None, Ok, map, string_bytes, take, true}
use Rattle.history_model.specs.Histories.{History}
use Rattle.version_store.specs.StoreState.{IsUsable, SparesOthers}
use Rattle.script_engine.specs.engine.Stored.{EngineRepresents, RepresentsSome, WasUsable}
use Rattle.bitemporal_file.specs.ScriptRuns.{AreOfReaders, Ends, IsWhole, LeadsTo, ScriptRun}
use Rattle.bitemporal_file.proofs.runs.run_all.Given as goal

abbrev pub invariant-loop-name : goal.invariant-loop-name
invariant-loop-name g l = record {
  quiet : l.reporter.fault ≡ None;
  same : l.scripts.scripts ≡ l.fn.scripts.scripts;
  usable : WasUsable g.S.Store l.fn.engine.connection l.engine.connection;
  others : SparesOthers g.S.Store l.fn.engine.connection l.engine.connection;
  ran : (runs : List (ScriptRun g.row.K.Denot))
      × AreOfReaders (map (g.Q.Scripts.content l.fn.scripts.scripts.now) (map string_bytes (take l.name-index l.names))) runs
      × All IsWhole runs
      × Ends g.W.Write.contents g.E.Write.contents g.K.Reported.text g.K.Reported.status_of g.K.Reported.forgotten_of (map (g.Q.Scripts.content l.fn.scripts.scripts.now) (map string_bytes (take l.name-index l.names))) l.scripts.has_failed l.fn.reporter runs (Ok true) l.reporter
      × LeadsTo g.K.PieceResult.is_step_over l.fn.engine runs l.engine
      × (IsUsable g.S.Store l.engine.connection → (history : History) → EngineRepresents g.S.Store history l.fn.engine → RepresentsSome g.S.Store (LeadsTo g.K.PieceResult.is_step history runs) l.engine);
}
