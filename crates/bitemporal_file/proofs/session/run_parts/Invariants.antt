use Rattle.std.proofs.Common.{◌≡◌, All, List, None, length, true}
use Rattle.history_model.specs.Histories.{History}
use Rattle.version_store.specs.StoreState.{IsUsable, SparesOthers}
use Rattle.script_engine.specs.engine.Stored.{EngineRepresents, RepresentsSome, WasUsable}
use Rattle.bitemporal_file.specs.Commands.{IsAnswered, IsAnsweredOver}
use Rattle.bitemporal_file.specs.ScriptRuns.{IsWhole}
use Rattle.bitemporal_file.specs.Sessions.{AreCut, LeadsThrough, Turn, all_results, begins_after, bytes_of, runs_of}
use Rattle.bitemporal_file.proofs.SessionFacts.{Heard, Written}
use Rattle.bitemporal_file.proofs.session.run_parts.Given as goal

abbrev pub invariant-parts : goal.invariant-parts
invariant-parts g l = record {
  quiet : l.reporter.fault ≡ None;
  usable : WasUsable g.S.Store l.fn.engine.connection l.engine.connection;
  others : SparesOthers g.S.Store l.fn.engine.connection l.engine.connection;
  ran : (turns : List (Turn g.row.K.Denot))
      × AreCut true (g.R.Read.remaining l.fn.input.inner) turns (g.R.Read.remaining l.input.inner)
      × (l.starts_line ≡ begins_after true turns)
      × All IsWhole (runs_of turns)
      × (l.start ≡ length (bytes_of turns))
      × Heard g.E.Write.contents g.K.Reported.text g.K.Reported.status_of g.K.Reported.forgotten_of l.fn.reporter (all_results turns) true l.reporter
      × Written g.W.Write.contents g.E.Write.contents g.K.Reported.text g.K.Reported.status_of g.K.Reported.forgotten_of l.fn.reporter turns l.reporter
      × LeadsThrough g.K.PieceResult.is_step_over g.K.Reported.refused (IsAnsweredOver g.S.Store) 0 l.fn.engine turns l.engine
      × (IsUsable g.S.Store l.engine.connection → (history : History) → EngineRepresents g.S.Store history l.fn.engine → RepresentsSome g.S.Store (LeadsThrough g.K.PieceResult.is_step g.K.Reported.refused (IsAnswered g.C.System.made) 0 history turns) l.engine);
}
