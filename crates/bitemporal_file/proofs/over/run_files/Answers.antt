use Rattle.std.proofs.Common.{◌∙◌, string_bytes, sym}
use Rattle.script_engine.specs.engine.EngineState.{EngineState}
use Rattle.bitemporal_file.specs.Commands.{IsAnswered, IsAnsweredOver}
use Rattle.bitemporal_file.specs.StoreRuns.{LeadsEngine}
use Rattle.bitemporal_file.proofs.StoreFacts.{given_scripts, given_session}
use Rattle.bitemporal_file.proofs.over.run_files.Goals as goal

pub returns-then-is_empty-clause-ran : goal.returns-then-is_empty-clause-ran
returns-then-is_empty-clause-ran g c =
    let (turns, parts, run, ends, over, led) = c.run_parts.ensures.ran in
    given_session g.K.PieceResult.is_step g.K.PieceResult.is_step_over (IsAnswered g.C.System.made) (IsAnsweredOver g.S.Store) g.K.Reported.refused g.W.Write.contents g.E.Write.contents g.K.Reported.text g.K.Reported.status_of g.K.Reported.forgotten_of (LeadsEngine g.S.Store c.args.engine.now c.run_parts.new.engine) (λ (Led : EngineState g.row.S.Denot → EngineState g.row.S.Denot → Type 0). Led c.args.engine.now c.run_parts.new.engine) string_bytes (g.Q.Scripts.content c.args.scripts.now.scripts.now) c.args.files.now _ _ _ _ c.args.reporter.now c.run_parts.result c.run_parts.new.reporter
    (sym c.is_empty.ensures ∙ c.if-is_empty.true) (turns, parts, run, ends, led, over)

pub returns-clause-ran : goal.returns-clause-ran
returns-clause-ran g c =
    let (runs, are, run, ends, over, led) = c.run_all.ensures.ran in
    given_scripts g.K.PieceResult.is_step g.K.PieceResult.is_step_over (IsAnswered g.C.System.made) (IsAnsweredOver g.S.Store) g.K.Reported.refused g.W.Write.contents g.E.Write.contents g.K.Reported.text g.K.Reported.status_of g.K.Reported.forgotten_of (LeadsEngine g.S.Store c.args.engine.now c.run_all.new.engine) (λ (Led : EngineState g.row.S.Denot → EngineState g.row.S.Denot → Type 0). Led c.args.engine.now c.run_all.new.engine) string_bytes (g.Q.Scripts.content c.args.scripts.now.scripts.now) c.args.files.now _ _ _ _ c.args.reporter.now c.run_all.result c.run_all.new.reporter
    (sym c.is_empty.ensures ∙ c.if-is_empty.false) (runs, are, run, ends, led, over)
