use Rattle.std.proofs.Common.{◌∙◌, ◌≤ℤ◌, ℤ, subst, sym}
use Rattle.version_store.specs.StoreState.{IsUsable, SparesOthers}
use Rattle.version_store.proofs.Beside.{spares_then}
use Rattle.history_model.specs.Histories.{History}
use Rattle.bitemporal_file.specs.StoreRuns.{LeadsDatabase, LeadsEngine, LeadsOver}
use Rattle.script_engine.specs.engine.EngineState.{EngineState}
use Rattle.bitemporal_file.specs.Commands.{IsAnswered, IsAnsweredOver}
use Rattle.bitemporal_file.proofs.RunFacts.{stands_for_history}
use Rattle.bitemporal_file.proofs.StoreFacts.{given_so}
use Rattle.bitemporal_file.proofs.over.run_store.Goals as goal

pub returns-clause-ran : goal.returns-clause-ran
returns-clause-ran g c =
    given_so g.K.PieceResult.is_step g.K.PieceResult.is_step_over (IsAnswered g.C.System.made) (IsAnsweredOver g.S.Store) g.K.Reported.refused g.W.Write.contents g.E.Write.contents g.K.Reported.text g.K.Reported.status_of g.K.Reported.forgotten_of (LeadsEngine g.S.Store c.in_ok-engine.engine c.run_files-ended.new.engine) (λ (Led : EngineState g.row.S.Denot → EngineState g.row.S.Denot → Type 0). Led c.in_ok-engine.engine c.run_files-ended.new.engine) (LeadsDatabase g.S.Store c.args.connection c.close_at_exit.result) (LeadsOver g.S.Store c.args.connection c.close_at_exit.result)
    (λ (Led : History → History → Type 0) led usable history stands.
    let engine_usable = subst (IsUsable g.S.Store) c.close_at_exit.ensures.same usable in
    let opened = c.in_ok-engine.ensures.opened.represents (c.run_files-ended.ensures.usable engine_usable) history stands in
    let (last, leads, represents) = led engine_usable history opened in
    let (now, committed) = stands_for_history g.S.Store last c.run_files-ended.new.engine c.close_at_exit.result c.close_at_exit.ensures.same represents in
    (last, leads, now, committed))
    (λ (Led : EngineState g.row.S.Denot → EngineState g.row.S.Denot → Type 0) led. (c.in_ok-engine.engine, c.run_files-ended.new.engine, c.in_ok-engine.ensures.opened, led, c.close_at_exit.ensures.same))
    _ _ _ _ c.args.reporter.now c.run_files-ended.result c.run_files-ended.new.reporter c.run_files-ended.ensures.ran

-- whatever history the database stood for, the engine has its clock
pub returns-clause-timely : goal.returns-clause-timely
returns-clause-timely g c wanted =
    let (time, told, by) = c.in_ok-engine.ensures.timely wanted in (
      time,
      told,
      λ usable history stands.
          let engine_usable = subst (IsUsable g.S.Store) c.close_at_exit.ensures.same usable in
          let represents = c.in_ok-engine.ensures.opened.represents (c.run_files-ended.ensures.usable engine_usable) history stands in
          subst (λ (clock : ℤ). clock ≤ℤ time) (represents.stored.clock ∙ represents.said.clock) by,
    )

pub returns-clause-others : goal.returns-clause-others
returns-clause-others g c =
    let engine = c.in_ok-engine.engine.connection in
    let ended = c.run_files-ended.new.engine.connection in
    subst (SparesOthers g.S.Store c.args.connection) (sym c.close_at_exit.ensures.same)
    (spares_then g.S.Store c.args.connection engine ended c.in_ok-engine.ensures.opened.others c.run_files-ended.ensures.usable c.run_files-ended.ensures.others)

pub returns-clause-usable : goal.returns-clause-usable
returns-clause-usable g c usable =
    c.in_ok-engine.ensures.opened.usable (c.run_files-ended.ensures.usable (subst (IsUsable g.S.Store) c.close_at_exit.ensures.same usable))
