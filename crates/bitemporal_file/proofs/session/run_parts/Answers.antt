use Rattle.std.proofs.Common.{◌≡◌, ◌+◌, ◌++◌, ◌∷◌, ◌∙◌, ℕ, Bool, List, [], None, Err, Ok, ap, arith, inl, length, refl, rules, subst, sym, true, false}
use Rattle.std.specs.Prelude.{IfSome}
use Rattle.std.specs.Io.KnownBytes.{Consumes}
use Rattle.std.proofs.KnownBytes.{Appends-nil}
use Rattle.std.proofs.lemmas.List.Elements.{All-nil}
use Rattle.std.proofs.lemmas.Result.{err_from_is_err_and}
use Rattle.command_line.specs.declared.fault.RunFault.TheVariants.{Memory}
use Rattle.version_store.specs.StoreState.{IsUsable}
use Rattle.version_store.proofs.Beside.{spares_same, spares_then}
use Rattle.script_engine.specs.engine.EngineState.{EngineState}
use Rattle.script_engine.specs.engine.Stored.{EngineRepresents}
use Rattle.bitemporal_file.specs.Commands.{IsAnswered, IsAnsweredOver}
use Rattle.bitemporal_file.specs.Parts.{HasNoCommand, IsBegun, IsUnfinished}
use Rattle.bitemporal_file.specs.Sessions.{EndsWith, IsTurn, LeadsThrough, all_results, runs_of}
use Rattle.bitemporal_file.proofs.RunFacts.{all_ran}
use Rattle.bitemporal_file.proofs.SessionFacts.{Heard, begins-more, bytes-length, cut-more, failed_heard, faulty_heard, heard_turn, last_silent, memory_fault, over_further, part-kept, quiet_heard, ran_further, read_fault, read_is_no_write, report_fault, report_is_no_read, report_is_not_unfinished, stopped_turn, turns_ended, turns_failed, unwritten_report_fault, whole_more, written_turn}
use Rattle.bitemporal_file.proofs.ReporterFacts.{none_recorded}
use Rattle.bitemporal_file.proofs.session.run_parts.Goals as goal

pub parts-init : goal.parts-init
parts-init g c = record {
  quiet = c.requires;
  usable = λ usable. usable;
  others = spares_same g.S.Store c.args.engine.now.connection c.args.engine.now.connection (λ usable. refl);
  ran = ([], refl, refl, All-nil _, refl, none_recorded (λ out. None) g.E.Write.contents g.K.Reported.text g.K.Reported.status_of g.K.Reported.forgotten_of c.args.reporter.now c.requires, (λ none. Appends-nil _), refl, λ usable history stands. (history, refl, stands));
}

-- the read of a part failed

pub returns-in_err-part-clause-ran : goal.returns-in_err-part-clause-ran
returns-in_err-part-clause-ran g c =
    let (turns, cut, line, wholes, start, told, wrote, over, did) = c.parts.invariant.ran in
    let fault = c.in_err-part.field-0.0 in
    let p = err_from_is_err_and c.from_residual.result c.from_residual.ensures.1 in
    rw (p.1, p.2) (
      turns,
      turns_failed _ _ _ _ turns fault cut (λ is. subst (λ (starts : Bool). IfSome (g.R.Read.remaining c.parts.input.inner) (λ rest. IsUnfinished rest × HasNoCommand starts rest)) line (c.in_err-part.ensures.unfinished (ap Err is))) (λ is. subst (λ (starts : Bool). (bytes : List ℕ) × Consumes (g.R.Read.remaining c.parts.input.inner) (g.R.Read.remaining c.read_part.new.input.inner) bytes × IsBegun starts bytes) line (c.in_err-part.ensures.unread (ap Err is))) (read_fault _ fault c.in_err-part.ensures.fault),
      all_ran (runs_of turns) (Err fault) c.parts.reporter.fault wholes,
      failed_heard g.W.Write.contents g.E.Write.contents g.K.Reported.text g.K.Reported.status_of g.K.Reported.forgotten_of c.args.reporter.now turns true fault c.parts.reporter c.parts.invariant.quiet (read_is_no_write _ fault c.in_err-part.ensures.fault) told wrote,
      over,
      did,
    )

-- no part is left

pub returns-in_default-clause-ran : goal.returns-in_default-clause-ran
returns-in_default-clause-ran g c =
    let (turns, cut, line, wholes, start, told, wrote, over, did) = c.parts.invariant.ran in (
      turns,
      turns_ended _ _ _ _ turns true cut (λ on. c.in_ok-part.ensures.none (ap Ok c.in_default.is)),
      all_ran (runs_of turns) (Ok true) c.parts.reporter.fault wholes,
      quiet_heard g.W.Write.contents g.E.Write.contents g.K.Reported.text g.K.Reported.status_of g.K.Reported.forgotten_of c.args.reporter.now turns true c.parts.reporter c.parts.invariant.quiet told wrote,
      over,
      did,
    )

-- a part that was not run

pub returns-in_err-goes_on-clause-ran : goal.returns-in_err-goes_on-clause-ran
returns-in_err-goes_on-clause-ran g c =
    let (turns, cut, line, wholes, start, told, wrote, over, did) = c.parts.invariant.ran in
    let fault = c.in_err-goes_on.field-0.0 in
    let (is_memory, reporter, engine) = c.in_err-goes_on.ensures.none in
    let p = err_from_is_err_and c.from_residual-in_err-goes_on.result c.from_residual-in_err-goes_on.ensures.1 in
    rw (p.1, p.2) (
      turns,
      turns_failed _ _ _ _ turns fault cut (λ is. absurd (memory_fault fault is_memory is)) (λ is. let no : ⊥ = cc in absurd no) (read_fault _ fault (inl is_memory)),
      all_ran (runs_of turns) (Err fault) c.run_turn.new.reporter.fault wholes,
      subst (λ (new : _). EndsWith g.W.Write.contents g.E.Write.contents g.K.Reported.text g.K.Reported.status_of g.K.Reported.forgotten_of c.args.reporter.now turns (Err fault) new) (sym reporter)
          (failed_heard g.W.Write.contents g.E.Write.contents g.K.Reported.text g.K.Reported.status_of g.K.Reported.forgotten_of c.args.reporter.now turns true fault c.parts.reporter c.parts.invariant.quiet (read_is_no_write false fault (inl is_memory)) told wrote),
      subst (λ (e : EngineState g.row.S.Denot). LeadsThrough g.K.PieceResult.is_step_over g.K.Reported.refused (IsAnsweredOver g.S.Store) 0 c.args.engine.now turns e) (sym engine) over,
      λ usable history stands.
          let (last, leads, represents) = did (subst (λ (e : EngineState g.row.S.Denot). IsUsable g.S.Store e.connection) engine usable) history stands in
          (last, leads, subst (EngineRepresents g.S.Store last) (sym engine) represents),
    )

-- the report of a part failed

pub returns-in-Some-fault-clause-ran : goal.returns-in-Some-fault-clause-ran
returns-in-Some-fault-clause-ran g c =
    let (turns, cut, line, wholes, start, told, wrote, over, did) = c.parts.invariant.ran in
    let (bytes, took, is_part) = rw c.in-Some.is at c.in_ok-part.ensures.part in
    let (turn, whole_is, is_turn, line_before, whole, here, stepped, went) = c.in_ok-goes_on.ensures.ran c.parts.starts_line bytes _ is_part in
    let goes_on = c.in_ok-goes_on.goes_on in
    let turn_is = subst (λ (starts : Bool). IsTurn starts turn (g.R.Read.remaining c.read_part.new.input.inner)) line is_turn in
    let cut_now = cut-more true _ _ _ turns turn bytes cut whole_is took turn_is in
    let all = heard_turn g.W.Write.contents g.E.Write.contents g.K.Reported.text g.K.Reported.status_of g.K.Reported.forgotten_of c.args.reporter.now c.parts.reporter c.run_turn.new.reporter turns turn goes_on told here in
    let written = written_turn g.W.Write.contents g.E.Write.contents g.K.Reported.text g.K.Reported.status_of g.K.Reported.forgotten_of c.args.reporter.now c.parts.reporter c.run_turn.new.reporter turns turn goes_on told wrote here in
    let fault = c.in-Some-fault.fault in
    let reported = report_fault g.W.Write.contents g.E.Write.contents g.K.Reported.text g.K.Reported.status_of g.K.Reported.forgotten_of c.args.reporter.now (turns ++ turn ∷ []) goes_on fault c.run_turn.new.reporter c.in-Some-fault.is all in (
      turns ++ turn ∷ [],
      turns_failed _ _ _ _ (turns ++ turn ∷ []) fault cut_now (λ is. absurd (report_is_not_unfinished fault reported is)) (λ is. absurd (report_is_no_read fault reported is)) (unwritten_report_fault _ fault reported),
      stopped_turn turns turn (Err fault) c.run_turn.new.reporter.fault wholes (λ quiet on. let no : ⊥ = cc in no),
      faulty_heard g.W.Write.contents g.E.Write.contents g.K.Reported.text g.K.Reported.status_of g.K.Reported.forgotten_of c.args.reporter.now (turns ++ turn ∷ []) goes_on fault c.run_turn.new.reporter c.in-Some-fault.is (λ silent. here.faulty (rw c.in-Some-fault.is refl) (last_silent turns turn silent)) all written,
      over_further g.K.PieceResult.is_step_over g.K.Reported.refused (IsAnsweredOver g.S.Store) c.parts.start c.args.engine.now turns c.parts.engine turn c.run_turn.new.engine start over stepped,
      ran_further g.S.Store g.K.PieceResult.is_step g.K.Reported.refused (IsAnswered g.C.System.made) c.args.engine.now c.parts.engine c.run_turn.new.engine c.parts.start turns turn start c.run_turn.ensures.usable did went,
    )

-- a part that ended the session

pub returns-then-not-goes_on-clause-ran : goal.returns-then-not-goes_on-clause-ran
returns-then-not-goes_on-clause-ran g c =
    let (turns, cut, line, wholes, start, told, wrote, over, did) = c.parts.invariant.ran in
    let (bytes, took, is_part) = rw c.in-Some.is at c.in_ok-part.ensures.part in
    let (turn, whole_is, is_turn, line_before, whole, here, stepped, went) = c.in_ok-goes_on.ensures.ran c.parts.starts_line bytes _ is_part in
    let goes_on = c.in_ok-goes_on.goes_on in
    let turn_is = subst (λ (starts : Bool). IsTurn starts turn (g.R.Read.remaining c.read_part.new.input.inner)) line is_turn in
    let cut_now = cut-more true _ _ _ turns turn bytes cut whole_is took turn_is in
    let all = heard_turn g.W.Write.contents g.E.Write.contents g.K.Reported.text g.K.Reported.status_of g.K.Reported.forgotten_of c.args.reporter.now c.parts.reporter c.run_turn.new.reporter turns turn goes_on told here in
    let written = written_turn g.W.Write.contents g.E.Write.contents g.K.Reported.text g.K.Reported.status_of g.K.Reported.forgotten_of c.args.reporter.now c.parts.reporter c.run_turn.new.reporter turns turn goes_on told wrote here in
    let off : goes_on ≡ false = c.if-not-goes_on.true in (
      turns ++ turn ∷ [],
      turns_ended _ _ _ _ (turns ++ turn ∷ []) false cut_now (λ on. let no : ⊥ = cc in absurd no),
      stopped_turn turns turn (Ok false) c.run_turn.new.reporter.fault wholes (λ quiet on. on refl),
      quiet_heard g.W.Write.contents g.E.Write.contents g.K.Reported.text g.K.Reported.status_of g.K.Reported.forgotten_of c.args.reporter.now (turns ++ turn ∷ []) false c.run_turn.new.reporter c.in_default-fault.is
          (subst (λ (flow : Bool). Heard g.E.Write.contents g.K.Reported.text g.K.Reported.status_of g.K.Reported.forgotten_of c.args.reporter.now (all_results (turns ++ turn ∷ [])) flow c.run_turn.new.reporter) off all) written,
      over_further g.K.PieceResult.is_step_over g.K.Reported.refused (IsAnsweredOver g.S.Store) c.parts.start c.args.engine.now turns c.parts.engine turn c.run_turn.new.engine start over stepped,
      ran_further g.S.Store g.K.PieceResult.is_step g.K.Reported.refused (IsAnswered g.C.System.made) c.args.engine.now c.parts.engine c.run_turn.new.engine c.parts.start turns turn start c.run_turn.ensures.usable did went,
    )

-- more bytes than 64 bits count

pub returns-in-None-clause-ran : goal.returns-in-None-clause-ran
returns-in-None-clause-ran g c =
    let (turns, cut, line, wholes, start, told, wrote, over, did) = c.parts.invariant.ran in
    let (bytes, took, is_part) = rw c.in-Some.is at c.in_ok-part.ensures.part in
    let (turn, whole_is, is_turn, line_before, whole, here, stepped, went) = c.in_ok-goes_on.ensures.ran c.parts.starts_line bytes _ is_part in
    let goes_on = c.in_ok-goes_on.goes_on in
    let turn_is = subst (λ (starts : Bool). IsTurn starts turn (g.R.Read.remaining c.read_part.new.input.inner)) line is_turn in
    let cut_now = cut-more true _ _ _ turns turn bytes cut whole_is took turn_is in
    let all = heard_turn g.W.Write.contents g.E.Write.contents g.K.Reported.text g.K.Reported.status_of g.K.Reported.forgotten_of c.args.reporter.now c.parts.reporter c.run_turn.new.reporter turns turn goes_on told here in
    let written = written_turn g.W.Write.contents g.E.Write.contents g.K.Reported.text g.K.Reported.status_of g.K.Reported.forgotten_of c.args.reporter.now c.parts.reporter c.run_turn.new.reporter turns turn goes_on told wrote here in
    let on : goes_on ≡ true = c.if-not-goes_on.false in (
      turns ++ turn ∷ [],
      turns_failed _ _ _ _ (turns ++ turn ∷ []) Memory cut_now (λ is. let no : ⊥ = cc in absurd no) (λ is. let no : ⊥ = cc in absurd no) tt,
      all_ran (runs_of (turns ++ turn ∷ [])) (Err Memory) c.run_turn.new.reporter.fault (whole_more turns turn wholes (whole on)),
      failed_heard g.W.Write.contents g.E.Write.contents g.K.Reported.text g.K.Reported.status_of g.K.Reported.forgotten_of c.args.reporter.now (turns ++ turn ∷ []) goes_on Memory c.run_turn.new.reporter c.in_default-fault.is (λ write. let no : ⊥ = cc in no) all written,
      over_further g.K.PieceResult.is_step_over g.K.Reported.refused (IsAnsweredOver g.S.Store) c.parts.start c.args.engine.now turns c.parts.engine turn c.run_turn.new.engine start over stepped,
      ran_further g.S.Store g.K.PieceResult.is_step g.K.Reported.refused (IsAnswered g.C.System.made) c.args.engine.now c.parts.engine c.run_turn.new.engine c.parts.start turns turn start c.run_turn.ensures.usable did went,
    )

pub returns-clause-ran : goal.returns-clause-ran
returns-clause-ran g c =
    let (turns, cut, line, wholes, start, told, wrote, over, did) = c.parts.invariant.ran in (
      turns,
      turns_failed _ _ _ _ turns Memory cut (λ is. let no : ⊥ = cc in absurd no) (λ is. let no : ⊥ = cc in absurd no) tt,
      all_ran (runs_of turns) (Err Memory) c.parts.reporter.fault wholes,
      failed_heard g.W.Write.contents g.E.Write.contents g.K.Reported.text g.K.Reported.status_of g.K.Reported.forgotten_of c.args.reporter.now turns true Memory c.parts.reporter c.parts.invariant.quiet (λ write. let no : ⊥ = cc in no) told wrote,
      over,
      did,
    )

-- the session continues after a part

pub parts-preserved : goal.parts-preserved
parts-preserved g c =
    let (turns, cut, line, wholes, start, told, wrote, over, did) = c.parts.invariant.ran in
    let (bytes, took, is_part) = rw c.in-Some.is at c.in_ok-part.ensures.part in
    let (turn, whole_is, is_turn, line_before, whole, here, stepped, went) = c.in_ok-goes_on.ensures.ran c.parts.starts_line bytes _ is_part in
    let goes_on = c.in_ok-goes_on.goes_on in
    let turn_is = subst (λ (starts : Bool). IsTurn starts turn (g.R.Read.remaining c.read_part.new.input.inner)) line is_turn in
    let cut_now = cut-more true _ _ _ turns turn bytes cut whole_is took turn_is in
    let all = heard_turn g.W.Write.contents g.E.Write.contents g.K.Reported.text g.K.Reported.status_of g.K.Reported.forgotten_of c.args.reporter.now c.parts.reporter c.run_turn.new.reporter turns turn goes_on told here in
    let written = written_turn g.W.Write.contents g.E.Write.contents g.K.Reported.text g.K.Reported.status_of g.K.Reported.forgotten_of c.args.reporter.now c.parts.reporter c.run_turn.new.reporter turns turn goes_on told wrote here in
    let on : goes_on ≡ true = c.if-not-goes_on.false in
    let sum : c.in-Some-checked_add.end ≡ c.parts.start + c.len.result = search rules in
    record {
      quiet = c.in_default-fault.is;
      usable = λ usable. c.parts.invariant.usable (c.run_turn.ensures.usable usable);
      others = spares_then g.S.Store c.args.engine.now.connection c.parts.engine.connection c.run_turn.new.engine.connection c.parts.invariant.others c.run_turn.ensures.usable c.run_turn.ensures.others;
      ran = (
        turns ++ turn ∷ [],
        cut_now,
        c.is_command-starts_line.ensures ∙ sym line_before ∙ sym (begins-more true turns turn),
        whole_more turns turn wholes (whole on),
        omega (arith, sum, start, bytes-length turns turn, ap length whole_is, c.len.ensures bytes (part-kept c.parts.starts_line bytes _ _ is_part)),
        subst (λ (flow : Bool). Heard g.E.Write.contents g.K.Reported.text g.K.Reported.status_of g.K.Reported.forgotten_of c.args.reporter.now (all_results (turns ++ turn ∷ [])) flow c.run_turn.new.reporter) on all,
        written,
        over_further g.K.PieceResult.is_step_over g.K.Reported.refused (IsAnsweredOver g.S.Store) c.parts.start c.args.engine.now turns c.parts.engine turn c.run_turn.new.engine start over stepped,
        ran_further g.S.Store g.K.PieceResult.is_step g.K.Reported.refused (IsAnswered g.C.System.made) c.args.engine.now c.parts.engine c.run_turn.new.engine c.parts.start turns turn start c.run_turn.ensures.usable did went,
      );
    }

-- ---- the other tables of the database

pub returns-in_err-goes_on-clause-others : goal.returns-in_err-goes_on-clause-others
returns-in_err-goes_on-clause-others g c =
    spares_then g.S.Store c.args.engine.now.connection c.parts.engine.connection c.run_turn.new.engine.connection c.parts.invariant.others c.run_turn.ensures.usable c.run_turn.ensures.others

pub returns-in-Some-fault-clause-others : goal.returns-in-Some-fault-clause-others
returns-in-Some-fault-clause-others g c =
    spares_then g.S.Store c.args.engine.now.connection c.parts.engine.connection c.run_turn.new.engine.connection c.parts.invariant.others c.run_turn.ensures.usable c.run_turn.ensures.others

pub returns-then-not-goes_on-clause-others : goal.returns-then-not-goes_on-clause-others
returns-then-not-goes_on-clause-others g c =
    spares_then g.S.Store c.args.engine.now.connection c.parts.engine.connection c.run_turn.new.engine.connection c.parts.invariant.others c.run_turn.ensures.usable c.run_turn.ensures.others

pub returns-in-None-clause-others : goal.returns-in-None-clause-others
returns-in-None-clause-others g c =
    spares_then g.S.Store c.args.engine.now.connection c.parts.engine.connection c.run_turn.new.engine.connection c.parts.invariant.others c.run_turn.ensures.usable c.run_turn.ensures.others
