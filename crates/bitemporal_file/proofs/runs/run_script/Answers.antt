use Rattle.std.proofs.Common.{◌≡◌, [], ◌∷◌, Option, None, Some, Err, refl, subst, sym}
use Rattle.std.proofs.lemmas.Result.{err_from_is_err_and}
use Rattle.script_engine.specs.engine.Stored.{EngineRepresents}
use Rattle.script_engine.specs.script.Script.{MayRefuseScript}
use Rattle.command_line.specs.declared.fault.RunFault.TheVariants.{Script}
use Rattle.bitemporal_file.specs.ScriptRuns.{Ends}
use Rattle.bitemporal_file.proofs.RunFacts.{none_ran, none_run, one, one_ran, one_ended, one_faulty, read_bytes, read_fault_is_no_write, read_fault_is_plain, read_refusal, same_refusal, unread_script, went_on}
use Rattle.bitemporal_file.proofs.ReporterFacts.{all_recorded, some_recorded}
use Rattle.bitemporal_file.proofs.runs.run_script.Goals as goal

pub returns-in_err-script-clause-ran : goal.returns-in_err-script-clause-ran
returns-in_err-script-clause-ran g c =
    let p = err_from_is_err_and c.from_residual.result c.from_residual.ensures.1 in
    rw (p.1, p.2) (
      [],
      tt,
      none_ran _ _,
      none_run g.W.Write.contents g.E.Write.contents g.K.Reported.text g.K.Reported.status_of g.K.Reported.forgotten_of _ _ c.args.reporter.now 1 c.in_err-script.field-0.0 c.requires (unread_script _ c.in_err-script.field-0.0 c.in_err-script.ensures.refused) (read_fault_is_no_write _ c.in_err-script.field-0.0 c.in_err-script.ensures.refused) (λ refusal is. absurd (read_fault_is_plain _ c.in_err-script.field-0.0 refusal c.in_err-script.ensures.refused is)),
      refl,
      λ usable history stands. (history, refl, stands),
    )

none_of_some : {X : Type 0} (fault : Option X) (its : X) → fault ≡ Some its → fault ≡ None → ⊥
none_of_some None its is none = cc
none_of_some (Some x) its is none = cc

pub returns-in-Some-clause-ran : goal.returns-in-Some-clause-ran
returns-in-Some-clause-ran g c =
    let (results, heard, over, ran) = c.in-Ok.ensures.run in
    let script = c.as_slice.result.now in
    let told = all_recorded g.W.Write.contents g.E.Write.contents g.K.Reported.text g.K.Reported.status_of g.K.Reported.forgotten_of 1 (record c.args.reporter.now { next = 1 }) results c.in-Ok.goes_on c.run_over.new.listener c.requires heard in
    let some = some_recorded g.W.Write.contents g.E.Write.contents g.K.Reported.text g.K.Reported.status_of g.K.Reported.forgotten_of 1 (record c.args.reporter.now { next = 1 }) results c.in-Ok.goes_on c.run_over.new.listener c.requires heard (rw c.in-Some.is refl) in (
      one g.W.Write.contents g.E.Write.contents g.K.Reported.text g.K.Reported.status_of g.K.Reported.forgotten_of script results c.in-Ok.goes_on,
      (read_bytes (g.R.Read.remaining c.args.input.now.inner) script c.in_ok-script.script.items c.as_slice.ensures.value c.in_ok-script.ensures.bytes, tt),
      one_ran _ _ _ (λ quiet on. absurd (none_of_some c.run_over.new.listener.fault c.in-Some.fault c.in-Some.is quiet)),
      one_faulty g.W.Write.contents g.E.Write.contents g.K.Reported.text g.K.Reported.status_of g.K.Reported.forgotten_of _ _ script c.args.reporter.now results c.in-Ok.goes_on c.run_over.new.listener c.in-Some.fault c.in-Some.is some told,
      (over.0, sym over.1),
      λ usable history stands. let (made, after) = ran usable history stands in (made.last, (made, refl), after),
    )

pub returns-in-Ok-clause-ran : goal.returns-in-Ok-clause-ran
returns-in-Ok-clause-ran g c =
    let (results, heard, over, ran) = c.in-Ok.ensures.run in
    let script = c.as_slice.result.now in
    let told = all_recorded g.W.Write.contents g.E.Write.contents g.K.Reported.text g.K.Reported.status_of g.K.Reported.forgotten_of 1 (record c.args.reporter.now { next = 1 }) results c.in-Ok.goes_on c.run_over.new.listener c.requires heard in (
      one g.W.Write.contents g.E.Write.contents g.K.Reported.text g.K.Reported.status_of g.K.Reported.forgotten_of script results c.in-Ok.goes_on,
      (read_bytes (g.R.Read.remaining c.args.input.now.inner) script c.in_ok-script.script.items c.as_slice.ensures.value c.in_ok-script.ensures.bytes, tt),
      one_ran _ _ _ (λ quiet on. went_on c.in-Ok.goes_on on),
      one_ended g.W.Write.contents g.E.Write.contents g.K.Reported.text g.K.Reported.status_of g.K.Reported.forgotten_of _ _ script c.args.reporter.now results c.in-Ok.goes_on c.run_over.new.listener c.in-None.is told,
      (over.0, sym over.1),
      λ usable history stands. let (made, after) = ran usable history stands in (made.last, (made, refl), after),
    )

pub returns-clause-ran : goal.returns-clause-ran
returns-clause-ran g c =
    let refusal = c.in-Err.refusal in
    let (engine, reporter) = c.in-Err.ensures.none in
    let whole = none_run g.W.Write.contents g.E.Write.contents g.K.Reported.text g.K.Reported.status_of g.K.Reported.forgotten_of (g.R.Read.remaining c.args.input.now.inner ∷ []) c.read_script.new.input.has_failed c.args.reporter.now 1 (Script refusal) c.requires tt (λ is. let no : ⊥ = cc in no)
    (λ other is. read_refusal (g.R.Read.remaining c.args.input.now.inner) c.as_slice.result.now c.in_ok-script.script.items other c.as_slice.ensures.value c.in_ok-script.ensures.bytes (subst (MayRefuseScript c.as_slice.result.now) (same_refusal refusal other is) c.in-Err.ensures.refused)) in (
      [],
      tt,
      none_ran _ _,
      subst (λ (new : _). Ends g.W.Write.contents g.E.Write.contents g.K.Reported.text g.K.Reported.status_of g.K.Reported.forgotten_of (g.R.Read.remaining c.args.input.now.inner ∷ []) c.read_script.new.input.has_failed c.args.reporter.now [] (Err (Script refusal)) new) (sym reporter) whole,
      engine,
      λ usable history stands. (history, refl, subst (EngineRepresents g.S.Store history) (sym engine) stands),
    )
