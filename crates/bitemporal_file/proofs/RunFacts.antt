-- Scripts that are run one after the other.
use Rattle.std.proofs.Common.{◌≡◌, ◌≢◌, ◌<◌, ◌⊎◌, ◌+◌, ◌++◌, ◌∷◌, ◌∙◌, ℕ, Bool, List, [], Option, None, Some, Result, Ok, Err, All, drop, get_or, length, map, take, false, true, ap, arith, inl, inr, refl, subst, sym, append_assoc}
use Rattle.std.specs.Prelude.{IfErr, IfSome, IsSome}
use Rattle.std.specs.Io.KnownBytes.{Appends}
use Rattle.std.proofs.KnownBytes.{Appends-nil, Appends-trans}
use Rattle.std.proofs.lemmas.List.{append-nil, length-append, map-append, take-append-drop, take_more}
use Rattle.std.proofs.lemmas.List.Elements.{All-append, All-cons, All-nil}
use Rattle.period_core.specs.declared.refusal.Refusal.{Refusal}
use Rattle.history_model.specs.Histories.{History}
use Rattle.sql_statements.specs.Lexemes.{Lexeme}
use Rattle.sqlite.specs.Held.{Held, state}
use Rattle.sqlite.specs.Store.{Ghosts}
use Rattle.script_engine.specs.engine.EngineState.{EngineState}
use Rattle.version_tables.specs.declared.form.Form.TheVariants.{Microseconds}
use Rattle.version_store.proofs.Units.{same_units}
use Rattle.script_engine.specs.engine.Stored.{AreOfHistory, DatabaseRepresents, EngineRepresents}
use Rattle.script_engine.specs.script.Script.{MayRefuseScript, most_bytes}
use Rattle.command_line.specs.Reading.{read_of}
use Rattle.command_line.specs.declared.fault.RunFault.{RunFault}
use Rattle.command_line.specs.declared.fault.RunFault.TheVariants.{Memory, Read, Script, Write}
use Rattle.bitemporal_file.specs.Reporting.{AllButLast, EndsAtRefusal, IsReportFault, ReceivesResults, greatest_from, texts_from}
use Rattle.bitemporal_file.specs.ScriptRuns.{AreOfReaders, AreRun, Ends, IsScriptFault, IsWhole, LeadsTo, MayRefuseNext, ScriptRun, reports, results_of, tally_after}
use Rattle.bitemporal_file.specs.declared.reporter.Reporter.{Reporter}
use Rattle.bitemporal_file.specs.Notes.{tally_from}
use Rattle.bitemporal_file.specs.declared.notes.Tally.{Tally}
use Rattle.bitemporal_file.proofs.NoteFacts.{told_then}
use Rattle.bitemporal_file.proofs.ReporterFacts.{all_but_last-append, greatest-more, refusal-more}

-- ---- one script

-- a script that was not read has a fault of scripts
pub unread_script : (failed : Bool) (fault : RunFault) → (fault ≡ Memory) ⊎ ((fault ≡ Read) × (failed ≡ true)) → IsScriptFault failed fault
unread_script failed fault (inl is) = rw is tt
unread_script failed fault (inr (is, did)) = rw is did

-- a report that was not written is a fault of scripts
unwritten_script : (failed : Bool) (fault : RunFault) → IsReportFault fault → IsScriptFault failed fault
unwritten_script failed fault (inl is) = rw is tt
unwritten_script failed fault (inr is) = rw is tt

-- a file that has failed has failed later too
pub failed_later : (failed later : Bool) (fault : RunFault) → (failed ≡ true → later ≡ true) → IsScriptFault failed fault → IsScriptFault later fault
failed_later failed later Memory stays is = tt
failed_later failed later Read stays is = stays is
failed_later failed later Write stays is = tt
failed_later failed later (Script refusal) stays is = tt
failed_later failed later _ stays is = absurd is

-- the fault of a script that was not read is no refusal
pub read_fault_is_plain : (has_failed : Bool) (fault : RunFault) (refusal : Refusal) → (fault ≡ Memory) ⊎ ((fault ≡ Read) × (has_failed ≡ true)) → fault ≡ Script refusal → ⊥
read_fault_is_plain has_failed fault refusal (inl memory) is = cc
read_fault_is_plain has_failed fault refusal (inr (read, failed)) is = cc

-- nor is it a report that was not written
pub read_fault_is_no_write : (has_failed : Bool) (fault : RunFault) → (fault ≡ Memory) ⊎ ((fault ≡ Read) × (has_failed ≡ true)) → fault ≡ Write → ⊥
read_fault_is_no_write has_failed fault (inl memory) is = cc
read_fault_is_no_write has_failed fault (inr (read, failed)) is = cc

-- the bytes of a script, as they are handed on
pub read_bytes : (known : Option (List ℕ)) (script items : List ℕ) → script ≡ items → IfSome known (λ all. items ≡ read_of most_bytes all) → IfSome known (λ all. script ≡ read_of most_bytes all)
read_bytes None script items same bytes = tt
read_bytes (Some all) script items same bytes = same ∙ bytes

-- the refusal of a script that was read is a refusal of the reader's bytes
pub read_refusal : (known : Option (List ℕ)) (script items : List ℕ) (refusal : Refusal) → script ≡ items → IfSome known (λ all. items ≡ read_of most_bytes all) → MayRefuseScript script refusal → IfSome known (λ all. MayRefuseScript (read_of most_bytes all) refusal)
read_refusal None script items refusal same bytes may = tt
read_refusal (Some all) script items refusal same bytes may = subst (λ (text : List ℕ). MayRefuseScript text refusal) (same ∙ bytes) may

pub same_refusal : (refusal other : Refusal) → Script refusal ≡ Script other → refusal ≡ other
same_refusal refusal other is = cc

module _ {W N K : Type 0} (contents : W → Option (List ℕ)) (errors : N → Option (List ℕ)) (text : ℕ → K → List ℕ) (status : K → ℕ) (forgotten : K → ℕ) where
  -- a run that a fault ended before any script
  pub none_run : (readers : List (Option (List ℕ))) (failed : Bool) (old : Reporter W N) (next : ℕ) (fault : RunFault) → old.fault ≡ None → IsScriptFault failed fault → (fault ≡ Write → ⊥) → ((refusal : Refusal) → fault ≡ Script refusal → MayRefuseNext {K = K} readers [] refusal) →
      Ends contents errors text status forgotten readers failed old [] (Err fault) (record old { next = next })
  none_run readers failed old next fault quiet its no_write may = record {
    stops = refl;
    unused = λ is. (is, refl);
    worst = refl;
    low = λ low. low;
    tally = refl;
    told = inl (refl, refl);
    written = λ none. Appends-nil (contents old.out);
    fault = its;
    faulty = rw quiet tt;
    unwritten = λ is. let same : fault ≡ Write = cc in absurd (no_write same);
    whole = λ on. let no : ⊥ = cc in absurd no;
    stopped = λ off. let no : ⊥ = cc in absurd no;
    stop = λ stops. tt;
    refused = λ refusal is. may refusal (is_fault refusal is);
  }
    where
      is_fault : (refusal : Refusal) → ◌≡◌ {A = Result Bool RunFault} (Err fault) (Err (Script refusal)) → fault ≡ Script refusal
      is_fault refusal is = cc

  -- a run before its first script
  pub none_yet : (failed : Bool) (old : Reporter W N) → old.fault ≡ None → Ends {K = K} contents errors text status forgotten [] failed old [] (Ok true) old
  none_yet failed old quiet = record {
    stops = refl;
    unused = λ is. (is, refl);
    worst = refl;
    low = λ low. low;
    tally = refl;
    told = inl (refl, refl);
    written = λ none. Appends-nil (contents old.out);
    fault = tt;
    faulty = rw quiet tt;
    unwritten = λ is. let no : ⊥ = cc in absurd no;
    whole = λ on. (refl, λ stops. All-nil (λ r. status r ≡ 0));
    stopped = λ off. let no : ⊥ = cc in absurd no;
    stop = λ stops. tt;
    refused = λ refusal is. let no : ⊥ = cc in absurd no;
  }

  abbrev pub one : List ℕ → List K → Bool → List (ScriptRun K)
  one script results is_whole = record { script = script; results = results; is_whole = is_whole } ∷ []

  pub same_flow : (flow other : Bool) → ◌≡◌ {A = Result Bool RunFault} (Ok flow) (Ok other) → flow ≡ other
  same_flow flow other same = cc

  pub same_fault : (fault other : RunFault) → ◌≡◌ {A = Result Bool RunFault} (Err fault) (Err other) → fault ≡ other
  same_fault fault other same = cc

  no_fault : {X : Type 0} (fault : Option X) → fault ≡ None → IsSome fault → ⊥
  no_fault None same some = cc
  no_fault (Some x) same some = cc

  -- a script whose report met no fault
  pub one_ended : (known : Option (List ℕ)) (failed : Bool) (script : List ℕ) (old : Reporter W N) (results : List K) (goes_on : Bool) (new : Reporter W N) → new.fault ≡ None → ReceivesResults contents errors text status forgotten (record old { next = 1 }) results goes_on new →
      Ends contents errors text status forgotten (known ∷ []) failed old (one script results goes_on) (Ok goes_on) new
  one_ended known failed script old results goes_on new quiet told = record {
    stops = told.stops;
    unused = λ is. let (was, none) = told.unused is in (was, append-nil results ∙ none);
    worst = told.worst ∙ ap (greatest_from status old.worst) (sym (append-nil results));
    low = told.low;
    tally = told.tally;
    told = told.told;
    written = λ none. subst (Appends (contents old.out) (contents new.out)) (sym (append-nil (texts_from text 1 results))) (told.written none).0;
    fault = tt;
    faulty = rw quiet tt;
    unwritten = λ is. let no : ⊥ = cc in absurd no;
    whole = λ is.
        let on : goes_on ≡ true = same_flow goes_on true is in (
          refl,
          λ stops. subst (All (λ r. status r ≡ 0)) (sym (append-nil results)) ((told.on on).1 stops),
        );
    stopped = λ is.
        let off : goes_on ≡ false = same_flow goes_on false is in
        elim (told.off off).1 [
          | inl some ↦ absurd (no_fault new.fault quiet some)
          | inr stops ↦ (stops.0, subst (EndsAtRefusal status) (sym (append-nil results)) stops.1)
        ];
    stop = λ stops. subst (AllButLast (λ r. status r ≡ 0)) (sym (append-nil results)) (told.stop stops);
    refused = λ refusal is. let no : ⊥ = cc in absurd no;
  }

  pub its_fault : (fault : Option RunFault) (its : RunFault) → fault ≡ Some its → IfSome fault IsReportFault → IfSome fault (λ f. IsReportFault f × (◌≡◌ {A = Result Bool RunFault} (Err its) (Err f)))
  its_fault None its is may = tt
  its_fault (Some f) its is may = let same : its ≡ f = cc in (may, ap Err same)

  pub is_none_of_script : (fault : RunFault) (refusal : Refusal) → IsReportFault fault → fault ≡ Script refusal → ⊥
  is_none_of_script fault refusal (inl memory) is = cc
  is_none_of_script fault refusal (inr write) is = cc

  pub its_own : (fault : Option RunFault) (its : RunFault) → fault ≡ Some its → IfSome fault IsReportFault → IsReportFault its
  its_own None its is may = let no : ⊥ = cc in absurd no
  its_own (Some f) its is may = let same : f ≡ its = cc in subst IsReportFault same may

  pub faulty_flow : (goes_on : Bool) (old new : Reporter W N) (results : List K) (fault : RunFault) → new.fault ≡ Some fault → ReceivesResults contents errors text status forgotten old results goes_on new → IfSome new.fault IsReportFault
  faulty_flow false old new results fault is told = (told.off refl).0
  faulty_flow true old new results fault is told = rw (told.on refl).0 tt

  -- a script whose report met a fault
  pub one_faulty : (known : Option (List ℕ)) (failed : Bool) (script : List ℕ) (old : Reporter W N) (results : List K) (goes_on : Bool) (new : Reporter W N) (fault : RunFault) → new.fault ≡ Some fault → results ≢ [] → ReceivesResults contents errors text status forgotten (record old { next = 1 }) results goes_on new →
      Ends contents errors text status forgotten (known ∷ []) failed old (one script results goes_on) (Err fault) new
  one_faulty known failed script old results goes_on new fault is some told =
      let may = faulty_flow goes_on (record old { next = 1 }) new results fault is told in
      record {
        stops = told.stops;
        unused = λ is. let (was, none) = told.unused is in (was, append-nil results ∙ none);
        worst = told.worst ∙ ap (greatest_from status old.worst) (sym (append-nil results));
        low = told.low;
        tally = told.tally;
        told = told.told;
        written = λ none. let no : ⊥ = cc in absurd no;
        fault = unwritten_script failed fault (its_own new.fault fault is may);
        faulty = its_fault new.fault fault is may;
        unwritten = λ same. (is ∙ ap Some (same_fault fault Write same), λ none. some (sym (append-nil results) ∙ none));
        whole = λ on. let no : ⊥ = cc in absurd no;
        stopped = λ off. let no : ⊥ = cc in absurd no;
        stop = λ stops. subst (AllButLast (λ r. status r ≡ 0)) (sym (append-nil results)) (told.stop stops);
        refused = λ refusal same. absurd (is_none_of_script fault refusal (its_own new.fault fault is may) (same_fault fault (Script refusal) same));
      }

  -- a run that ended well is without a fault of the report
  pub quiet_of : (fault : Option RunFault) (ended : Result Bool RunFault) (flow : Bool) → IfSome fault (λ f. IsReportFault f × (ended ≡ Err f)) → ended ≡ Ok flow → fault ≡ None
  quiet_of None ended flow may is = refl
  quiet_of (Some f) ended flow may is = let wrong : ◌≡◌ {A = Result Bool RunFault} (Ok flow) (Err f) = sym is ∙ may.1 in let no : ⊥ = cc in absurd no

  -- ---- one script more

  pub results-more : (runs more : List (ScriptRun K)) → results_of (runs ++ more) ≡ results_of runs ++ results_of more
  results-more [] more = refl
  results-more (run ∷ runs) more = ap (λ rest. run.results ++ rest) (results-more runs more) ∙ sym (append_assoc run.results (results_of runs) (results_of more))

  none_after : (results more : List K) → results ++ more ≡ [] → more ≡ []
  none_after [] more none = none
  none_after (result ∷ results) more none = let no : ⊥ = cc in absurd no

  tallies-more : (tally : Tally) (runs more : List (ScriptRun K)) → tally_after forgotten tally (runs ++ more) ≡ tally_after forgotten (tally_after forgotten tally runs) more
  tallies-more tally [] more = refl
  tallies-more tally (run ∷ runs) more = tallies-more (tally_from forgotten 1 tally run.results) runs more

  pub reports-more : (runs more : List (ScriptRun K)) → reports text (runs ++ more) ≡ reports text runs ++ reports text more
  reports-more [] more = refl
  reports-more (run ∷ runs) more = ap (λ rest. texts_from text 1 run.results ++ rest) (reports-more runs more) ∙ sym (append_assoc (texts_from text 1 run.results) (reports text runs) (reports text more))

  pub readers-more : (readers : List (Option (List ℕ))) (known : Option (List ℕ)) (runs more : List (ScriptRun K)) → length runs ≡ length readers → AreOfReaders readers runs → AreOfReaders (known ∷ []) more → AreOfReaders (readers ++ known ∷ []) (runs ++ more)
  readers-more [] known [] more count are its = its
  readers-more [] known (run ∷ runs) more count are its = absurd are
  readers-more (first ∷ readers) known [] more count are its = let no : ⊥ = cc in absurd no
  readers-more (first ∷ readers) known (run ∷ runs) more count (here, are) its =
      let left : length runs ≡ length readers = omega (arith, count) in
      (here, readers-more readers known runs more left are its)

  pub readers-within : (readers rest : List (Option (List ℕ))) (runs : List (ScriptRun K)) → AreOfReaders readers runs → AreOfReaders (readers ++ rest) runs
  readers-within [] rest [] are = tt
  readers-within [] rest (run ∷ runs) are = absurd are
  readers-within (first ∷ readers) rest [] are = tt
  readers-within (first ∷ readers) rest (run ∷ runs) (here, are) = (here, readers-within readers rest runs are)

  next-more : (readers : List (Option (List ℕ))) (known : Option (List ℕ)) (runs more : List (ScriptRun K)) (refusal : Refusal) → length runs ≡ length readers → MayRefuseNext (known ∷ []) more refusal → MayRefuseNext (readers ++ known ∷ []) (runs ++ more) refusal
  next-more [] known [] more refusal count may = may
  next-more [] known (run ∷ runs) more refusal count may = let no : ⊥ = cc in absurd no
  next-more (first ∷ readers) known [] more refusal count may = let no : ⊥ = cc in absurd no
  next-more (first ∷ readers) known (run ∷ runs) more refusal count may =
      let left : length runs ≡ length readers = omega (arith, count) in
      next-more readers known runs more refusal left may

  next-within : (readers rest : List (Option (List ℕ))) (runs : List (ScriptRun K)) (refusal : Refusal) → MayRefuseNext readers runs refusal → MayRefuseNext (readers ++ rest) runs refusal
  next-within [] rest runs refusal may = absurd may
  next-within (known ∷ readers) rest [] refusal may = may
  next-within (known ∷ readers) rest (run ∷ runs) refusal may = next-within readers rest runs refusal may

  pub ends_more : (readers : List (Option (List ℕ))) (before failed : Bool) (known : Option (List ℕ)) (old : Reporter W N) (runs : List (ScriptRun K)) (middle : Reporter W N) (more : List (ScriptRun K)) (ended : Result Bool RunFault) (new : Reporter W N) →
      middle.fault ≡ None → Ends contents errors text status forgotten readers before old runs (Ok true) middle → Ends contents errors text status forgotten (known ∷ []) failed middle more ended new →
      Ends contents errors text status forgotten (readers ++ known ∷ []) failed old (runs ++ more) ended new
  ends_more readers before failed known old runs middle more ended new quiet first last =
      let (count, zeros) = first.whole refl in
      record {
        stops = last.stops ∙ first.stops;
        unused = λ is.
            let (between, none) = last.unused is in
            let (was, nothing) = first.unused between in
            (was, results-more runs more ∙ ap (λ (rs : List K). rs ++ results_of more) nothing ∙ none);
        worst = last.worst ∙ ap (λ w. greatest_from status w (results_of more)) first.worst ∙ sym (greatest-more contents errors text status forgotten old.worst (results_of runs) (results_of more)) ∙ ap (greatest_from status old.worst) (sym (results-more runs more));
        low = λ low. last.low (first.low low);
        tally = last.tally ∙ ap (λ t. tally_after forgotten t more) first.tally ∙ sym (tallies-more old.notes.tally runs more);
        told = told_then errors old.notes middle.notes new.notes first.told last.told;
        written = λ none. subst (Appends (contents old.out) (contents new.out)) (sym (reports-more runs more))
            (Appends-trans (contents old.out) (contents middle.out) (contents new.out) (reports text runs) (reports text more) (first.written quiet) (last.written none));
        fault = last.fault;
        faulty = last.faulty;
        unwritten = λ is.
            let (its, some) = last.unwritten is in
            (its, λ none. some (none_after (results_of runs) (results_of more) (sym (results-more runs more) ∙ none)));
        whole = λ is.
            let (its, zero) = last.whole is in (
              length-append runs more ∙ (λ k. count k + its k) ∙ sym (length-append readers (known ∷ [])),
              λ stops. subst (All (λ r. status r ≡ 0)) (sym (results-more runs more)) (All-append (λ r. status r ≡ 0) (results_of runs) (results_of more) (zeros stops) (zero (first.stops ∙ stops))),
            );
        stopped = λ is.
            let (stops, ends) = last.stopped is in
            let stopping : old.stops ≡ true = sym first.stops ∙ stops in
            (stopping, subst (EndsAtRefusal status) (sym (results-more runs more)) (refusal-more contents errors text status forgotten (results_of runs) (results_of more) (zeros stopping) ends));
        stop = λ stops. subst (AllButLast (λ r. status r ≡ 0)) (sym (results-more runs more)) (all_but_last-append (λ r. status r ≡ 0) (results_of runs) (results_of more) (zeros stops) (last.stop (first.stops ∙ stops)));
        refused = λ refusal is. next-more readers known runs more refusal count (last.refused refusal is);
      }

  -- scripts that end before the last
  pub ends_within : (readers rest : List (Option (List ℕ))) (failed : Bool) (old : Reporter W N) (runs : List (ScriptRun K)) (ended : Result Bool RunFault) (new : Reporter W N) → (ended ≡ Ok true → ⊥) → Ends contents errors text status forgotten readers failed old runs ended new →
      Ends contents errors text status forgotten (readers ++ rest) failed old runs ended new
  ends_within readers rest failed old runs ended new before ends = record {
    stops = ends.stops;
    unused = ends.unused;
    worst = ends.worst;
    low = ends.low;
    tally = ends.tally;
    told = ends.told;
    written = ends.written;
    fault = ends.fault;
    faulty = ends.faulty;
    unwritten = ends.unwritten;
    whole = λ is. absurd (before is);
    stopped = ends.stopped;
    stop = ends.stop;
    refused = λ refusal is. next-within readers rest runs refusal (ends.refused refusal is);
  }

  -- files that have failed later too
  pub ends_later : (readers : List (Option (List ℕ))) (failed later : Bool) (old : Reporter W N) (runs : List (ScriptRun K)) (ended : Result Bool RunFault) (new : Reporter W N) → (failed ≡ true → later ≡ true) → Ends contents errors text status forgotten readers failed old runs ended new →
      Ends contents errors text status forgotten readers later old runs ended new
  ends_later readers failed later old runs ended new stays ends = record {
    stops = ends.stops;
    unused = ends.unused;
    worst = ends.worst;
    low = ends.low;
    tally = ends.tally;
    told = ends.told;
    written = ends.written;
    fault = its ended ends.fault;
    faulty = ends.faulty;
    unwritten = ends.unwritten;
    whole = ends.whole;
    stopped = ends.stopped;
    stop = ends.stop;
    refused = ends.refused;
  }
    where
      its : (result : Result Bool RunFault) → IfErr result (IsScriptFault failed) → IfErr result (IsScriptFault later)
      its (Ok flow) is = tt
      its (Err fault) is = failed_later failed later fault stays is

-- ---- runs that came to their ends

-- the run continues if it does not stop
pub went_on : (goes_on : Bool) → ◌≢◌ {A = Result Bool RunFault} (Ok goes_on) (Ok false) → goes_on ≡ true
went_on true on = refl
went_on false on = absurd (on refl)

module _ {K : Type 0} where
  -- runs of no script
  pub none_ran : (ended : Result Bool RunFault) (fault : Option RunFault) → AreRun {K = K} [] ended fault
  none_ran ended fault = record { before = tt; last = λ quiet on. All-nil (IsWhole {K = K}) }

  -- a run of one script
  pub one_ran : (run : ScriptRun K) (ended : Result Bool RunFault) (fault : Option RunFault) → (fault ≡ None → ended ≢ Ok false → run.is_whole ≡ true) → AreRun (run ∷ []) ended fault
  one_ran run ended fault whole = record { before = tt; last = λ quiet on. All-cons (IsWhole {K = K}) run [] (whole quiet on) (All-nil (IsWhole {K = K})) }

  -- more runs after runs that came to their ends
  pub more_ran : (runs more : List (ScriptRun K)) (ended : Result Bool RunFault) (fault : Option RunFault) → All IsWhole runs → AreRun more ended fault → AreRun (runs ++ more) ended fault
  more_ran runs more ended fault wholes after = record {
    before = all_but_last-append (IsWhole {K = K}) runs more wholes after.before;
    last = λ quiet on. All-append (IsWhole {K = K}) runs more wholes (after.last quiet on);
  }

  pub whole_ran : (runs more : List (ScriptRun K)) (ended : Result Bool RunFault) (fault : Option RunFault) → All IsWhole runs → AreRun more ended fault → ended ≡ Ok true → fault ≡ None → All IsWhole (runs ++ more)
  whole_ran runs more ended fault wholes after on quiet =
      All-append (IsWhole {K = K}) runs more wholes (after.last quiet (λ off. let no : ◌≡◌ {A = Result Bool RunFault} (Ok true) (Ok false) = sym on ∙ off in cc))

  -- whole runs of several scripts
  pub all_ran : (runs : List (ScriptRun K)) (ended : Result Bool RunFault) (fault : Option RunFault) → All IsWhole runs → AreRun runs ended fault
  all_ran runs ended fault wholes = subst (λ (rs : List (ScriptRun K)). AreRun rs ended fault) (append-nil runs) (more_ran runs [] ended fault wholes (none_ran ended fault))

-- ---- names

module _ {N T : Type 0} (f : N → T) (content : T → Option (List ℕ)) where
  pub known-next : (names : List N) (i : ℕ) (d : N) → i < length names → map content (map f (take (i + 1) names)) ≡ map content (map f (take i names)) ++ content (f (get_or names i d)) ∷ []
  known-next names i d inside =
      ap (λ (ns : List N). map content (map f ns)) (take_more names i d inside) ∙ ap (map content) (map-append f (take i names) (get_or names i d ∷ [])) ∙ map-append content (map f (take i names)) (f (get_or names i d) ∷ [])

  pub known-all : (names : List N) (i : ℕ) → map content (map f (take i names)) ++ map content (map f (drop i names)) ≡ map content (map f names)
  known-all names i =
      sym (map-append content (map f (take i names)) (map f (drop i names))) ∙ ap (map content) (sym (map-append f (take i names) (drop i names)) ∙ ap (map f) (take-append-drop i names))

-- ---- histories

pub leads-more : {H K : Type 0} (IsStep : H → List Lexeme → K → H → Type 0) (opening : H) (runs more : List (ScriptRun K)) (middle last : H) → LeadsTo IsStep opening runs middle → LeadsTo IsStep middle more last → LeadsTo IsStep opening (runs ++ more) last
leads-more IsStep opening [] more middle last same rest = subst (λ h. LeadsTo IsStep h more last) same rest
leads-more IsStep opening (run ∷ runs) more middle last (made, leads) rest = (made, leads-more IsStep made.last runs more middle last leads rest)

-- the database of an engine holds the history that the engine represents, and that is committed
pub stands_for_history : {S : Type 0} (g : Ghosts S) (history : History) (engine : EngineState S) (connection : Held S) → connection ≡ engine.connection → EngineRepresents g history engine →
    DatabaseRepresents history (state g connection).now × ((state g connection).committed ≡ (state g connection).now)
stands_for_history {S = S} g history engine connection same represents =
    let said = subst (AreOfHistory history) (sym (same_units represents.contents)) represents.said in
    subst (λ (held : Held S). DatabaseRepresents history (state g held).now × ((state g held).committed ≡ (state g held).now)) (sym same) (inr (Microseconds, represents.contents, represents.stored.now, said), represents.stored.committed)
