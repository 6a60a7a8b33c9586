-- Parts that are read and run one after the other, and the commands between them.
use Rattle.std.proofs.Common.{◌≡◌, ◌≢◌, ◌≤◌, ◌+◌, ◌++◌, ◌∷◌, ◌∙◌, ℕ, Bool, List, [], Option, None, Some, Ok, Err, All, add-zero, append_assoc, ap, arith, get_or, inl, inr, length, length-append, refl, subst, sym, take, false, true}
use Rattle.std.specs.Prelude.{◌<◌, ◌⊎◌, IfOk, IfSome, IsSome, Result}
use Rattle.period_core.specs.Codes.{code_of}
use Rattle.period_core.specs.declared.refusal.Refusal.TheVariants.{BadToken, NotUtf8, ScriptTooLarge}
use Rattle.script_engine.specs.script.Listening.{IsFrontRunBy}
use Rattle.script_engine.specs.script.Script.{MayRefuseScript, ScriptApplies, most_bytes}
use Rattle.std.specs.Io.KnownBytes.{Appends, Consumes, IsAtEnd, Keeps}
use Rattle.std.proofs.KnownBytes.{Appends-trans, Consumes-kept, Consumes-nil, Consumes-trans}
use Rattle.std.proofs.lemmas.List.{append-nil}
use Rattle.std.proofs.lemmas.List.Concat.{flat_map-append}
use Rattle.std.proofs.lemmas.List.Elements.{All-append, All-cons, All-head, All-nil, All-tail}
use Rattle.period_core.specs.declared.refusal.Refusal.{Refusal}
use Rattle.history_model.specs.Histories.{History}
use Rattle.sqlite.specs.Store.{Ghosts}
use Rattle.version_store.specs.StoreState.{IsUsable, SparesOthers}
use Rattle.script_engine.specs.engine.EngineState.{EngineState}
use Rattle.script_engine.specs.engine.Stored.{EngineRepresents, RepresentsSome, WasUsable}
use Rattle.sql_statements.specs.Lexemes.{Lexeme}
use Rattle.command_line.specs.declared.fault.RunFault.{RunFault}
use Rattle.command_line.specs.declared.fault.RunFault.TheVariants.{Memory, Read, Unfinished, Write}
use Rattle.bitemporal_file.specs.declared.parts.Place.{Place}
use Rattle.bitemporal_file.specs.declared.reporter.Reporter.{Reporter}
use Rattle.bitemporal_file.specs.declared.parts.Part.{Part}
use Rattle.bitemporal_file.specs.declared.parts.Part.TheVariants.{Whole, TooLarge, Command}
use Rattle.bitemporal_file.specs.Commands.{IsAnswer, IsAnswered, IsAnsweredOver}
use Rattle.bitemporal_file.specs.Parts.{EndsAtSemicolon, HasNoCommand, HasNoToken, IsBegun, IsCommandLine, IsPart, IsPartOf, IsUnfinished, IsUnread, place_after, place_after_all}
use Rattle.bitemporal_file.specs.Reporting.{IsReportFault, ReceivesResults}
use Rattle.bitemporal_file.specs.ScriptRuns.{AreRun, IsWhole, ScriptRun}
use Rattle.bitemporal_file.specs.Sessions.{AreCut, AreTurnsOf, EndsWith, IsSessionFault, IsSilent, IsTurn, LeadsThrough, LineAnswered, PartStep, Ran, ReceivesTurn, Turn, TurnStep, all_results, begins_after, bytes_in, bytes_of, ends_line, placed_at, results_in, runs_in, runs_of, text_in, turns_text}
use Rattle.bitemporal_file.proofs.RunFacts.{all_ran, faulty_flow, its_fault, its_own, more_ran, one_ran}
use Rattle.bitemporal_file.proofs.ReporterFacts.{recorded_more}

-- ---- one byte more

pub place-more : (place : Place) (bytes : List ℕ) (byte : ℕ) → place_after_all place (bytes ++ byte ∷ []) ≡ place_after (place_after_all place bytes) byte
place-more place [] byte = refl
place-more place (first ∷ bytes) byte = place-more (place_after place first) bytes byte

-- the byte that a read of one byte gave
pub one_read : (buffer : List ℕ) (count : ℕ) → length buffer ≡ 1 → count ≤ length buffer → (count ≡ 0 → ⊥) → take count buffer ≡ get_or buffer 0 0 ∷ []
one_read [] count size low some = let no : ⊥ = omega arith in absurd no
one_read (byte ∷ []) count size low some =
    let one : count ≡ 1 = omega (arith, some) in
    ap (λ n. take n (byte ∷ [])) one
one_read (byte ∷ next ∷ bytes) count size low some = let no : ⊥ = omega arith in absurd no

-- a read of no bytes takes none
pub taken-nothing : (a b c : Option (List ℕ)) (taken none : List ℕ) → Consumes a b taken → Consumes b c none → none ≡ [] → Consumes a c taken
taken-nothing a b c taken none first last empty =
    subst (Consumes a c) (append-nil taken) (Consumes-trans a b c taken [] first (subst (Consumes b c) empty last))

-- a read that is tried again has taken no bytes before
pub kept-taken : (a b c : Option (List ℕ)) (taken : List ℕ) → Keeps a b → Consumes b c taken → Consumes a c taken
kept-taken a b c taken kept took = Consumes-trans a b c [] taken (Consumes-kept a a b [] (Consumes-nil a) kept) took

-- the bytes read up to the end of an input are the whole input
pub all-read : (P : List ℕ → Type 0) (a b c : Option (List ℕ)) (all : List ℕ) → Consumes a b all → Consumes b c [] → IsAtEnd c → P all → IfSome a P
all-read P None b c all first last end holds = tt
all-read P (Some xs) None c all first last end holds = absurd first
all-read P (Some xs) (Some ys) None all first last end holds = absurd last
all-read P (Some xs) (Some ys) (Some zs) all first last end holds =
    let none : ys ≡ [] = last ∙ end in
    let whole : xs ≡ all = first ∙ ap (λ (rest : List ℕ). all ++ rest) none ∙ append-nil all in
    subst P (sym whole) holds

-- the part that is in memory
pub part-kept : (starts : Bool) (bytes : List ℕ) (left : Option (List ℕ)) (part : Part) → IsPart starts bytes left part → IsPartOf bytes part
part-kept starts bytes left (Whole kept) is = is.2
part-kept starts bytes left (TooLarge count) is = is.2
part-kept starts bytes left (Command line) is = is.1

-- ---- one turn more

module _ {K : Type 0} where
  bytes-one : (turns : List (Turn K)) (turn : Turn K) → bytes_of (turns ++ turn ∷ []) ≡ bytes_of turns ++ bytes_in turn
  bytes-one turns turn = flat_map-append bytes_in turns (turn ∷ []) ∙ ap (λ rest. bytes_of turns ++ rest) (append-nil (bytes_in turn))

  pub results-one : (turns : List (Turn K)) (turn : Turn K) → all_results (turns ++ turn ∷ []) ≡ all_results turns ++ results_in turn
  results-one turns turn = flat_map-append results_in turns (turn ∷ []) ∙ ap (λ (rest : List K). all_results turns ++ rest) (append-nil (results_in turn))

  runs-one : (turns : List (Turn K)) (turn : Turn K) → runs_of (turns ++ turn ∷ []) ≡ runs_of turns ++ runs_in turn
  runs-one turns turn = flat_map-append runs_in turns (turn ∷ []) ∙ ap (λ (rest : List (ScriptRun K)). runs_of turns ++ rest) (append-nil (runs_in turn))

  pub bytes-length : (turns : List (Turn K)) (turn : Turn K) → length (bytes_of (turns ++ turn ∷ [])) ≡ length (bytes_of turns) + length (bytes_in turn)
  bytes-length turns turn = ap length (bytes-one turns turn) ∙ length-append (bytes_of turns) (bytes_in turn)

  pub cut-more : (starts : Bool) (known middle left : Option (List ℕ)) (turns : List (Turn K)) (turn : Turn K) (bytes : List ℕ) → AreCut starts known turns middle → bytes_in turn ≡ bytes → Consumes middle left bytes → IsTurn (begins_after starts turns) turn left → AreCut starts known (turns ++ turn ∷ []) left
  cut-more starts known middle left [] turn bytes same whole took is =
      let taken : Consumes middle left (bytes_in turn) = subst (Consumes middle left) (sym whole) took in
      (left, subst (λ (k : Option (List ℕ)). Consumes k left (bytes_in turn)) same taken, is, refl)
  cut-more starts known middle left (first ∷ turns) turn bytes (rest, began, was, more) whole took is =
      (rest, began, was, cut-more (ends_line first) rest middle left turns turn bytes more whole took is)

  pub begins-more : (starts : Bool) (turns : List (Turn K)) (turn : Turn K) → begins_after starts (turns ++ turn ∷ []) ≡ ends_line turn
  begins-more starts [] turn = refl
  begins-more starts (first ∷ turns) turn = begins-more (ends_line first) turns turn

  -- ---- the parts that are run

  pub whole_more : (turns : List (Turn K)) (turn : Turn K) → All IsWhole (runs_of turns) → All IsWhole (runs_in turn) → All IsWhole (runs_of (turns ++ turn ∷ []))
  whole_more turns turn all more = subst (All IsWhole) (sym (runs-one turns turn)) (All-append IsWhole (runs_of turns) (runs_in turn) all more)

  stopped : (runs : List (ScriptRun K)) (turn : Turn K) (ended : Result Bool RunFault) (fault : Option RunFault) → All IsWhole runs → (fault ≡ None → ended ≢ Ok false → ⊥) → AreRun (runs ++ runs_in turn) ended fault
  stopped runs (Ran run) ended fault wholes off = more_ran runs (run ∷ []) ended fault wholes (one_ran run ended fault (λ quiet on. absurd (off quiet on)))
  stopped runs (LineAnswered bytes line told) ended fault wholes off = subst (λ (all : List (ScriptRun K)). AreRun all ended fault) (sym (append-nil runs)) (all_ran runs ended fault wholes)

  -- a session that ended with the last of these turns
  pub stopped_turn : (turns : List (Turn K)) (turn : Turn K) (ended : Result Bool RunFault) (fault : Option RunFault) → All IsWhole (runs_of turns) → (fault ≡ None → ended ≢ Ok false → ⊥) → AreRun (runs_of (turns ++ turn ∷ [])) ended fault
  stopped_turn turns turn ended fault wholes off =
      subst (λ (runs : List (ScriptRun K)). AreRun runs ended fault) (sym (runs-one turns turn)) (stopped (runs_of turns) turn ended fault wholes off)

  -- ---- the states to which turns lead

  module _ {H : Type 0} (IsStep : H → List Lexeme → K → H → Type 0) (refused : Refusal → K) (Tell : H → List ℕ → List ℕ → H → Type 0) where
    leads-further : (start : ℕ) (opening : H) (turns : List (Turn K)) (middle : H) (turn : Turn K) (last : H) →
        LeadsThrough IsStep refused Tell start opening turns middle → TurnStep IsStep refused Tell (start + length (bytes_of turns)) middle turn last → LeadsThrough IsStep refused Tell start opening (turns ++ turn ∷ []) last
    leads-further start opening [] middle turn last same step =
        let here = subst (λ s. TurnStep IsStep refused Tell s middle turn last) (add-zero start) step in
        (last, subst (λ (h : H). TurnStep IsStep refused Tell start h turn last) same here, refl)
    leads-further start opening (first ∷ turns) middle turn last (next, began, rest) step =
        let behind : start + length (bytes_in first ++ bytes_of turns) ≡ (start + length (bytes_in first)) + length (bytes_of turns) = omega (arith, length-append (bytes_in first) (bytes_of turns)) in
        (next, began, leads-further (start + length (bytes_in first)) next turns middle turn last rest (subst (λ s. TurnStep IsStep refused Tell s middle turn last) behind step))

    pub over_further : (start : ℕ) (opening : H) (turns : List (Turn K)) (middle : H) (turn : Turn K) (last : H) → start ≡ length (bytes_of turns) →
        LeadsThrough IsStep refused Tell 0 opening turns middle → TurnStep IsStep refused Tell start middle turn last → LeadsThrough IsStep refused Tell 0 opening (turns ++ turn ∷ []) last
    over_further start opening turns middle turn last begins did step =
        let here : start ≡ 0 + length (bytes_of turns) = omega (arith, begins) in
        leads-further 0 opening turns middle turn last did (subst (λ s. TurnStep IsStep refused Tell s middle turn last) here step)

  -- the last of some turns
  pub last_silent : (turns : List (Turn K)) (turn : Turn K) → All IsSilent (turns ++ turn ∷ []) → IsSilent turn
  last_silent [] turn all = All-head IsSilent turn [] all
  last_silent (first ∷ turns) turn all = last_silent turns turn (All-tail IsSilent first (turns ++ turn ∷ []) all)

  -- ---- the ends of turns

  abbrev pub one_run : List ℕ → List K → Bool → ScriptRun K
  one_run script results is_whole = record { script = script; results = results; is_whole = is_whole }

  pub turns_failed : (known left unread : Option (List ℕ)) (failed : Bool) (turns : List (Turn K)) (fault : RunFault) → AreCut true known turns left →
      (fault ≡ Unfinished → IfSome left (λ rest. IsUnfinished rest × HasNoCommand (begins_after true turns) rest)) → (fault ≡ Read → (bytes : List ℕ) × Consumes left unread bytes × IsBegun (begins_after true turns) bytes) → IsSessionFault failed fault → AreTurnsOf known unread failed turns (Err fault)
  turns_failed known left unread failed turns fault cut unfinished begun may = record {
    left = left;
    cut = cut;
    all = λ is. let no : ⊥ = cc in absurd no;
    unfinished = λ is. let same : fault ≡ Unfinished = cc in unfinished same;
    read = λ is. let same : fault ≡ Read = cc in begun same;
    fault = may;
  }

  pub turns_ended : (known left unread : Option (List ℕ)) (failed : Bool) (turns : List (Turn K)) (goes_on : Bool) → AreCut true known turns left → (goes_on ≡ true → IfSome left HasNoToken) → AreTurnsOf known unread failed turns (Ok goes_on)
  turns_ended known left unread failed turns goes_on cut end = record {
    left = left;
    cut = cut;
    all = λ is. let same : goes_on ≡ true = cc in end same;
    unfinished = λ is. let no : ⊥ = cc in absurd no;
    read = λ is. let no : ⊥ = cc in absurd no;
    fault = tt;
  }

  -- ---- the report of turns

  text-more : (text : ℕ → K → List ℕ) (n : ℕ) (turns : List (Turn K)) (turn : Turn K) → turns_text text n (turns ++ turn ∷ []) ≡ turns_text text n turns ++ text_in text (n + length (all_results turns)) turn
  text-more text n [] turn = append-nil (text_in text n turn) ∙ ap (λ m. text_in text m turn) (sym (add-zero n))
  text-more text n (first ∷ turns) turn =
      let next = n + length (results_in first) in
      let count : next + length (all_results turns) ≡ n + length (results_in first ++ all_results turns) = omega (arith, length-append (results_in first) (all_results turns)) in
      ap (λ rest. text_in text n first ++ rest) (text-more text next turns turn ∙ ap (λ m. turns_text text next turns ++ text_in text m turn) count)
      ∙ sym (append_assoc (text_in text n first) (turns_text text next turns) (text_in text (n + length (results_in first ++ all_results turns)) turn))

  -- a reporter heard the results, whatever its output got of them
  abbrev pub Heard : {W N : Type 0} → (N → Option (List ℕ)) → (ℕ → K → List ℕ) → (K → ℕ) → (K → ℕ) → Reporter W N → List K → Bool → Reporter W N → Type 0
  Heard {W} errors text status forgotten old results goes_on new = ReceivesResults (λ (out : W). None) errors text status forgotten old results goes_on new

  module _ {W N : Type 0} (contents : W → Option (List ℕ)) (errors : N → Option (List ℕ)) (text : ℕ → K → List ℕ) (status : K → ℕ) (forgotten : K → ℕ) where
    -- a reporter receives a part's results
    pub ran_heard : (old : Reporter W N) (run : ScriptRun K) (goes_on : Bool) (new : Reporter W N) → ReceivesResults contents errors text status forgotten old run.results goes_on new → (IsSome new.fault → run.results ≢ []) → ReceivesTurn contents errors text status forgotten old (Ran run) goes_on new
    ran_heard old run goes_on new told some = record {
      results = record {
        stops = told.stops;
        unused = told.unused;
        worst = told.worst;
        low = told.low;
        tally = told.tally;
        told = told.told;
        written = λ none. (tt, (told.written none).1);
        on = told.on;
        off = told.off;
        stop = told.stop;
      };
      written = λ none. (told.written none).0;
      faulty = some;
    }

    -- a reporter receives the answer to a command's line
    pub line_received : (old : Reporter W N) (out : W) (fault : Option RunFault) (bytes line told : List ℕ) (goes_on : Bool) → old.fault ≡ None → (goes_on ≡ true → Appends (contents old.out) (contents out) told) → (goes_on ≡ true → fault ≡ None) → (goes_on ≡ false → IsSome fault × IfSome fault IsReportFault) →
        ReceivesTurn contents errors text status forgotten old (LineAnswered bytes line told) goes_on (record old { out = out; fault = fault })
    line_received old out fault bytes line told true quiet wrote none some = record {
      results = record {
        stops = refl;
        unused = λ is. (is, refl);
        worst = refl;
        low = λ low. low;
        tally = refl;
        told = inl (refl, refl);
        written = λ silent. (tt, sym (add-zero old.next));
        on = λ on. (none refl, λ stops. All-nil (λ r. status r ≡ 0));
        off = λ off. let no : ⊥ = cc in absurd no;
        stop = λ stops. tt;
      };
      written = λ silent. wrote refl;
      faulty = λ its no. no;
    }
    line_received old out fault bytes line told false quiet wrote none some = record {
      results = record {
        stops = refl;
        unused = λ is. (is, refl);
        worst = refl;
        low = λ low. low;
        tally = refl;
        told = inl (refl, refl);
        written = λ silent. (tt, sym (add-zero old.next));
        on = λ on. let no : ⊥ = cc in absurd no;
        off = λ off. ((some refl).1, inl (some refl).0);
        stop = λ stops. tt;
      };
      written = λ silent. absurd (no_fault fault silent (some refl).0);
      faulty = λ its no. no;
    }
      where
        no_fault : {X : Type 0} (fault : Option X) → fault ≡ None → IsSome fault → ⊥
        no_fault None same some = cc
        no_fault (Some x) same some = cc

    pub heard_turn : (old middle new : Reporter W N) (turns : List (Turn K)) (turn : Turn K) (goes_on : Bool) → Heard errors text status forgotten old (all_results turns) true middle → ReceivesTurn contents errors text status forgotten middle turn goes_on new →
        Heard errors text status forgotten old (all_results (turns ++ turn ∷ [])) goes_on new
    heard_turn old middle new turns turn goes_on first last =
        subst (λ (results : List K). Heard errors text status forgotten old results goes_on new) (sym (results-one turns turn)) (recorded_more (λ (out : W). None) errors text status forgotten old (all_results turns) middle (results_in turn) goes_on new first last.results)

    abbrev pub Written : Reporter W N → List (Turn K) → Reporter W N → Type 0
    Written old turns new = new.fault ≡ None → Appends (contents old.out) (contents new.out) (turns_text text old.next turns)

    pub written_turn : (old middle new : Reporter W N) (turns : List (Turn K)) (turn : Turn K) (goes_on : Bool) → Heard errors text status forgotten old (all_results turns) true middle → Written old turns middle → ReceivesTurn contents errors text status forgotten middle turn goes_on new → Written old (turns ++ turn ∷ []) new
    written_turn old middle new turns turn goes_on first before last none =
        let quiet : middle.fault ≡ None = (first.on refl).0 in
        let next : middle.next ≡ old.next + length (all_results turns) = (first.written quiet).1 in
        let numbered : Appends (contents middle.out) (contents new.out) (text_in text (old.next + length (all_results turns)) turn) =
        subst (λ n. Appends (contents middle.out) (contents new.out) (text_in text n turn)) next (last.written none) in
        subst (Appends (contents old.out) (contents new.out)) (sym (text-more text old.next turns turn))
        (Appends-trans (contents old.out) (contents middle.out) (contents new.out) (turns_text text old.next turns) (text_in text (old.next + length (all_results turns)) turn) (before quiet) numbered)

    no_fault : {X : Type 0} (fault : Option X) → fault ≡ None → IsSome fault → ⊥
    no_fault None same some = cc
    no_fault (Some x) same some = cc

    ends_heard : (old : Reporter W N) (turns : List (Turn K)) (goes_on : Bool) (ended : Result Bool RunFault) (new : Reporter W N) → Heard errors text status forgotten old (all_results turns) goes_on new → Written old turns new →
        IfSome new.fault (λ fault. IsReportFault fault × (ended ≡ Err fault)) → (ended ≡ Err Write → (new.fault ≡ Some Write) × ¬ All IsSilent turns) → ((flow : Bool) → ended ≡ Ok flow → (flow ≡ goes_on) × (new.fault ≡ None)) → EndsWith contents errors text status forgotten old turns ended new
    ends_heard old turns goes_on ended new told wrote faulty unwritten flows = record {
      stops = told.stops;
      unused = told.unused;
      worst = told.worst;
      low = told.low;
      tally = told.tally;
      told = told.told;
      written = wrote;
      faulty = faulty;
      unwritten = unwritten;
      whole = λ is stops.
          let on : goes_on ≡ true = sym (flows true is).0 in
          (told.on on).1 stops;
      stopped = λ is.
          let (flow, quiet) = flows false is in
          elim (told.off (sym flow)).1 [
            | inl some ↦ absurd (no_fault new.fault quiet some)
            | inr stopped ↦ stopped
          ];
      stop = told.stop;
    }

    -- a session ended by a fault that is none of the report
    pub failed_heard : (old : Reporter W N) (turns : List (Turn K)) (goes_on : Bool) (fault : RunFault) (new : Reporter W N) → new.fault ≡ None → (fault ≡ Write → ⊥) → Heard errors text status forgotten old (all_results turns) goes_on new → Written old turns new → EndsWith contents errors text status forgotten old turns (Err fault) new
    failed_heard old turns goes_on fault new quiet no_write told wrote =
        ends_heard old turns goes_on (Err fault) new told wrote (rw quiet tt) (λ is. let same : fault ≡ Write = cc in absurd (no_write same)) (λ flow is. let no : ⊥ = cc in absurd no)

    pub report_fault : (old : Reporter W N) (turns : List (Turn K)) (goes_on : Bool) (fault : RunFault) (new : Reporter W N) → new.fault ≡ Some fault → Heard errors text status forgotten old (all_results turns) goes_on new → IsReportFault fault
    report_fault old turns goes_on fault new is told =
        its_own (λ (out : W). None) errors text status forgotten new.fault fault is (faulty_flow (λ (out : W). None) errors text status forgotten goes_on old new (all_results turns) fault is told)

    -- a session ended by a fault of the report
    pub faulty_heard : (old : Reporter W N) (turns : List (Turn K)) (goes_on : Bool) (fault : RunFault) (new : Reporter W N) → new.fault ≡ Some fault → ¬ All IsSilent turns → Heard errors text status forgotten old (all_results turns) goes_on new → Written old turns new → EndsWith contents errors text status forgotten old turns (Err fault) new
    faulty_heard old turns goes_on fault new is some told wrote =
        ends_heard old turns goes_on (Err fault) new told wrote (its_fault (λ (out : W). None) errors text status forgotten new.fault fault is (faulty_flow (λ (out : W). None) errors text status forgotten goes_on old new (all_results turns) fault is told)) (λ write. let same : fault ≡ Write = cc in (is ∙ ap Some same, some)) (λ flow same. let no : ⊥ = cc in absurd no)

    -- a reporter without a fault has written all turns
    pub quiet_heard : (old : Reporter W N) (turns : List (Turn K)) (goes_on : Bool) (new : Reporter W N) → new.fault ≡ None → Heard errors text status forgotten old (all_results turns) goes_on new → Written old turns new → EndsWith contents errors text status forgotten old turns (Ok goes_on) new
    quiet_heard old turns goes_on new quiet told wrote =
        ends_heard old turns goes_on (Ok goes_on) new told wrote (rw quiet tt) (λ is. let no : ⊥ = cc in absurd no) (λ flow is. let same : flow ≡ goes_on = cc in (same, quiet))

-- ---- faults

-- why a part was not read
pub read_fault : (failed : Bool) (fault : RunFault) → (fault ≡ Memory) ⊎ (IsUnread failed fault ⊎ (fault ≡ Unfinished)) → IsSessionFault failed fault
read_fault failed fault (inl is) = rw is tt
read_fault failed fault (inr (inl (is, did))) = rw is did
read_fault failed fault (inr (inr is)) = rw is tt

-- why its report was not written
pub unwritten_report_fault : (failed : Bool) (fault : RunFault) → IsReportFault fault → IsSessionFault failed fault
unwritten_report_fault failed fault (inl is) = rw is tt
unwritten_report_fault failed fault (inr is) = rw is tt

pub report_is_not_unfinished : (fault : RunFault) → IsReportFault fault → fault ≡ Unfinished → ⊥
report_is_not_unfinished fault (inl is) unfinished = cc
report_is_not_unfinished fault (inr is) unfinished = cc

-- a part that was not read is no report that was not written
pub read_is_no_write : (failed : Bool) (fault : RunFault) → (fault ≡ Memory) ⊎ (IsUnread failed fault ⊎ (fault ≡ Unfinished)) → fault ≡ Write → ⊥
read_is_no_write failed fault (inl is) write = cc
read_is_no_write failed fault (inr (inl (is, did))) write = cc
read_is_no_write failed fault (inr (inr is)) write = cc

pub report_is_no_read : (fault : RunFault) → IsReportFault fault → fault ≡ Read → ⊥
report_is_no_read fault (inl is) read = cc
report_is_no_read fault (inr is) read = cc

-- a fault of memory is no unfinished statement
pub memory_fault : (fault : RunFault) → fault ≡ Memory → fault ≡ Unfinished → ⊥
memory_fault fault is unfinished = cc

-- ---- histories

-- a part that has more bytes than a script may have is refused as too large
pub too_large : (script : List ℕ) → most_bytes < length script → MayRefuseScript script ScriptTooLarge
too_large script long = inl (record { applies = long; least = only })
  where
    only : (other : Refusal) → ScriptApplies script other → code_of ScriptTooLarge ≤ code_of other
    only NotUtf8 holds = let no : ⊥ = omega (arith, holds.0) in absurd no
    only ScriptTooLarge holds = omega arith
    only (BadToken offset) holds = let no : ⊥ = omega (arith, holds.0) in absurd no
    only _ holds = absurd holds

-- a part that was run is a turn
pub run_made : {S K : Type 0} (g : Ghosts S) (IsStep : History → List Lexeme → K → History → Type 0) (refused : Refusal → K) (start : ℕ) (history : History) (bytes script : List ℕ) (results : List K) (goes_on : Bool) (engine : EngineState S) → bytes ≡ script →
    (made : IsFrontRunBy IsStep history bytes results goes_on) × EngineRepresents g made.last engine →
    RepresentsSome g (PartStep IsStep refused start history (record { script = script; results = results; is_whole = goes_on })) engine
run_made g IsStep refused start history bytes script results goes_on engine same ran =
    let (made, after) = rw same at ran in (made.last, inl (made, refl), after)

-- a part that was run over an engine
pub over_made : {H K : Type 0} (IsStep : H → List Lexeme → K → H → Type 0) (refused : Refusal → K) (start : ℕ) (opening : H) (bytes script : List ℕ) (results : List K) (goes_on : Bool) (last : H) → bytes ≡ script →
    (made : IsFrontRunBy IsStep opening bytes results goes_on) × (made.last ≡ last) →
    PartStep IsStep refused start opening (record { script = script; results = results; is_whole = goes_on }) last
over_made IsStep refused start opening bytes script results goes_on last same ran =
    let (made, is) = rw same at ran in inl (made, sym is)

module _ {S K W N : Type 0} (g : Ghosts S) (IsStep : History → List Lexeme → K → History → Type 0) (IsStepOver : EngineState S → List Lexeme → K → EngineState S → Type 0) (refused : Refusal → K) (contents : W → Option (List ℕ)) (errors : N → Option (List ℕ)) (text : ℕ → K → List ℕ) (status : K → ℕ) (forgotten : K → ℕ) where
  -- a part that was refused as a whole, and whether the session continues
  pub refused_part : (old new : Reporter W N) (before after : EngineState S) (start : ℕ) (script : List ℕ) (refusal : Refusal) (result : Result Bool RunFault) → MayRefuseScript script refusal → after ≡ before →
      IfOk result (λ goes_on. ReceivesResults contents errors text status forgotten old (refused (placed_at start refusal) ∷ []) goes_on new) →
      IfOk result (λ goes_on. (results : List K) × ReceivesResults contents errors text status forgotten old results goes_on new
      × (IsSome new.fault → results ≢ [])
      × PartStep IsStepOver refused start before (record { script = script; results = results; is_whole = goes_on }) after
      × (IsUsable g after.connection → (history : History) → EngineRepresents g history before
      → RepresentsSome g (PartStep IsStep refused start history (record { script = script; results = results; is_whole = goes_on })) after))
  refused_part old new before after start script refusal (Err fault) may same told = tt
  refused_part old new before after start script refusal (Ok goes_on) may same told =
      (refused (placed_at start refusal) ∷ [], told, (λ its none. let no : ⊥ = cc in no), inr (refusal, may, refl, same), λ usable history stands. (history, inr (refusal, may, refl, refl), subst (EngineRepresents g history) (sym same) stands))

module _ {S K W N : Type 0} (g : Ghosts S) (made : List ℕ → List ℕ → Type 0) (IsStep : History → List Lexeme → K → History → Type 0) (IsStepOver : EngineState S → List Lexeme → K → EngineState S → Type 0) (refused : Refusal → K) (contents : W → Option (List ℕ)) (errors : N → Option (List ℕ)) (text : ℕ → K → List ℕ) (status : K → ℕ) (forgotten : K → ℕ) where
  -- a turn was made, and the reporter has received it
  abbrev pub Turned : Reporter W N → Reporter W N → EngineState S → EngineState S → ℕ → Bool → List ℕ → Option (List ℕ) → Bool → Bool → Type 0
  Turned old new before after start starts bytes left commands goes_on =
      (turn : Turn K) × (bytes_in turn ≡ bytes) × IsTurn starts turn left × (ends_line turn ≡ commands)
      × (goes_on ≡ true → All IsWhole (runs_in turn)) × ReceivesTurn contents errors text status forgotten old turn goes_on new
      × TurnStep IsStepOver refused (IsAnsweredOver g) start before turn after
      × (IsUsable g after.connection → (history : History) → EngineRepresents g history before
      → RepresentsSome g (TurnStep IsStep refused (IsAnswered made) start history turn) after)

  -- a part was run, or refused as a whole
  pub part_turn : (old new : Reporter W N) (before after : EngineState S) (start : ℕ) (starts : Bool) (bytes script : List ℕ) (left : Option (List ℕ)) (commands : Bool) (result : Result Bool RunFault) → bytes ≡ script → commands ≡ false → EndsAtSemicolon script → HasNoCommand starts script →
      IfOk result (λ goes_on. (results : List K) × ReceivesResults contents errors text status forgotten old results goes_on new
      × (IsSome new.fault → results ≢ [])
      × PartStep IsStepOver refused start before (record { script = bytes; results = results; is_whole = goes_on }) after
      × (IsUsable g after.connection → (history : History) → EngineRepresents g history before
      → RepresentsSome g (PartStep IsStep refused start history (record { script = bytes; results = results; is_whole = goes_on })) after)) →
      IfOk result (Turned old new before after start starts script left commands)
  part_turn old new before after start starts bytes script left commands (Err fault) same none ends off ran = tt
  part_turn old new before after start starts bytes script left commands (Ok goes_on) same none ends off (results, told, some, over, went) =
      let run : ScriptRun K = one_run bytes results goes_on in (
        Ran run,
        same,
        (subst EndsAtSemicolon (sym same) ends, subst (HasNoCommand starts) (sym same) off),
        sym none,
        λ on. All-cons IsWhole run [] on (All-nil IsWhole),
        ran_heard contents errors text status forgotten old run goes_on new told some,
        over,
        went,
      )

  -- the line of a command was answered
  pub command_turn : (old new : Reporter W N) (before after : EngineState S) (start : ℕ) (starts : Bool) (bytes line kept told : List ℕ) (left : Option (List ℕ)) (commands goes_on : Bool) → commands ≡ true → IsCommandLine starts bytes kept left → line ≡ kept → old.fault ≡ None →
      new ≡ record old { out = new.out; fault = new.fault } → (goes_on ≡ true → Appends (contents old.out) (contents new.out) told) → (goes_on ≡ true → new.fault ≡ None) → (goes_on ≡ false → IsSome new.fault × IfSome new.fault IsReportFault) →
      WasUsable g before.connection after.connection → SparesOthers g before.connection after.connection →
      (IsUsable g after.connection → (history : History) → EngineRepresents g history before → IsAnswer made history line told × EngineRepresents g history after) →
      Turned old new before after start starts bytes left commands goes_on
  command_turn old new before after start starts bytes line kept told left commands goes_on on is_line same quiet alike wrote none some usable others answered = (
    LineAnswered bytes line told,
    refl,
    subst (λ (k : List ℕ). IsCommandLine starts bytes k left) (sym same) is_line,
    sym on,
    λ going. All-nil IsWhole,
    subst (ReceivesTurn contents errors text status forgotten old (LineAnswered bytes line told) goes_on) (sym alike) (line_received contents errors text status forgotten old new.out new.fault bytes line told goes_on quiet wrote none some),
    record { usable = usable; others = others },
    λ is history stands. let (answer, after_is) = answered is history stands in (history, (answer, refl), after_is),
  )

module _ {S K : Type 0} (g : Ghosts S) (IsStep : History → List Lexeme → K → History → Type 0) (refused : Refusal → K) (Tell : History → List ℕ → List ℕ → History → Type 0) where
  pub ran_further : (old middle new : EngineState S) (start : ℕ) (turns : List (Turn K)) (turn : Turn K) → start ≡ length (bytes_of turns) → WasUsable g middle.connection new.connection →
      (IsUsable g middle.connection → (history : History) → EngineRepresents g history old → RepresentsSome g (LeadsThrough IsStep refused Tell 0 history turns) middle) →
      (IsUsable g new.connection → (history : History) → EngineRepresents g history middle → RepresentsSome g (TurnStep IsStep refused Tell start history turn) new) →
      IsUsable g new.connection → (history : History) → EngineRepresents g history old → RepresentsSome g (LeadsThrough IsStep refused Tell 0 history (turns ++ turn ∷ [])) new
  ran_further old middle new start turns turn begins before did went usable history stands =
      let (between, leads, represents) = did (before usable) history stands in
      let (last, step, after) = went usable between represents in
      (last, over_further IsStep refused Tell start history turns between turn last begins leads step, after)
