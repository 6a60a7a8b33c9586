-- The end of a run of the program.
use Rattle.std.proofs.Common.{◌≡◌, ◌≤◌, ℕ, Bool, List, Option, None, Some, Result, Ok, Err, MatchResult, false, true, ◌||◌, arith, inl, inr, refl, subst, sym}
use Rattle.std.specs.Io.KnownBytes.{Keeps}
use Rattle.command_line.specs.Lines.{IsReported, MayBeReportedAs, fault_line}
use Rattle.command_tool.specs.Program.{EndsWell, MayEndIn, MayEndSilently, ProgramRun}
use Rattle.command_line.specs.declared.command.Mode.{Mode}
use Rattle.command_line.specs.declared.fault.RunFault.{RunFault}
use Rattle.command_line.specs.declared.fault.RunFault.TheVariants.{Script, Memory, Read}
use Rattle.command_line.specs.declared.fault.ProgramName.TheVariants.{Bitemporal}

pub keeps_itself : (known : Option (List ℕ)) → Keeps known known
keeps_itself None = tt
keeps_itself (Some bytes) = refl

-- out of memory may come in the place of any fault
memory_instead : (mode : Mode) (script : Option (List ℕ)) (read_failed : Bool) (old new : Option (List ℕ)) (fault : RunFault)
    → MayEndIn mode script read_failed old new fault → MayEndIn mode script read_failed old new Memory
memory_instead mode script read_failed old new fault (inl silent) = inl (tt, silent.1)
memory_instead mode script read_failed old new fault (inr failed) = inr (failed.0, inl refl)

-- the line that is reported belongs to a fault in which the run may end
pub line_of_run : (mode : Mode) (script : Option (List ℕ)) (read_failed : Bool) (old new before after : Option (List ℕ)) (err_failed : Bool) (fault : RunFault)
    → MayEndIn mode script read_failed old new fault → (told : RunFault) × MayBeReportedAs fault told × IsReported err_failed before after (fault_line Bitemporal told)
    → (told : RunFault) × MayEndIn mode script read_failed old new told × IsReported err_failed before after (fault_line Bitemporal told)
line_of_run mode script read_failed old new before after err_failed fault ended (told, inl same, line) =
    (told, subst (MayEndIn mode script read_failed old new) (sym same) ended, line)
line_of_run mode script read_failed old new before after err_failed fault ended (told, inr memory, line) =
    (told, subst (MayEndIn mode script read_failed old new) (sym memory.1) (memory_instead mode script read_failed old new fault ended), line)

-- a run that ends in a fault before its script gave anything
pub ends_silently : (r : ProgramRun) (fault : RunFault) → r.status ≡ 2 → MayEndSilently r.mode r.script r.read_failed fault → Keeps r.out_before r.out_after
    → (told : RunFault) × MayBeReportedAs fault told × IsReported r.err_failed r.err_before r.err_after (fault_line Bitemporal told) → EndsWell r
ends_silently r fault status silent kept told =
    let bound : r.status ≤ 3 = omega (arith, status) in
    (bound, (λ other. absurd (other status)), (λ _. line_of_run r.mode r.script r.read_failed r.out_before r.out_after r.err_before r.err_after r.err_failed fault (inl (silent, kept)) told), (λ _. (status, kept)))

silent_if_failed : (mode : Mode) (script : Option (List ℕ)) (read_failed failed : Bool) (fault : RunFault) → (read_failed ≡ true → failed ≡ true) → MayEndSilently mode script read_failed fault → MayEndSilently mode script failed fault
silent_if_failed mode script read_failed failed (Script refusal) then may = may
silent_if_failed mode script read_failed failed Memory then may = may
silent_if_failed mode script read_failed failed Read then may = then may
silent_if_failed mode script read_failed failed _ then may = may

-- a run that ends well does so also with a reader that has failed
ends_if_failed : (r : ProgramRun) (failed : Bool) → (r.read_failed ≡ true → failed ≡ true) → EndsWell r → EndsWell (record r { read_failed = failed })
ends_if_failed r failed then (bound, reported, faulty, refused) = (bound, reported, (λ status. go (faulty status)), refused)
  where
    go : (fault : RunFault) × MayEndIn r.mode r.script r.read_failed r.out_before r.out_after fault × IsReported r.err_failed r.err_before r.err_after (fault_line Bitemporal fault)
        → (fault : RunFault) × MayEndIn r.mode r.script failed r.out_before r.out_after fault × IsReported r.err_failed r.err_before r.err_after (fault_line Bitemporal fault)
    go (fault, inl silent, line) = (fault, inl (silent_if_failed r.mode r.script r.read_failed failed fault then silent.0, silent.1), line)
    go (fault, inr given, line) = (fault, inr given, line)

-- a run over a script with these bytes
pub ends_over : (r : ProgramRun) (script : Option (List ℕ)) (failed : Bool) → r.script ≡ script → (r.read_failed ≡ true → failed ≡ true) → EndsWell r
    → EndsWell (record r { script = script; read_failed = failed })
ends_over r script failed is then ends = subst (λ (s : Option (List ℕ)). EndsWell (record r { script = s; read_failed = failed })) is (ends_if_failed r failed then ends)

pub or_true : (b : Bool) → (b || true) ≡ true
or_true false = refl
or_true true = refl

-- a fact of either case, at a result that is Ok
pub at_ok : {T E : Type 0} (r : Result T E) (x : T) (P : T → Type 0) (Q : E → Type 0) → r ≡ Ok x → MatchResult r P Q → P x
at_ok (Ok y) x P Q is holds = subst (λ r. MatchResult r P Q) is holds
at_ok (Err e) x P Q is holds = subst (λ r. MatchResult r P Q) is holds

pub at_err : {T E : Type 0} (r : Result T E) (e : E) (P : T → Type 0) (Q : E → Type 0) → r ≡ Err e → MatchResult r P Q → Q e
at_err (Ok y) e P Q is holds = subst (λ r. MatchResult r P Q) is holds
at_err (Err y) e P Q is holds = subst (λ r. MatchResult r P Q) is holds
