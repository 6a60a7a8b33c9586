-- Worked rows: the lines of faults, and what a command line chooses.
use Rattle.std.specs.Prelude.{◌≡◌, ◌∷◌, [], ℕ, None, Option, Some, codes, false, refl, true}
use Rattle.std.proofs.Common.{Global, List, String, arith, inl, inr}
use Rattle.std.specs.List.{IsDistinct}
use Rattle.std.proofs.lemmas.List.Elements.{All-cons, All-nil}
use Rattle.std.proofs.lemmas.Option.{same_Some}
use Rattle.std.specs.Fmt.{digits}
use Rattle.clap.specs.Words.{Row}
use Rattle.clap.specs.declared.builder.value_parser.Reading.{Reading}
use Rattle.clap.specs.declared.parser.matches.ValueSource.{ValueSource}
use Rattle.period_core.specs.declared.refusal.Refusal.TheVariants.{BadStore, BadToken}
use Rattle.clap.specs.declared.error.kind.ErrorKind.TheVariants.{DisplayHelp}
use Rattle.command_line.specs.CommandFaults.{IsReportedFor}
use Rattle.command_line.specs.CommandLine.{Chooses}
use Rattle.command_line.specs.FileCommand.{IsFileCommand, IsFlag}
use Rattle.command_line.specs.Lines.{IsReported, fault_line}
use Rattle.command_line.specs.declared.command.CommandFault.TheVariants.{Mistake}
use Rattle.command_line.specs.declared.command.Mode.TheVariants.{Run, RunAudited}
use Rattle.command_line.specs.declared.fault.RunFault.TheVariants.{ClockAhead, Script, Read, Write}
use Rattle.command_line.specs.declared.fault.ProgramName.TheVariants.{Bitemporal, BitemporalFile}

-- ---- lines

-- a bad token's line has its byte
bad_token-line : fault_line Bitemporal (Script (BadToken 7)) ≡ codes "bitemporal: 3 BadToken 7\n"
unfolding digits
bad_token-line = refl

bad_store-line : fault_line BitemporalFile (Script BadStore) ≡ codes "bitemporal_file: 60 BadStore\n"
unfolding digits
bad_store-line = refl

clock_ahead-line : fault_line BitemporalFile ClockAhead ≡ codes "bitemporal_file: the store's clock is ahead of the system's time: tools/alter STORE --clock-now --to NEW moves it back, --clock-ahead runs all the same\n"
clock_ahead-line = refl

writer-line : fault_line Bitemporal Write ≡ codes "bitemporal: cannot write the report\n"
writer-line = refl

-- a line is reported whole, or in part by a writer that failed
part_of_line : IsReported true (Some (codes "a")) (Some (codes "abitem")) (fault_line Bitemporal Read)
part_of_line = inr (refl, (5, refl))

no_part_of_line : IsReported false (Some []) (Some []) (fault_line Bitemporal Read) → ⊥
no_part_of_line (inl told) = cc
no_part_of_line (inr told) = cc

-- ---- command lines

-- an argument that is missing sets no flag
no_flag : None ≡ Some (codes "true") → ⊥
no_flag same = cc

-- an argument with one value, as clap finds it
abbrev one_value : List ℕ → List ℕ → Option ℕ → Option ValueSource → Reading → Row
one_value id value count source reading =
    record { id = id; values = value ∷ []; count = count; source = source; reading = reading }

-- --audit sets its flag, which else is false
chooses_audit : (count : Option ℕ) (source : Option ValueSource) (reading : Reading) → Chooses (Some (codes "run", one_value (codes "audit") (codes "true") count source reading ∷ [])) RunAudited None
chooses_audit count source reading = ((refl, refl), refl)

flag_is_false : Some (codes "false") ≡ Some (codes "true") → ⊥
flag_is_false same = let wrong : codes "false" ≡ codes "true" = same_Some _ _ same in cc

chooses_no_audit : (count : Option ℕ) (source : Option ValueSource) (reading : Reading) → Chooses (Some (codes "run", one_value (codes "audit") (codes "false") count source reading ∷ [])) Run None
chooses_no_audit count source reading = ((refl, flag_is_false), refl)

-- `run` and FILE are chosen with one value
chooses_file : (count : Option ℕ) (source : Option ValueSource) (reading : Reading) → Chooses (Some (codes "run", one_value (codes "FILE") (codes "a.sql") count source reading ∷ [])) Run (Some (codes "a.sql"))
chooses_file count source reading = ((refl, no_flag), refl)

-- ---- command lines of the second program

-- flags are before, between or after the names
flag_before_names : IsFileCommand (codes "--stop" ∷ codes "pay.store" ∷ codes "a.sql" ∷ [])
unfolding IsDistinct
flag_before_names = record {
  store = omega arith;
  flags = All-cons IsFlag (codes "--stop") [] (inr (inl refl)) (All-nil IsFlag);
  once = (tt, tt);
  lists = λ tables. cc;
  verifies = λ verify. cc;
  reads_only = λ reads. cc;
  ahead = λ ahead. cc;
}

-- --tables goes with no script
tables_beside_a_script : IsFileCommand (codes "pay.store" ∷ codes "--tables" ∷ codes "a.sql" ∷ []) → ⊥
tables_beside_a_script form = let one = (form.lists refl).1 in omega (arith, one)

-- --verify goes with no script, and --read-only not with --now
verify_beside_a_script : IsFileCommand (codes "pay.store" ∷ codes "--verify" ∷ codes "a.sql" ∷ []) → ⊥
verify_beside_a_script form = let one = (form.verifies refl).1 in omega (arith, one)

now_beside_read_only : IsFileCommand (codes "pay.store" ∷ codes "--now" ∷ codes "--read-only" ∷ []) → ⊥
now_beside_read_only form = let wrong : true ≡ false = form.reads_only refl in cc

-- --clock-ahead goes with --now alone
clock_ahead_without_now : IsFileCommand (codes "pay.store" ∷ codes "--clock-ahead" ∷ []) → ⊥
clock_ahead_without_now form = let wrong : false ≡ true = form.ahead refl in cc

-- a mistake is reported for no request
no_mistake : (text : String Global) → IsReportedFor (λ kind. kind ≡ DisplayHelp) (Mistake text) → ⊥
no_mistake text (kind, is, mistake) = mistake (inl is)
