-- The lines of standard error, byte by byte.
use Rattle.std.proofs.Common.{◌≡◌, ◌++◌, ℕ, Bool, List, Option, inl, inr, refl, subst, codes, append_assoc}
use Rattle.std.specs.Fmt.{digits}
use Rattle.command_line.specs.Lines.{IsReported, MayBeReportedAs, fault_line, without_memory}
use Rattle.command_line.specs.declared.fault.ProgramName.{ProgramName}
use Rattle.command_line.specs.declared.fault.ProgramName.TheVariants.{Bitemporal, BitemporalFile}
use Rattle.command_line.specs.declared.fault.RunFault.{RunFault}
use Rattle.command_line.specs.declared.fault.RunFault.TheVariants.{Script, Memory}

pub memory_is : codes "bitemporal: 61 Memory\n" ≡ fault_line Bitemporal Memory
unfolding digits
memory_is = refl

pub memory_is-second : codes "bitemporal_file: 61 Memory\n" ≡ fault_line BitemporalFile Memory
unfolding digits
memory_is-second = refl

-- eight texts, joined in either order
pub joined : (a b c d e f g h : List ℕ) → a ++ (b ++ (c ++ (d ++ (e ++ (f ++ (g ++ h)))))) ≡ a ++ b ++ c ++ d ++ e ++ (f ++ g) ++ h
joined a b c d e f g h = simp append_assoc

-- the line of a fault without memory may report the fault
pub may_without : (fault : RunFault) → MayBeReportedAs fault (without_memory fault)
may_without (Script refusal) = inr (tt, refl)
may_without _ = inl refl

-- a fault whose line is the bytes written
pub line_of_fault : (program : ProgramName) (fault told : RunFault) (has_failed : Bool) (old new : Option (List ℕ)) (line : List ℕ) → line ≡ fault_line program told → MayBeReportedAs fault told
    → IsReported has_failed old new line → (told : RunFault) × MayBeReportedAs fault told × IsReported has_failed old new (fault_line program told)
line_of_fault program fault told has_failed old new line is may written = (told, may, subst (IsReported has_failed old new) is written)
