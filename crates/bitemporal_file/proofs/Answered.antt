-- The answer to the line of a command: its report, or a refusal for which it may stop.
use Rattle.std.proofs.Common.{◌≡◌, ◌++◌, List, [], ℕ, true, false, Option, None, Some, Result, Ok, Err, inl, inr, refl, subst, sym}
use Rattle.std.specs.Prelude.{IfOk}
use Rattle.std.specs.Str.{IsUtf8}
use Rattle.history_model.specs.Histories.{History}
use Rattle.period_core.specs.declared.refusal.Refusal.{Refusal}
use Rattle.period_core.specs.declared.refusal.Refusal.TheVariants.{Memory, NotUtf8, Syntax}
use Rattle.version_store.specs.StoreState.{IsStoreRefusal}
use Rattle.bitemporal_file.specs.declared.commands.SessionCommand.{SessionCommand}
use Rattle.bitemporal_file.specs.declared.commands.SessionCommand.TheVariants.{Backup, Clock, Help, Tables, Verify}
use Rattle.command_line.specs.declared.fault.RunFault.{RunFault}
use Rattle.command_line.specs.declared.fault.RunFault.TheVariants.{Script}
use Rattle.bitemporal_file.specs.Commands.{IsAnswer, Makes, MayStop, asked_in, cause_of, done_line, file_in, makes_file, refusal_for, refused_line, report_of, word_in}
use Rattle.bitemporal_file.specs.Copies.{IsBackupFault, IsFileOf}

-- a property of a text holds of the text that a result gives
pub of_text : {V E : Type 0} (items : V → List ℕ) (result : Result V E) (wanted : List ℕ) (Q : List ℕ → Type 0) → IfOk result (λ text. items text ≡ wanted) → Q wanted → IfOk result (λ text. Q (items text))
of_text items (Ok text) wanted Q is holds = subst Q (sym is) holds
of_text items (Err error) wanted Q is holds = tt

-- the answer to a command that memory refuses, which is not given
unheard_by : (asked : Option SessionCommand) → List ℕ → List ℕ
unheard_by None word = refused_line word Syntax []
unheard_by (Some command) word = refused_line word Memory []

pub unheard : List ℕ → List ℕ
unheard line = unheard_by (asked_in line) (word_in line)

-- a command may be stopped by a refusal of the store
pub may_stop : (command : SessionCommand) (refusal : Refusal) → IsStoreRefusal refusal → MayStop command (Script refusal)
may_stop Tables refusal may = may
may_stop Clock refusal may = may
may_stop Verify refusal may = may
may_stop Backup refusal may = may
may_stop Help refusal may = may

pub unheard_is : (made : List ℕ → List ℕ → Type 0) (history : History) (line : List ℕ) → IsAnswer made history line (unheard line)
unfolding unheard unheard_by
unheard_is made history line = by_case (asked_in line) refl
  where
    by_case : (asked : Option SessionCommand) → asked_in line ≡ asked → IsAnswer made history line (unheard line)
    by_case None is = rw is refl
    by_case (Some command) is = rw is (inr (Memory, [], inl (Script Memory, may_stop command Memory (inl refl), refl, refl), refl))

-- a line without a command is answered as a refused one
pub answers-none : (made : List ℕ → List ℕ → Type 0) (history : History) (line told : List ℕ) → asked_in line ≡ None → told ≡ refused_line (word_in line) Syntax [] → IsAnswer made history line told
answers-none made history line told none is = rw none is

-- a command that makes no file, and is done, has made what it asks for
makes_none : (made : List ℕ → List ℕ → Type 0) (history : History) (line : List ℕ) (command : SessionCommand) → makes_file command ≡ false → Makes made history line command
makes_none made history line Tables none = tt
makes_none made history line Clock none = tt
makes_none made history line Verify none = tt
makes_none made history line Backup none = let no : ⊥ = cc in absurd no
makes_none made history line Help none = tt

pub answers-done : (made : List ℕ → List ℕ → Type 0) (history : History) (line told : List ℕ) (command : SessionCommand) → asked_in line ≡ Some command → makes_file command ≡ false → told ≡ report_of history command ++ done_line command → IsAnswer made history line told
answers-done made history line told command asked none is = rw asked (inl (makes_none made history line command none, is))

-- a command that makes a file is the one that makes a copy
pub only_backup : (command : SessionCommand) → makes_file command ≡ true → command ≡ Backup
only_backup Tables makes = let no : ⊥ = cc in absurd no
only_backup Clock makes = let no : ⊥ = cc in absurd no
only_backup Verify makes = let no : ⊥ = cc in absurd no
only_backup Backup makes = refl
only_backup Help makes = let no : ⊥ = cc in absurd no

-- a backup whose copy was made is answered
pub answers-copied : (made : List ℕ → List ℕ → Type 0) (history : History) (line told bytes : List ℕ) → asked_in line ≡ Some Backup → IsFileOf history bytes → made (file_in line) bytes → told ≡ done_line Backup → IsAnswer made history line told
answers-copied made history line told bytes asked copy file is = rw asked (inl ((bytes, copy, file), is))

-- a backup that a fault stopped is answered
pub answers-stopped : (made : List ℕ → List ℕ → Type 0) (history : History) (line told : List ℕ) (stopped : RunFault) → asked_in line ≡ Some Backup → IsBackupFault stopped → told ≡ refused_line (word_in line) (refusal_for stopped) (cause_of stopped) → IsAnswer made history line told
answers-stopped made history line told stopped asked may is = rw asked (inr (refusal_for stopped, cause_of stopped, inl (stopped, may, refl, refl), is))

-- a backup whose file has no name is answered
pub answers-unnamed : (made : List ℕ → List ℕ → Type 0) (history : History) (line told : List ℕ) → asked_in line ≡ Some Backup → ¬ IsUtf8 (file_in line) → told ≡ refused_line (word_in line) NotUtf8 [] → IsAnswer made history line told
answers-unnamed made history line told asked bad is = rw asked (inr (NotUtf8, [], inr (refl, bad, refl, refl), is))

-- a command that the store refuses is answered
pub answers-refused : (made : List ℕ → List ℕ → Type 0) (history : History) (line told : List ℕ) (command : SessionCommand) (refusal : Refusal) → asked_in line ≡ Some command → IsStoreRefusal refusal → told ≡ refused_line (word_in line) refusal [] → IsAnswer made history line told
answers-refused made history line told command refusal asked may is = rw asked (inr (refusal, [], inl (Script refusal, may_stop command refusal may, refl, refl), is))
