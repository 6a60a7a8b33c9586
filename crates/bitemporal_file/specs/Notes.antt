-- The notes on standard error of versions that changes forget: those that a change ends at the very
-- moment at which they began, so that nothing of them is kept.
use Rattle.std.specs.Prelude.{◌≡◌, ◌⊎◌, ◌+◌, ◌-◌, ◌^◌, ◌++◌, ◌∷◌, ℕ, Bool, List, [], Option, None}
use Rattle.std.specs.Prelude.{Some, MatchOption, codes, min, suc, zero}
use Rattle.std.specs.Fmt.{decimal}
use Rattle.command_line.specs.Lines.{IsReported}
use Rattle.bitemporal_file.specs.declared.notes.Forgetting.{Forgetting}
use Rattle.bitemporal_file.specs.declared.notes.Note.{Note}
use Rattle.bitemporal_file.specs.declared.notes.Note.TheVariants.{First, Sum}
use Rattle.bitemporal_file.specs.declared.notes.Notes.{Notes}
use Rattle.bitemporal_file.specs.declared.notes.Tally.{Tally}

-- ---- the number of versions that are forgotten

-- none is
abbrev pub no_tally : Tally
no_tally = record { first = None; forgotten = 0 }

-- the first of the statements that forget versions, if this one follows
abbrev pub first_of : Option Forgetting → Forgetting → Option Forgetting
first_of None next = Some next
first_of (Some first) next = Some first

-- the tally after the statement of a number, by how many versions it forgets. Their sum is at most
-- what 64 bits count
abbrev pub counted : Tally → ℕ → ℕ → Tally
counted tally number zero = tally
counted tally number (suc more) = record {
  first = first_of tally.first (record { statement = number; versions = suc more });
  forgotten = min (tally.forgotten + suc more) (2 ^ 64 - 1);
}

-- the tally after results, numbered from the first number on
abbrev pub tally_from : {K : Type 0} → (K → ℕ) → ℕ → Tally → List K → Tally
tally_from forgotten n tally [] = tally
tally_from forgotten n tally (result ∷ results) =
    tally_from forgotten (n + 1) (counted tally n (forgotten result)) results

-- ---- the lines

-- the line of the first statement that forgets versions, and that of their sum
abbrev pub line_of : Note → List ℕ
line_of (First first) =
    codes "bitemporal_file: statement " ++ decimal first.statement
    ++ codes ": versions of this very moment, replaced or deleted and not kept: "
    ++ decimal first.versions ++ codes "\n"
line_of (Sum forgotten) =
    codes "bitemporal_file: "
    ++ codes "versions replaced or deleted at the moment of their recording, not kept: "
    ++ decimal forgotten ++ codes " (an AT between the changes keeps them)\n"

-- the line in the place of either if there is no memory for its numbers
abbrev pub line_without_numbers : List ℕ
line_without_numbers =
    codes "bitemporal_file: versions were replaced or deleted at the moment of their recording\n"

-- known bytes grow by the line of a note, whole unless a write failed
abbrev pub GetsNote : Bool → Option (List ℕ) → Option (List ℕ) → Note → Type 0
GetsNote has_failed old new note =
    (line : List ℕ) × ((line ≡ line_of note) ⊎ (line ≡ line_without_numbers))
    × IsReported has_failed old new line

-- ---- the notes of statements, and of a whole run

-- after some statements: the first that forgets versions is noted, as soon as it is run
abbrev pub TellsFirst : {N : Type 0} → (N → Option (List ℕ)) → Notes N → Notes N → Type 0
TellsFirst errors old new =
    ((new.tally.first ≡ old.tally.first) × (new.err ≡ old.err))
    ⊎ ((first : Forgetting) × (old.tally.first ≡ None) × (new.tally.first ≡ Some first)
    × GetsNote new.err.has_failed (errors old.err.inner) (errors new.err.inner) (First first))

-- at the end of a run: the sum is noted, if there is one
abbrev pub TellsSum : {N : Type 0} → (N → Option (List ℕ)) → Notes N → Notes N → Type 0
TellsSum errors old new =
    MatchOption old.tally.first (new ≡ old) (λ first.
    (new.tally ≡ old.tally) × GetsNote new.err.has_failed (errors old.err.inner)
    (errors new.err.inner) (Sum old.tally.forgotten))

-- the notes of a whole run on standard error: none if no version was forgotten, or else that of the
-- first statement that forgot some, and the sum
abbrev pub AreNoted : Tally → Bool → Option (List ℕ) → Option (List ℕ) → Type 0
AreNoted tally has_failed old new =
    MatchOption tally.first (new ≡ old) (λ first.
    (middle : Option (List ℕ)) × GetsNote has_failed old middle (First first)
    × GetsNote has_failed middle new (Sum tally.forgotten))
