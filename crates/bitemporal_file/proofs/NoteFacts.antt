-- Notes of versions that changes forget: those of some statements and then of others, and those of a whole run.
use Rattle.std.proofs.Common.{◌≡◌, ◌+◌, ◌++◌, ◌∷◌, ◌∙◌, ℕ, Bool, List, [], Option, None, Some, add-zero, ap, append_assoc, arith, inl, inr, length, subst, sym, true}
use Rattle.std.specs.Prelude.{MatchOption, codes}
use Rattle.command_line.specs.Lines.{IsReported}
use Rattle.command_line.specs.declared.tracked.Tracked.{Tracked}
use Rattle.bitemporal_file.specs.Notes.{AreNoted, GetsNote, TellsFirst, TellsSum, counted, tally_from}
use Rattle.bitemporal_file.specs.declared.notes.Forgetting.{Forgetting}
use Rattle.bitemporal_file.specs.declared.notes.Note.{Note}
use Rattle.bitemporal_file.specs.declared.notes.Note.TheVariants.{First, Sum}
use Rattle.bitemporal_file.specs.declared.notes.Notes.{Notes}
use Rattle.bitemporal_file.specs.declared.notes.Tally.{Tally}

-- ---- the line of a first note, by its pieces

pub first_joined : (statement versions : List ℕ) → codes "bitemporal_file: statement " ++ (statement ++ (codes ": " ++ (codes "versions of this very moment, replaced or deleted and not kept" ++ (codes ": " ++ (versions ++ codes "\n"))))) ≡
    codes "bitemporal_file: statement " ++ statement ++ codes ": versions of this very moment, replaced or deleted and not kept: " ++ versions ++ codes "\n"
first_joined statement versions = simp append_assoc

-- ---- the tally

pub tally-more : {K : Type 0} (forgotten : K → ℕ) (n : ℕ) (tally : Tally) (results more : List K) → tally_from forgotten n tally (results ++ more) ≡ tally_from forgotten (n + length results) (tally_from forgotten n tally results) more
tally-more forgotten n tally [] more = ap (λ m. tally_from forgotten m tally more) (sym (add-zero n))
tally-more forgotten n tally (result ∷ results) more =
    let next = counted tally n (forgotten result) in
    let count : (n + 1) + length results ≡ n + length (result ∷ results) = omega arith in
    tally-more forgotten (n + 1) next results more ∙ ap (λ m. tally_from forgotten m (tally_from forgotten (n + 1) next results) more) count

-- ---- standard error

-- a write that failed has failed later too
reported_later : (failed later : Bool) (old new : Option (List ℕ)) (line : List ℕ) → (failed ≡ true → later ≡ true) → IsReported failed old new line → IsReported later old new line
reported_later failed later old new line stays (inl whole) = inl whole
reported_later failed later old new line stays (inr (is, front)) = inr (stays is, front)

noted_later : (failed later : Bool) (old new : Option (List ℕ)) (note : Note) → (failed ≡ true → later ≡ true) → GetsNote failed old new note → GetsNote later old new note
noted_later failed later old new note stays (line, is, got) = (line, is, reported_later failed later old new line stays got)

-- no statement forgot any version
none_first : {X : Type 0} (first : Option X) (P : Type 0) (Q : X → Type 0) → first ≡ None → MatchOption first P Q → P
none_first None P Q is holds = holds
none_first (Some x) P Q is holds = let no : ⊥ = cc in absurd no

module _ {N : Type 0} (errors : N → Option (List ℕ)) where
  pub told_then : (old middle new : Notes N) → TellsFirst errors old middle → TellsFirst errors middle new → TellsFirst errors old new
  told_then old middle new (inl (first, err)) (inl (after, later)) = inl (after ∙ first, later ∙ err)
  told_then old middle new (inl (first, err)) (inr (told, none, is, gets)) =
      inr (told, sym first ∙ none, is, subst (λ (e : Tracked N). GetsNote new.err.has_failed (errors e.inner) (errors new.err.inner) (First told)) err gets)
  told_then old middle new (inr (told, none, is, gets)) (inl (after, later)) =
      inr (told, none, after ∙ is, subst (λ (e : Tracked N). GetsNote e.has_failed (errors old.err.inner) (errors e.inner) (First told)) (sym later) gets)
  told_then old middle new (inr (told, none, is, gets)) (inr (other, empty, again, more)) =
      let wrong : ◌≡◌ {A = Option Forgetting} None (Some told) = sym empty ∙ is in
      let no : ⊥ = cc in absurd no

  -- a whole run: what was told as it went, and at its end
  pub all_noted : (old left new : Notes N) (failed : Bool) → old.tally.first ≡ None → TellsFirst errors old left → TellsSum errors left new → (left.err.has_failed ≡ true → new.err.has_failed ≡ true) → (new.err.has_failed ≡ true → failed ≡ true) →
      AreNoted left.tally failed (errors old.err.inner) (errors new.err.inner)
  all_noted old left new failed none (inl (first, err)) sum stays later =
      let empty : left.tally.first ≡ None = first ∙ none in
      let same : new ≡ left = none_first left.tally.first (new ≡ left) _ empty sum in
      rw empty ((λ k. errors (same k).err.inner) ∙ (λ k. errors (err k).inner))
  all_noted old left new failed none (inr (told, was, is, gets)) sum stays later =
      let (same, summed) = rw is at sum in
      rw is (
        errors left.err.inner,
        noted_later left.err.has_failed failed (errors old.err.inner) (errors left.err.inner) (First told) (λ did. later (stays did)) gets,
        noted_later new.err.has_failed failed (errors left.err.inner) (errors new.err.inner) (Sum left.tally.forgotten) later summed,
      )
