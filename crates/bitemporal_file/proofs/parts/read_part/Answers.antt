use Rattle.std.proofs.Common.{◌≡◌, ◌≢◌, ◌≤◌, ◌+◌, ◌++◌, ◌∷◌, ◌∙◌, ℕ, List, [], ap, arith, inl, inr, length, refl, rules, sym}
use Rattle.std.specs.Io.KnownBytes.{Consumes}
use Rattle.std.proofs.KnownBytes.{Consumes-kept, Consumes-trans}
use Rattle.std.proofs.lemmas.List.{length-append}
use Rattle.std.proofs.lemmas.Result.{err_from_is_err_and}
use Rattle.command_line.specs.declared.fault.RunFault.TheVariants.{Read}
use Rattle.bitemporal_file.specs.declared.parts.Place.TheVariants.{Outside, Ended}
use Rattle.bitemporal_file.specs.Parts.{HasNoCommand, HasNoToken, IsUnfinished, place_after, place_after_all}
use Rattle.script_engine.specs.script.Script.{most_bytes}
use Rattle.bitemporal_file.proofs.BlankFacts.{blank-next, blank-none, none-blank}
use Rattle.bitemporal_file.proofs.CommandFacts.{command-begun, command-read, line-more, no_command-read}
use Rattle.bitemporal_file.proofs.SessionFacts.{all-read, place-more}
use Rattle.bitemporal_file.proofs.parts.read_part.Goals as goal

pub returns-in_default-clause-none : goal.returns-in_default-clause-none
returns-in_default-clause-none g c is =
    let (all, taken, count, kept, place, unended, blank, begins, none) = c.reads.invariant in
    let (last, end) = c.in_ok-byte.ensures.none c.in_default.is in
    let (are_blank, rest) = c.end_at.ensures.none is in
    all-read HasNoToken _ _ _ all taken last end (blank-none all (sym blank ∙ are_blank) (λ dash. rest (place ∙ dash)))

pub returns-in_default-clause-unfinished : goal.returns-in_default-clause-unfinished
returns-in_default-clause-unfinished g c is =
    let (all, taken, count, kept, place, unended, blank, begins, none) = c.reads.invariant in
    let (last, end) = c.in_ok-byte.ensures.none c.in_default.is in
    let some = c.end_at.ensures.unfinished is in
    all-read (λ (rest : List ℕ). IsUnfinished rest × HasNoCommand c.args.starts_line rest) _ _ _ all taken last end
    ((unended, λ no_token. let (are_blank, rest) = none-blank all no_token in some (blank ∙ are_blank, λ dash. rest (sym place ∙ dash))), none)

pub returns-in_default-clause-unread : goal.returns-in_default-clause-unread
returns-in_default-clause-unread g c is = elim c.end_at.ensures.end [
  | inl none ↦ let no : ⊥ = cc in absurd no
  | inr unfinished ↦ let no : ⊥ = cc in absurd no
]

-- a read failed

pub returns-in_err-byte-clause-unread : goal.returns-in_err-byte-clause-unread
returns-in_err-byte-clause-unread g c is =
    let (all, taken, count, kept, place, unended, blank, begins, none) = c.reads.invariant in
    (all, Consumes-kept _ _ _ all taken c.in_err-byte.ensures.kept, inl (unended, none))

pub returns-in_err-line-clause-unread : goal.returns-in_err-line-clause-unread
returns-in_err-line-clause-unread g c is =
    let (all, taken, count, kept, place, unended, blank, begins, none) = c.reads.invariant in
    let byte = c.in-Some.byte in
    let took : Consumes (g.R.Read.remaining c.reads.input.inner) (g.R.Read.remaining c.next_byte.new.input.inner) (byte ∷ []) = search rules in
    let (fault, its, same) = err_from_is_err_and c.from_residual-in_err-line.result c.from_residual-in_err-line.ensures.1 in
    let failed : c.in_err-line.field-0.0 ≡ Read = cc in
    let (line, rest, one) = c.in_err-line.ensures.unread failed in
    command-begun c.args.starts_line _ _ _ _ all byte c.reads.is_blank c.reads.is_line_start line taken blank begins took (sym c.begins_command.ensures ∙ c.if-begins_command.true) rest one

pub returns-then-begins_command-clause-part : goal.returns-then-begins_command-clause-part
returns-then-begins_command-clause-part g c =
    let (all, taken, count, kept, place, unended, blank, begins, none) = c.reads.invariant in
    let byte = c.in-Some.byte in
    let took : Consumes (g.R.Read.remaining c.reads.input.inner) (g.R.Read.remaining c.next_byte.new.input.inner) (byte ∷ []) = search rules in
    command-read c.args.starts_line _ _ _ _ all byte c.reads.before c.reads.is_blank c.reads.is_line_start c.in_ok-line.line taken count blank begins took (sym c.begins_command.ensures ∙ c.if-begins_command.true) c.in_ok-line.ensures.line

pub returns-then-eq-clause-part : goal.returns-then-eq-clause-part
returns-then-eq-clause-part g c =
    let (all, taken, count, kept, place, unended, blank, begins, none) = c.reads.invariant in
    let byte = c.in-Some.byte in
    let took : Consumes (g.R.Read.remaining c.reads.input.inner) (g.R.Read.remaining c.next_byte.new.input.inner) (byte ∷ []) = search rules in
    let ended : c.after-place.result ≡ Ended = search rules in
    let behind : place_after_all Outside (all ++ byte ∷ []) ≡ c.after-place.result =
    place-more Outside all byte ∙ ap (λ p. place_after p byte) (sym place) ∙ sym c.after-place.ensures in
    let more : c.reads.before + 1 ≡ length (all ++ byte ∷ []) = omega (arith, count, length-append all (byte ∷ [])) in
    let held : c.reads.before + 1 ≤ most_bytes → c.keep.new.bytes.items ≡ all ++ byte ∷ [] =
    λ small.
    let pushed = c.in_ok-keep.ensures.kept (omega (arith, small)) in
    pushed ∙ ap (λ (items : List ℕ). items ++ byte ∷ []) (kept (omega (arith, small))) in
    let off = no_command-read c.args.starts_line all byte c.reads.is_blank c.reads.is_line_start blank begins (sym c.begins_command.ensures ∙ c.if-begins_command.false) none in
    (all ++ byte ∷ [], Consumes-trans _ _ _ all (byte ∷ []) taken took, c.part_of.ensures c.args.starts_line (all ++ byte ∷ []) _ more held (all, byte, refl, unended, behind ∙ ended) off)

pub reads-preserved : goal.reads-preserved
reads-preserved g c =
    let (all, taken, count, kept, place, unended, blank, begins, none) = c.reads.invariant in
    let byte = c.in-Some.byte in
    let took : Consumes (g.R.Read.remaining c.reads.input.inner) (g.R.Read.remaining c.next_byte.new.input.inner) (byte ∷ []) = search rules in
    let on : c.after-place.result ≢ Ended = search rules in
    let behind : place_after_all Outside (all ++ byte ∷ []) ≡ c.after-place.result =
    place-more Outside all byte ∙ ap (λ p. place_after p byte) (sym place) ∙ sym c.after-place.ensures in
    let more : c.reads.before + 1 ≡ length (all ++ byte ∷ []) = omega (arith, count, length-append all (byte ∷ [])) in
    let held : c.reads.before + 1 ≤ most_bytes → c.keep.new.bytes.items ≡ all ++ byte ∷ [] =
    λ small.
    let pushed = c.in_ok-keep.ensures.kept (omega (arith, small)) in
    pushed ∙ ap (λ (items : List ℕ). items ++ byte ∷ []) (kept (omega (arith, small))) in
    let third : c.reads.before ≡ 2 → c.as_slice.result.now ≡ all ++ byte ∷ [] = λ two. c.as_slice.ensures.value ∙ held (omega (arith, two)) in
    let off = no_command-read c.args.starts_line all byte c.reads.is_blank c.reads.is_line_start blank begins (sym c.begins_command.ensures ∙ c.if-begins_command.false) none in
    let next = blank-next all c.as_slice.result.now c.reads.before byte count third in
    (all ++ byte ∷ [], Consumes-trans _ _ _ all (byte ∷ []) taken took, more, held, sym behind, (λ is. on (sym behind ∙ is)), (rw (blank, place) at c.is_blank_after-is_blank.ensures) ∙ next, sym (line-more c.args.starts_line all byte), off)
