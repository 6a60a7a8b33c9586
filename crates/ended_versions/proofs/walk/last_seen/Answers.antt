use Rattle.std.proofs.Common.{◌≡◌, ◌+◌, ◌-◌, ◌<◌, ◌≤◌, ◌∙◌, ℕ, List, length, take, ap, arith, sym}
use Rattle.std.specs.List.{filter}
use Rattle.std.proofs.lemmas.Nat.{and_le_r}
use Rattle.ended_versions.specs.Entries.{block_start, is_seen}
use Rattle.ended_versions.specs.declared.blocks.VersionEntry.{VersionEntry}
use Rattle.ended_versions.proofs.WalkFacts.{none_before, none_of_block}
use Rattle.ended_versions.proofs.walk.last_seen.Goals as goal

pub returns-then-not-ends_late : goal.returns-then-not-ends_late
returns-then-not-ends_late c =
    let window = c.args.window.now in
    let entries : List VersionEntry = c.args.entries.now in
    let entry : VersionEntry = c.index-entries-place.result in
    let place : ℕ = c.loop-place.place - 1 in
    let more : c.loop-place.place ≡ place + 1 = omega (arith, c.loop-place-test.true) in
    let inside : place < length entries = omega (arith, c.loop-place.invariant.upto, c.requires.within, c.loop-place-test.true) in
    c.loop-place.invariant.same
    ∙ (ap (λ n. filter (is_seen window) (take n entries)) more
    ∙ none_before window entries entry place c.requires.ordered inside c.index-entries-place.is (sym c.is_seen.ensures ∙ c.if-is_seen.false) (sym c.ends_late.ensures ∙ c.if-not-ends_late.true))

pub loop-place-preserved : goal.loop-place-preserved
loop-place-preserved c =
    let window = c.args.window.now in
    let entries : List VersionEntry = c.args.entries.now in
    let entry : VersionEntry = c.index-entries-place.result in
    let place : ℕ = c.loop-place.place - 1 in
    let more : c.loop-place.place ≡ place + 1 = omega (arith, c.loop-place-test.true) in
    let inside : place < length entries = omega (arith, c.loop-place.invariant.upto, c.requires.within, c.loop-place-test.true) in
    let start : block_start place ≤ place = and_le_r (place + 1) place in
    record {
      upto = omega (arith, c.block_start-place.ensures, start, c.loop-place.invariant.upto);
      same =
          c.loop-place.invariant.same
          ∙ (ap (λ n. filter (is_seen window) (take n entries)) more
          ∙ (none_of_block window entries entry place c.requires.earliest_from inside c.index-entries-place.is start (sym c.begins_early.ensures ∙ c.if-begins_early.false)
          ∙ ap (λ n. filter (is_seen window) (take n entries)) (sym c.block_start-place.ensures)));
    }
