use Rattle.std.proofs.Common.{Box, Global, ◌≡◌, ◌<◌, ◌+◌, ◌∷◌, ◌∙◌, ℕ, List, get_or, length, sym, subst, arith, rules}
use Rattle.std.specs.Prelude.{IfSome, Option}
use Rattle.std.specs.List.{swap_remove}
use Rattle.std.specs.List.Sorted.{IsPermutation}
use Rattle.std.proofs.lemmas.List.Sorted.{IsPermutation-swap_remove}
use Rattle.period_core.specs.declared.version.VersionRow.{VersionRow}
use Rattle.period_keys.specs.declared.period_blocks.PeriodBlocks.{PeriodBlocks}
use Rattle.period_keys.specs.Near.{IsAt}
use Rattle.period_keys.specs.Placed.{ArePlacedIn}
use Rattle.period_keys.specs.Versions.{recorded}
use Rattle.period_keys.proofs.key_rows.KeyRows.take_one.Goals as goal

pub invariant_of-self : goal.invariant_of-self
invariant_of-self c =
    let rows : List VersionRow = c.args.self.now.rows.items in
    let there : c.in-Some.place < length rows = c.in-Some.ensures.0 in
    let size : c.len-last.result ≡ length rows = search rules in
    let is_last : c.placed_at-moved.result.place + 1 ≡ length rows = omega (arith, c.placed_at-moved.ensures.place) in
    let result : Option (Box PeriodBlocks Global) = c.placed_without.result in
    record {
      complete = subst (λ (rs : List VersionRow). IfSome result (ArePlacedIn rs)) (sym c.swap_remove-row.ensures.items)
          (subst (λ n. IfSome result (ArePlacedIn (swap_remove rows n c.swap_remove-row.result))) c.placed_at-gone.ensures.place
          (c.placed_without.ensures rows c.swap_remove-row.result (subst (λ (rs : List VersionRow). IsAt rs c.placed_at-gone.result) c.as_slice.ensures.value c.placed_at-gone.ensures.row)
          (subst (λ (rs : List VersionRow). IsAt rs c.placed_at-moved.result) c.as_slice-2.ensures.value c.placed_at-moved.ensures.row) is_last
          (subst (λ (o : Option (Box PeriodBlocks Global)). IfSome o (ArePlacedIn rows)) (sym c.take-placed.ensures.value) c.args.self.now.complete)));
    }

pub returns-clause-taken : goal.returns-clause-taken
returns-clause-taken c =
    let rows : List VersionRow = c.args.self.now.rows.items in
    let place : ℕ = c.in-Some.place in
    let row : VersionRow = recorded c.args.values.now c.args.period c.args.from c.args.to in
    let there : (place < length rows) × ((d : VersionRow) → get_or rows place d ≡ row) = c.in-Some.ensures in
    let gone : VersionRow = c.swap_remove-row.result in
    let same : gone ≡ row = c.swap_remove-row.ensures.value ∙ there.1 gone in
    subst (λ (rest : List VersionRow). IsPermutation rows (row ∷ rest)) (sym c.swap_remove-row.ensures.items)
    (subst (λ (y : VersionRow). IsPermutation rows (y ∷ swap_remove rows place gone)) same (IsPermutation-swap_remove rows place gone there.0 c.swap_remove-row.ensures.value))
