use Rattle.std.proofs.Common.{◌≡◌, ◌<◌, ◌≤◌, ◌++◌, ◌∷◌, [], ◌+◌, ◌∙◌, ℕ, ℤ, List, length, drop, take, map, sym, ap, subst, arith}
use Rattle.std.specs.Prelude.{IsPermutation}
use Rattle.std.proofs.lemmas.List.{length-take-le}
use Rattle.period_core.specs.declared.row.PeriodRow.{PeriodRow}
use Rattle.period_keys.specs.Keys.{key_values}
use Rattle.period_keys.specs.Versions.{begun, recorded}
use Rattle.period_keys.proofs.Loops.{next_of_first, none_left, worked_at}
use Rattle.period_keys.proofs.current_rows.CurrentRows.remove_first_added.Goals as goal

pub loop-i-preserved : goal.loop-i-preserved
loop-i-preserved c =
    let rows : List PeriodRow = c.args.rows.now in
    let i : ℕ = c.loop-i.i in
    let count : ℕ = c.args.count in
    let row : PeriodRow = c.index-rows-i.result in
    let fits : count ≤ length rows = c.requires.count in
    let below : i < length rows = omega (arith, fits) in
    let own : c.index-keys-i.result ≡ key_values c.args.self.now.positions row =
    worked_at (key_values c.args.self.now.positions) c.args.keys.now rows i c.index-keys-i.result row c.requires.keys below c.index-keys-i.is c.index-rows-i.is in
    let now_own : c.index-keys-i.result ≡ key_values c.loop-i.self.positions row = own ∙ ap (λ (ps : List ℕ). key_values ps row) (sym c.loop-i.invariant.same) in
    record {
      same = c.remove_version.ensures.same ∙ c.loop-i.invariant.same;
      left = λ rest moved.
          c.remove_version.ensures.rows (map (begun c.args.moment) (drop (i + 1) (take count rows)) ++ rest) now_own
          (subst (λ (to : ℤ). IsPermutation c.loop-i.self.rows (recorded row.values row.period c.args.moment to ∷ (map (begun c.args.moment) (drop (i + 1) (take count rows)) ++ rest))) (sym c.forever.ensures)
          (subst (λ (xs : List PeriodRow). IsPermutation c.loop-i.self.rows (map (begun c.args.moment) xs ++ rest)) (next_of_first rows count i row c.loop-i-test.true fits c.index-rows-i.is) (c.loop-i.invariant.left rest moved)));
    }

pub returns-clause-rows : goal.returns-clause-rows
returns-clause-rows c = λ rest moved.
    let first : List PeriodRow = take c.args.count c.args.rows.now in
    let size = length-take-le c.args.count c.args.rows.now c.requires.count in
    let none : drop c.loop-i.i first ≡ [] = none_left first c.loop-i.i (omega (arith, size)) in
    subst (λ (xs : List PeriodRow). IsPermutation c.loop-i.self.rows (map (begun c.args.moment) xs ++ rest)) none (c.loop-i.invariant.left rest moved)
