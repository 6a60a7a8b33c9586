use Rattle.std.proofs.Common.{◌≡◌, ◌+◌, ℕ, List, get_or, length, take, take_all, sym, subst, arith}
use Rattle.std.proofs.lemmas.List.{length-take-le, take_more}
use Rattle.period_core.specs.declared.version.VersionRow.{VersionRow}
use Rattle.period_keys.specs.Placed.{ArePlaced, HasPlaced}
use Rattle.period_keys.proofs.PlacedRows.{placed_as, placed_next}
use Rattle.period_keys.proofs.period_blocks.PeriodBlocks.of.Goals as goal

pub loop-place-preserved : goal.loop-place-preserved
loop-place-preserved c =
    let rows : List VersionRow = c.args.rows.now in
    let i : ℕ = c.loop-place.place in
    let row : VersionRow = get_or rows i c.index-rows-place.result in
    let size : length (take i rows) ≡ i = length-take-le i rows (omega arith) in
    placed_next (take (i + 1) rows) (take i rows) row c.loop-place.placed c.add.new.self (take_more rows i c.index-rows-place.result (omega arith)) c.loop-place.invariant c.in_ok-add.ensures.kept
    (subst (λ n. HasPlaced c.add.new.self (placed_as row.period n)) (sym size) c.in_ok-add.ensures.there)

pub returns : goal.returns
returns c = let all : take c.loop-place.place c.args.rows.now ≡ c.args.rows.now = take_all _ _ (omega arith) in
    subst (λ (rows : List VersionRow). ArePlaced rows c.loop-place.placed) all c.loop-place.invariant
