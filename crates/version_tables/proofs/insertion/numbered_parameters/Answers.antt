use Rattle.std.proofs.Common.{◌≡◌, ◌++◌, ◌∷◌, [], append_assoc, arith, rules, w64, take, ap, ◌∙◌}
use Rattle.std.proofs.lemmas.Int.{to_z-of_z}
use Rattle.std.proofs.lemmas.List.{map-append, take_all}
use Rattle.sqlite.specs.Values.{bound}
use Rattle.version_tables.specs.Adding.{given_numbered}
use Rattle.version_tables.proofs.Adds.{more_numbered}
use Rattle.version_tables.proofs.insertion.numbered_parameters.Goals as goal

pub loop-row-preserved : goal.loop-row-preserved
loop-row-preserved c =
    let row = c.row-item.result in (
      ap bound (c.in_ok-extend_from_slice-2.ensures.items ∙ ap (λ l. l ++ c.cells.result) c.in_ok-push.ensures.items ∙ append_assoc c.loop-row.all.items (_ ∷ []) c.cells.result)
          ∙ map-append _ c.loop-row.all.items _
          ∙ rw (c.loop-row.invariant.0, c.loop-row.invariant.1, c.cells.ensures) (more_numbered _ _ _ _ c.args.rows.now c.loop-row.row-index row c.loop-row-test.true c.row-item.is),
      grind (rules, arith),
    )

pub returns : goal.returns
returns c =
    let all : take c.loop-row.row-index c.args.rows.now ≡ c.args.rows.now = take_all c.loop-row.row-index c.args.rows.now (search rules) in
    let given = rw (to_z-of_z w64 c.args.from c.ranges.from, to_z-of_z w64 c.args.to c.ranges.to, to_z-of_z w64 c.args.first c.ranges.first) at c.loop-row.invariant.0 in
    given ∙ ap (given_numbered c.args.table c.args.from c.args.to c.args.first) all
