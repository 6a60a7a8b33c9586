use Rattle.std.proofs.Common.{subst, take}
use Rattle.version_store.specs.Contents.{Contents}
use Rattle.version_store.specs.Copies.{with_tables}
use Rattle.version_store.specs.Copies.{HasCommitted}
use Rattle.version_store.proofs.Copies.{next_place, tables_more}
use Rattle.version_store.proofs.copying.write_definitions.Goals as goal

pub loop-place-preserved : goal.loop-place-preserved
loop-place-preserved g c =
    let was = c.loop-place.invariant in
    let step = c.in_ok-write_definition.ensures in (
      c.write_definition.ensures.mode,
      λ usable. was.1 (c.write_definition.ensures.usable usable),
      λ usable d none has.
          let place = c.loop-place.place in
          let ds = c.args.definitions.now in
          subst (λ (e : Contents). HasCommitted g.S.Store c.write_definition.new.connection e) (tables_more ds place c.index-definitions-place.result c.loop-place-test.true c.index-definitions-place.is d)
          (step.made usable (with_tables (take place ds) d) (next_place ds place c.loop-place-test.true d none) (was.2 (c.write_definition.ensures.usable usable) d none has)),
    )
