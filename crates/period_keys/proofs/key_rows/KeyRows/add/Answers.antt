use Rattle.std.proofs.Common.{◌≡◌, ◌∙◌, Box, Global, List, length, rules, subst, sym}
use Rattle.std.specs.Prelude.{IfSome, Option}
use Rattle.period_core.specs.declared.version.VersionRow.{VersionRow}
use Rattle.period_keys.specs.declared.period_blocks.PeriodBlocks.{PeriodBlocks}
use Rattle.period_keys.specs.Placed.{ArePlacedIn}
use Rattle.period_keys.proofs.key_rows.KeyRows.add.Goals as goal

pub invariant_of-self : goal.invariant_of-self
invariant_of-self c = record {
  complete = subst (λ (rows : List VersionRow). IfSome c.args.self.now.placed (ArePlacedIn rows)) (sym c.in_err-push_row.ensures.err) c.args.self.now.complete;
}

pub invariant_of-self-2 : goal.invariant_of-self-2
invariant_of-self-2 c =
    let old : List VersionRow = c.args.self.now.rows.items in
    let result : Option (Box PeriodBlocks Global) = c.placed_with.result in
    let size : c.len-place.result ≡ length old = search rules in
    record {
      complete = subst (λ (rows : List VersionRow). IfSome result (ArePlacedIn rows)) c.as_slice.ensures.value
          (c.placed_with.ensures old c.args.row (c.as_slice.ensures.value ∙ c.in_ok-push_row.ensures.ok) size
          (subst (λ (o : Option (Box PeriodBlocks Global)). IfSome o (ArePlacedIn old)) (sym c.take-placed.ensures.value) c.args.self.now.complete));
    }
