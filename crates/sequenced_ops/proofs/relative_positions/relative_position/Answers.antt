use Rattle.std.proofs.Common.{◌≡◌, ◌<ℤ◌, ◌≤ℤ◌, ℤ, true, false, sym, ◌∙◌, ap, inl, inr, arith}
use Rattle.std.specs.Ordering.{ordering_reverse, int_cmp, is_le}
use Rattle.std.proofs.lemmas.Int.{ints}
use Rattle.period_core.specs.Order.{values_cmp}
use Rattle.period_core.specs.OrderLaws.{values_cmp_total, values_cmp-same}
use Rattle.sequenced_ops.proofs.relative_positions.relative_position.Goals as goal

le_from : (x y : ℤ) → true ≡ is_le (int_cmp x y) → x ≤ℤ y
le_from x y h = grind (arith, ints)

gt_from : (x y : ℤ) → false ≡ is_le (int_cmp x y) → y <ℤ x
gt_from x y h = grind (arith, ints)

pub returns-in-Greater : goal.returns-in-Greater
returns-in-Greater c =
    inl (values_cmp_total.antisymm c.args.other.now.values c.args.row.now.values ∙ ap ordering_reverse (sym (c.in-Greater.ensures ∙ (λ i. values_cmp (c.as_slice.ensures i) (c.as_slice-2.ensures i)))))

pub returns-then-le : goal.returns-then-le
returns-then-le c = inr (sym c.as_slice.ensures ∙ values_cmp-same _ _ (sym c.in-Equal.ensures) ∙ c.as_slice-2.ensures, le_from _ _ c.if-le.ensures)

pub returns-then-le-2 : goal.returns-then-le-2
returns-then-le-2 c = inr (sym (sym c.as_slice.ensures ∙ values_cmp-same _ _ (sym c.in-Equal.ensures) ∙ c.as_slice-2.ensures), le_from _ _ c.if-le-2.ensures)

pub returns-else-le-2 : goal.returns-else-le-2
returns-else-le-2 c = (sym c.as_slice.ensures ∙ values_cmp-same _ _ (sym c.in-Equal.ensures) ∙ c.as_slice-2.ensures, gt_from _ _ c.if-le-2.ensures, gt_from _ _ c.if-le.ensures)
