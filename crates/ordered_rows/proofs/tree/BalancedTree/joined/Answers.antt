use Rattle.std.proofs.Common.{◌∷◌, arith, length, sym, true≢false, ◌∙◌}
use Rattle.std.proofs.lemmas.List.{length-append}
use Rattle.ordered_rows.proofs.Heights.{joined_low, left_higher, right_higher}
use Rattle.ordered_rows.proofs.tree.BalancedTree.joined.Goals.{then-is_higher, else-is_higher}
use Rattle.ordered_rows.proofs.tree.BalancedTree.joined.Goals as goal

pub invariant_of-result : goal.invariant_of-result
invariant_of-result c =
    let f = c.args.fork.value in
    let left = f.left in
    let right = f.right in
    let of_left = rw c.deref.ensures at c.height-of_left.ensures in
    let of_right = rw c.deref-2.ensures at c.height-of_right.ensures in
    let taller = rw (c.deref.ensures, c.deref-2.ensures) at c.is_higher.ensures in
    let on_left = rw c.deref.ensures at c.count.ensures in
    let on_right = rw c.deref-2.ensures at c.count-2.ensures in
    record {
      height_is =
          elim c.if-is_higher.branch [
            | then-is_higher w ↦ right_higher left.height right.height _ (taller.0 w.if-is_higher.true) (w.higher-is ∙ of_right.value)
            | else-is_higher w ↦ left_higher left.height right.height _ c.requires (λ is. true≢false (sym (taller.1 is) ∙ w.if-is_higher.false)) (w.higher-is ∙ of_left.value)
          ];
      count_is = omega (arith, on_left, on_right, length-append left.rows (f.row ∷ right.rows));
      balanced = c.requires;
      low = rw length-append (joined_low left.height right.height (length left.rows) (length right.rows) c.requires of_left.low of_right.low);
    }
