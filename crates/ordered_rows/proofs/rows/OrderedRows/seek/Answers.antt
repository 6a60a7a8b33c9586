use Rattle.ordered_rows.proofs.Orders.{shape_seekable}
use Rattle.ordered_rows.proofs.rows.OrderedRows.seek.Goals as goal

pub rank_from-at-requires : goal.rank_from-at-requires
rank_from-at-requires c = rw (c.new-probe.ensures.order, c.new-probe.ensures.row, c.key_order.ensures) (shape_seekable c.args.shape c.args.key.now _ c.requires)

pub rank_up_to-at-requires : goal.rank_up_to-at-requires
rank_up_to-at-requires c = rw (c.new-probe.ensures.order, c.new-probe.ensures.row, c.key_order.ensures, c.self.view_is) (shape_seekable c.args.shape c.args.key.now _ c.requires)
