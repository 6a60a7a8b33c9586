use Rattle.std.proofs.Common.{◌≡◌, map, take}
use Rattle.statement_resolution.specs.Faults.{either, faults_among}
use Rattle.statement_resolution.specs.query.Faults.{item_faults, item_kinds}
use Rattle.statement_resolution.specs.query.Places.{place_among, placed_item}
use Rattle.catalog_core.specs.query.Selection.{item_parts}
use Rattle.statement_resolution.proofs.query.conversion.convert_items.Given as goal

abbrev pub invariant-loop-item : goal.invariant-loop-item
invariant-loop-item l = record {
  numbered : map (placed_item (place_among l.scope.before.now l.scope.seen.now)) (take l.item-index l.items) ≡ map item_parts l.numbered.items;
  kinds : l.kinds.items ≡ item_kinds l.scope.seen.now (take l.item-index l.items);
  faults : l.faults ≡ either l.fn.faults (faults_among (item_faults l.scope.seen.now) (take l.item-index l.items));
}
