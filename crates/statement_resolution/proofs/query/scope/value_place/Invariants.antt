use Rattle.std.proofs.Common.{◌≡◌, ◌≤◌, drop}
use Rattle.std.specs.List.{position}
use Rattle.statement_resolution.proofs.lemmas.query.ValuePlaces.{place_from}
use Rattle.statement_resolution.specs.query.Places.{values_among}
use Rattle.statement_resolution.specs.query.Scopes.{has_value, names_column}
use Rattle.statement_resolution.proofs.query.scope.value_place.Given as goal

abbrev pub invariant-loop-seen : goal.invariant-loop-seen
invariant-loop-seen l = record {
  left : position (names_column l.reference) (values_among l.columns) ≡ place_from (names_column l.reference) has_value l.place (drop l.seen-index l.columns);
  within : l.place ≤ l.seen-index;
}
