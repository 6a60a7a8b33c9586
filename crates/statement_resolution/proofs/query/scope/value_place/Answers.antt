use Rattle.std.proofs.Common.{◌+◌, ◌∙◌, ap, arith, drop, sym}
use Rattle.std.specs.List.{position}
use Rattle.statement_resolution.proofs.lemmas.query.ValuePlaces.{place_from, place_begun, place_found, place_more, place_none, place_passed}
use Rattle.statement_resolution.specs.query.Places.{values_among}
use Rattle.statement_resolution.specs.query.Scopes.{has_value, names_column}
use Rattle.statement_resolution.proofs.query.scope.value_place.Goals as goal
use Rattle.statement_resolution.proofs.query.scope.value_place.Goals.{then-has_value+else-is_named, else-has_value}

pub loop-seen-init : goal.loop-seen-init
loop-seen-init c = record {
  left = place_begun (names_column c.args.reference.now) has_value c.args.columns.now;
  within = omega arith;
}

pub returns-then-is_named : goal.returns-then-is_named
returns-then-is_named c =
    let p = names_column c.args.reference.now in
    record {
      value = place_found p has_value c.args.columns.now c.loop-seen.seen-index c.seen-item.result c.loop-seen.place (position p (values_among c.args.columns.now)) c.loop-seen-test.true c.seen-item.is
          (sym c.has_value.ensures ∙ c.if-has_value.true) (sym c.is_named.ensures ∙ c.if-is_named.true) c.loop-seen.invariant.left;
      within = omega (arith, c.loop-seen.invariant.within);
    }

pub loop-seen-preserved : goal.loop-seen-preserved
loop-seen-preserved c =
    let p = names_column c.args.reference.now in
    let xs = c.args.columns.now in
    let i = c.loop-seen.seen-index in
    elim c.if-has_value.branch [
      | then-has_value+else-is_named w ↦ record {
        left = place_more p has_value xs i c.seen-item.result c.loop-seen.place (position p (values_among xs)) c.loop-seen-test.true c.seen-item.is
            (sym c.has_value.ensures ∙ w.if-has_value.true) (sym w.is_named.ensures ∙ w.if-is_named.false) c.loop-seen.invariant.left
            ∙ ap (λ n. place_from p has_value n (drop (i + 1) xs)) (sym w.place-is);
        within = omega (arith, w.place-is, c.loop-seen.invariant.within);
      }
      | else-has_value w ↦ record {
        left = place_passed p has_value xs i c.seen-item.result c.loop-seen.place (position p (values_among xs)) c.loop-seen-test.true c.seen-item.is
            (sym c.has_value.ensures ∙ w.if-has_value.false) c.loop-seen.invariant.left
            ∙ ap (λ n. place_from p has_value n (drop (i + 1) xs)) (sym w.place-is);
        within = omega (arith, w.place-is, c.loop-seen.invariant.within);
      }
    ]

pub returns : goal.returns
returns c =
    let p = names_column c.args.reference.now in
    record {
      value = place_none p has_value c.args.columns.now c.loop-seen.seen-index c.loop-seen.place (position p (values_among c.args.columns.now)) c.loop-seen-test.false c.loop-seen.invariant.left;
      within = tt;
    }
