use Rattle.std.proofs.Common.{arith}
use Rattle.period_keys.proofs.EqualPlaces.{added_all, added_more, added_none, added_same}
use Rattle.period_keys.proofs.fixed_keys.push_equals.Goals as goal
use Rattle.period_keys.proofs.fixed_keys.push_equals.Goals.{in-Some+in_ok-push_once, in_default}

pub loop-condition-init : goal.loop-condition-init
loop-condition-init c = added_none c.args.conditions.now c.args.known c.args.places.now.items

pub loop-condition-preserved : goal.loop-condition-preserved
loop-condition-preserved c =
    let conditions = c.args.conditions.now in
    let old = c.args.places.now.items in
    elim c.match-place_equated.branch [
      | in-Some+in_ok-push_once w ↦ rw w.places-is (
          added_more conditions c.args.known c.loop-condition.condition-index c.condition-item.result w.in-Some.other old c.loop-condition.places.items w.push_once.new.places.items
          c.loop-condition-test.true c.condition-item.is w.in-Some.ensures w.in_ok-push_once.ensures c.loop-condition.invariant
          )
      | in_default w ↦ rw w.places-is (
          added_same conditions c.args.known c.loop-condition.condition-index c.condition-item.result old c.loop-condition.places.items
          c.loop-condition-test.true c.condition-item.is w.in_default.ensures c.loop-condition.invariant
          )
    ]

pub returns-clause-kept : goal.returns-clause-kept
returns-clause-kept c = (c.loop-condition.invariant.added, c.loop-condition.invariant.kept)

pub returns-clause-found : goal.returns-clause-found
returns-clause-found c = added_all c.args.conditions.now c.args.known c.loop-condition.condition-index c.args.places.now.items c.loop-condition.places.items (omega (arith, c.loop-condition-test.false)) c.loop-condition.invariant

pub returns-clause-only : goal.returns-clause-only
returns-clause-only c = c.loop-condition.invariant.only

pub returns-clause-few : goal.returns-clause-few
returns-clause-few c = c.loop-condition.invariant.few
