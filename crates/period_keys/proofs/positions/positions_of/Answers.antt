use Rattle.std.proofs.Common.{◌≡◌, ◌∙◌, ◌++◌, ◌∷◌, [], ℕ, List, Option, get_or, ap, sym, arith}
use Rattle.std.specs.List.{filter_map}
use Rattle.std.proofs.lemmas.List.{take_all}
use Rattle.period_keys.specs.Positions.{value_position_of}
use Rattle.period_keys.proofs.Places.{position_with, position_without}
use Rattle.period_keys.proofs.positions.positions_of.Goals as goal
use Rattle.period_keys.proofs.positions.positions_of.Goals.{in-Some+in_ok-push, in_default}

pub loop-place-preserved : goal.loop-place-preserved
loop-place-preserved c =
    let places : List ℕ = c.args.places.now in
    let i : ℕ = c.loop-place.place-index in
    let f : ℕ → Option ℕ = value_position_of c.args.def.now in
    let gives : f (get_or places i 0) ≡ c.value_position_of.result = sym c.value_position_of.ensures in
    elim c.match-value_position_of.branch [
      | in-Some+in_ok-push w ↦
          (let more = position_with f places i w.in-Some.position (omega arith) (gives ∙ w.in-Some.is) in
          ap (λ (v : _). v.items) w.positions-is ∙ w.in_ok-push.ensures.items ∙ ap (λ ns. ns ++ w.in-Some.position ∷ []) c.loop-place.invariant ∙ sym more)
      | in_default w ↦
          ap (λ (v : _). v.items) w.positions-is ∙ c.loop-place.invariant ∙ sym (position_without f places i (omega arith) (gives ∙ w.in_default.is))
    ]

pub returns : goal.returns
returns c = c.loop-place.invariant ∙ ap (filter_map (value_position_of c.args.def.now)) (take_all c.loop-place.place-index c.args.places.now c.loop-place-test.false)
