use Rattle.std.proofs.Common.{◌≡◌, ◌++◌, ◌∷◌, [], ℕ, List, take, get_or, sym, ◌∙◌, ap, arith}
use Rattle.std.specs.List.{filter_map, slice_get}
use Rattle.std.proofs.lemmas.List.{take_more}
use Rattle.std.proofs.lemmas.List.Elements.{filter_map-append}
use Rattle.period_core.specs.declared.value.Value.{Value}
use Rattle.period_keys.proofs.keys.values_in.Goals as goal

pub loop-position-preserved : goal.loop-position-preserved
loop-position-preserved c =
    let positions : List ℕ = c.args.positions.now in
    let i : ℕ = c.loop-position.position-index in
    let x : ℕ = get_or positions i 0 in
    let values : List Value = c.args.values.now in
    let pushed : c.push_value_at.new.found.items ≡ c.loop-position.found.items ++ filter_map (slice_get values) (x ∷ []) =
    c.in_ok-push_value_at.ensures in
    pushed ∙ ap (λ found. found ++ filter_map (slice_get values) (x ∷ [])) c.loop-position.invariant
    ∙ sym (filter_map-append (slice_get values) (take i positions) (x ∷ []))
    ∙ ap (filter_map (slice_get values)) (sym (take_more positions i 0 (omega arith)))
