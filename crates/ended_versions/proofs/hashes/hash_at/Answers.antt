use Rattle.std.proofs.Common.{◌∷◌, [], ◌∙◌, ℕ, List, ap, get_or, sym, take}
use Rattle.std.specs.List.{filter_map, slice_get}
use Rattle.std.proofs.lemmas.List.{take_more}
use Rattle.std.proofs.lemmas.List.Concat.{flat_map-append}
use Rattle.std.proofs.lemmas.List.Elements.{filter_map-append}
use Rattle.std.proofs.lemmas.List.Sums.{fold-append}
use Rattle.period_core.specs.Encoding.{encoded, encoded_value}
use Rattle.period_core.specs.declared.value.Value.{Value}
use Rattle.ended_versions.specs.Hashes.{hash_byte, hash_bytes, hash_of}
use Rattle.ended_versions.proofs.hashes.hash_at.Goals as goal

pub loop-position-preserved : goal.loop-position-preserved
loop-position-preserved c =
    let positions : List ℕ = c.args.positions.now in
    let i : ℕ = c.loop-position.position-index in
    let x : ℕ = get_or positions i 0 in
    let values : List Value = c.args.values.now in
    let before : List Value = filter_map (slice_get values) (take i positions) in
    let one : List Value = filter_map (slice_get values) (x ∷ []) in
    c.in_ok-hash.ensures
    ∙ (ap (λ (h : ℕ). hash_bytes h (encoded one)) c.loop-position.invariant
    ∙ (sym (fold-append hash_byte 0 (encoded before) (encoded one))
    ∙ (ap (hash_bytes 0) (sym (flat_map-append encoded_value before one))
    ∙ ap hash_of (sym (filter_map-append (slice_get values) (take i positions) (x ∷ [])) ∙ ap (filter_map (slice_get values)) (sym (take_more positions i 0 c.loop-position-test.true))))))
