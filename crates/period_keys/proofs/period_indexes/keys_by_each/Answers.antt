use Rattle.std.proofs.Common.{◌≡◌, ◌∙◌, ◌+◌, ◌++◌, ◌∷◌, [], ℕ, List, ap, arith, map, refl, sym, take}
use Rattle.std.proofs.lemmas.List.{map-append}
use Rattle.period_core.specs.declared.value.Value.{Value}
use Rattle.period_keys.specs.Keys.{key_values}
use Rattle.period_keys.specs.PeriodIndexes.{positions_by}
use Rattle.period_keys.specs.declared.period_indexes.PeriodIndex.{PeriodIndex}
use Rattle.temporal_model.proofs.ListSteps.{mapped_more}
use Rattle.period_keys.proofs.period_indexes.keys_by_each.Goals as goal

pub loop-index-preserved : goal.loop-index-preserved
loop-index-preserved c =
    let index : PeriodIndex = c.index-item.result in
    let keys : List ℕ → List (List Value) = λ positions. map (key_values positions) c.args.rows.now in
    let before : List (List ℕ) = map positions_by (take c.loop-index.index-index c.args.indexes.now) in
    let more : before ++ index.positions ∷ [] ≡ map positions_by (take (c.loop-index.index-index + 1) c.args.indexes.now) =
    mapped_more positions_by c.args.indexes.now c.loop-index.index-index index index.positions before (before ++ index.positions ∷ []) (omega arith) c.index-item.is refl refl refl in
    let own : c.from_vec.result ≡ keys index.positions = c.from_vec.ensures ∙ c.in_ok-own.ensures ∙ ap keys c.as_slice.ensures in
    c.in_ok-push.ensures.items ∙ ap (λ (list : List (List (List Value))). list ++ c.from_vec.result ∷ []) c.loop-index.invariant
    ∙ ap (λ (key : List (List Value)). map keys before ++ key ∷ []) own ∙ sym (map-append keys before (index.positions ∷ [])) ∙ ap (map keys) more
