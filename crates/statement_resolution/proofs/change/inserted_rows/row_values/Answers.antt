use Rattle.std.proofs.Common.{◌≡◌, ◌<◌, ◌++◌, ◌∷◌, ◌∙◌, ℕ, List, [], Option, Some, ap, arith, get_or, length, map, refl, sym, take}
use Rattle.std.specs.Prelude.{slice_get}
use Rattle.std.proofs.lemmas.List.{map-append, map_more}
use Rattle.std.proofs.lemmas.List.Elements.{All-get_or}
use Rattle.std.proofs.lemmas.Option.{slice_get_read}
use Rattle.period_core.specs.declared.value.Value.{Value}
use Rattle.statement_resolution.proofs.change.inserted_rows.row_values.Goals as goal

pub loop-position-preserved : goal.loop-position-preserved
loop-position-preserved c =
    let row = c.args.row.now in
    let ks : List ℕ = c.args.positions.now in
    let i : ℕ = c.loop-position.position-index in
    let k : ℕ = get_or ks i 0 in
    let value = c.in_ok-value.value in
    let get : ℕ → Option Value = λ j. slice_get row j in
    let some : Value → Option Value = λ x. Some x in
    let inside : k < length row = All-get_or (λ j. j < length row) ks i 0 c.loop-position-test.true c.requires in
    let read : get k ≡ Some value = slice_get_read row (length row) k c.index-row-position.result refl inside c.index-row-position.is ∙ ap some (sym c.in_ok-value.ensures) in
    record {
      room = omega arith;
      count = omega arith;
      values =
          map_more get ks i 0 c.loop-position-test.true
          ∙ ap (λ (o : Option Value). map get (take i ks) ++ o ∷ []) read
          ∙ ap (λ (os : List (Option Value)). os ++ Some value ∷ []) c.loop-position.invariant.values
          ∙ sym (map-append some c.loop-position.values.items (value ∷ []))
          ∙ sym (ap (map some) c.push_reserved.ensures.items);
    }
