use Rattle.std.proofs.Common.{◌≡◌, ◌<◌, ◌++◌, ◌∷◌, ◌∙◌, ℕ, Bool, List, [], Option, Some, ap, filter, get_or, length, map, subst, sym}
use Rattle.std.specs.List.{enumerate_from}
use Rattle.std.proofs.lemmas.List.{map-append}
use Rattle.std.proofs.lemmas.Option.{none-some, slice_get-get_or}
use Rattle.statement_resolution.proofs.lemmas.change.GivenValues.{value_plain}
use Rattle.catalog_core.proofs.lemmas.table.Numbered.{kept_all, kept_before, kept_with, kept_without}
use Rattle.statement_resolution.specs.change.InsertPlaces.{position_for}
use Rattle.catalog_core.specs.table.TableWords.{is_value_column}
use Rattle.catalog_core.specs.declared.table.Column.{Column}
use Rattle.statement_resolution.proofs.change.row_positions.value_positions.Goals as goal
use Rattle.statement_resolution.proofs.change.row_positions.value_positions.Goals.{then-is_value_column+in-Some+in_ok-push, else-is_value_column}

pub unreachable-requires : goal.unreachable-requires
unreachable-requires c =
    let t = c.args.table.now in
    let i = c.loop-i.i in
    let x = c.index-columns-i.result in
    let here : i < length t.columns = subst (λ (ys : List Column). i < length ys) c.as_slice-columns.ensures c.loop-i-test.true in
    let item : x ≡ get_or t.columns i x = subst (λ (ys : List Column). x ≡ get_or ys i x) c.as_slice-columns.ensures c.index-columns-i.is in
    let there = slice_get-get_or t.columns i x here ∙ ap (λ (y : Column). Some y) (sym item) in
    let position = c.requires i x there (value_plain t i x (sym c.is_value_column.ensures ∙ c.if-is_value_column.true)) in
    none-some position.0 (sym c.in_default.is ∙ c.position_for.ensures ∙ position.1)

pub loop-i-preserved : goal.loop-i-preserved
loop-i-preserved c =
    let xs = c.as_slice-columns.result.now in
    let p : ℕ × Column → Bool = is_value_column c.args.table.now in
    let f : ℕ × Column → Option ℕ = λ column. position_for c.args.places.now column.0 in
    let some : ℕ → Option ℕ = λ k. Some k in
    elim c.if-is_value_column.branch [
      | then-is_value_column+in-Some+in_ok-push w ↦
          (let position = w.in-Some.position in
          let one : f (c.loop-i.i, c.index-columns-i.result) ≡ Some position = sym w.position_for.ensures ∙ w.in-Some.is in
          kept_with p f xs c.loop-i.i c.index-columns-i.result c.loop-i-test.true c.index-columns-i.is (sym c.is_value_column.ensures ∙ w.if-is_value_column.true)
          ∙ ap (λ (o : Option ℕ). kept_before p f xs c.loop-i.i ++ o ∷ []) one
          ∙ ap (λ (os : List (Option ℕ)). os ++ Some position ∷ []) c.loop-i.invariant
          ∙ sym (map-append some c.loop-i.positions.items (position ∷ []))
          ∙ sym (ap (map some) w.in_ok-push.ensures.items)
          ∙ sym (ap (map some) (ap (λ v. v.items) w.positions-is)))
      | else-is_value_column w ↦
          (kept_without p f xs c.loop-i.i c.index-columns-i.result c.loop-i-test.true c.index-columns-i.is (sym c.is_value_column.ensures ∙ w.if-is_value_column.false)
          ∙ c.loop-i.invariant ∙ sym (ap (map some) (ap (λ v. v.items) w.positions-is)))
    ]

pub returns : goal.returns
returns c =
    let p : ℕ × Column → Bool = is_value_column c.args.table.now in
    let f : ℕ × Column → Option ℕ = λ column. position_for c.args.places.now column.0 in
    ap (λ (ys : List Column). map f (filter p (enumerate_from 0 ys))) (sym c.as_slice-columns.ensures)
    ∙ sym (kept_all p f c.as_slice-columns.result.now c.loop-i.i c.loop-i-test.false) ∙ c.loop-i.invariant
