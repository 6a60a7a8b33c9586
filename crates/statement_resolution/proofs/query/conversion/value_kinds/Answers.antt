use Rattle.std.proofs.Common.{◌∙◌, ◌++◌, ◌∷◌, ℕ, List, [], ap, filter, map, sym}
use Rattle.std.specs.List.{enumerate_from}
use Rattle.catalog_core.proofs.lemmas.table.Numbered.{kept_all, kept_before, kept_with, kept_without}
use Rattle.catalog_core.specs.table.Kinds.{kind_of_column}
use Rattle.catalog_core.specs.table.TableWords.{is_value_column}
use Rattle.catalog_core.specs.declared.table.Column.{Column}
use Rattle.catalog_core.specs.declared.table.ValueKind.{ValueKind}
use Rattle.statement_resolution.proofs.query.conversion.value_kinds.Goals as goal
use Rattle.statement_resolution.proofs.query.conversion.value_kinds.Goals.{then-is_value_column+in_ok-push, else-is_value_column}

pub loop-i-preserved : goal.loop-i-preserved
loop-i-preserved c =
    let p = is_value_column c.args.table.now in
    let f : ℕ × Column → ValueKind = λ x. kind_of_column x.1.kind in
    let xs = c.as_slice-columns.result.now in
    let x = c.index-columns-i.result in
    elim c.if-is_value_column.branch [
      | then-is_value_column+in_ok-push w ↦
          ap (λ v. v.items) w.kinds-is ∙ w.in_ok-push.ensures.items
          ∙ ap (λ (ks : List ValueKind). ks ++ w.kind_of_column.result ∷ []) c.loop-i.invariant
          ∙ ap (λ (k : ValueKind). kept_before p f xs c.loop-i.i ++ k ∷ []) w.kind_of_column.ensures
          ∙ sym (kept_with p f xs c.loop-i.i x c.loop-i-test.true c.index-columns-i.is (sym c.is_value_column.ensures ∙ w.if-is_value_column.true))
      | else-is_value_column w ↦
          ap (λ v. v.items) w.kinds-is ∙ c.loop-i.invariant
          ∙ sym (kept_without p f xs c.loop-i.i x c.loop-i-test.true c.index-columns-i.is (sym c.is_value_column.ensures ∙ w.if-is_value_column.false))
    ]

pub returns : goal.returns
returns c =
    let p = is_value_column c.args.table.now in
    let f : ℕ × Column → ValueKind = λ x. kind_of_column x.1.kind in
    c.loop-i.invariant ∙ kept_all p f c.as_slice-columns.result.now c.loop-i.i c.loop-i-test.false
    ∙ ap (λ (xs : List Column). map f (filter p (enumerate_from 0 xs))) c.as_slice-columns.ensures
