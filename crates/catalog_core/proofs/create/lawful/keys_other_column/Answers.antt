use Rattle.std.proofs.Common.{◌&&◌, ◌∙◌, ℕ, Bool, List, ap, not, sym}
use Rattle.std.specs.List.{enumerate_from, list_any}
use Rattle.catalog_core.proofs.lemmas.table.Numbered.{any_numbered_end, any_numbered_found, any_numbered_more}
use Rattle.catalog_core.specs.create.PlacedTests.{is_keyed_place, keys_other_column}
use Rattle.catalog_core.specs.table.TableWords.{is_value_column}
use Rattle.catalog_core.specs.declared.table.Column.{Column}
use Rattle.catalog_core.proofs.create.lawful.keys_other_column.Goals as goal

pub returns-then-is_other_keyed : goal.returns-then-is_other_keyed
unfolding keys_other_column
returns-then-is_other_keyed c =
    let p : ℕ × Column → Bool = λ x. is_keyed_place c.args.definition.now x.0 && not (is_value_column c.args.definition.now x) in
    let found = any_numbered_found p c.as_slice-columns.result.now c.loop-i.i c.index-columns-i.result c.loop-i-test.true c.index-columns-i.is (sym c.is_other_keyed.ensures ∙ c.if-is_other_keyed.true) in
    sym (ap (λ (xs : List Column). list_any p (enumerate_from 0 xs)) (sym c.as_slice-columns.ensures) ∙ found)

pub loop-i-preserved : goal.loop-i-preserved
loop-i-preserved c =
    let p : ℕ × Column → Bool = λ x. is_keyed_place c.args.definition.now x.0 && not (is_value_column c.args.definition.now x) in
    any_numbered_more p c.as_slice-columns.result.now c.loop-i.i c.index-columns-i.result c.loop-i-test.true c.index-columns-i.is c.loop-i.invariant (sym c.is_other_keyed.ensures ∙ c.if-is_other_keyed.false)

pub returns : goal.returns
unfolding keys_other_column
returns c =
    let p : ℕ × Column → Bool = λ x. is_keyed_place c.args.definition.now x.0 && not (is_value_column c.args.definition.now x) in
    let none = any_numbered_end p c.as_slice-columns.result.now c.loop-i.i c.loop-i-test.false c.loop-i.invariant in
    sym (ap (λ (xs : List Column). list_any p (enumerate_from 0 xs)) (sym c.as_slice-columns.ensures) ∙ none)
