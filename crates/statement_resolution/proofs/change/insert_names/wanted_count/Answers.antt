use Rattle.std.proofs.Common.{◌∙◌, Bool, ap, count_by, filter, not, sym, take_all}
use Rattle.std.proofs.lemmas.List.{length-map}
use Rattle.std.proofs.lemmas.List.Sums.{length-filter}
use Rattle.statement_resolution.specs.change.Insertion.{wanted_names}
use Rattle.catalog_core.specs.table.TableWords.{is_system}
use Rattle.catalog_core.specs.declared.table.Column.{Column}
use Rattle.statement_resolution.proofs.change.insert_names.wanted_count.Goals as goal

pub returns : goal.returns
unfolding wanted_names
returns c =
    let p : Column → Bool = λ x. not (is_system x.kind) in
    let columns = c.args.table.now.columns in
    c.loop-x.invariant
    ∙ ap (count_by p) (take_all c.loop-x.x-index c.as_slice-x-items.result.now c.loop-x-test.false ∙ c.as_slice-x-items.ensures)
    ∙ sym (length-filter p columns)
    ∙ sym (length-map (filter p columns) (λ (x : Column). x.name))
