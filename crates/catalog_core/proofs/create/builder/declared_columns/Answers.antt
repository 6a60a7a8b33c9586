use Rattle.std.proofs.Common.{◌∙◌, Bool, ap}
use Rattle.std.specs.Prelude.{is_some}
use Rattle.std.specs.List.{list_any}
use Rattle.sql_statements.specs.declared.create.ColumnElement.{ColumnElement}
use Rattle.catalog_core.proofs.lemmas.judged.Sound.{fails_at}
use Rattle.catalog_core.specs.create.Creation.{has_bad_column, is_bad_type}
use Rattle.catalog_core.proofs.create.builder.declared_columns.Goals as goal

pub declared_column-requires : goal.declared_column-requires
unfolding has_bad_column
declared_column-requires c =
    let test : ColumnElement → Bool = λ x. is_bad_type x.kind (is_some x.generated) in
    fails_at test c.as_slice-element-items.result.now c.loop-element.element-index c.element-item.result c.loop-element-test.true c.element-item.is
    (ap (list_any test) c.as_slice-element-items.ensures ∙ c.requires)
