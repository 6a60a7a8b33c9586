use Rattle.std.proofs.Common.{◌∙◌, Bool, ap}
use Rattle.std.specs.Prelude.{is_none}
use Rattle.std.specs.List.{list_any}
use Rattle.sql_statements.specs.declared.create.ReferenceElement.{ReferenceElement}
use Rattle.catalog_core.proofs.lemmas.create.Shape.{all_match}
use Rattle.catalog_core.proofs.lemmas.judged.Sound.{fails_at}
use Rattle.catalog_core.specs.create.Creation.{lacks_parent, some_own_match, some_parent_match}
use Rattle.catalog_core.specs.create.Definition.{parent_of}
use Rattle.catalog_core.specs.declared.table.match_counts.MatchCount.TheVariants.{Zero}
use Rattle.catalog_core.proofs.create.builder.declared_references.Goals as goal

pub declared_reference-requires-clause-there : goal.declared_reference-requires-clause-there
unfolding lacks_parent
declared_reference-requires-clause-there c =
    let test : ReferenceElement → Bool = λ x. is_none (parent_of c.args.catalog.now.tables x) in
    fails_at test c.as_slice-element-items.result.now c.loop-element.element-index c.element-item.result c.loop-element-test.true c.element-item.is
    (ap (list_any test) c.as_slice-element-items.ensures ∙ c.requires.there)

pub declared_reference-requires-clause-own : goal.declared_reference-requires-clause-own
declared_reference-requires-clause-own c =
    let test : ReferenceElement → Bool = λ x. some_own_match c.args.create.now Zero x.columns in
    fails_at test c.as_slice-element-items.result.now c.loop-element.element-index c.element-item.result c.loop-element-test.true c.element-item.is
    (ap (list_any test) c.as_slice-element-items.ensures ∙ (all_match c.args.catalog.now.tables c.args.create.now c.requires.names).references)

pub declared_reference-requires-clause-keys : goal.declared_reference-requires-clause-keys
declared_reference-requires-clause-keys c =
    let test : ReferenceElement → Bool = λ x. some_parent_match c.args.catalog.now.tables Zero x in
    fails_at test c.as_slice-element-items.result.now c.loop-element.element-index c.element-item.result c.loop-element-test.true c.element-item.is
    (ap (list_any test) c.as_slice-element-items.ensures ∙ (all_match c.args.catalog.now.tables c.args.create.now c.requires.names).parents)
