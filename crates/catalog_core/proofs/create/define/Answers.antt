use Rattle.std.proofs.Common.{◌∙◌, inl, sym}
use Rattle.period_core.specs.declared.refusal.Refusal.TheVariants.{BadDefinition}
use Rattle.catalog_core.proofs.lemmas.create.Declared.{columns_same}
use Rattle.catalog_core.proofs.lemmas.create.Fault.{bad_type_first, dated_defined, defines_built, distinct_defined, named_least, names_found, none_least, placed_least, whole, whole_references}
use Rattle.catalog_core.proofs.lemmas.create.Shape.{all_match}
use Rattle.catalog_core.proofs.create.define.Goals as goal

pub returns-in-Some-clause-refused : goal.returns-in-Some-clause-refused
returns-in-Some-clause-refused c = inl (named_least c.args.catalog.now.tables c.args.create.now c.in-Some.fault (sym c.in_ok-fault.ensures ∙ c.in-Some.is))

pub returns-then-has_bad_column-clause-refused : goal.returns-then-has_bad_column-clause-refused
returns-then-has_bad_column-clause-refused c =
    inl (placed_least c.args.catalog.now.tables c.args.create.now BadDefinition (sym c.in_ok-fault.ensures ∙ c.in_default.is)
    (bad_type_first c.args.catalog.now.tables c.args.create.now (sym c.has_bad_column.ensures ∙ c.if-has_bad_column.true)))

pub declared_references-requires-clause-names : goal.declared_references-requires-clause-names
declared_references-requires-clause-names c = (names_found c.args.catalog.now.tables c.args.create.now (sym c.in_ok-fault.ensures ∙ c.in_default.is)).names

pub placed_fault-requires-clause-columns : goal.placed_fault-requires-clause-columns
placed_fault-requires-clause-columns c = c.deref.ensures.value ∙ sym (columns_same c.args.create.now.columns c.in_ok-columns.columns.items c.in_ok-columns.ensures)

pub returns-in-Some-placed_fault-clause-refused : goal.returns-in-Some-placed_fault-clause-refused
returns-in-Some-placed_fault-clause-refused c =
    inl (placed_least c.args.catalog.now.tables c.args.create.now c.in-Some-placed_fault.fault (sym c.in_ok-fault.ensures ∙ c.in_default.is) (sym c.placed_fault.ensures ∙ c.in-Some-placed_fault.is))

pub build-requires-clause-period : goal.build-requires-clause-period
build-requires-clause-period c = (whole c.args.catalog.now.tables c.args.create.now (sym c.placed_fault.ensures ∙ c.in_default-placed_fault.is)).period

pub build-requires-clause-key : goal.build-requires-clause-key
build-requires-clause-key c = (whole c.args.catalog.now.tables c.args.create.now (sym c.placed_fault.ensures ∙ c.in_default-placed_fault.is)).key

pub build-requires-clause-sides : goal.build-requires-clause-sides
build-requires-clause-sides c =
    let tables = c.args.catalog.now.tables in
    (all_match tables c.args.create.now (names_found tables c.args.create.now (sym c.in_ok-fault.ensures ∙ c.in_default.is)).names).periods

pub build-requires-clause-keys : goal.build-requires-clause-keys
build-requires-clause-keys c =
    let tables = c.args.catalog.now.tables in
    (all_match tables c.args.create.now (names_found tables c.args.create.now (sym c.in_ok-fault.ensures ∙ c.in_default.is)).names).keys

pub build-requires-clause-references : goal.build-requires-clause-references
build-requires-clause-references c =
    let tables = c.args.catalog.now.tables in
    whole_references tables c.args.create.now c.in_ok-references.references.items (whole tables c.args.create.now (sym c.placed_fault.ensures ∙ c.in_default-placed_fault.is)).equal
    c.in_ok-references.ensures.value c.in_ok-references.ensures.kept

pub returns-clause-sound : goal.returns-clause-sound
returns-clause-sound c = none_least c.args.catalog.now.tables c.args.create.now (sym c.in_ok-fault.ensures ∙ c.in_default.is) (sym c.placed_fault.ensures ∙ c.in_default-placed_fault.is)

pub returns-clause-dated : goal.returns-clause-dated
returns-clause-dated c =
    let tables = c.args.catalog.now.tables in
    let built = c.in_ok-build.ensures in
    dated_defined tables c.args.create.now c.in_ok-build.field-0 (sym c.in_ok-fault.ensures ∙ c.in_default.is) (sym c.placed_fault.ensures ∙ c.in_default-placed_fault.is)
    (defines_built tables c.args.create.now c.in_ok-build.field-0 c.in_ok-columns.columns.items c.in_ok-references.references.items built.name built.columns built.period built.key built.references c.in_ok-columns.ensures c.in_ok-references.ensures.value)

pub returns-clause-distinct : goal.returns-clause-distinct
returns-clause-distinct c =
    let tables = c.args.catalog.now.tables in
    let built = c.in_ok-build.ensures in
    distinct_defined tables c.args.create.now c.in_ok-build.field-0 (sym c.in_ok-fault.ensures ∙ c.in_default.is)
    (defines_built tables c.args.create.now c.in_ok-build.field-0 c.in_ok-columns.columns.items c.in_ok-references.references.items built.name built.columns built.period built.key built.references c.in_ok-columns.ensures c.in_ok-references.ensures.value)
