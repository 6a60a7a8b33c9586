use Rattle.std.proofs.Common.{◌∙◌, sym}
use Rattle.catalog_core.proofs.lemmas.create.Given.{passed_if_lawful}
use Rattle.catalog_core.proofs.lemmas.create.Lawful.{lawful_if_passed}
use Rattle.catalog_core.proofs.lemmas.create.Passed.{all_passed, date_period, distinct_names, has_room}
use Rattle.catalog_core.proofs.create.lawful.lawful.Goals as goal

pub returns-clause-given : goal.returns-clause-given
returns-clause-given c =
    let tables = c.args.catalog.now.tables in
    let d = c.args.definition.now in (
      λ passed. lawful_if_passed tables d c.args.catalog.now.distinct (sym c.passes_all.ensures ∙ passed),
      λ given. c.passes_all.ensures ∙ passed_if_lawful tables d given,
    )

pub returns-clause-room : goal.returns-clause-room
returns-clause-room c = λ passed. has_room c.args.catalog.now.tables c.args.definition.now (all_passed c.args.catalog.now.tables c.args.definition.now (sym c.passes_all.ensures ∙ passed)).limits

pub returns-clause-dated : goal.returns-clause-dated
returns-clause-dated c = λ passed.
    let tests = all_passed c.args.catalog.now.tables c.args.definition.now (sym c.passes_all.ensures ∙ passed) in
    date_period c.args.definition.now (distinct_names c.args.definition.now tests.once) tests.dates

pub returns-clause-distinct : goal.returns-clause-distinct
returns-clause-distinct c = λ passed.
    distinct_names c.args.definition.now (all_passed c.args.catalog.now.tables c.args.definition.now (sym c.passes_all.ensures ∙ passed)).once
