use Rattle.std.proofs.Common.{◌≡◌, ◌∙◌, List, subst, sym, true}
use Rattle.std.proofs.lemmas.Bool.{false≢true}
use Rattle.catalog_core.specs.query.Fitting.{fits}
use Rattle.catalog_core.specs.query.Queries.{plain_query}
use Rattle.catalog_core.specs.declared.table.TableDef.{TableDef}
use Rattle.history_model.specs.OrdinaryQuery.{InAnswerOn, InAnswerOver}
use Rattle.script_engine.specs.engine.Answering.{IsOfCatalog}
use Rattle.script_engine.proofs.Answering.{answer_along}
use Rattle.script_engine.proofs.Needed.{needed_alike, needed_fits}
use Rattle.script_engine.proofs.engine.needed.answer_query.Goals as goal

pub returns-clause-right : goal.returns-clause-right
returns-clause-right c history kept known =
    let query = plain_query c.args.query.now in
    let fit : fits query c.in_ok-needed.needed ≡ true = sym c.fits.ensures ∙ c.if-not-fits.false in
    answer_along (InAnswerOver query c.in_ok-needed.needed) (InAnswerOn history query) (needed_alike history query c.in_ok-needed.needed fit (c.in_ok-needed.ensures.needed history kept known.known))
    c.in_ok-answer.answer c.in_ok-answer.ensures.right

-- over a store that holds a history what is needed always fits
pub returns-then-not-fits-clause-why : goal.returns-then-not-fits-clause-why
returns-then-not-fits-clause-why c history kept known =
    let query = plain_query c.args.query.now in
    let its : IsOfCatalog kept.contents.tables query = subst (λ (ts : List TableDef). IsOfCatalog ts query) (sym kept.said.tables) known in
    let fit : fits query c.in_ok-needed.needed ≡ true = needed_fits history kept.contents query c.in_ok-needed.needed kept.said its (c.in_ok-needed.ensures.needed history kept known.known) in
    absurd (false≢true (sym c.if-not-fits.true ∙ c.fits.ensures ∙ fit))
