use Rattle.std.proofs.Common.{◌++◌, ◌∷◌, ◌∙◌, [], List, None, Option, ap, get_or, map, sym, take}
use Rattle.std.proofs.lemmas.List.{map-append, take_all, take_more}
use Rattle.catalog_core.specs.declared.query.resolved.QueryReference.{QueryReference}
use Rattle.period_core.specs.declared.row.PeriodRow.{PeriodRow}
use Rattle.script_engine.proofs.engine.read_lists.none_read.Goals as goal

pub loop-reference-init : goal.loop-reference-init
loop-reference-init c = record { none = c.new-lists.ensures.items }

pub loop-reference-preserved : goal.loop-reference-preserved
loop-reference-preserved c =
    let references : List QueryReference = c.args.references.now in
    let place = c.loop-reference._reference-index in
    let reference : QueryReference = c._reference-item.result in
    let list : QueryReference → Option (List PeriodRow) = λ r. None in
    record {
      none = c.in_ok-push.ensures.items ∙ ap (λ (l : List (Option (List PeriodRow))). l ++ None ∷ []) c.loop-reference.invariant.none
          ∙ sym (map-append list (take place references) (get_or references place reference ∷ [])) ∙ ap (map list) (sym (take_more references place reference c.loop-reference-test.true));
    }

pub returns : goal.returns
returns c = c.loop-reference.invariant.none ∙ ap (map (λ (reference : QueryReference). None)) (take_all c.loop-reference._reference-index c.args.references.now c.loop-reference-test.false)
