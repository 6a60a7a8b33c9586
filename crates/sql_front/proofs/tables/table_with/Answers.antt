use Rattle.std.proofs.Common.{◌≡◌, ◌<◌, ap, sym, ◌∙◌, arith, length, map, rules, subst}
use Rattle.std.proofs.lemmas.Iterator.Adapters.{YieldsList-from_vec}
use Rattle.std.proofs.lemmas.Iterator.Consumers.{YieldsList-end}
use Rattle.std.proofs.lemmas.List.{length-map}
use Rattle.sql_statements.specs.declared.create.CreateTable.{CreateTable}
use Rattle.sql_statements.specs.Elements.{HasElement}
use Rattle.sql_front.specs.PlainElements.{plain_element, with_element}
use Rattle.sql_front.proofs.TableElements.{element_added, has_element}
use Rattle.sql_front.proofs.tables.table_with.Goals as goal

pub loop-element-preserved : goal.loop-element-preserved
loop-element-preserved c =
    let one = plain_element c.in-Some.element in
    let added : c.add_element.new.table ≡ with_element c.loop-element.table one = search rules in
    let before = ap (λ (t : CreateTable). with_element t one) c.loop-element.invariant in
    added ∙ before ∙ element_added c.args.name c.loop-element.yielded c.in-Some.element

pub new-requires : goal.new-requires
new-requires c =
    let given = YieldsList-from_vec {s = c.into_iter-element-iterator.result} c.args.elements.items (search rules) (search rules) in
    let all = YieldsList-end given c.loop-element.yielded c.loop-element.element-iterator c.loop-element.yielded_by c.next.result c.next.new.self c.in-None.is c.next.ensures.steps in
    let filled : 0 < length (map plain_element c.loop-element.yielded) = omega (arith, length-map c.loop-element.yielded plain_element, all.1, c.requires) in
    subst HasElement (sym c.loop-element.invariant) (has_element c.args.name (map plain_element c.loop-element.yielded) filled)
