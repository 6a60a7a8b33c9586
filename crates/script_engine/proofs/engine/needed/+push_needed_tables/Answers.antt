use Rattle.std.proofs.Common.{◌≡◌, ◌∙◌, List, ap, ap₂, subst, sym}
use Rattle.std.specs.List.{AllByRecursion}
use Rattle.std.specs.Prelude.{OnOk, Result, Ok, Err}
use Rattle.sql_statements.specs.declared.tree.Tree.{Tree}
use Rattle.catalog_core.specs.declared.condition.CompareValues.{CompareValues}
use Rattle.catalog_core.specs.declared.query.resolved.Query as code
use Rattle.catalog_core.specs.declared.query.resolved.QueryReference.{QueryReference}
use Rattle.catalog_core.specs.query.Queries.{Query, both, plain_query, references_of}
use Rattle.history_model.specs.Histories.{catalog_of}
use Rattle.script_engine.specs.engine.Answering.{IsKnown}
use Rattle.script_engine.specs.engine.Needed.{AddNeeded, AreNeeded, IsNeededBy}
use Rattle.script_engine.specs.engine.Stored.{TablesRepresent}
use Rattle.script_engine.proofs.Needed.{added_both, known_sides}
use Rattle.script_engine.proofs.engine.needed.+push_needed_tables.Goals as goal

on_ok : {X E : Type 0} (r : Result X E) (P Q : Type 0) → (P → Q) → OnOk r P → OnOk r Q
on_ok (Ok x) P Q more h = more h
on_ok (Err e) P Q more h = h

pub returns-in-Select-clause-needed : goal.returns-in-Select-clause-needed
returns-in-Select-clause-needed t c history represents known =
    let old = c.args.lists.now.items in
    let new = c.push_needed_by_each.new.lists.items in
    let select = c.in-Select.select in
    let of : references_of (plain_query c.args.query.now) ≡ c.as_slice-references.result.now = ap (λ (q : code.Query). references_of (plain_query q)) c.in-Select.is ∙ sym c.as_slice-references.ensures.value in
    let each : AllByRecursion (IsKnown (catalog_of history)) c.as_slice-references.result.now = subst (AllByRecursion (IsKnown (catalog_of history))) of known in
    subst (λ (q : code.Query). OnOk c.push_needed_by_each.result (AddNeeded (IsNeededBy history (plain_query q)) old new)) (sym c.in-Select.is)
    (subst (λ (cs : List (Tree CompareValues)). OnOk c.push_needed_by_each.result (AddNeeded (AreNeeded history cs select.references) old new)) c.as_slice-conjuncts.ensures
    (subst (λ (rs : List QueryReference). OnOk c.push_needed_by_each.result (AddNeeded (AreNeeded history c.as_slice-conjuncts.result.now rs) old new)) c.as_slice-references.ensures.value
    (c.push_needed_by_each.ensures.needed history represents each)))

pub returns-in_ok-push_needed_tables-in-Combined-clause-needed : goal.returns-in_ok-push_needed_tables-in-Combined-clause-needed
returns-in_ok-push_needed_tables-in-Combined-clause-needed t c history represents known =
    let old = c.args.lists.now.items in
    let left : Query = plain_query c.deref.result.now in
    let right : Query = plain_query c.deref-in-Combined.result.now in
    let new = c.push_needed_tables-in-Combined.new.lists.items in
    let same : both c.in-Combined.field-0 left right ≡ plain_query c.args.query.now =
    ap₂ (λ (a b : Query). both c.in-Combined.field-0 a b) (ap plain_query c.deref.ensures) (ap plain_query c.deref-in-Combined.ensures) ∙ ap plain_query (sym c.in-Combined.is) in
    let sides = known_sides (catalog_of history) (references_of left) (references_of right) (subst (λ (q : Query). AllByRecursion (IsKnown (catalog_of history)) (references_of q)) (sym same) known) in
    let first = c.in_ok-push_needed_tables-in-Combined.ensures.needed history represents sides.0 in
    on_ok c.push_needed_tables-in-Combined.result (AddNeeded (IsNeededBy history right) c.push_needed_tables.new.lists.items new) (AddNeeded (IsNeededBy history (plain_query c.args.query.now)) old new)
    (λ second. subst (λ (q : Query). AddNeeded (IsNeededBy history q) old new) same (added_both history c.in-Combined.field-0 left right old c.push_needed_tables.new.lists.items new first second))
    (c.push_needed_tables-in-Combined.ensures.needed history (subst (TablesRepresent history) (sym c.push_needed_tables.ensures.same) represents) sides.1)
