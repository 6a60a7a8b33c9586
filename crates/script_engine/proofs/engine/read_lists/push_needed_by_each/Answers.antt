use Rattle.std.proofs.Common.{◌≡◌, ◌++◌, ◌∙◌, List, None, Option, Some, ap, length, map, subst, sym}
use Rattle.std.specs.Prelude.{Err, Ok, OnOk, Result}
use Rattle.std.proofs.lemmas.List.{length-map}
use Rattle.catalog_core.specs.declared.query.resolved.QueryReference.{QueryReference}
use Rattle.period_core.specs.declared.row.PeriodRow.{PeriodRow}
use Rattle.script_engine.specs.engine.Needed.{AddNeeded, AreNeeded, AreRead, AreReadBelow, starts_from}
use Rattle.script_engine.proofs.Needed.{all_are_read, none_are_read, starts_as_many}
use Rattle.script_engine.proofs.engine.read_lists.push_needed_by_each.Goals as goal

on_ok : {X E : Type 0} (r : Result X E) (P Q : Type 0) → (P → Q) → OnOk r P → OnOk r Q
on_ok (Ok x) P Q more h = more h
on_ok (Err e) P Q more h = h

pub read_each-requires : goal.read_each-requires
read_each-requires c =
    let references : List QueryReference = c.args.references.now in
    let starts_are : c.as_slice.result.now ≡ starts_from 0 references = c.as_slice.ensures.value ∙ c.in_ok-starts.ensures in
    (starts_as_many c.as_slice.result.now references starts_are, ap length c.in_ok-read.ensures ∙ length-map references (λ (reference : QueryReference). None))

pub push_read-requires : goal.push_read-requires
push_read-requires c =
    let references : List QueryReference = c.args.references.now in
    let read : List (Option (List PeriodRow)) = c.read_each.new.lists.items in
    let long : length read ≡ length references = c.in_ok-read_each.ensures.read.count ∙ (ap length c.in_ok-read.ensures ∙ length-map references (λ (reference : QueryReference). None)) in
    subst (AreReadBelow read) (sym long) c.in_ok-read_each.ensures.all

pub returns-clause-needed : goal.returns-clause-needed
returns-clause-needed c = λ history represents known.
    let conjuncts = c.args.conjuncts.now in
    let references = c.args.references.now in
    let old : List (List PeriodRow) = c.args.lists.now.items in
    let new : List (List PeriodRow) = c.push_read.new.lists.items in
    let read : List (Option (List PeriodRow)) = c.read_each.new.lists.items in
    let starts_are : c.as_slice.result.now ≡ starts_from 0 references = c.as_slice.ensures.value ∙ c.in_ok-starts.ensures in
    let none : AreRead history conjuncts references c.in_ok-read.read.items = subst (AreRead history conjuncts references) (sym c.in_ok-read.ensures) (none_are_read history conjuncts references) in
    let all : AreRead history conjuncts references read = c.in_ok-read_each.ensures.read.needed history represents known starts_are none in
    on_ok c.push_read.result ((added : List (List PeriodRow)) × (read ≡ map Some added) × (new ≡ old ++ added)) (AddNeeded (AreNeeded history conjuncts references) old new)
    (λ (added, is, made). (added, made, all_are_read history conjuncts references added (subst (AreRead history conjuncts references) is all)))
    c.push_read.ensures
