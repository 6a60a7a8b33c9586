use Rattle.std.proofs.Common.{◌≡◌, ◌↔◌, ◌⊎◌, ◌+◌, ◌-◌, ◌++◌, ◌∷◌, [], List, Bor, length, take, drop, false, refl, sym, ◌∙◌, ap, subst, arith}
use Rattle.std.specs.List.{Contains}
use Rattle.std.proofs.lemmas.List.{nil_from_length, take_more, take_all}
use Rattle.std.proofs.lemmas.Result.{on_ok_weaker}
use Rattle.period_core.specs.declared.row.PeriodRow.{PeriodRow}
use Rattle.period_core.specs.declared.value.Value.{Value}
use Rattle.catalog_core.specs.declared.query.resolved.QueryReference.{QueryReference}
use Rattle.sql_statements.specs.declared.tree.Tree.{Tree}
use Rattle.catalog_core.specs.declared.condition.CompareValues.{CompareValues}
use Rattle.history_model.specs.OrdinaryQuery.{meets_all}
use Rattle.snapshot_audit.specs.ActiveRows.{ActiveLists, RowReferences, VisibleInActive, active_for}
use Rattle.snapshot_audit.specs.Selections.{InRest}
use Rattle.snapshot_audit.proofs.ActiveFacts.{active_at}
use Rattle.snapshot_audit.proofs.SelectSteps.{first_of}
use Rattle.snapshot_audit.proofs.SelectSteps.{HasRests, HasRests-none, HasRests-more, HasRests-skip, HasRests-all, rest_done}
use Rattle.snapshot_audit.proofs.selects.+add_rest.Goals as goal

pub returns-in_default : goal.returns-in_default
returns-in_default t c =
    let none : c.args.references.now ≡ [] = nil_from_length c.args.references.now (omega (arith, c.in_default.len_below)) in
    on_ok_weaker c.add_selected.result (λ step row.
    subst (λ references. Contains c.add_selected.new.rows.items row ↔ (Contains c.args.rows.now.items row ⊎ InRest (VisibleInActive c.args.seen.now) c.args.select.now references c.args.front.now row)) (sym none)
    (rest_done (VisibleInActive c.args.seen.now) c.args.select.now c.args.front.now c.args.rows.now.items c.add_selected.new.rows.items step row))
    c.add_selected.ensures

pub loop-next-init : goal.loop-next-init
loop-next-init t c =
    HasRests-none c.args.seen.now c.args.select.now (take (length c.args.references.now - 1) (drop 1 c.args.references.now)) c.args.front.now c.args.rows.now.items

pub loop-next-preserved : goal.loop-next-preserved
loop-next-preserved t c =
    let references : List QueryReference = c.args.references.now in
    let after : List QueryReference = take (length references - 1) (drop 1 references) in
    let list : RowReferences = c.deref-next-items.result.now in
    let k = c.loop-next.next-index in
    let r : Bor PeriodRow = c.next-item.result in
    let more : take (k + 1) list ≡ take k list ++ r ∷ [] = take_more list k r (omega arith) ∙ ap (λ x. take k list ++ x ∷ []) (sym c.next-item.is) in
    let whole : c.as_slice-in-loop-next-3.result.now ≡ c.args.front.now ++ r.now.values = c.as_slice-in-loop-next-3.ensures ∙ c.in_ok-values.ensures ∙ ap (λ v. c.args.front.now ++ v) c.as_slice-in-loop-next-2.ensures in
    subst (λ l. HasRests c.args.seen.now c.args.select.now after c.args.front.now c.args.rows.now.items l c.add_rest.new.rows.items) (sym more)
    (HasRests-more c.args.seen.now c.args.select.now after c.args.front.now c.args.rows.now.items c.loop-next.rows.items c.add_rest.new.rows.items (take k list) r
    c.loop-next.invariant (λ row. subst (λ v. Contains c.add_rest.new.rows.items row ↔ (Contains c.loop-next.rows.items row ⊎ InRest (VisibleInActive c.args.seen.now) c.args.select.now after v row)) whole (c.in_ok-add_rest.ensures row)))

pub loop-next-preserved-then-is_ruled_out : goal.loop-next-preserved-then-is_ruled_out
loop-next-preserved-then-is_ruled_out t c =
    let references : List QueryReference = c.args.references.now in
    let after : List QueryReference = take (length references - 1) (drop 1 references) in
    let list : RowReferences = c.deref-next-items.result.now in
    let k = c.loop-next.next-index in
    let r : Bor PeriodRow = c.next-item.result in
    let conjuncts : List (Tree CompareValues) = c.args.select.now.conjuncts in
    let more : take (k + 1) list ≡ take k list ++ r ∷ [] = take_more list k r (omega arith) ∙ ap (λ x. take k list ++ x ∷ []) (sym c.next-item.is) in
    let none : (rest : List Value) → meets_all conjuncts ((c.args.front.now ++ r.now.values) ++ rest) ≡ false =
    λ rest. subst (λ v. meets_all conjuncts ((c.args.front.now ++ v) ++ rest) ≡ false) c.as_slice-in-loop-next.ensures
    (subst (λ l. meets_all l ((c.args.front.now ++ c.as_slice-in-loop-next.result.now) ++ rest) ≡ false) c.as_slice.ensures (c.if-is_ruled_out.ensures refl rest)) in
    subst (λ l. HasRests c.args.seen.now c.args.select.now after c.args.front.now c.args.rows.now.items l c.loop-next.rows.items) (sym more)
    (HasRests-skip c.args.seen.now c.args.select.now after c.args.front.now c.args.rows.now.items c.loop-next.rows.items (take k list) r c.loop-next.invariant none)

pub returns : goal.returns
returns t c = λ row.
    let references : List QueryReference = c.args.references.now in
    let after : List QueryReference = take (length references - 1) (drop 1 references) in
    let seen : ActiveLists = c.args.seen.now in
    let list : RowReferences = c.deref-next-items.result.now in
    let is : references ≡ c.reference-item.result ∷ after = first_of references c.reference-item.result c.in-len1-up.len_at_least c.reference-item.is in
    let all : take c.loop-next.next-index list ≡ list = take_all c.loop-next.next-index list (omega arith) in
    let its : list ≡ active_for seen c.reference-item.result =
    c.deref-next-items.ensures.value ∙ active_at seen c.reference-item.result.place c.in-Some.active.now c.in-Some.ensures.lookup.3.0 c.in-Some.ensures.lookup.1 in
    let has : HasRests seen c.args.select.now after c.args.front.now c.args.rows.now.items (active_for seen c.reference-item.result) c.loop-next.rows.items =
    subst (λ l. HasRests seen c.args.select.now after c.args.front.now c.args.rows.now.items l c.loop-next.rows.items) (all ∙ its) c.loop-next.invariant in
    subst (λ l. Contains c.loop-next.rows.items row ↔ (Contains c.args.rows.now.items row ⊎ InRest (VisibleInActive seen) c.args.select.now l c.args.front.now row)) (sym is)
    (HasRests-all seen c.args.select.now c.reference-item.result after c.args.front.now c.args.rows.now.items c.loop-next.rows.items has row)
