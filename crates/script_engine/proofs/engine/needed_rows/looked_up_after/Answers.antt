use Rattle.std.proofs.Common.{◌≡◌, ◌∙◌, ℕ, List, Option, Some, ap, arith, get_or, length, refl, subst, sym}
use Rattle.std.specs.Prelude.{◌-◌, ◌<◌, slice_get}
use Rattle.std.proofs.lemmas.Option.{slice_get-get_or, slice_get_read}
use Rattle.history_model.specs.OrdinaryQuery.{VisibleInHistory}
use Rattle.period_core.specs.declared.row.PeriodRow.{PeriodRow}
use Rattle.script_engine.specs.engine.Needed.{HaveRowFrom, IsPrunedAfter}
use Rattle.script_engine.specs.engine.Stored.{TablesRepresent}
use Rattle.script_engine.proofs.Needed.{needed_after_list}
use Rattle.script_engine.proofs.engine.needed_rows.looked_up_after.Goals as goal

pub returns-in-Some-clause-needed : goal.returns-in-Some-clause-needed
returns-in-Some-clause-needed c = λ history represents wide.
    let conjuncts = c.args.conditions.now.conjuncts.now in
    let start = c.args.conditions.now.start in
    let reference = c.args.conditions.now.reference.now in
    let starts : List ℕ = c.args.starts.now in
    let lists : List (Option (List PeriodRow)) = c.args.lists.now in
    let last = length starts - 1 - c.loop-i.i in
    let at : ℕ = get_or starts last 0 in
    let list : Option (List PeriodRow) = c.in-Some-Some.field-0.now in
    let known : List PeriodRow = c.in-Some-Some.known in
    let rows : List PeriodRow = c.in-Some.rows.items in
    let read : slice_get lists last ≡ Some list = slice_get_read lists (length lists) last list refl c.in-Some-Some.ensures.lookup.3.0 c.in-Some-Some.ensures.lookup.1 in
    let its : slice_get lists last ≡ Some (Some known) = read ∙ ap Some c.in-Some-Some.field-0-is in
    let below : last < length starts = (let more = c.loop-i-test.true in omega (arith, more)) in
    let begins : slice_get starts last ≡ Some at = slice_get-get_or starts last 0 below in
    let found : IsPrunedAfter (HaveRowFrom c.as_slice-previous.result.now at) conjuncts start (λ day. VisibleInHistory history day reference) rows =
    (rw c.in-Some.is at c.in_ok-found.ensures.needed) history (subst (TablesRepresent history) (sym c.loop-i.invariant.same) represents) wide in
    needed_after_list history starts lists conjuncts start reference last at known rows begins its
    (subst (λ (previous : List PeriodRow). IsPrunedAfter (HaveRowFrom previous at) conjuncts start (λ day. VisibleInHistory history day reference) rows) c.as_slice-previous.ensures found)
