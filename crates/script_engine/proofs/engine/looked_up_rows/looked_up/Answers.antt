use Rattle.std.proofs.Common.{◌≡◌, ◌+◌, ◌++◌, ◌∷◌, ◌∙◌, [], List, get_or, map, refl, subst, sym, take}
use Rattle.std.proofs.lemmas.List.{take_all, take_more}
use Rattle.history_model.specs.OrdinaryQuery.{VisibleInHistory}
use Rattle.period_core.specs.declared.row.PeriodRow.{PeriodRow}
use Rattle.period_core.specs.declared.value.Value.{Value}
use Rattle.period_keys.specs.Current.{rows_by_key}
use Rattle.period_keys.specs.FixedKeys.{IsRangeAfter}
use Rattle.period_keys.specs.declared.row_range.RowRange.{RowRange}
use Rattle.script_engine.specs.engine.Needed.{HaveRowFrom, IsPrunedAfter}
use Rattle.script_engine.specs.engine.Stored.{TablesRepresent}
use Rattle.script_engine.proofs.Needed.{looked_up_alike}
use Rattle.script_engine.proofs.Read.{its_read, read_after, read_after_none}
use Rattle.script_engine.proofs.engine.looked_up_rows.looked_up.Goals as goal

pub loop-seen-init : goal.loop-seen-init
loop-seen-init c = record {
  same = refl;
  needed = λ history represents wide.
      subst (IsPrunedAfter (HaveRowFrom [] c.args.at) c.args.conditions.now.conjuncts.now c.args.conditions.now.start (λ day. VisibleInHistory history day c.args.conditions.now.reference.now)) (sym c.new-rows.ensures.items)
      (read_after_none history c.args.conditions.now.conjuncts.now c.args.conditions.now.start c.args.at c.args.conditions.now.reference.now);
}

pub loop-seen-preserved : goal.loop-seen-preserved
loop-seen-preserved c =
    let conjuncts = c.args.conditions.now.conjuncts.now in
    let start = c.args.conditions.now.start in
    let width = c.args.conditions.now.width in
    let reference = c.args.conditions.now.reference.now in
    let tables = c.rows_left.new.self in
    let previous : List PeriodRow = c.args.previous.now in
    let i = c.loop-seen.seen in
    let item = c.index-previous-seen.result in
    let row : PeriodRow = get_or previous i item in
    let access = c.of-access.result in
    let old : List PeriodRow = c.loop-seen.rows.items in
    let new : List PeriodRow = c.read_chained.new.rows.items in
    let next : take (i + 1) previous ≡ take i previous ++ row ∷ [] = take_more previous i item c.loop-seen-test.true in
    let at = c.args.at in
    let kept = c.rows_left.ensures.same ∙ c.loop-seen.invariant.same in
    let within : IsRangeAfter conjuncts row.values at start width access.rows.positions access.rows.range =
    subst (λ (rows : RowRange). IsRangeAfter conjuncts row.values at start width rows.positions rows.range) (sym c.of-access.ensures.rows)
    (subst (λ (values : List Value). IsRangeAfter conjuncts values at start width c.in_ok-left.left.positions c.in_ok-left.left.range) c.as_slice-known.ensures c.in_ok-left.ensures.left) in
    record {
      same = c.read_chained.ensures.same ∙ kept;
      needed = λ history represents wide.
          let its : TablesRepresent history tables = subst (TablesRepresent history) (sym kept) represents in
          let (some, read, made) = its_read history (map rows_by_key tables.current) tables.ended reference its access conjuncts start old new c.of-access.ensures.table c.in_ok-read_chained.ensures.read in
          subst (λ (rows : List PeriodRow). IsPrunedAfter (HaveRowFrom rows c.args.at) conjuncts start (λ day. VisibleInHistory history day reference) new) (sym next)
          (read_after history (map rows_by_key tables.current) tables.ended reference its conjuncts start width access some c.of-access.ensures.window read
          (take i previous) row old new at wide within made (c.loop-seen.invariant.needed history represents wide));
    }

pub returns-clause-needed : goal.returns-clause-needed
returns-clause-needed c = λ history represents wide.
    let conjuncts = c.args.conditions.now.conjuncts.now in
    let start = c.args.conditions.now.start in
    let reference = c.args.conditions.now.reference.now in
    let previous : List PeriodRow = c.args.previous.now in
    let rows : List PeriodRow = c.loop-seen.rows.items in
    looked_up_alike (HaveRowFrom previous c.args.at) conjuncts start (λ day. VisibleInHistory history day reference) rows c.in_ok-once_each.field-0.items c.in_ok-once_each.ensures
    (subst (λ (done : List PeriodRow). IsPrunedAfter (HaveRowFrom done c.args.at) conjuncts start (λ day. VisibleInHistory history day reference) rows) (take_all c.loop-seen.seen previous c.loop-seen-test.false)
    (c.loop-seen.invariant.needed history represents wide))
