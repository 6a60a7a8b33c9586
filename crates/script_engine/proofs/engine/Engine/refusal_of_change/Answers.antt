use Rattle.std.proofs.lemmas.Result.{IfErr-at_err}
use Rattle.std.proofs.Common.{◌≡◌, ◌∙◌, List, Ok, Some, ap, inl, inr, map, refl, subst, subst₂, sym}
use Rattle.period_core.specs.Leasts.{MayAnswer, NoneApplies}
use Rattle.period_core.specs.declared.refusal.Refusal.{Refusal}
use Rattle.catalog_core.specs.RefusalConditions.{Holds}
use Rattle.statement_resolution.specs.change.Resolution.{change_conditions}
use Rattle.catalog_core.specs.table.TableWords.{table_of}
use Rattle.catalog_core.specs.declared.table.TableDef.{TableDef}
use Rattle.catalog_core.specs.declared.table.catalog.Catalog.{Catalog}
use Rattle.history_model.specs.Histories.{last_state}
use Rattle.period_keys.specs.Current.{HoldCurrent, rows_by_key}
use Rattle.period_keys.specs.Lawful.{IsLawfulChange, IsLawfulState}
use Rattle.period_keys.specs.Rows.{RowsByKey}
use Rattle.script_engine.specs.engine.EngineState.{EngineState}
use Rattle.script_engine.specs.engine.Faults.{IsFault}
use Rattle.script_engine.specs.engine.Planned.{IsResolved}
use Rattle.script_engine.proofs.ChangeRefusals.{empty_answer, none_without_empty, planned_sound, unresolved_answer}
use Rattle.script_engine.proofs.Changed.{hold_before, lawful_before, resolved_table, unlawful_in}
use Rattle.script_engine.proofs.UnwrittenFacts.{applies_in, makes_lawful}
use Rattle.script_engine.proofs.engine.Engine.refusal_of_change.Goals as goal

pub returns-in-Err-clause-step : goal.returns-in-Err-clause-step
returns-in-Err-clause-step g c history kept s verb is =
    let old : EngineState g.row.S.Denot = c.args.self.now in
    let refusal : Refusal = c.in-Err.refusal in
    inl (applies_in g.S.Store history old kept s (λ (A : Refusal → Type 0). MayAnswer A refusal)
    (unresolved_answer old.catalog.tables old.clock s is.form refusal (IfErr-at_err (MayAnswer (Holds (change_conditions old.catalog.tables s))) c.in-Err.is is.refused)))

pub lawful_plan-requires-clause-defined : goal.lawful_plan-requires-clause-defined
lawful_plan-requires-clause-defined g c =
    let old : EngineState g.row.S.Denot = c.args.self.now in
    let judged : c.catalog.result.now ≡ old.catalog = c.catalog.ensures ∙ ap (λ (e : EngineState g.row.S.Denot). e.catalog) c.self.view_is in
    let (s, verb, is) = c.requires in
    subst (λ (k : Catalog). (d : TableDef) × (table_of k.tables c.in-Ok.change.table ≡ Some d)) (sym judged)
    (resolved_table old.catalog.tables s c.in-Ok.change (subst (IsResolved old.catalog.tables s verb) c.in-Ok.is is).change)

pub returns-in-Ok-lawful_plan-clause-over : goal.returns-in-Ok-lawful_plan-clause-over
returns-in-Ok-lawful_plan-clause-over g c s verb is =
    let old : EngineState g.row.S.Denot = c.args.self.now in
    let change = c.in-Ok.change in
    let known : IsResolved old.catalog.tables s verb (Ok change) = subst (IsResolved old.catalog.tables s verb) c.in-Ok.is is in
    let of = c.in-Ok-lawful_plan.ensures.plan in
    inr (planned_sound old.catalog.tables old.clock s known.form change.action known.sound known.empty of.listed c.in-Ok-lawful_plan.made.plan of.plans, inr refl)

pub returns-in-Ok-lawful_plan-clause-step : goal.returns-in-Ok-lawful_plan-clause-step
returns-in-Ok-lawful_plan-clause-step g c history kept s verb is =
    let old : EngineState g.row.S.Denot = c.args.self.now in
    let change = c.in-Ok.change in
    let known : IsResolved old.catalog.tables s verb (Ok change) = subst (IsResolved old.catalog.tables s verb) c.in-Ok.is is in
    let of = c.in-Ok-lawful_plan.ensures.plan in
    let judged : c.catalog.result.now ≡ old.catalog = c.catalog.ensures ∙ ap (λ (e : EngineState g.row.S.Denot). e.catalog) c.self.view_is in
    let tables : map rows_by_key c.current.result.now ≡ old.tables = ap (map rows_by_key) c.current.ensures ∙ ap (λ (e : EngineState g.row.S.Denot). e.tables) c.self.view_is in
    let none = planned_sound old.catalog.tables old.clock s known.form change.action known.sound known.empty of.listed c.in-Ok-lawful_plan.made.plan of.plans in
    let lawful = subst (λ (k : Catalog). IsLawfulChange k.tables (last_state history) change) judged
    (c.in-Ok-lawful_plan.ensures.lawful (last_state history)
    (subst (λ (k : Catalog). IsLawfulState k.tables (last_state history)) (sym judged) (lawful_before g.S.Store history old s known.form kept))
    (subst₂ (λ (k : Catalog) (ts : List RowsByKey). HoldCurrent k.tables (last_state history) ts) (sym judged) (sym tables) (hold_before g.S.Store history old s known.form kept))) in
    inr (inr (refl, applies_in g.S.Store history old kept s NoneApplies none, makes_lawful g.S.Store history old kept s change known.change lawful))

pub returns-in-Err-lawful_plan-clause-over : goal.returns-in-Err-lawful_plan-clause-over
returns-in-Err-lawful_plan-clause-over g c s verb is =
    let old : EngineState g.row.S.Denot = c.args.self.now in
    let change = c.in-Ok.change in
    let refusal : Refusal = c.in-Err-lawful_plan.refusal in
    let known : IsResolved old.catalog.tables s verb (Ok change) = subst (IsResolved old.catalog.tables s verb) c.in-Ok.is is in
    elim c.in-Err-lawful_plan.ensures.refused [
      | inl none ↦ inl (empty_answer old.catalog.tables old.clock s known.form change.action known.sound known.empty refusal none.0 none.1)
      | inr other ↦ elim other [
        | inl memory ↦ inl (inr memory)
        | inr unlawful ↦ inr (none_without_empty old.catalog.tables old.clock s known.form change.action known.sound known.empty unlawful.0, inl (known.form, unlawful.1))
      ]
    ]

pub returns-in-Err-lawful_plan-clause-step : goal.returns-in-Err-lawful_plan-clause-step
returns-in-Err-lawful_plan-clause-step g c history kept s verb is =
    let old : EngineState g.row.S.Denot = c.args.self.now in
    let change = c.in-Ok.change in
    let refusal : Refusal = c.in-Err-lawful_plan.refusal in
    let known : IsResolved old.catalog.tables s verb (Ok change) = subst (IsResolved old.catalog.tables s verb) c.in-Ok.is is in
    let judged : c.catalog.result.now ≡ old.catalog = c.catalog.ensures ∙ ap (λ (e : EngineState g.row.S.Denot). e.catalog) c.self.view_is in
    let tables : map rows_by_key c.current.result.now ≡ old.tables = ap (map rows_by_key) c.current.ensures ∙ ap (λ (e : EngineState g.row.S.Denot). e.tables) c.self.view_is in
    elim c.in-Err-lawful_plan.ensures.refused [
      | inl none ↦
          inl (applies_in g.S.Store history old kept s (λ (A : Refusal → Type 0). MayAnswer A refusal)
          (empty_answer old.catalog.tables old.clock s known.form change.action known.sound known.empty refusal none.0 none.1))
      | inr other ↦ elim other [
        | inl memory ↦ inl (inr memory)
        | inr unlawful ↦
            inr (inl (unlawful_in g.S.Store history old s known.form kept change known.sound known.empty refusal known.change unlawful.0
            (subst (λ (k : Catalog). IsFault k.tables (last_state history) change refusal) judged
            (unlawful.2 (last_state history)
            (subst (λ (k : Catalog). IsLawfulState k.tables (last_state history)) (sym judged) (lawful_before g.S.Store history old s known.form kept))
            (subst₂ (λ (k : Catalog) (ts : List RowsByKey). HoldCurrent k.tables (last_state history) ts) (sym judged) (sym tables) (hold_before g.S.Store history old s known.form kept))))))
      ]
    ]
