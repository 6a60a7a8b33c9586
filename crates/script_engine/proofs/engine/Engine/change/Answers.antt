use Rattle.std.proofs.lemmas.Result.{IfErr-at_err, err_from_is_err_and}
use Rattle.std.proofs.Common.{◌≡◌, ◌∙◌, ◌+◌, ℕ, List, Ok, Some, ap, arith, inl, inr, length, map, refl, subst, subst₂, sym}
use Rattle.period_core.specs.Leasts.{MayAnswer}
use Rattle.catalog_core.specs.RefusalConditions.{Holds}
use Rattle.statement_resolution.specs.change.Resolution.{change_conditions}
use Rattle.catalog_core.specs.table.TableWords.{table_of}
use Rattle.catalog_core.specs.declared.table.TableDef.{TableDef}
use Rattle.catalog_core.specs.declared.table.catalog.Catalog.{Catalog}
use Rattle.history_model.specs.Histories.{last_state}
use Rattle.history_model.specs.HistoryVersions.{versions_of}
use Rattle.period_keys.specs.Current.{HoldCurrent, rows_by_key}
use Rattle.period_keys.specs.Lawful.{IsLawfulChange, IsLawfulState}
use Rattle.period_keys.specs.Planned.{IsPlanOf}
use Rattle.period_keys.specs.Rows.{RowsByKey}
use Rattle.period_keys.specs.TableRows.{TableRows}
use Rattle.script_engine.specs.engine.Ended.{HaveEnded}
use Rattle.script_engine.specs.engine.EngineState.{EngineState, engine_with}
use Rattle.script_engine.specs.engine.Faults.{IsFault}
use Rattle.script_engine.specs.engine.Healthy.{added_count}
use Rattle.script_engine.specs.engine.InMemory.{AreKeysIn, FollowCatalog, rows_in}
use Rattle.script_engine.specs.engine.Planned.{IsResolved, planned_count, word_of}
use Rattle.script_engine.specs.engine.Runs.{StepsTo}
use Rattle.statement_reports.specs.declared.outcome.Outcome.{Outcome}
use Rattle.statement_reports.specs.declared.outcome.Outcome.TheVariants.{Done}
use Rattle.statement_reports.specs.declared.outcome.Word.{Word}
use Rattle.script_engine.proofs.Changed.{changed_step, hold_before, lawful_before, resolved_table, unchanged_step, unlawful_step, unplanned_step, unresolved_step}
use Rattle.script_engine.proofs.Indexed.{ended_there}
use Rattle.script_engine.proofs.InMemory.{current-kept}
use Rattle.script_engine.proofs.ChangeRefusals.{constrained, planned_sound, unplanned, unresolved}
use Rattle.script_engine.proofs.OverFacts.{accepted_over, change_follows, refused_over, untouched_over}
use Rattle.script_engine.proofs.SameInMemory.{failed_over, rows_memory}
use Rattle.sqlite.specs.Effect.{Database}
use Rattle.sqlite.specs.Held.{state}
use Rattle.statement_resolution.specs.change.Resolution.{ResolvesChange}
use Rattle.version_tables.specs.Healthy.{IsHealthy}
use Rattle.version_store.proofs.Keys.{keys_of}
use Rattle.script_engine.proofs.CanMake.{can_make, counted_added}
use Rattle.script_engine.proofs.OnFault.{changed_otherwise, not_constraint, not_empty, not_memory}
use Rattle.script_engine.proofs.Refused.{by_fault}
use Rattle.script_engine.proofs.Steps.{tables_of}
use Rattle.script_engine.proofs.engine.Engine.change.Goals as goal

pub returns-in_err-change-clause-step : goal.returns-in_err-change-clause-step
returns-in_err-change-clause-step g c = λ usable history kept s is.
    let p = err_from_is_err_and c.from_residual.result c.from_residual.ensures.1 in
    rw (p.1, p.2) (unresolved_step g.S.Store history c.args.self.now s is.form kept c.in_err-change.field-0.0
    (IfErr-at_err (MayAnswer (Holds (change_conditions c.args.self.now.catalog.tables s))) c.in_err-change.was is.refused))

pub lawful_plan-requires : goal.lawful_plan-requires
lawful_plan-requires g c =
    let old : EngineState g.row.S.Denot = c.args.self.now in
    let change = c.in_ok-change.change in
    let tables : c.catalog-catalog.result.now ≡ c.self.inside.store.catalog = c.catalog-catalog.ensures in
    let judged : c.catalog-catalog.result.now ≡ old.catalog = tables ∙ ap (λ (e : EngineState g.row.S.Denot). e.catalog) c.self.view_is in
    let (s, is) = c.requires in
    record {
      follow =
          subst (λ (k : Catalog). FollowCatalog k.tables c.current.result.now) (sym tables)
          (subst (FollowCatalog c.self.inside.store.catalog.tables) (sym c.current.ensures) c.self.invariant.0);
      defined =
          subst (λ (k : Catalog). (d : TableDef) × (table_of k.tables change.table ≡ Some d)) (sym judged)
          (resolved_table old.catalog.tables s change (subst (IsResolved old.catalog.tables s c.args.word) c.in_ok-change.was is).change);
    }

-- the plan is over the rows in memory

pub apply-requires-clause-split : goal.apply-requires-clause-split
apply-requires-clause-split g c =
    let change = c.in_ok-change.change in
    let plan = c.in_ok-made.made.plan in
    let tables = map rows_by_key c.self.inside.tables.current in
    ended_there change.action (rows_in tables change.table) plan
    (subst (λ (ts : List TableRows). IsPlanOf change.action (rows_in (map rows_by_key ts) change.table) plan) c.current.ensures c.in_ok-made.ensures.plan)

pub apply-requires-clause-keys : goal.apply-requires-clause-keys
apply-requires-clause-keys g c =
    subst (λ (ts : List TableRows). AreKeysIn (map rows_by_key ts) c.in_ok-change.change.table c.in_ok-made.made.plan.added c.in_ok-made.made.keys.items) c.current.ensures c.in_ok-made.ensures.keys

pub returns-in_err-made-clause-step : goal.returns-in_err-made-clause-step
returns-in_err-made-clause-step g c = λ usable history kept s is.
    let p = err_from_is_err_and c.from_residual-in_err-made.result c.from_residual-in_err-made.ensures.1 in
    rw (p.1, p.2) (let change = c.in_ok-change.change in
    let refusal = c.in_err-made.field-0.0 in
    let old : EngineState g.row.S.Denot = c.args.self.now in
    let known : IsResolved old.catalog.tables s c.args.word (Ok change) = subst (IsResolved old.catalog.tables s c.args.word) c.in_ok-change.was is in
    let judged : c.catalog-catalog.result.now ≡ old.catalog = c.catalog-catalog.ensures ∙ ap (λ (e : EngineState g.row.S.Denot). e.catalog) c.self.view_is in
    let tables : map rows_by_key c.current.result.now ≡ old.tables = ap (map rows_by_key) c.current.ensures ∙ ap (λ (e : EngineState g.row.S.Denot). e.tables) c.self.view_is in
    elim c.in_err-made.ensures.refused [
      | inl none ↦ unplanned_step g.S.Store history old s known.form kept change known.sound known.empty refusal (inl none)
      | inr other ↦ elim other [
        | inl memory ↦ unplanned_step g.S.Store history old s known.form kept change known.sound known.empty refusal (inr (inl memory))
        | inr unlawful ↦
            unlawful_step g.S.Store history old s known.form kept change known.sound known.empty refusal known.change unlawful.0
            (subst (λ (k : Catalog). IsFault k.tables (last_state history) change refusal) judged
            (unlawful.2 (last_state history)
            (subst (λ (k : Catalog). IsLawfulState k.tables (last_state history)) (sym judged) (lawful_before g.S.Store history old s known.form kept))
            (subst₂ (λ (k : Catalog) (ts : List RowsByKey). HoldCurrent k.tables (last_state history) ts) (sym judged) (sym tables) (hold_before g.S.Store history old s known.form kept))))
      ]
    ])

pub returns-clause-step : goal.returns-clause-step
returns-clause-step g c = rw (← c.self.view_is) (λ usable history kept s is.
    let change = c.in_ok-change.change in
    let plan = c.in_ok-made.made.plan in
    let old : EngineState g.row.S.Denot = engine_with c.self.inside.store c.self.inside.tables in
    let new : EngineState g.row.S.Denot = engine_with c.apply.new.store c.apply.new.self in
    let known : IsResolved old.catalog.tables s c.args.word (Ok change) = subst (IsResolved old.catalog.tables s c.args.word) c.in_ok-change.was is in
    let judged : c.catalog-catalog.result.now ≡ old.catalog = c.catalog-catalog.ensures in
    let tables : map rows_by_key c.current.result.now ≡ old.tables = ap (map rows_by_key) c.current.ensures in
    let of : IsPlanOf change.action (rows_in old.tables change.table) plan =
    subst (λ (ts : List RowsByKey). IsPlanOf change.action (rows_in ts change.table) plan) tables c.in_ok-made.ensures.plan in
    let told : Done c.args.word (planned_count change.action plan) ≡ Done (word_of change.action) (planned_count change.action plan) = ap (λ (w : Word). Done w (planned_count change.action plan)) known.told in
    subst (λ (o : Outcome). StepsTo g.S.Store history s (Ok o) new) (sym (c.done.ensures change.action known.told ∙ told))
    (changed_step g.S.Store history old s known.form kept change known.sound known.empty plan of new known.change
    (subst (λ (k : Catalog). IsLawfulChange k.tables (last_state history) change) judged
    (c.in_ok-made.ensures.lawful (last_state history)
    (subst (λ (k : Catalog). IsLawfulState k.tables (last_state history)) (sym judged) (lawful_before g.S.Store history old s known.form kept))
    (subst₂ (λ (k : Catalog) (ts : List RowsByKey). HoldCurrent k.tables (last_state history) ts) (sym judged) (sym tables) (hold_before g.S.Store history old s known.form kept))))
    (c.in_ok-apply.ensures.stored.distinct usable kept.contents kept.stored)
    (c.in_ok-apply.ensures.stored.changes usable kept.contents kept.stored).0
    c.in_ok-apply.ensures.made c.in_ok-apply.ensures.appended))

pub returns-in_err-apply-clause-step : goal.returns-in_err-apply-clause-step
returns-in_err-apply-clause-step g c =
    let p = err_from_is_err_and c.from_residual-in_err-apply.result c.from_residual-in_err-apply.ensures.1 in
    rw (p.1, p.2, ← c.self.view_is) (λ usable history kept s is.
    let change = c.in_ok-change.change in
    let plan = c.in_ok-made.made.plan in
    let old : EngineState g.row.S.Denot = engine_with c.self.inside.store c.self.inside.tables in
    let new : EngineState g.row.S.Denot = engine_with c.apply.new.store c.apply.new.self in
    let known : IsResolved old.catalog.tables s c.args.word (Ok change) = subst (IsResolved old.catalog.tables s c.args.word) c.in_ok-change.was is in
    let tables : map rows_by_key c.current.result.now ≡ old.tables = ap (map rows_by_key) c.current.ensures in
    let of : IsPlanOf change.action (rows_in old.tables change.table) plan =
    subst (λ (ts : List RowsByKey). IsPlanOf change.action (rows_in ts change.table) plan) tables c.in_ok-made.ensures.plan in
    unchanged_step g.S.Store history old s known.form kept change known.sound known.empty plan of new c.in_err-apply.field-0.0
    (record {
      stored = (c.in_err-apply.ensures.stored.changes usable kept.contents kept.stored).1;
      current = current-kept kept.contents change.table old.tables new.tables c.in_err-apply.ensures.none kept.current;
      ended = subst (HaveEnded kept.contents) (sym c.in_err-apply.ensures.unchanged) kept.ended;
    })
    c.in_err-apply.ensures.stored.named)

pub returns-in_err-apply-clause-kept : goal.returns-in_err-apply-clause-kept
returns-in_err-apply-clause-kept g c =
    let p = err_from_is_err_and c.from_residual-in_err-apply.result c.from_residual-in_err-apply.ensures.1 in
    rw (p.1, ← c.self.view_is) (λ usable contents has. record {
      stored = (c.in_err-apply.ensures.stored.changes usable contents has.stored).1;
      current = current-kept contents c.in_ok-change.change.table (map rows_by_key c.self.inside.tables.current) (map rows_by_key c.apply.new.self.current) c.in_err-apply.ensures.none has.current;
      ended = subst (HaveEnded contents) (sym c.in_err-apply.ensures.unchanged) has.ended;
    })

pub returns-in_err-change-clause-over : goal.returns-in_err-change-clause-over
returns-in_err-change-clause-over g c =
    let p = err_from_is_err_and c.from_residual.result c.from_residual.ensures.1 in
    rw (p.1, p.2) (λ s is.
    let old : EngineState g.row.S.Denot = c.args.self.now in
    untouched_over g.S.Store old s old c.in_err-change.field-0.0 refl
    (inl (unresolved old.catalog.tables old.clock s is.form c.in_err-change.field-0.0
    (IfErr-at_err (MayAnswer (Holds (change_conditions old.catalog.tables s))) c.in_err-change.was is.refused))))

pub returns-in_err-made-clause-over : goal.returns-in_err-made-clause-over
returns-in_err-made-clause-over g c =
    let p = err_from_is_err_and c.from_residual-in_err-made.result c.from_residual-in_err-made.ensures.1 in
    rw (p.1, p.2) (λ s is.
    let change = c.in_ok-change.change in
    let refusal = c.in_err-made.field-0.0 in
    let old : EngineState g.row.S.Denot = c.args.self.now in
    let known : IsResolved old.catalog.tables s c.args.word (Ok change) = subst (IsResolved old.catalog.tables s c.args.word) c.in_ok-change.was is in
    untouched_over g.S.Store old s old refusal refl
    (elim c.in_err-made.ensures.refused [
      | inl none ↦ inl (unplanned old.catalog.tables old.clock s known.form change.action known.sound known.empty refusal (inl none))
      | inr other ↦ elim other [
        | inl memory ↦ inl (unplanned old.catalog.tables old.clock s known.form change.action known.sound known.empty refusal (inr (inl memory)))
        | inr unlawful ↦ constrained old.catalog.tables old.clock s known.form change.action known.sound known.empty refusal unlawful.0 unlawful.1
      ]
    ]))

pub returns-in_err-apply-clause-over : goal.returns-in_err-apply-clause-over
returns-in_err-apply-clause-over g c =
    let p = err_from_is_err_and c.from_residual-in_err-apply.result c.from_residual-in_err-apply.ensures.1 in
    rw (p.1, p.2, ← c.self.view_is) (λ s is.
    let change = c.in_ok-change.change in
    let plan = c.in_ok-made.made.plan in
    let old : EngineState g.row.S.Denot = engine_with c.self.inside.store c.self.inside.tables in
    let new : EngineState g.row.S.Denot = engine_with c.apply.new.store c.apply.new.self in
    let known : IsResolved old.catalog.tables s c.args.word (Ok change) = subst (IsResolved old.catalog.tables s c.args.word) c.in_ok-change.was is in
    let of = c.in_ok-made.ensures.plan in
    refused_over g.S.Store old s new c.in_err-apply.field-0.0
    (failed_over old.catalog.tables old.clock s c.in_err-apply.field-0.0 (planned_sound old.catalog.tables old.clock s known.form change.action known.sound known.empty of.listed plan of.plans) c.in_err-apply.ensures.stored.named)
    (rows_memory old new change.table c.apply.ensures.stored.catalog c.apply.ensures.stored.clock c.in_err-apply.ensures.none c.in_err-apply.ensures.unchanged)
    c.in_err-apply.ensures.stored.none c.apply.ensures.stored.usable)

pub returns-clause-over : goal.returns-clause-over
returns-clause-over g c = rw (← c.self.view_is) (λ s is.
    let change = c.in_ok-change.change in
    let plan = c.in_ok-made.made.plan in
    let old : EngineState g.row.S.Denot = engine_with c.self.inside.store c.self.inside.tables in
    let new : EngineState g.row.S.Denot = engine_with c.apply.new.store c.apply.new.self in
    let known : IsResolved old.catalog.tables s c.args.word (Ok change) = subst (IsResolved old.catalog.tables s c.args.word) c.in_ok-change.was is in
    let of = c.in_ok-made.ensures.plan in
    accepted_over g.S.Store old s new c.done.result (planned_sound old.catalog.tables old.clock s known.form change.action known.sound known.empty of.listed plan of.plans)
    (change_follows old new s known.form (ap (λ (k : Catalog). k.tables) c.apply.ensures.stored.catalog, c.apply.ensures.stored.clock))
    c.apply.ensures.stored.usable)

-- ---- 62 is due to a fault

pub apply-requires-clause-there : goal.apply-requires-clause-there
apply-requires-clause-there g c =
    let change = c.in_ok-change.change in
    let (s, is) = c.requires in
    let known : IsResolved c.args.self.now.catalog.tables s c.args.word (Ok change) = subst (IsResolved c.args.self.now.catalog.tables s c.args.word) c.in_ok-change.was is in
    resolved_table c.self.inside.store.catalog.tables s change
    (subst (λ (e : EngineState g.row.S.Denot). IsResolved e.catalog.tables s c.args.word (Ok change)) (sym c.self.view_is) known).change

pub returns-in_err-change-clause-why : goal.returns-in_err-change-clause-why
returns-in_err-change-clause-why g c =
    let p = err_from_is_err_and c.from_residual.result c.from_residual.ensures.1 in
    rw (p.1, p.2) (λ s is usable history kept room told.
    let old : EngineState g.row.S.Denot = c.args.self.now in
    absurd (changed_otherwise old.catalog.tables s c.in_err-change.field-0.0
    (IfErr-at_err (MayAnswer (Holds (change_conditions old.catalog.tables s))) c.in_err-change.was is.refused) told))

pub returns-in_err-made-clause-why : goal.returns-in_err-made-clause-why
returns-in_err-made-clause-why g c =
    let p = err_from_is_err_and c.from_residual-in_err-made.result c.from_residual-in_err-made.ensures.1 in
    rw (p.1, p.2) (λ s is usable history kept room told.
    let refusal = c.in_err-made.field-0.0 in
    elim c.in_err-made.ensures.refused [
      | inl none ↦ absurd (not_empty refusal none.0 told)
      | inr other ↦ elim other [
        | inl memory ↦ absurd (not_memory refusal memory told)
        | inr unlawful ↦ absurd (not_constraint refusal unlawful.1 told)
      ]
    ])

pub returns-in_err-apply-clause-why : goal.returns-in_err-apply-clause-why
returns-in_err-apply-clause-why g c =
    let p = err_from_is_err_and c.from_residual-in_err-apply.result c.from_residual-in_err-apply.ensures.1 in
    rw (p.1, p.2, ← c.self.view_is) (λ s is usable history kept room told.
    let change = c.in_ok-change.change in
    let plan = c.in_ok-made.made.plan in
    let refusal = c.in_err-apply.field-0.0 in
    let old : EngineState g.row.S.Denot = engine_with c.self.inside.store c.self.inside.tables in
    let new : EngineState g.row.S.Denot = engine_with c.apply.new.store c.apply.new.self in
    let db : Database = (state g.S.Store old.connection).now in
    let known : IsResolved old.catalog.tables s c.args.word (Ok change) = subst (IsResolved old.catalog.tables s c.args.word) c.in_ok-change.was is in
    let judged : c.catalog-catalog.result.now ≡ old.catalog = c.catalog-catalog.ensures in
    let tables : map rows_by_key c.current.result.now ≡ old.tables = ap (map rows_by_key) c.current.ensures in
    let of : IsPlanOf change.action (rows_in old.tables change.table) plan =
    subst (λ (ts : List RowsByKey). IsPlanOf change.action (rows_in ts change.table) plan) tables c.in_ok-made.ensures.plan in
    let allowed : IsLawfulChange old.catalog.tables (last_state history) change =
    subst (λ (k : Catalog). IsLawfulChange k.tables (last_state history) change) judged
    (c.in_ok-made.ensures.lawful (last_state history)
    (subst (λ (k : Catalog). IsLawfulState k.tables (last_state history)) (sym judged) (lawful_before g.S.Store history old s known.form kept))
    (subst₂ (λ (k : Catalog) (ts : List RowsByKey). HoldCurrent k.tables (last_state history) ts) (sym judged) (sym tables) (hold_before g.S.Store history old s known.form kept))) in
    let healthy = room.versions change (subst (λ (ts : List TableDef). ResolvesChange ts s change) (tables_of g.S.Store history old kept) known.change) in
    let count : added_count change.action (versions_of history change.table) + 0 ≡ length plan.added = omega (arith, counted_added g.S.Store history old s kept change plan of) in
    let sound : IsHealthy (length plan.added) db = subst (λ (n : ℕ). IsHealthy n db) count healthy in
    let apart = keys_of db kept.contents kept.stored.now sound.sound in
    by_fault g.S.Store old.connection new.connection refusal
    (c.in_err-apply.ensures.stored.why usable kept.contents kept.stored sound
    (can_make g.S.Store history old s kept change plan of known.sound known.change apart allowed)) told)

-- ---- the database stays healthy

pub returns-clause-healthy : goal.returns-clause-healthy
returns-clause-healthy g c = rw (← c.self.view_is) (λ s is usable history kept left room.
    let change = c.in_ok-change.change in
    let plan = c.in_ok-made.made.plan in
    let old : EngineState g.row.S.Denot = engine_with c.self.inside.store c.self.inside.tables in
    let db : Database = (state g.S.Store old.connection).now in
    let known : IsResolved old.catalog.tables s c.args.word (Ok change) = subst (IsResolved old.catalog.tables s c.args.word) c.in_ok-change.was is in
    let tables : map rows_by_key c.current.result.now ≡ old.tables = ap (map rows_by_key) c.current.ensures in
    let of : IsPlanOf change.action (rows_in old.tables change.table) plan =
    subst (λ (ts : List RowsByKey). IsPlanOf change.action (rows_in ts change.table) plan) tables c.in_ok-made.ensures.plan in
    let healthy = room.versions change (subst (λ (ts : List TableDef). ResolvesChange ts s change) (tables_of g.S.Store history old kept) known.change) in
    let sound : IsHealthy (length plan.added + left) db = subst (λ (n : ℕ). IsHealthy (n + left) db) (sym (counted_added g.S.Store history old s kept change plan of)) healthy in
    c.in_ok-apply.ensures.stored.healthy usable kept.contents kept.stored left sound)
