use Rattle.std.proofs.Common.{◌≡◌, ◌<◌, ◌++◌, ◌∷◌, ◌∙◌, ℤ, List, [], ap, length, map, refl, subst, sym}
use Rattle.std.proofs.lemmas.Result.{err_from_is_err_and}
use Rattle.period_core.specs.Leasts.{MayAnswer, NoneApplies}
use Rattle.catalog_core.specs.create.Creation.{create_conditions}
use Rattle.catalog_core.specs.create.Definition.{Defines}
use Rattle.catalog_core.specs.create.Lawful.{IsLawful}
use Rattle.catalog_core.specs.RefusalConditions.{Holds}
use Rattle.catalog_core.specs.Limits.{most_tables}
use Rattle.catalog_core.specs.declared.table.TableDef.{TableDef}
use Rattle.catalog_core.specs.declared.table.catalog.Catalog.{Catalog}
use Rattle.period_keys.specs.Current.{rows_by_key}
use Rattle.period_keys.specs.Lawful.{key_positions}
use Rattle.period_keys.specs.Rows.{RowsByKey}
use Rattle.version_store.specs.Changed.{with_table}
use Rattle.script_engine.specs.engine.Ended.{AllEndedBy, HaveEnded}
use Rattle.script_engine.specs.engine.EngineState.{EngineState, engine_with}
use Rattle.script_engine.specs.engine.InMemory.{FollowCatalog, HaveCurrentRows}
use Rattle.script_engine.specs.engine.Stored.{EngineRepresents, HasContents}
use Rattle.script_engine.proofs.EndedAfter.{ended-created, none_ended}
use Rattle.script_engine.proofs.InMemory.{current-created}
use Rattle.script_engine.proofs.Steps.{created_step, uncreated_step, unmade_step}
use Rattle.script_engine.proofs.TableNumbers.{few_tables}
use Rattle.std.proofs.Common.{Ok, Err, inl}
use Rattle.sql_statements.specs.Trees as statement
use Rattle.sql_statements.specs.Trees.{Statement}
use Rattle.statement_reports.specs.declared.outcome.Outcome.TheVariants.{Done}
use Rattle.statement_reports.specs.declared.outcome.Word.TheVariants as word
use Rattle.script_engine.specs.engine.Over.{StepOver}
use Rattle.script_engine.proofs.OverFacts.{accepted_over, refused_over, untouched_over}
use Rattle.script_engine.proofs.SameInMemory.{failed_over, list_memory}
use Rattle.history_model.specs.Histories.{catalog_of}
use Rattle.period_core.specs.declared.refusal.Refusal.TheVariants.{Store}
use Rattle.sqlite.specs.Held.{state}
use Rattle.version_tables.proofs.OwnKeys.{healthy_none}
use Rattle.version_tables.specs.Healthy.{IsHealthy}
use Rattle.version_tables.specs.Steps.{HasFault}
use Rattle.script_engine.proofs.OnFault.{created_otherwise}
use Rattle.script_engine.proofs.Refused.{by_fault}
use Rattle.script_engine.proofs.Steps.{tables_of}
use Rattle.script_engine.proofs.engine.Engine.create.Goals as goal

-- the rows of a new table: none
abbrev without_rows : TableDef → RowsByKey
without_rows definition = record { positions = key_positions definition; rows = [] }

pub returns-in_err-definition-clause-step : goal.returns-in_err-definition-clause-step
returns-in_err-definition-clause-step g c = λ usable history kept.
    let p = err_from_is_err_and c.from_residual.result c.from_residual.ensures.1 in
    rw (p.1, p.2) (let same : c.catalog.result.now.tables ≡ c.args.self.now.catalog.tables = ap (λ (k : Catalog). k.tables) c.catalog.ensures ∙ ap (λ s. s.catalog.tables) c.self.view_is in
    unmade_step g.S.Store history c.args.self.now c.args.create.now c.in_err-definition.field-0.0 kept
    (subst (λ (tables : List TableDef). MayAnswer (Holds (create_conditions tables c.args.create.now)) c.in_err-definition.field-0.0) same c.in_err-definition.ensures.refused))

pub add-requires : goal.add-requires
add-requires g c = record {
  follow = subst (λ (k : Catalog). FollowCatalog k.tables c.self.inside.tables.current) (sym c.catalog-catalog.ensures) c.self.invariant.0;
  lawful =
      subst (λ (k : Catalog). IsLawful k.tables c.in_ok-definition.definition) (c.catalog.ensures ∙ sym c.catalog-catalog.ensures)
      (c.args.create.now, c.in_ok-definition.ensures.sound, c.in_ok-definition.ensures.defined);
}

pub add_table-requires-clause-room : goal.add_table-requires-clause-room
add_table-requires-clause-room g c =
    subst (λ (k : Catalog). length k.tables < most_tables) c.catalog.ensures (few_tables c.catalog.result.now.tables c.args.create.now c.in_ok-definition.ensures.sound)

pub returns-in-Ok-clause-step : goal.returns-in-Ok-clause-step
returns-in-Ok-clause-step g c = λ usable history kept.
    let ts : List RowsByKey = map rows_by_key c.self.inside.tables.current in
    let old : EngineState g.row.S.Denot = engine_with c.self.inside.store c.self.inside.tables in
    let new : EngineState g.row.S.Denot = engine_with c.add_table.new.self c.add.new.self in
    let create = c.args.create.now in
    let definition = c.in_ok-definition.definition in
    let was : EngineRepresents g.S.Store history old = subst (λ s. EngineRepresents g.S.Store history s) (sym c.self.view_is) kept in
    created_step g.S.Store history old new create definition was
    (subst (λ (k : Catalog). NoneApplies (Holds (create_conditions k.tables create))) c.catalog.ensures c.in_ok-definition.ensures.sound)
    (subst (λ (k : Catalog). Defines k.tables create definition) c.catalog.ensures c.in_ok-definition.ensures.defined)
    (record {
      stored = (c.in-Ok.ensures.changes usable was.contents was.stored).0;
      current =
          subst (HaveCurrentRows (with_table definition was.contents)) (sym c.in_ok-add.ensures.rows)
          (current-created was.contents ts definition (without_rows definition) was.current refl refl);
      ended =
          subst (HaveEnded (with_table definition was.contents)) (sym c.in_ok-add.ensures.appended)
          (ended-created was.contents c.self.inside.tables.ended definition was.ended);
    })

pub returns-in-Err-clause-step : goal.returns-in-Err-clause-step
returns-in-Err-clause-step g c = λ usable history kept.
    let ts : List RowsByKey = map rows_by_key c.self.inside.tables.current in
    let old : EngineState g.row.S.Denot = engine_with c.self.inside.store c.self.inside.tables in
    let new : EngineState g.row.S.Denot = engine_with c.add_table.new.self c.remove_last.new.self in
    let create = c.args.create.now in
    let was : EngineRepresents g.S.Store history old = subst (λ s. EngineRepresents g.S.Store history s) (sym c.self.view_is) kept in
    uncreated_step g.S.Store history old new create c.in-Err.refusal was
    (subst (λ (k : Catalog). NoneApplies (Holds (create_conditions k.tables create))) c.catalog.ensures c.in_ok-definition.ensures.sound)
    (record {
      stored = (c.in-Err.ensures.changes usable was.contents was.stored).1;
      current = subst (HaveCurrentRows was.contents) (sym (c.remove_last.ensures.rows ts (without_rows c.in_ok-definition.definition) c.in_ok-add.ensures.rows)) was.current;
      ended = subst (HaveEnded was.contents) (sym (c.remove_last.ensures.ended c.self.inside.tables.ended [] c.in_ok-add.ensures.appended)) was.ended;
    })
    c.in-Err.ensures.named

pub returns-in-Err-clause-kept : goal.returns-in-Err-clause-kept
returns-in-Err-clause-kept g c = λ usable contents has.
    let ts : List RowsByKey = map rows_by_key c.self.inside.tables.current in
    let was : HasContents g.S.Store (engine_with c.self.inside.store c.self.inside.tables) contents = subst (λ s. HasContents g.S.Store s contents) (sym c.self.view_is) has in
    record {
      stored = (c.in-Err.ensures.changes usable contents was.stored).1;
      current = subst (HaveCurrentRows contents) (sym (c.remove_last.ensures.rows ts (without_rows c.in_ok-definition.definition) c.in_ok-add.ensures.rows)) was.current;
      ended = subst (HaveEnded contents) (sym (c.remove_last.ensures.ended c.self.inside.tables.ended [] c.in_ok-add.ensures.appended)) was.ended;
    }

pub invariant_of-self-in-Ok : goal.invariant_of-self-in-Ok
invariant_of-self-in-Ok g c =
    let definition : TableDef = c.in_ok-definition.definition in
    let known : c.catalog-catalog.result.now.tables ++ definition ∷ [] ≡ c.add_table.new.self.catalog.tables =
    ap (λ (k : Catalog). k.tables ++ definition ∷ []) c.catalog-catalog.ensures ∙ sym c.in-Ok.ensures.added in (
      subst (λ (tables : List TableDef). FollowCatalog tables c.add.new.self.current) known c.in_ok-add.ensures.follow,
      subst (λ (m : ℤ). AllEndedBy m c.add.new.self.ended) (sym c.in-Ok.ensures.clock)
          (subst (AllEndedBy c.self.inside.store.clock) (sym c.in_ok-add.ensures.appended) (none_ended c.self.inside.store.clock c.self.inside.tables.ended c.self.invariant.1)),
    )

pub invariant_of-self-in-Err : goal.invariant_of-self-in-Err
invariant_of-self-in-Err g c =
    let same : c.catalog-catalog.result.now.tables ≡ c.add_table.new.self.catalog.tables = ap (λ (k : Catalog). k.tables) c.catalog-catalog.ensures ∙ sym c.in-Err.ensures.none in (
      subst (λ (tables : List TableDef). FollowCatalog tables c.remove_last.new.self.current) same
          (c.remove_last.ensures.follow c.catalog-catalog.result.now.tables c.in_ok-definition.definition c.in_ok-add.ensures.follow),
      subst (λ (m : ℤ). AllEndedBy m c.remove_last.new.self.ended) (sym c.in-Err.ensures.clock)
          (subst (AllEndedBy c.self.inside.store.clock) (sym (c.remove_last.ensures.ended c.self.inside.tables.ended [] c.in_ok-add.ensures.appended)) c.self.invariant.1),
    )

pub returns-in_err-definition-clause-over : goal.returns-in_err-definition-clause-over
returns-in_err-definition-clause-over g c =
    let p = err_from_is_err_and c.from_residual.result c.from_residual.ensures.1 in
    rw (p.1, p.2) (let same : c.catalog.result.now.tables ≡ c.args.self.now.catalog.tables = ap (λ (k : Catalog). k.tables) c.catalog.ensures ∙ ap (λ s. s.catalog.tables) c.self.view_is in
    untouched_over g.S.Store c.args.self.now (statement.create c.args.create.now) c.args.self.now c.in_err-definition.field-0.0 refl
    (inl (inl (subst (λ (tables : List TableDef). MayAnswer (Holds (create_conditions tables c.args.create.now)) c.in_err-definition.field-0.0) same c.in_err-definition.ensures.refused))))

pub returns-in-Ok-clause-over : goal.returns-in-Ok-clause-over
returns-in-Ok-clause-over g c =
    let ts : List RowsByKey = map rows_by_key c.self.inside.tables.current in
    let old : EngineState g.row.S.Denot = engine_with c.self.inside.store c.self.inside.tables in
    let new : EngineState g.row.S.Denot = engine_with c.add_table.new.self c.add.new.self in
    let create = c.args.create.now in
    let definition = c.in_ok-definition.definition in
    subst (λ (e : EngineState g.row.S.Denot). StepOver g.S.Store e (statement.create create) (Ok (Done word.Create 0)) new) c.self.view_is
    (accepted_over g.S.Store old (statement.create create) new (Done word.Create 0)
    (subst (λ (k : Catalog). NoneApplies (Holds (create_conditions k.tables create))) c.catalog.ensures c.in_ok-definition.ensures.sound)
    ((definition, subst (λ (k : Catalog). Defines k.tables create definition) c.catalog.ensures c.in_ok-definition.ensures.defined, c.in-Ok.ensures.added), c.in-Ok.ensures.clock)
    c.add_table.ensures.usable)

pub returns-in-Err-clause-over : goal.returns-in-Err-clause-over
returns-in-Err-clause-over g c =
    let ts : List RowsByKey = map rows_by_key c.self.inside.tables.current in
    let old : EngineState g.row.S.Denot = engine_with c.self.inside.store c.self.inside.tables in
    let new : EngineState g.row.S.Denot = engine_with c.add_table.new.self c.remove_last.new.self in
    let s : Statement = statement.create c.args.create.now in
    subst (λ (e : EngineState g.row.S.Denot). StepOver g.S.Store e s (Err c.in-Err.refusal) new) c.self.view_is
    (refused_over g.S.Store old s new c.in-Err.refusal
    (failed_over old.catalog.tables old.clock s c.in-Err.refusal
    (subst (λ (k : Catalog). NoneApplies (Holds (create_conditions k.tables c.args.create.now))) c.catalog.ensures c.in_ok-definition.ensures.sound)
    c.in-Err.ensures.named)
    (list_memory old new c.in-Err.ensures.none c.in-Err.ensures.clock
    (c.remove_last.ensures.rows ts (without_rows c.in_ok-definition.definition) c.in_ok-add.ensures.rows)
    (c.remove_last.ensures.ended c.self.inside.tables.ended [] c.in_ok-add.ensures.appended))
    c.in-Err.ensures.none_stored
    c.add_table.ensures.usable)

-- ---- 62 is due to a fault

pub returns-in_err-definition-clause-why : goal.returns-in_err-definition-clause-why
returns-in_err-definition-clause-why g c =
    let p = err_from_is_err_and c.from_residual.result c.from_residual.ensures.1 in
    rw (p.1, p.2) (λ usable history kept room told.
    absurd (created_otherwise c.catalog.result.now.tables c.args.create.now c.in_err-definition.field-0.0 c.in_err-definition.ensures.refused told))

pub returns-in-Err-clause-why : goal.returns-in-Err-clause-why
returns-in-Err-clause-why g c = λ usable history kept room.
    let old : EngineState g.row.S.Denot = engine_with c.self.inside.store c.self.inside.tables in
    let create = c.args.create.now in
    let definition : TableDef = c.in_ok-definition.definition in
    let was : EngineRepresents g.S.Store history old = subst (λ s. EngineRepresents g.S.Store history s) (sym c.self.view_is) kept in
    let sound = subst (λ (e : EngineState g.row.S.Denot). IsHealthy 0 (state g.S.Store e.connection).now) (sym c.self.view_is) room.healthy in
    let ours : Defines old.catalog.tables create definition = subst (λ (k : Catalog). Defines k.tables create definition) c.catalog.ensures c.in_ok-definition.ensures.defined in
    let defined : Defines (catalog_of history) create definition = subst (λ (tables : List TableDef). Defines tables create definition) (tables_of g.S.Store history old was) ours in
    subst (λ (e : EngineState g.row.S.Denot). c.in-Err.refusal ≡ Store → HasFault (state g.S.Store e.connection) (state g.S.Store c.add_table.new.self.connection)) c.self.view_is
    (by_fault g.S.Store old.connection c.add_table.new.self.connection c.in-Err.refusal
    (c.in-Err.ensures.why usable was.contents was.stored sound (room.definition create refl definition defined)))

-- ---- the database stays healthy

pub returns-in-Ok-clause-healthy : goal.returns-in-Ok-clause-healthy
returns-in-Ok-clause-healthy g c = λ usable history kept left room.
    let old : EngineState g.row.S.Denot = engine_with c.self.inside.store c.self.inside.tables in
    let was : EngineRepresents g.S.Store history old = subst (λ s. EngineRepresents g.S.Store history s) (sym c.self.view_is) kept in
    let sound = subst (λ (e : EngineState g.row.S.Denot). IsHealthy left (state g.S.Store e.connection).now) (sym c.self.view_is) room.healthy in
    c.in-Ok.ensures.healthy usable was.contents was.stored left (healthy_none left _ sound)
