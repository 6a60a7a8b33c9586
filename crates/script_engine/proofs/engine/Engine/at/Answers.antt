use Rattle.std.proofs.Common.{◌+◌, ◌≤ℤ◌, ◌<ℤ◌, ap, refl, rules, subst, sym}
use Rattle.period_core.specs.Moments.{forever}
use Rattle.script_engine.specs.engine.EngineState.{engine_with}
use Rattle.script_engine.specs.engine.Stored.{EngineRepresents, HasContents}
use Rattle.script_engine.proofs.Steps.{moved}
use Rattle.script_engine.proofs.SameInMemory.{list_memory, same_memory}
use Rattle.std.specs.Prelude.{OnErr}
use Rattle.std.proofs.lemmas.Result.{on_err_weaker}
use Rattle.script_engine.specs.engine.EngineState.{EngineState}
use Rattle.script_engine.specs.engine.InMemory.{IsSameInMemory}
use Rattle.catalog_core.specs.declared.table.catalog.Catalog.{Catalog}
use Rattle.script_engine.specs.engine.InMemory.{FollowCatalog}
use Rattle.script_engine.proofs.EndedAfter.{ended_later}
use Rattle.std.specs.Prelude.{◌≡◌, IfErr}
use Rattle.std.proofs.lemmas.Result.{IfErr-weaker}
use Rattle.period_core.specs.declared.refusal.Refusal.TheVariants.{Store}
use Rattle.sqlite.specs.Held.{state}
use Rattle.version_tables.specs.Healthy.{IsHealthy}
use Rattle.version_tables.specs.Steps.{HasFault}
use Rattle.version_store.specs.StoreState.{StoreRepresents}
use Rattle.script_engine.specs.engine.EngineState.{store_of}
use Rattle.script_engine.proofs.Refused.{by_fault}
use Rattle.script_engine.proofs.engine.Engine.at.Goals as goal

pub returns-in-Some-2-clause-moved : goal.returns-in-Some-2-clause-moved
returns-in-Some-2-clause-moved g c = λ usable history kept.
    let was : EngineRepresents g.S.Store history (engine_with c.self.inside.store c.self.inside.tables) = subst (λ s. EngineRepresents g.S.Store history s) (sym c.self.view_is) kept in
    let late : c.self.inside.store.clock ≤ℤ c.args.moment = search rules in
    let before : c.args.moment <ℤ forever = search rules in
    moved g.S.Store history (engine_with c.self.inside.store c.self.inside.tables) (engine_with c.advance.new.self c.self.inside.tables) c.advance.result c.args.moment c.advance.ensures.changes refl refl late before usable was

pub returns-in-Some-clause-memory : goal.returns-in-Some-clause-memory
returns-in-Some-clause-memory g c = same_memory c.args.self.now

pub returns-in-Some-2-clause-memory : goal.returns-in-Some-2-clause-memory
returns-in-Some-2-clause-memory g c =
    let tables = c.self.inside.tables in
    let new : EngineState g.row.S.Denot = engine_with c.advance.new.self tables in
    subst (λ (e : EngineState g.row.S.Denot). OnErr c.advance.result (IsSameInMemory e new)) c.self.view_is
    (on_err_weaker c.advance.result (λ same. list_memory (engine_with c.self.inside.store tables) new (ap (λ k. k.tables) c.advance.ensures.catalog) same refl refl) c.advance.ensures.clock)

pub returns-in-None-clause-memory : goal.returns-in-None-clause-memory
returns-in-None-clause-memory g c = same_memory c.args.self.now

pub invariant_of-self : goal.invariant_of-self
invariant_of-self g c = (
  subst (λ (k : Catalog). FollowCatalog k.tables c.self.inside.tables.current) (sym c.advance.ensures.catalog) c.self.invariant.0,
  ended_later c.advance.result c.self.inside.store.clock c.advance.new.self.clock c.args.moment c.self.inside.tables.ended c.advance.ensures.advanced c.advance.ensures.clock (search rules) c.self.invariant.1,
)

pub returns-in-Some-2-clause-kept : goal.returns-in-Some-2-clause-kept
returns-in-Some-2-clause-kept g c = λ usable contents has.
    let tables = c.self.inside.tables in
    let new : EngineState g.row.S.Denot = engine_with c.advance.new.self tables in
    let was : HasContents g.S.Store (engine_with c.self.inside.store tables) contents = subst (λ (e : EngineState g.row.S.Denot). HasContents g.S.Store e contents) (sym c.self.view_is) has in
    on_err_weaker {Q = HasContents g.S.Store new contents} c.advance.result (λ stored. record { stored = stored; current = was.current; ended = was.ended }) (c.advance.ensures.changes usable contents was.stored).1

pub returns-in-Some-2-clause-why : goal.returns-in-Some-2-clause-why
returns-in-Some-2-clause-why g c = λ usable contents stands healthy.
    let old : EngineState g.row.S.Denot = engine_with c.self.inside.store c.self.inside.tables in
    let was = subst (λ (e : EngineState g.row.S.Denot). StoreRepresents g.S.Store (store_of e) contents) (sym c.self.view_is) stands in
    let sound = subst (λ (e : EngineState g.row.S.Denot). IsHealthy 0 (state g.S.Store e.connection).now) (sym c.self.view_is) healthy in
    subst (λ (e : EngineState g.row.S.Denot). IfErr c.advance.result (λ refusal. refusal ≡ Store → HasFault (state g.S.Store e.connection) (state g.S.Store c.advance.new.self.connection))) c.self.view_is
    (IfErr-weaker c.advance.result _ _ (λ refusal why told. by_fault g.S.Store old.connection c.advance.new.self.connection refusal why told) (c.advance.ensures.why usable contents was sound tt))

pub returns-in-Some-2-clause-healthy : goal.returns-in-Some-2-clause-healthy
returns-in-Some-2-clause-healthy g c = λ usable contents stands left healthy.
    let was = subst (λ (e : EngineState g.row.S.Denot). StoreRepresents g.S.Store (store_of e) contents) (sym c.self.view_is) stands in
    let sound = subst (λ (e : EngineState g.row.S.Denot). IsHealthy (0 + left) (state g.S.Store e.connection).now) (sym c.self.view_is) healthy in
    c.advance.ensures.healthy usable contents was left sound
