use Rattle.std.proofs.Common.{◌≡◌, inr, subst, sym, Some}
use Rattle.sqlite_trees.proofs.ListLemmas.{all_weaker}
use Rattle.catalog_core.specs.declared.table.TableDef.{TableDef}
use Rattle.catalog_core.specs.table.TableWords.{table_of}
use Rattle.version_tables.specs.declared.form.Form.TheVariants.{Microseconds}
use Rattle.version_store.specs.Contents.{Contents, TableVersion}
use Rattle.version_store.specs.GoodStore.{HaveTables, IsGoodVersion}
use Rattle.version_store.specs.StoreState.{IsUsable, SparesOthers}
use Rattle.version_store.proofs.Beside.{spares_same}
use Rattle.version_store.proofs.AfterCalls.{on_ok}
use Rattle.version_store.proofs.Units.{same_units}
use Rattle.script_engine.specs.engine.EngineState.{engine_with}
use Rattle.script_engine.specs.engine.Stored.{AreOfHistory, EngineRepresents}
use Rattle.script_engine.proofs.engine.Engine.copy_into.Goals as goal

pub returns-clause-copied : goal.returns-clause-copied
returns-clause-copied g c usable copy_usable history kept =
    let was : EngineRepresents g.S.Store history (engine_with c.self.inside.store c.self.inside.tables) = subst (λ s. EngineRepresents g.S.Store history s) (sym c.self.view_is) kept in
    let m = was.contents in
    let tabled : HaveTables m = all_weaker (IsGoodVersion m.tables m.clock) (λ (v : TableVersion). (d : TableDef) × (table_of m.tables v.table ≡ Some d)) (λ v good. (good.definition, good.table)) m.versions was.said.good.versions in
    on_ok c.copy_into.result
    (λ has. record { now = inr (Microseconds, m, has.now, subst (λ (d : Contents). AreOfHistory history d) (sym (same_units m)) was.said); committed = has.committed })
    (c.copy_into.ensures.copied usable copy_usable m tabled was.stored)

pub returns-clause-same : goal.returns-clause-same
returns-clause-same g c = λ usable history kept.
    let was : EngineRepresents g.S.Store history (engine_with c.self.inside.store c.self.inside.tables) = subst (λ s. EngineRepresents g.S.Store history s) (sym c.self.view_is) kept in
    record { contents = was.contents; stored = c.copy_into.ensures.same usable was.contents was.stored; said = was.said; current = was.current; ended = was.ended }

pub returns-clause-usable : goal.returns-clause-usable
returns-clause-usable g c usable = subst (λ s. IsUsable g.S.Store s.connection) c.self.view_is (c.copy_into.ensures.read.usable usable)

pub returns-clause-others : goal.returns-clause-others
returns-clause-others g c =
    subst (λ s. SparesOthers g.S.Store s.connection c.copy_into.new.self.connection) c.self.view_is
    (spares_same g.S.Store c.self.inside.store.connection c.copy_into.new.self.connection (λ usable. (c.copy_into.ensures.read.same usable).0))
