use Rattle.std.proofs.Common.{refl, ◌+◌, ◌++◌, ◌∷◌, [], List, ap, sym, subst, ◌∙◌}
use Rattle.catalog_core.specs.declared.table.TableDef.{TableDef}
use Rattle.sqlite.specs.Held.{state}
use Rattle.version_tables.specs.Healthy.{IsHealthy, IsShort}
use Rattle.version_store.specs.StoreState.{IsFailure, StoreRepresents, StoreState}
use Rattle.version_store.specs.Written.{written}
use Rattle.version_store.proofs.AfterCalls.{failed_for, next_number, table_put}
use Rattle.version_store.proofs.store.VersionStore.add_table.Goals as goal

pub returns-in-Ok-clause-changes : goal.returns-in-Ok-clause-changes
returns-in-Ok-clause-changes g k usable c stands =
    let was = subst (λ s. StoreRepresents g.S.Store s c) (sym k.self.view_is) stands in
    let new = (state g.S.Store k.write_table.new.connection).now in
    let made = k.in-Ok.ensures.made usable.0 (written c) (next_number c k.self.inside.catalog.tables (k.len.result + 1) was.catalog (ap (λ n. n + 1) k.len.ensures)) was.now.rows in (
      record {
        now = table_put new c k.args.definition k.as_slice.result.now (k.as_slice.ensures.value ∙ sym k.in_ok-bytes.ensures.2) made.0 was.now.definitions (k.in_ok-bytes.ensures.0, k.in_ok-bytes.ensures.1, refl) was.now.values;
        committed = made.1;
        catalog = k.in_ok-push.ensures.pushed ∙ ap (λ (ts : List TableDef). ts ++ k.args.definition ∷ []) was.catalog;
        clock = was.clock;
        dated = was.dated;
      },
      tt,
    )

pub returns-in-Ok-clause-healthy : goal.returns-in-Ok-clause-healthy
returns-in-Ok-clause-healthy g k usable c stands left healthy =
    let was = subst (λ s. StoreRepresents g.S.Store s c) (sym k.self.view_is) stands in
    let sound = subst (λ (s : StoreState _). IsHealthy (0 + left) (state g.S.Store s.connection).now) (sym k.self.view_is) healthy in
    k.in-Ok.ensures.healthy usable.0 left sound c was.now

pub returns-clause-why : goal.returns-clause-why
returns-clause-why g k usable c stands healthy short =
    let was = subst (λ s. StoreRepresents g.S.Store s c) (sym k.self.view_is) stands in
    let sound = subst (λ (s : StoreState _). IsHealthy 0 (state g.S.Store s.connection).now) (sym k.self.view_is) healthy in
    let number = next_number c k.self.inside.catalog.tables (k.len.result + 1) was.catalog (ap (λ n. n + 1) k.len.ensures) in
    let bytes = subst IsShort (sym (k.as_slice.ensures.value ∙ sym k.in_ok-bytes.ensures.2)) short in
    subst (λ (s : StoreState _). IsFailure g.S.Store s.connection k.write_table.new.connection k.from.result) k.self.view_is
    (failed_for g.S.Store k.self.inside.connection k.write_table.new.connection _ k.from.result k.from.ensures.1 (k.write_table.ensures.usable usable).1 (k.in-Err.ensures.why usable.0 sound (written c) was.now.rows (number, bytes)))
