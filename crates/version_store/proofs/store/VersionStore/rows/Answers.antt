use Rattle.std.proofs.Common.{IfErr, ap, sym, subst, refl}
use Rattle.std.specs.Prelude.{IfOk}
use Rattle.sqlite.specs.Held.{state}
use Rattle.version_tables.specs.Steps.{IsAsBefore, KeepsFaults}
use Rattle.version_store.specs.Contents.{AreDated, AreRowsOf, Contents}
use Rattle.version_store.specs.StoreState.{IsFailure, IsUsable, StoreRepresents, StoreState}
use Rattle.version_store.proofs.AfterCalls.{stays}
use Rattle.version_store.proofs.Units.{same_units}
use Rattle.version_store.proofs.store.VersionStore.rows.Goals as goal

pub returns-clause-rows : goal.returns-clause-rows
returns-clause-rows g k usable c stands =
    let was = subst (λ s. StoreRepresents g.S.Store s c) (sym k.self.view_is) stands in
    subst (λ (e : Contents). IfOk k.table_rows.result (λ rows. AreRowsOf e k.args.table rows.items)) (same_units c) (k.table_rows.ensures.rows usable.0 c was.now)

pub returns-clause-same : goal.returns-clause-same
returns-clause-same g k usable c stands =
    let was = subst (λ s. StoreRepresents g.S.Store s c) (sym k.self.view_is) stands in
    let same = k.table_rows.ensures.same usable.0 in
    stays g.S.Store _ _ c was (same.now usable.1, same.committed usable.1) refl refl

pub returns-clause-why : goal.returns-clause-why
returns-clause-why g k usable c stands =
    let was = subst (λ s. StoreRepresents g.S.Store s c) (sym k.self.view_is) stands in
    subst (λ (s : StoreState _). IfErr k.table_rows.result (IsFailure g.S.Store s.connection k.table_rows.new.connection)) k.self.view_is
    (k.table_rows.ensures.why usable c was.now (subst (λ (e : Contents). AreDated e.versions) (sym (same_units c)) was.dated))

pub returns-clause-read : goal.returns-clause-read
returns-clause-read g k = record {
  catalog = ap (λ s. s.catalog) k.self.view_is;
  clock = ap (λ s. s.clock) k.self.view_is;
  usable = λ usable.
      let was = k.table_rows.ensures.same usable.0 in
      subst (λ s. IsUsable g.S.Store s.connection) k.self.view_is (k.table_rows.ensures.clean usable.0, was.was_open usable.1);
  same = λ usable.
      let was = k.table_rows.ensures.same usable.0 in
      subst (λ s. IsAsBefore (state g.S.Store s.connection) (state g.S.Store k.table_rows.new.connection)) k.self.view_is (was.now usable.1, was.committed usable.1);
  faults = subst (λ s. KeepsFaults (state g.S.Store s.connection) (state g.S.Store k.table_rows.new.connection)) k.self.view_is k.table_rows.ensures.faults;
}
