use Rattle.std.proofs.Common.{◌∙◌, ap, subst, subst₂, sym}
use Rattle.std.specs.Prelude.{IsTrue}
use Rattle.version_store.proofs.Keys.{keys_kept}
use Rattle.version_store.proofs.Opens.{good_store}
use Rattle.sqlite.specs.Held.{Held, state}
use Rattle.sqlite.specs.Store.{Ghosts}
use Rattle.version_tables.specs.Healthy.{AreShort, IsHealthy}
use Rattle.version_tables.specs.Moves.{AreInSeconds}
use Rattle.version_tables.specs.declared.form.Form.{Form}
use Rattle.version_tables.specs.declared.form.Form.TheVariants.{Seconds}
use Rattle.version_store.specs.Contents.{AreDated, Contents}
use Rattle.version_store.specs.GoodStore.{IsGoodStore}
use Rattle.version_store.specs.StoreState.{IsFailure, IsUsable, OpenedRepresents, OpenedState, StoreState}
use Rattle.version_store.specs.Written.{Has, HaveShortValues, written_in}
use Rattle.version_store.proofs.Opened.{accepted_as_it_is, has_moved}
use Rattle.version_store.proofs.AfterCalls.{failed_for}
use Rattle.version_store.proofs.Units.{are_in_seconds, were_short}
use Rattle.version_store.proofs.store.opened.OpenedStore.accept.Goals as goal

abbrev opened_of : {S : Type 0} → StoreState S → Form → OpenedState S
opened_of store form = record { store = store; form = form }

-- the records of a database of form 1
module _ {S : Type 0} (g : Ghosts S) (store : StoreState S) (d : Contents) (was : OpenedRepresents g (opened_of store Seconds) d) where
  are_seconds : AreInSeconds store.clock (written_in Seconds was.counted)
  are_seconds =
      are_in_seconds was.counted store.clock (was.clock ∙ sym (ap (λ (e : Contents). e.clock) was.same)) (subst (λ (e : Contents). AreDated e.versions) (sym was.same) was.dated)

  are_short : HaveShortValues d.versions → AreShort (written_in Seconds was.counted).versions
  are_short short = were_short Seconds was.counted.versions (subst (λ (e : Contents). HaveShortValues e.versions) (sym was.same) short)

pub returns-in-Microseconds-clause-accepted : goal.returns-in-Microseconds-clause-accepted
returns-in-Microseconds-clause-accepted g c = λ usable d stands.
    let opened = opened_of c.self.inside.store c.self.inside.form in
    accepted_as_it_is g.S.Store opened d c.in-Microseconds.is (subst (λ o. OpenedRepresents g.S.Store o d) (sym c.self.view_is) stands)

pub returns-in-Ok-clause-accepted : goal.returns-in-Ok-clause-accepted
returns-in-Ok-clause-accepted g c = λ usable d stands.
    let old = (state g.S.Store c.store-in-Seconds.inside.connection).now in
    let new = (state g.S.Store c.write_move.new.connection).now in
    let opened = subst (λ o. OpenedRepresents g.S.Store o d) (sym c.self.view_is) stands in
    let was = subst₂ (λ (s : StoreState g.row.S.Denot) (f : Form). OpenedRepresents g.S.Store (opened_of s f) d) (sym c.store-in-Seconds.view_is) c.in-Seconds.is opened in
    let made = c.in-Ok.ensures.made usable.0 (written_in Seconds was.counted) (are_seconds g.S.Store _ d was) was.now.rows in
    record { now = has_moved old new was.counted d was.same was.now made.0; committed = made.1; catalog = was.catalog; clock = was.clock; dated = was.dated }

-- a store whose keys and references hold is good: while its connection is open, no two rows share a key

pub returns-in-Microseconds-clause-good : goal.returns-in-Microseconds-clause-good
returns-in-Microseconds-clause-good g c = λ usable test d stands good.
    let db = (state g.S.Store c.store.inside.connection).now in
    let alive = subst (λ (s : StoreState g.row.S.Denot). IsUsable g.S.Store s.connection) (sym c.store.view_is) usable in
    let has = subst (λ (s : StoreState g.row.S.Denot). Has (state g.S.Store s.connection).now d) (sym c.store.view_is) (returns-in-Microseconds-clause-accepted g c usable d stands).now in
    subst (λ (s : StoreState g.row.S.Denot). IsGoodStore (λ (e : Contents). IsTrue (test e)) (state g.S.Store s.connection).now) c.store.view_is
    (good_store db d has (keys_kept db has.rows.schema (c.schema-live.ensures.live alive.1).0 has.rows.untied has.rows.keyed) good)

pub returns-in-Ok-clause-good : goal.returns-in-Ok-clause-good
returns-in-Ok-clause-good g c = λ usable test d stands good.
    let db = (state g.S.Store c.write_move.new.connection).now in
    let has = (returns-in-Ok-clause-accepted g c usable d stands).now in
    good_store db d has (keys_kept db has.rows.schema (c.schema-live-in-Ok.ensures.live usable.1).0 has.rows.untied has.rows.keyed) good

-- ---- a store is left healthy; why it fails

pub returns-in-Microseconds-clause-healthy : goal.returns-in-Microseconds-clause-healthy
returns-in-Microseconds-clause-healthy g c = λ usable d stands left healthy.
    let opened = subst (λ (o : OpenedState g.row.S.Denot). IsHealthy left (state g.S.Store o.store.connection).now) (sym c.self.view_is) healthy in
    opened

pub returns-in-Ok-clause-healthy : goal.returns-in-Ok-clause-healthy
returns-in-Ok-clause-healthy g c = λ usable d stands left healthy.
    let opened = subst (λ o. OpenedRepresents g.S.Store o d) (sym c.self.view_is) stands in
    let sound = subst (λ (o : OpenedState g.row.S.Denot). IsHealthy left (state g.S.Store o.store.connection).now) (sym c.self.view_is) healthy in
    let same = λ (s : StoreState g.row.S.Denot). IsHealthy left (state g.S.Store s.connection).now in
    let was = subst₂ (λ (s : StoreState g.row.S.Denot) (f : Form). OpenedRepresents g.S.Store (opened_of s f) d) (sym c.store-in-Seconds.view_is) c.in-Seconds.is opened in
    c.in-Ok.ensures.healthy usable.0 left (subst same (sym c.store-in-Seconds.view_is) sound) (written_in Seconds was.counted, (are_seconds g.S.Store _ d was).1, was.now.rows)

pub returns-in-Err-clause-why : goal.returns-in-Err-clause-why
returns-in-Err-clause-why g c = λ usable d stands can.
    let opened = subst (λ o. OpenedRepresents g.S.Store o d) (sym c.self.view_is) stands in
    let sound = subst (λ (o : OpenedState g.row.S.Denot). IsHealthy 0 (state g.S.Store o.store.connection).now) (sym c.self.view_is) can.healthy in
    let same = λ (s : StoreState g.row.S.Denot). IsHealthy 0 (state g.S.Store s.connection).now in
    let was = subst₂ (λ (s : StoreState g.row.S.Denot) (f : Form). OpenedRepresents g.S.Store (opened_of s f) d) (sym c.store-in-Seconds.view_is) c.in-Seconds.is opened in
    let held = subst (IsUsable g.S.Store) c.close.ensures.same usable in
    let caused = c.in-Err.ensures.why held.0 (subst same (sym c.store-in-Seconds.view_is) sound) (written_in Seconds was.counted) was.now.rows (are_seconds g.S.Store _ d was, are_short g.S.Store _ d was can.short) in
    let failed = failed_for g.S.Store c.store-in-Seconds.inside.connection c.write_move.new.connection _ c.from.result c.from.ensures.1 (c.write_move.ensures.usable held).1 caused in
    let handed = subst (λ (h : Held g.row.S.Denot). IsFailure g.S.Store c.store-in-Seconds.inside.connection h c.from.result) (sym c.close.ensures.same) failed in
    subst (λ (o : OpenedState g.row.S.Denot). IsFailure g.S.Store o.store.connection c.close.result c.from.result) c.self.view_is
    (subst (λ (s : StoreState g.row.S.Denot). IsFailure g.S.Store s.connection c.close.result c.from.result) c.store-in-Seconds.view_is handed)
