-- The contents that an opened store represents, before it is accepted and after.
use Rattle.std.proofs.Common.{◌≡◌, ◌∙◌, sym, subst}
use Rattle.sqlite.specs.Effect.{Database}
use Rattle.sqlite.specs.Held.{state}
use Rattle.sqlite.specs.Store.{Ghosts}
use Rattle.version_tables.specs.Moves.{moved}
use Rattle.version_tables.specs.Represents.{Represents}
use Rattle.version_tables.specs.declared.form.Form.{Form}
use Rattle.version_tables.specs.declared.form.Form.TheVariants.{Seconds, Microseconds}
use Rattle.version_store.specs.Contents.{Contents}
use Rattle.version_store.specs.StoreState.{OpenedRepresents, OpenedState, StoreRepresents, StoreState}
use Rattle.version_store.specs.Units.{in_microseconds}
use Rattle.version_store.specs.Written.{Has, HasIn, written_in}
use Rattle.version_store.proofs.Units.{moved_is, same_units, values_in}

-- a store of form 2 has the contents that it is opened with
pub opened_new : {S : Type 0} (g : Ghosts S) (store : StoreState S) (c : Contents) → StoreRepresents g store c
    → OpenedRepresents g (let opened : OpenedState S = record { store = store; form = Microseconds } in opened) c
opened_new g store c was = record {
  counted = c;
  same = same_units c;
  now = was.now;
  committed = was.committed;
  catalog = was.catalog;
  clock = was.clock;
  dated = was.dated;
}

-- a store in microseconds is accepted as it is
pub accepted_as_it_is : {S : Type 0} (g : Ghosts S) (opened : OpenedState S) (c : Contents) → opened.form ≡ Microseconds → OpenedRepresents g opened c → StoreRepresents g opened.store c
accepted_as_it_is g opened c form was =
    let units : was.counted ≡ c = sym (same_units was.counted) ∙ subst (λ (f : Form). in_microseconds f was.counted ≡ c) form was.same in
    let now : Has (state g opened.store.connection).now was.counted = subst (λ (f : Form). HasIn f (state g opened.store.connection).now was.counted) form was.now in
    record {
      now = subst (Has (state g opened.store.connection).now) units now;
      committed = was.committed;
      catalog = was.catalog;
      clock = was.clock;
      dated = was.dated;
    }

-- a database that was moved has the contents in microseconds
pub has_moved : (old new : Database) (c d : Contents) → in_microseconds Seconds c ≡ d → HasIn Seconds old c → Represents new (moved (written_in Seconds c)) → Has new d
has_moved old new c d same was made = subst (Has new) same (record {
  rows = subst (Represents new) (moved_is c) made;
  definitions = was.definitions;
  values = values_in Seconds c.versions was.values;
})
