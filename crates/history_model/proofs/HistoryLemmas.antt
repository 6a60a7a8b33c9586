-- A history's clock, catalog and states after one more event.
use Rattle.std.proofs.Common.{◌≡◌, ◌<ℤ◌, ◌≤ℤ◌, ℕ, ℤ, Bool, true, false, List, [], ◌∷◌, ◌++◌, Option, Some, None, cond, fold, filter_map, refl, sym, ap, ◌∙◌, append_assoc, append-nil, arith}
use Rattle.std.specs.Prelude.{int_le}
use Rattle.std.proofs.lemmas.Int.{ints}
use Rattle.std.proofs.lemmas.List.Elements.{filter_map-append}
use Rattle.std.proofs.lemmas.List.Sums.{fold-append}
use Rattle.std.proofs.lemmas.List.Sorted.{IsPermutation-refl}
use Rattle.catalog_core.specs.declared.change.Change.{Change}
use Rattle.catalog_core.specs.declared.table.TableDef.{TableDef}
use Rattle.history_model.specs.Effects.{effect}
use Rattle.history_model.specs.Histories.{Changed, Database, Event, History, catalog_of, changed_until, clock_after, clock_of, created_by, opened, state_at, versions_in, with_event}
use Rattle.history_model.specs.Represents.{Represents}
use Rattle.history_model.specs.Versions.{values_at}

-- the clock after one more event
pub clock_of-event : (history : History) (event : Event) → clock_of (with_event history event) ≡ clock_after (clock_of history) event
clock_of-event history event = fold-append clock_after history.opening.clock history.events (event ∷ [])

-- the catalog after one more event: a CREATE adds its table
pub catalog_of-event : (history : History) (event : Event) → catalog_of (with_event history event) ≡ catalog_of history ++ filter_map created_by (event ∷ [])
catalog_of-event history event =
    ap (λ (created : List TableDef). history.opening.catalog ++ created) (filter_map-append created_by history.events (event ∷ []))
    ∙ sym (append_assoc history.opening.catalog (filter_map created_by history.events) (filter_map created_by (event ∷ [])))

-- a state after one more event: a change until the moment takes effect
pub state_at-event : (history : History) (event : Event) (moment : ℤ) (table : ℕ) (day : ℤ) →
    state_at (with_event history event) moment table day
    ≡ fold (λ rows change. effect change table day rows) (state_at history moment table day) (filter_map (changed_until moment) (event ∷ []))
state_at-event history event moment table day =
    let first = values_at (versions_in history.opening table) moment day in
    ap (λ (changes : List Change). fold (λ rows change. effect change table day rows) first changes) (filter_map-append (changed_until moment) history.events (event ∷ []))
    ∙ fold-append (λ rows change. effect change table day rows) first (filter_map (changed_until moment) history.events) (filter_map (changed_until moment) (event ∷ []))

-- a change is seen from its moment on
pub state_at-changed_later : (history : History) (at : ℤ) (change : Change) (moment : ℤ) (table : ℕ) (day : ℤ) → at ≤ℤ moment
    → state_at (with_event history (Changed at change)) moment table day ≡ effect change table day (state_at history moment table day)
state_at-changed_later history at change moment table day late =
    let t : int_le at moment ≡ true = grind (arith, ints) in state_at-event history (Changed at change) moment table day ∙ go (int_le at moment) t
  where
    go : (b : Bool) → b ≡ true → fold (λ rows change. effect change table day rows) (state_at history moment table day) (filter_map (λ (o : Option Change). o) (cond b (Some change) None ∷ [])) ≡ effect change table day (state_at history moment table day)
    go true e = refl
    go false e = cc

-- a change leaves the states before its moment
pub state_at-changed_earlier : (history : History) (at : ℤ) (change : Change) (moment : ℤ) (table : ℕ) (day : ℤ) → moment <ℤ at
    → state_at (with_event history (Changed at change)) moment table day ≡ state_at history moment table day
state_at-changed_earlier history at change moment table day early =
    let t : int_le at moment ≡ false = grind (arith, ints) in state_at-event history (Changed at change) moment table day ∙ go (int_le at moment) t
  where
    go : (b : Bool) → b ≡ false → fold (λ rows change. effect change table day rows) (state_at history moment table day) (filter_map (λ (o : Option Change). o) (cond b (Some change) None ∷ [])) ≡ state_at history moment table day
    go true e = cc
    go false e = refl

pub represents_opened : (database : Database) → Represents (opened database) database
represents_opened database = record {
  clock = refl;
  catalog = sym (append-nil database.catalog);
  daily = λ table moment day before. IsPermutation-refl (values_at (versions_in database table) moment day);
}
