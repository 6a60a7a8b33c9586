-- The versions that a history leaves, and its order, with one more event.
use Rattle.std.proofs.Common.{◌≡◌, ◌++◌, ◌∷◌, ◌∙◌, ℕ, ℤ, Bool, true, false, List, [], fold, map, nat_eq, refl, subst, sym}
use Rattle.std.specs.List.Sorted.{IsPermutation}
use Rattle.std.proofs.lemmas.List.Sorted.{IsPermutation-refl}
use Rattle.period_core.specs.declared.version.VersionRow.{VersionRow}
use Rattle.catalog_core.specs.declared.change.Change.{Change}
use Rattle.catalog_core.specs.declared.table.TableDef.{TableDef}
use Rattle.history_model.specs.Histories.{Advanced, AreInOrder, Queried, Changed, Created, Event, History, IsInOrder, clock_after, clock_of, with_event}
use Rattle.history_model.specs.HistoryVersions.{AreVersionsOf, AppliesAction, AppliesActionIf, after_event, versions_of}
use Rattle.history_model.specs.Versions.{plain_version}
use Rattle.history_model.proofs.HistoryVersionFacts.{left_more, versions_of-event}

-- ---- the versions

left_same : (history : History) (event : Event) (table : ℕ) (rows : List VersionRow) → after_event table (versions_of history table) event ≡ versions_of history table → AreVersionsOf history table rows → AreVersionsOf (with_event history event) table rows
left_same history event table rows same left = subst (IsPermutation (map plain_version rows)) (sym (versions_of-event history event table ∙ same)) left

-- AT, CREATE and a query leave the versions
pub left-advanced : (history : History) (moment : ℤ) (table : ℕ) (rows : List VersionRow) → AreVersionsOf history table rows → AreVersionsOf (with_event history (Advanced moment)) table rows
left-advanced history moment table rows left = left_same history (Advanced moment) table rows refl left

pub left-created : (history : History) (definition : TableDef) (table : ℕ) (rows : List VersionRow) → AreVersionsOf history table rows → AreVersionsOf (with_event history (Created definition)) table rows
left-created history definition table rows left = left_same history (Created definition) table rows refl left

pub left-asked : (history : History) (table : ℕ) (rows : List VersionRow) → AreVersionsOf history table rows → AreVersionsOf (with_event history Queried) table rows
left-asked history table rows left = left_same history Queried table rows refl left

-- a change makes its versions of the versions of its table
pub left-changed_there : (history : History) (moment : ℤ) (change : Change) (table : ℕ) (rows more : List VersionRow) → AreVersionsOf history table rows → nat_eq table change.table ≡ true → AppliesAction moment change.action rows more →
    AreVersionsOf (with_event history (Changed moment change)) table more
left-changed_there history moment change table rows more left here makes =
    left_more history moment change table rows more left (subst (λ (b : Bool). AppliesActionIf b moment change.action rows more) (sym here) makes)

-- a change leaves the versions of each other table
pub left-changed_elsewhere : (history : History) (moment : ℤ) (change : Change) (table : ℕ) (rows : List VersionRow) → AreVersionsOf history table rows → nat_eq table change.table ≡ false →
    AreVersionsOf (with_event history (Changed moment change)) table rows
left-changed_elsewhere history moment change table rows left off =
    left_more history moment change table rows rows left (subst (λ (b : Bool). AppliesActionIf b moment change.action rows rows) (sym off) (IsPermutation-refl rows))

-- ---- the order

-- events in order, and one more that is in order after them
in_order-append : (clock : ℤ) (events : List Event) (event : Event) → AreInOrder clock events → AreInOrder (fold clock_after clock events) (event ∷ []) → AreInOrder clock (events ++ event ∷ [])
in_order-append clock [] event was more = more
in_order-append clock (Advanced moment ∷ events) event (late, before, was) more = (late, before, in_order-append moment events event was more)
in_order-append clock (Created definition ∷ events) event was more = in_order-append clock events event was more
in_order-append clock (Changed moment change ∷ events) event (at, was) more = (at, in_order-append clock events event was more)
in_order-append clock (Queried ∷ events) event was more = in_order-append clock events event was more

pub order-event : (history : History) (event : Event) → IsInOrder history → AreInOrder (clock_of history) (event ∷ []) → IsInOrder (with_event history event)
order-event history event order more = record {
  before = order.before;
  recorded = order.recorded;
  events = in_order-append history.opening.clock history.events event order.events more;
}
