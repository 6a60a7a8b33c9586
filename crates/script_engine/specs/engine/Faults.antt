-- The fault with which a change is refused, and the demands of keys and references on contents.
use Rattle.std.specs.Prelude.{ℤ, List, filter, map}
use Rattle.period_core.specs.declared.refusal.Refusal.{Refusal}
use Rattle.period_core.specs.declared.refusal.Refusal.TheVariants.{KeyOverlap, PeriodReference}
use Rattle.period_core.specs.declared.window.Window.TheVariants.{Now}
use Rattle.temporal_model.specs.Snapshot.{covers_day}
use Rattle.catalog_core.specs.declared.change.Change.{Change}
use Rattle.catalog_core.specs.declared.table.TableDef.{TableDef}
use Rattle.history_model.specs.Histories.{State}
use Rattle.period_keys.specs.Keys.{IsLeastDay}
use Rattle.period_keys.specs.Lawful.{IsKeyFault, IsLawfulState, IsReferenceFault}
use Rattle.version_store.specs.Contents.{Contents, TableVersion}
use Rattle.version_store.specs.Scans.{seen_of}

-- 42 with the least day on which the change lets two rows of its table share the key; if there
-- is none, 43 with the least day on which it leaves a row of some table without its parent, by any
-- reference
abbrev pub IsFault : List TableDef → State → Change → Refusal → Type 0
IsFault catalog before change (KeyOverlap day) =
    IsLeastDay (IsKeyFault catalog before change) day
IsFault catalog before change (PeriodReference day) =
    ((other : ℤ) → IsKeyFault catalog before change other → ⊥)
    × IsLeastDay (IsReferenceFault catalog before change) day
IsFault catalog before change _ = ⊥

-- the current versions of contents on each day
abbrev pub current_state : Contents → State
current_state c table day =
    map (λ (v : TableVersion). v.values)
    (filter (λ (v : TableVersion). covers_day v.start v.end day) (seen_of table Now c.versions))

-- on no day do two current rows of a table share its key, and each child row has its parent
abbrev pub AreConstrained : Contents → Type 0
AreConstrained c = IsLawfulState c.tables (current_state c)
