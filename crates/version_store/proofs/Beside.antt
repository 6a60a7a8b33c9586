-- The other tables of a store's database, over one call after another.
use Rattle.std.proofs.Common.{◌≡◌, sym, subst}
use Rattle.sqlite.specs.Held.{Held, state}
use Rattle.sqlite.specs.Store.{Ghosts}
use Rattle.version_tables.specs.Tables.{HasStoreTables}
use Rattle.version_tables.proofs.Keeping.{keeps_same, keeps_then}
use Rattle.version_store.specs.StoreState.{IsUsable, SparesOthers}

-- a call that changes nothing spares the other tables
pub spares_same : {S : Type 0} (g : Ghosts S) (a b : Held S) → (IsUsable g b → (state g b).now ≡ (state g a).now) → SparesOthers g a b
spares_same g a b same usable clean has = keeps_same _ _ (same usable)

-- two calls that spare the other tables spare them together
pub spares_then : {S : Type 0} (g : Ghosts S) (a b c : Held S) → SparesOthers g a b → (IsUsable g c → IsUsable g b) → SparesOthers g b c → SparesOthers g a c
spares_then g a b c p was q usable clean has =
    let before = was usable in
    let first = p before before.0 has in
    keeps_then _ _ _ first (q usable clean (subst HasStoreTables (sym first.schema_is) has))
