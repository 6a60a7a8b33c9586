-- An entry of a list, by a table's number.
use Rattle.std.proofs.Common.{◌≡◌, ◌-◌, ◌∷◌, ◌∙◌, [], ℕ, zero, suc, List, Some, ap, arith, set, sym}
use Rattle.std.specs.List.{slice_get}
use Rattle.catalog_core.specs.table.TableWords.{table_of}

set_at : {T : Type 0} (list : List T) (place : ℕ) (old new : T) → slice_get list place ≡ Some old → new ≡ old → set list place new ≡ list
set_at [] place old new there same = cc
set_at (x ∷ list) zero old new there same = let is : x ≡ old = cc in ap (λ y. y ∷ list) (same ∙ sym is)
set_at (x ∷ list) (suc place) old new there same = ap (λ l. x ∷ l) (set_at list place old new there same)

-- an entry that is written with what it was
pub set_there : {T : Type 0} (list : List T) (number : ℕ) (old new : T) → table_of list number ≡ Some old → new ≡ old → set list (number - 1) new ≡ list
set_there list zero old new there same = cc
set_there list (suc place) old new there same = let e : suc place - 1 ≡ place = omega arith in rw e (set_at list place old new there same)
