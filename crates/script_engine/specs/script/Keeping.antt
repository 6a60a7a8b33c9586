-- A list of all results, with the next one.
use Rattle.std.specs.Prelude.{◌≡◌, ◌<◌, ◌+◌, ◌++◌, ◌∷◌, ℕ, Bool, [], true, vec_capacity, vec_len}
use Rattle.script_engine.specs.declared.script.listener.AllKept.{AllKept}

-- if the list has room for the result it is added at the end, and more is asked for
abbrev pub AddsWhereRoom : {K : Type 0} → AllKept K → ℕ → K → Bool → AllKept K → Type 0
AddsWhereRoom old number kept goes_on new = vec_len old.kept < vec_capacity old.kept
    → (new.kept.items ≡ old.kept.items ++ kept ∷ []) × (goes_on ≡ true)
    × (vec_len new.kept ≡ vec_len old.kept + 1) × (vec_capacity new.kept ≡ vec_capacity old.kept)
