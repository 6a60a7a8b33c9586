-- Worked rows: what a cursor gives of the rows 2, 5 and 9, and what undoing an edit at 5 gives.
use Rattle.std.proofs.Common.{◌≡◌, ◌∷◌, [], pos, true, arith, refl}
use Rattle.sqlite_value.specs.declared.value.Value.TheVariants.{Int}
use Rattle.sqlite_value.specs.Order.{Row}
use Rattle.sqlite_trees.specs.declared.store.Direction.TheVariants.{Forward, Backward}
use Rattle.ordered_rows.specs.declared.undo.InverseEdit.TheVariants.{Out}
use Rattle.ordered_rows.specs.declared.undo.Undo.{Undo}
use Rattle.ordered_rows.specs.Cursors.{Gives, left_from}
use Rattle.ordered_rows.specs.Edits.{inserted}
use Rattle.ordered_rows.specs.Heights.{IsLow}
use Rattle.ordered_rows.specs.Undos.{Undoes}

abbrev two : Row
two = Int (pos 2) ∷ []

abbrev five : Row
five = Int (pos 5) ∷ []

abbrev nine : Row
nine = Int (pos 9) ∷ []

-- three rows are too few for a height of five, which is a chain's
chain-low : IsLow 3 3 → ⊥
chain-low h = omega (arith, h)

left-forward : left_from Forward 1 (two ∷ five ∷ nine ∷ []) ≡ five ∷ nine ∷ []
left-forward = refl

-- backward a cursor begins with the row before its number
left-backward : left_from Backward 2 (two ∷ five ∷ nine ∷ []) ≡ five ∷ two ∷ []
left-backward = refl

gives-first : Gives (two ∷ five ∷ []) (five ∷ []) two true
gives-first = refl

-- 5 was put in, and is taken out
undo-out : (undo : Undo) → undo.inverse ≡ Out 1 → Undoes (two ∷ nine ∷ []) (two ∷ five ∷ nine ∷ []) (inserted 1 five) undo
undo-out undo is = (refl, rw is refl)

-- 9 is taken out in the place of 5
undo-wrong : (undo : Undo) → undo.inverse ≡ Out 2 → Undoes (two ∷ nine ∷ []) (two ∷ five ∷ nine ∷ []) (inserted 1 five) undo → ⊥
undo-wrong undo is h =
    let same : two ∷ five ∷ [] ≡ two ∷ nine ∷ [] = rw is at h.1 in
    cc
