-- An edit that fits a shape keeps it.
use Rattle.std.proofs.Common.{◌≡◌, ◌≢◌, Err, IfOk, List, Ok, OnErr, Result}
use Rattle.std.proofs.Math.Logic.{∥∥₁_elim}
use Rattle.sqlite_value.specs.Order.{Row}
use Rattle.sqlite_trees.specs.declared.store.Shape.{Shape}
use Rattle.sqlite_trees.specs.declared.store.Shape.TheVariants.{Absent}
use Rattle.sqlite_trees.specs.Props.{IsShaped-prop}
use Rattle.sqlite_trees.specs.View.{IsShaped}
use Rattle.sqlite_trees.proofs.TreeLemmas.{IsIndex-insert_entry, IsShaped-filter, IsShaped-put_row}
use Rattle.memory_store.specs.declared.edit.Edit.{Edit}
use Rattle.memory_store.specs.declared.edit.Edit.TheVariants.{Delete, Insert, Put, Remove}
use Rattle.memory_store.specs.Edit.{Fits, edited}

pub shaped : (shape : Shape) (rows : List Row) → ∥ IsShaped shape rows ∥₁ → IsShaped shape rows
shaped shape rows h = ∥∥₁_elim h (IsShaped-prop shape rows) (λ x. x)

pub stays_shaped : (edit : Edit) (shape : Shape) (rows : List Row) → Fits edit shape → ∥ IsShaped shape rows ∥₁ → ∥ IsShaped shape (edited edit rows) ∥₁
stays_shaped (Put row) shape rows fits h =
    let was = rw fits.0 at (shaped shape rows h) in rw fits.0 (∣ IsShaped-put_row row.now rows fits.1 was ∣₁)
stays_shaped (Delete id) shape rows fits h = ∣ IsShaped-filter shape _ rows (shaped shape rows h) ∣₁
stays_shaped (Insert order entry) shape rows fits h =
    let was = rw fits at (shaped shape rows h) in rw fits (∣ IsIndex-insert_entry order entry.now rows was ∣₁)
stays_shaped (Remove order entry) shape rows fits h = ∣ IsShaped-filter shape _ rows (shaped shape rows h) ∣₁

-- the edit was made, or nothing was changed
pub done_or_not : {X E : Type 0} (r : Result X E) (shape : Shape) (old new after : List Row) (Undoes : X → Type 0) → IfOk r (λ x. (new ≡ after) × Undoes x) → OnErr r (new ≡ old)
    → ∥ IsShaped shape old ∥₁ → ∥ IsShaped shape after ∥₁ → ∥ IsShaped shape new ∥₁
done_or_not (Ok x) shape old new after Undoes ok err was is = rw ok.0 is
done_or_not (Err e) shape old new after Undoes ok err was is = rw err was

pub fits_present : (edit : Edit) (shape : Shape) → Fits edit shape → shape ≢ Absent
fits_present (Put row) shape fits none = let is = fits.0 in cc
fits_present (Delete id) shape fits none = cc
fits_present (Insert order entry) shape fits none = cc
fits_present (Remove order entry) shape fits none = cc
