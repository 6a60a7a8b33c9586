-- Worked rows of lawful changes: an INSERT of a row of the table clashes with it, and so do two rows that an UPDATE makes equal; a row that an UPDATE leaves with its key does not clash with itself.
use Rattle.std.proofs.Common.{◌≡◌, ◌∷◌, [], ℕ, ℤ, pos, None, List, refl, sym, ap, subst}
use Rattle.std.specs.Prelude.{Contains}
use Rattle.period_core.specs.declared.value.Value.{Value}
use Rattle.period_core.specs.declared.value.Value.TheVariants.{Int}
use Rattle.temporal_model.proofs.Members.{Contains-here, Contains-one, Contains-there}
use Rattle.catalog_core.specs.declared.change.Action.TheVariants.{Insert, Update}
use Rattle.catalog_core.specs.declared.change.Assignment.{Assignment}
use Rattle.catalog_core.specs.declared.change.InsertedRow.{InsertedRow}
use Rattle.history_model.specs.Effects.{Given, Kept, Traced, inserted_row, kept, traced}
use Rattle.period_keys.specs.Days.{LacksParent}
use Rattle.period_keys.specs.Keys.{values_at}
use Rattle.period_keys.specs.Lawful.{OriginsShareKey}

abbrev worker : (number department : ℤ) → List Value
worker number department = Int number ∷ Int department ∷ []

abbrev given : InsertedRow
given = record { values = worker (pos 1) (pos 3); start = pos 10; end = pos 20 }

origins_apart : (values : List Value) (i : ℕ) → Kept values ≡ Given i → ⊥
origins_apart values i e = cc

-- equal rows, one of which is given, are two rows of one key
same_row_clashes : OriginsShareKey (0 ∷ []) (traced (Insert (given ∷ [])) (pos 12) (worker (pos 1) (pos 3) ∷ []))
same_row_clashes =
    let old : Traced = kept (worker (pos 1) (pos 3)) in
    let new : Traced = inserted_row (0, given) in
    (old, new, Contains-here old (new ∷ []), Contains-there old (new ∷ []) new (Contains-here new []), origins_apart (worker (pos 1) (pos 3)) 0, refl)

-- SET gives the first column the value 1
abbrev renumber : Assignment
renumber = record { position = 0; value = Int (pos 1) }

numbers_apart : Kept (worker (pos 1) (pos 3)) ≡ Kept (worker (pos 2) (pos 3)) → ⊥
numbers_apart e = cc

-- two rows that it makes equal are two rows of one key
made_equal_clash : OriginsShareKey (0 ∷ []) (traced (Update None (renumber ∷ []) None) (pos 12) (worker (pos 1) (pos 3) ∷ worker (pos 2) (pos 3) ∷ []))
made_equal_clash =
    let first : Traced = record { origin = Kept (worker (pos 1) (pos 3)); row = worker (pos 1) (pos 3) } in
    let second : Traced = record { origin = Kept (worker (pos 2) (pos 3)); row = worker (pos 1) (pos 3) } in
    (first, second, Contains-here first (second ∷ []), Contains-there first (second ∷ []) second (Contains-here second []), numbers_apart, refl)

-- a single row has one origin
alone-lawful : OriginsShareKey (0 ∷ []) (traced (Update None (renumber ∷ []) None) (pos 12) (worker (pos 2) (pos 3) ∷ [])) → ⊥
alone-lawful (a, b, in_a, in_b, apart, same) =
    let row : Traced = record { origin = Kept (worker (pos 2) (pos 3)); row = worker (pos 1) (pos 3) } in
    apart (ap (λ (t : Traced). t.origin) (subst (λ (t : Traced). t ≡ b) (Contains-one row a in_a) (Contains-one row b in_b)))

-- a worker of department 7 has no parent among the departments 3
lacks-department : LacksParent (1 ∷ []) (worker (pos 1) (pos 7) ∷ []) (0 ∷ []) ((Int (pos 3) ∷ []) ∷ [])
lacks-department = (
  worker (pos 1) (pos 7),
  Contains-here (worker (pos 1) (pos 7)) [],
  λ parent there same. departments_apart (subst (λ (row : List Value). values_at (0 ∷ []) row ≡ values_at (1 ∷ []) (worker (pos 1) (pos 7))) (parent_is parent there) same),
)
  where
    parent_is : (parent : List Value) → Contains ((Int (pos 3) ∷ []) ∷ []) parent → parent ≡ Int (pos 3) ∷ []
    parent_is parent there = sym (Contains-one (Int (pos 3) ∷ []) parent there)

    departments_apart : (Int (pos 3) ∷ []) ≡ (Int (pos 7) ∷ []) → ⊥
    departments_apart e = cc
