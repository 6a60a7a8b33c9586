use Rattle.std.proofs.Common.{◌≡◌, ◌≤◌, ℕ, List, Result, Ok, Err, IfOk, arith, length, true}
use Rattle.catalog_core.proofs.lemmas.bytes.DefinitionParts.{places_wider}
use Rattle.catalog_core.specs.Limits.{number_limit}
use Rattle.catalog_core.specs.table.IsDefinition.{are_places}
use Rattle.catalog_core.proofs.table.columns.def_places.Goals as goal

places_small : {V E : Type 0} (items : V → List ℕ) (n : ℕ) (made : Result V E) → n ≤ number_limit → IfOk made (λ v. are_places n (items v) ≡ true) → IfOk made (λ v. are_places number_limit (items v) ≡ true)
places_small items n (Ok v) more kept = places_wider n number_limit more (items v) kept
places_small items n (Err e) more kept = tt

pub returns-clause-value : goal.returns-clause-value
returns-clause-value c = rw c.as_slice.ensures at c.places_among.ensures.value

pub returns-clause-small : goal.returns-clause-small
returns-clause-small c =
    let few : length c.as_slice.result.now ≤ number_limit = omega (arith, c.as_slice.type_inv) in
    places_small (λ v. v.items) (length c.as_slice.result.now) c.places_among.result few c.places_among.ensures.within
