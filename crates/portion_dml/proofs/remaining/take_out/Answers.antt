use Rattle.std.proofs.Common.{◌≡◌, ◌<◌, ◌∷◌, ◌∙◌, ℕ, List, Some, ap, arith, length, map, refl, subst, sym}
use Rattle.std.specs.Prelude.{slice_get}
use Rattle.std.specs.Borrow.{Bor}
use Rattle.std.specs.List.{Contains}
use Rattle.std.specs.List.Sorted.{IsPermutation}
use Rattle.std.specs.Option.{option_map}
use Rattle.std.proofs.lemmas.List.{length-map}
use Rattle.std.proofs.lemmas.List.Sorted.{IsPermutation-map, IsPermutation-remove}
use Rattle.std.proofs.lemmas.Option.{same_Some, slice_get-map, slice_get_read, slice_get_within}
use Rattle.period_core.specs.declared.version.VersionRow.{VersionRow}
use Rattle.portion_dml.proofs.remaining.take_out.Goals as goal

abbrev now_of : Bor VersionRow → VersionRow
now_of r = r.now

-- a place at which a version is found
inside : (items : List (Bor VersionRow)) (place : ℕ) (version : VersionRow) → slice_get (map now_of items) place ≡ Some version → place < length items
inside items place version found =
    let size = length-map items now_of in
    let below = slice_get_within (map now_of items) place version found in
    omega (arith, size, below)

pub remove-taken-requires : goal.remove-taken-requires
remove-taken-requires c =
    let items = c.as_slice.result.now in
    let below : c.in-Some.place < length items = inside items c.in-Some.place c.args.version.now c.in-Some.ensures.found in
    let same = ap length c.as_slice.ensures.value in
    let size = c.args.left.now.ok.0 in
    omega (arith, below, same, size)

-- the items without the one that is taken out
without : (items rest : List (Bor VersionRow)) (place : ℕ) (here : Bor VersionRow) (version : VersionRow) → slice_get (map now_of items) place ≡ Some version → slice_get items place ≡ Some here
    → place < length items → here ≡ here → IsPermutation items (here ∷ rest) → IsPermutation (map now_of items) (version ∷ map now_of rest)
without items rest place here version found there below same moved =
    let is : here.now ≡ version = same_Some here.now version (sym (slice_get-map now_of items place ∙ ap (option_map now_of) there) ∙ found) in
    subst (λ (v : VersionRow). IsPermutation (map now_of items) (v ∷ map now_of rest)) is (IsPermutation-map now_of items (here ∷ rest) moved)

pub returns-clause-taken : goal.returns-clause-taken
returns-clause-taken c =
    let items : List (Bor VersionRow) = c.args.left.now.items in
    let place : ℕ = c.in-Some.place in
    let here : Bor VersionRow = c.remove-taken.result in
    let found : slice_get (map now_of items) place ≡ Some c.args.version.now =
    subst (λ (l : List (Bor VersionRow)). slice_get (map now_of l) place ≡ Some c.args.version.now) c.as_slice.ensures.value c.in-Some.ensures.found in
    let below : place < length items = inside items place c.args.version.now found in
    let there : slice_get items place ≡ Some here = slice_get_read items (length items) place here refl below c.remove-taken.ensures.value in
    without items c.remove-taken.new.self.items place here c.args.version.now found there below refl
    (subst (λ (l : List (Bor VersionRow)). IsPermutation items (here ∷ l)) (sym c.remove-taken.ensures.items) (IsPermutation-remove items place here below c.remove-taken.ensures.value))

pub returns-in_default-clause-absent : goal.returns-in_default-clause-absent
returns-in_default-clause-absent c =
    subst (λ (l : List (Bor VersionRow)). Contains (map now_of l) c.args.version.now → ⊥) c.as_slice.ensures.value c.in_default.ensures.absent
