-- Going over versions of which a plan ends some, each once, in any order.
use Rattle.std.proofs.Common.{◌≡◌, ◌+◌, ◌<◌, ◌≤◌, ℕ, List, [], ◌∷◌, ◌++◌, map, refl, sym, ◌∙◌, ap, ap₂, subst, arith, drop, length, get_or, drop-cons, add-one, append-nil, append_assoc, inl, inr}
use Rattle.std.specs.List.{Contains}
use Rattle.std.specs.List.Sorted.{IsPermutation}
use Rattle.std.proofs.lemmas.List.{length-append, length-drop, map-append, nil_from_length}
use Rattle.std.proofs.lemmas.List.Elements.{Contains-append_cases}
use Rattle.std.proofs.lemmas.List.Sorted.{Contains-permutation, IsPermutation-append_comm, IsPermutation-append_left, IsPermutation-append_right, IsPermutation-cons, IsPermutation-refl, IsPermutation-trans, length_permutation}
use Rattle.period_core.specs.declared.row.PeriodRow.{PeriodRow}
use Rattle.period_core.specs.declared.version.VersionRow.{VersionRow}
use Rattle.catalog_core.specs.declared.change.Plan.{Plan}
use Rattle.history_model.specs.Versions.{row_of}
use Rattle.history_model.proofs.Lists.{same_order}
use Rattle.portion_dml.specs.Plans.{AreLeftCurrent}
use Rattle.temporal_model.proofs.Members.{Contains-here, rest_of}
use Rattle.temporal_model.proofs.Rearranged.{IsPermutation-uncons}

-- after some of the versions: those that stayed so far, and those that will, are all that stay
pub record Passed (current : List VersionRow) (index : ℕ) (left : List VersionRow) (rows : List PeriodRow) (stay : List VersionRow) : Type 0 where
  pub kept : List VersionRow
  pub later : List VersionRow
  pub made : rows ≡ map row_of kept
  pub ahead : IsPermutation (drop index current) (left ++ later)
  pub whole : IsPermutation stay (kept ++ later)

pub at_first : (current ended left stay : List VersionRow) → left ≡ ended → IsPermutation current (ended ++ stay) → Passed current 0 left [] stay
at_first current ended left stay same taken = record {
  kept = [];
  later = stay;
  made = refl;
  ahead = subst (λ l. IsPermutation current (l ++ stay)) (sym same) taken;
  whole = IsPermutation-refl stay;
}

module _ (current : List VersionRow) (index : ℕ) (left : List VersionRow) (rows : List PeriodRow) (stay : List VersionRow) (version : VersionRow)
    (inside : index < length current) (its : version ≡ get_or current index version) (passed : Passed current index left rows stay) where
  here : drop index current ≡ version ∷ drop (index + 1) current
  here = drop-cons current index version inside ∙ ap₂ (λ (v : VersionRow) (n : ℕ). v ∷ drop n current) (sym its) (sym (add-one index))

  front : IsPermutation (version ∷ drop (index + 1) current) (left ++ passed.later)
  front = subst (λ l. IsPermutation l (left ++ passed.later)) here passed.ahead

  -- the next version ends
  pub passed_ended : (fewer : List VersionRow) → IsPermutation left (version ∷ fewer) → Passed current (index + 1) fewer rows stay
  passed_ended fewer taken = record {
    kept = passed.kept;
    later = passed.later;
    made = passed.made;
    ahead = IsPermutation-uncons version (drop (index + 1) current) (fewer ++ passed.later)
        (IsPermutation-trans (version ∷ drop (index + 1) current) (left ++ passed.later) (version ∷ (fewer ++ passed.later)) front
        (IsPermutation-append_left passed.later left (version ∷ fewer) taken));
    whole = passed.whole;
  }

  -- the next version stays
  pub passed_kept : (Contains left version → ⊥) → Passed current (index + 1) left (rows ++ row_of version ∷ []) stay
  passed_kept absent =
      let there : Contains passed.later version =
      (elim (Contains-append_cases left passed.later version (Contains-permutation (version ∷ drop (index + 1) current) (left ++ passed.later) version front (Contains-here version (drop (index + 1) current)))) [
        | inl among ↦ absurd (absent among)
        | inr among ↦ among
      ]) in
      let (rest, moved) = rest_of passed.later version there in
      let first : IsPermutation (left ++ passed.later) (left ++ version ∷ rest) = IsPermutation-append_right left passed.later (version ∷ rest) moved in
      let turned : IsPermutation (left ++ version ∷ rest) (version ∷ (rest ++ left)) = IsPermutation-append_comm left (version ∷ rest) in
      let back : IsPermutation (version ∷ (rest ++ left)) (version ∷ (left ++ rest)) = IsPermutation-cons version (rest ++ left) (left ++ rest) (IsPermutation-append_comm rest left) in
      record {
        kept = passed.kept ++ version ∷ [];
        later = rest;
        made = ap (λ (l : List PeriodRow). l ++ row_of version ∷ []) passed.made ∙ sym (map-append row_of passed.kept (version ∷ []));
        ahead = IsPermutation-uncons version (drop (index + 1) current) (left ++ rest)
            (IsPermutation-trans (version ∷ drop (index + 1) current) (left ++ passed.later) (version ∷ (left ++ rest)) front
            (IsPermutation-trans (left ++ passed.later) (left ++ version ∷ rest) (version ∷ (left ++ rest)) first
            (IsPermutation-trans (left ++ version ∷ rest) (version ∷ (rest ++ left)) (version ∷ (left ++ rest)) turned back)));
        whole = subst (IsPermutation stay) (sym (append_assoc passed.kept (version ∷ []) rest))
            (IsPermutation-trans stay (passed.kept ++ passed.later) (passed.kept ++ version ∷ rest) passed.whole
            (IsPermutation-append_right passed.kept passed.later (version ∷ rest) moved));
      }

-- at the end the rows are the rows of the versions that stay, and the added ones
pub left_in_the_end : (current : List VersionRow) (plan : Plan) (index : ℕ) (left : List VersionRow) (first rows : List PeriodRow) (stay : List VersionRow) → length current ≤ index
    → IsPermutation current (plan.ended ++ stay) → Passed current index left first stay → rows ≡ first ++ plan.added → AreLeftCurrent current plan rows
left_in_the_end current plan index left first rows stay past taken passed e =
    let none : length (left ++ passed.later) ≡ length (drop index current) = length_permutation (drop index current) (left ++ passed.later) passed.ahead in
    let parts = length-append left passed.later in
    let short = length-drop index current in
    let done : passed.later ≡ [] = nil_from_length passed.later (omega (arith, none, parts, short)) in
    let same : IsPermutation stay passed.kept = subst (IsPermutation stay) (ap (λ l. passed.kept ++ l) done ∙ append-nil passed.kept) passed.whole in
    record {
      stay = passed.kept;
      taken = IsPermutation-trans current (plan.ended ++ stay) (plan.ended ++ passed.kept) taken (IsPermutation-append_right plan.ended stay passed.kept same);
      rest = same_order rows (map row_of passed.kept ++ plan.added) (e ∙ ap (λ l. l ++ plan.added) passed.made);
    }
