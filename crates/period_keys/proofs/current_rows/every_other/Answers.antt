use Rattle.std.proofs.Common.{◌≡◌, ◌++◌, ◌∷◌, [], ◌∙◌, List, append_assoc, ap, ap₂, subst, sym}
use Rattle.std.specs.Global.{Vec}
use Rattle.std.specs.List.Sorted.{IsPermutation}
use Rattle.std.proofs.lemmas.List.Sorted.{IsPermutation-append_comm, IsPermutation-append_left, IsPermutation-refl, IsPermutation-trans}
use Rattle.period_core.specs.declared.version.VersionRow.{VersionRow}
use Rattle.period_keys.proofs.current_rows.every_other.Goals as goal

pub loop-row-init : goal.loop-row-init
loop-row-init c =
    let all : List VersionRow = c.into_iter-row-iterator.result.rest.items in
    subst (λ (l : List VersionRow). IsPermutation (l ++ all) c.args.rows.items) (sym (ap₂ (λ (xs ys : List VersionRow). xs ++ ys) c.in_ok-first.ensures.items c.in_ok-second.ensures.items))
    (subst (IsPermutation all) c.into_iter-row-iterator.ensures.into_iter_gives.0 (IsPermutation-refl all))

-- a row more, and the lists change places
taken_turn : (first second left given : List VersionRow) (row : VersionRow) → IsPermutation ((first ++ second) ++ row ∷ left) given → IsPermutation ((second ++ (first ++ row ∷ [])) ++ left) given
taken_turn first second left given row so_far =
    let same : (second ++ (first ++ row ∷ [])) ++ left ≡ (second ++ first) ++ row ∷ left =
    ap (λ (xs : List VersionRow). xs ++ left) (sym (append_assoc second first (row ∷ []))) ∙ append_assoc (second ++ first) (row ∷ []) left in
    subst (λ (xs : List VersionRow). IsPermutation xs given) (sym same)
    (IsPermutation-trans ((second ++ first) ++ row ∷ left) ((first ++ second) ++ row ∷ left) given
    (IsPermutation-append_left (row ∷ left) (second ++ first) (first ++ second) (IsPermutation-append_comm second first)) so_far)

pub loop-row-preserved : goal.loop-row-preserved
loop-row-preserved c =
    let first : List VersionRow = c.loop-row.first.items in
    let second : List VersionRow = c.loop-row.second.items in
    let left : List VersionRow = c.next.new.self.rest.items in
    let given : List VersionRow = c.args.rows.items in
    let row : VersionRow = c.in-Some.row in
    let items : Vec VersionRow → List VersionRow = λ v. v.items in
    let so_far : IsPermutation ((first ++ second) ++ row ∷ left) given = subst (λ (xs : List VersionRow). IsPermutation ((first ++ second) ++ xs) given) c.in-Some.ensures.steps.0 c.loop-row.invariant in
    subst (λ (xs : List VersionRow). IsPermutation (xs ++ left) given)
    (sym (ap₂ (λ (xs ys : List VersionRow). xs ++ ys) (ap items c.swap.ensures.x_after) (ap items c.swap.ensures.y_after ∙ c.in_ok-push.ensures.items)))
    (taken_turn first second left given row so_far)
