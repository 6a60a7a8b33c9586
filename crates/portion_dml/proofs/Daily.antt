-- The versions after a plan hold on each day what the action makes of that day's rows.
use Rattle.std.proofs.Common.{◌≡◌, ℤ, Bool, true, false, not, List, [], ◌∷◌, ◌++◌, map, refl, sym, ◌∙◌, ap, subst, append_assoc}
use Rattle.std.specs.List.{All, filter, flat_map}
use Rattle.std.specs.List.Sorted.{IsPermutation}
use Rattle.std.proofs.lemmas.List.{map-append}
use Rattle.std.proofs.lemmas.List.Concat.{flat_map-append}
use Rattle.std.proofs.lemmas.List.Sorted.{IsPermutation-sym, IsPermutation-trans, IsPermutation-append_left, IsPermutation-append_comm, IsPermutation-filter_both}
use Rattle.period_core.specs.declared.row.PeriodRow.{PeriodRow}
use Rattle.period_core.specs.declared.value.Value.{Value}
use Rattle.period_core.specs.declared.version.VersionRow.{VersionRow}
use Rattle.temporal_model.specs.Snapshot.{values_on}
use Rattle.history_model.specs.Effects.{inserted_by, rows_after}
use Rattle.history_model.specs.Portions.{plain_given, plain_row, replacements, touches}
use Rattle.history_model.specs.Versions.{row_of}
use Rattle.portion_dml.specs.Plans.{AreLeftCurrent, HaveEffect, Plans, version_row}
use Rattle.catalog_core.specs.declared.change.Action.{Action}
use Rattle.catalog_core.specs.declared.change.Plan.{Plan}
use Rattle.history_model.proofs.Days.{made, rows_after-made, shown, spared_shown, touched_shown, values_on-shown}
use Rattle.history_model.proofs.Lists.{All-passed, flat_map-nested, flat_map-of_map, flat_map-permutation, flat_map-same_of, same_order}
use Rattle.temporal_model.proofs.Rearranged.{IsPermutation-cancel}

-- the action touches the version
abbrev pub touched : Action → VersionRow → Bool
touched action v = touches action (version_row v)

-- the values that the version shows on the day, as the action changes them
abbrev pub version_shown : ℤ → VersionRow → List (List Value)
version_shown day v = shown day (version_row v)

abbrev made_of : Action → ℤ → VersionRow → List (List Value)
made_of action day v = flat_map (made action day) (version_shown day v)

pub versions_shown : (versions : List VersionRow) (day : ℤ) → values_on (map row_of versions) day ≡ flat_map (version_shown day) versions
versions_shown versions day =
    values_on-shown (map row_of versions) day
    ∙ ap (flat_map (shown day)) (plain versions)
    ∙ flat_map-of_map (shown day) version_row versions
  where
    plain : (versions : List VersionRow) → map plain_row (map row_of versions) ≡ map version_row versions
    plain [] = refl
    plain (v ∷ vs) = ap (λ l. version_row v ∷ l) (plain vs)

pub not_true_is : (b : Bool) → not b ≡ true → b ≡ false
not_true_is true e = cc
not_true_is false e = refl

-- the versions that stay are those that the action doesn't touch
pub staying : (action : Action) (before ended stay : List VersionRow) → ended ≡ filter (touched action) before → IsPermutation before (ended ++ stay)
    → IsPermutation stay (filter (λ v. not (touched action v)) before)
staying action before ended stay e p =
    let rest : List VersionRow = filter (λ v. not (touched action v)) before in
    let parts : IsPermutation before (ended ++ rest) =
    subst (λ l. IsPermutation before (l ++ rest)) (sym e) (IsPermutation-filter_both (touched action) (λ v. not (touched action v)) (λ v. refl) before) in
    IsPermutation-cancel ended stay rest (IsPermutation-trans (ended ++ stay) before (ended ++ rest) (IsPermutation-sym before (ended ++ stay) p) parts)

-- the values that the added rows of a plan show
added_shown : (action : Action) (before : List VersionRow) (plan : Plan) (day : ℤ) → Plans action before plan
    → flat_map (shown day) (map plain_row plan.added) ≡ flat_map (shown day) (map plain_given (inserted_by action)) ++ flat_map (made_of action day) plan.ended
added_shown action before plan day plans =
    ap (flat_map (shown day)) plans.added
    ∙ flat_map-append (shown day) (map plain_given (inserted_by action)) (flat_map (replacements action) (map version_row plan.ended))
    ∙ ap (λ l. flat_map (shown day) (map plain_given (inserted_by action)) ++ l)
    (flat_map-nested (shown day) (replacements action) (map version_row plan.ended)
    ∙ flat_map-of_map (λ row. flat_map (shown day) (replacements action row)) version_row plan.ended
    ∙ flat_map-same_of (λ v. touched action v ≡ true) (λ v. flat_map (shown day) (replacements action (version_row v))) (made_of action day)
    (λ v t. touched_shown action (version_row v) day t) plan.ended
    (subst (All (λ v. touched action v ≡ true)) (sym plans.ended) (All-passed (touched action) before)))

-- the values that the versions that stay show, and the values of the added rows
pub staying_shown : (action : Action) (before : List VersionRow) (plan : Plan) (stay : List VersionRow) (day : ℤ) → Plans action before plan → IsPermutation before (plan.ended ++ stay)
    → IsPermutation (flat_map (version_shown day) stay ++ flat_map (shown day) (map plain_row plan.added)) (rows_after action day (values_on (map row_of before) day))
staying_shown action before plan stay day plans taken =
    let G : List (List Value) = flat_map (shown day) (map plain_given (inserted_by action)) in
    let E : List (List Value) = flat_map (made_of action day) plan.ended in
    let S : List (List Value) = flat_map (version_shown day) stay in
    let rest : List VersionRow = filter (λ v. not (touched action v)) before in
    let R : List (List Value) = flat_map (made_of action day) rest in
    let W : List (List Value) = flat_map (made_of action day) before in
    let A : List (List Value) = flat_map (shown day) (map plain_row plan.added) in
    let spared : flat_map (version_shown day) rest ≡ R =
    flat_map-same_of (λ v. not (touched action v) ≡ true) (version_shown day) (made_of action day) (λ v t. spared_shown action (version_row v) day (not_true_is (touched action v) t)) rest
    (All-passed (λ v. not (touched action v)) before) in
    let stayed : IsPermutation S R = subst (IsPermutation S) spared (flat_map-permutation (version_shown day) stay rest (staying action before plan.ended stay plans.ended taken)) in
    let both : IsPermutation before (plan.ended ++ rest) =
    subst (λ l. IsPermutation before (l ++ rest)) (sym plans.ended) (IsPermutation-filter_both (touched action) (λ v. not (touched action v)) (λ v. refl) before) in
    let whole : IsPermutation W (E ++ R) = subst (IsPermutation W) (flat_map-append (made_of action day) plan.ended rest) (flat_map-permutation (made_of action day) before (plan.ended ++ rest) both) in
    let after : rows_after action day (values_on (map row_of before) day) ≡ W ++ G =
    rows_after-made action day (values_on (map row_of before) day)
    ∙ ap (λ l. flat_map (made action day) l ++ G) (versions_shown before day)
    ∙ ap (λ l. l ++ G) (flat_map-nested (made action day) (version_shown day) before) in
    -- S ++ A is S ++ (G ++ E), which is R ++ (G ++ E), which is G ++ (R ++ E), which is W ++ G
    let added_are : S ++ A ≡ S ++ (G ++ E) = ap (λ l. S ++ l) (added_shown action before plan day plans) in
    let one : IsPermutation (S ++ (G ++ E)) (R ++ (G ++ E)) = IsPermutation-append_left (G ++ E) S R stayed in
    let two : IsPermutation (R ++ (G ++ E)) ((G ++ E) ++ R) = IsPermutation-append_comm R (G ++ E) in
    let three : (G ++ E) ++ R ≡ G ++ (E ++ R) = append_assoc G E R in
    let four : IsPermutation (G ++ (E ++ R)) ((E ++ R) ++ G) = IsPermutation-append_comm G (E ++ R) in
    let five : IsPermutation ((E ++ R) ++ G) (W ++ G) = IsPermutation-append_left G (E ++ R) W (IsPermutation-sym W (E ++ R) whole) in
    subst (λ l. IsPermutation l (rows_after action day (values_on (map row_of before) day))) (sym added_are)
    (subst (IsPermutation (S ++ (G ++ E))) (sym after)
    (IsPermutation-trans (S ++ (G ++ E)) (R ++ (G ++ E)) (W ++ G) one
    (IsPermutation-trans (R ++ (G ++ E)) ((G ++ E) ++ R) (W ++ G) two
    (IsPermutation-trans ((G ++ E) ++ R) (G ++ (E ++ R)) (W ++ G) (same_order ((G ++ E) ++ R) (G ++ (E ++ R)) three)
    (IsPermutation-trans (G ++ (E ++ R)) ((E ++ R) ++ G) (W ++ G) four five)))))

-- the versions after a plan hold on each day what the action makes of that day's rows
pub daily : (action : Action) (before : List VersionRow) (plan : Plan) (standing : List PeriodRow) → Plans action before plan → AreLeftCurrent before plan standing
    → HaveEffect action (map row_of before) standing
daily action before plan standing plans stands day =
    let rows : List PeriodRow = map row_of stands.stay ++ plan.added in
    let parts : flat_map (shown day) (map plain_row rows) ≡ flat_map (version_shown day) stands.stay ++ flat_map (shown day) (map plain_row plan.added) =
    ap (flat_map (shown day)) (map-append plain_row (map row_of stands.stay) plan.added)
    ∙ flat_map-append (shown day) (map plain_row (map row_of stands.stay)) (map plain_row plan.added)
    ∙ ap (λ l. l ++ flat_map (shown day) (map plain_row plan.added)) (sym (values_on-shown (map row_of stands.stay) day) ∙ versions_shown stands.stay day) in
    let shown_rows : IsPermutation (values_on standing day) (flat_map (shown day) (map plain_row rows)) =
    subst (λ l. IsPermutation l (flat_map (shown day) (map plain_row rows))) (sym (values_on-shown standing day ∙ flat_map-of_map (shown day) plain_row standing))
    (subst (IsPermutation (flat_map (λ (row : PeriodRow). shown day (plain_row row)) standing)) (sym (flat_map-of_map (shown day) plain_row rows))
    (flat_map-permutation (λ (row : PeriodRow). shown day (plain_row row)) standing rows stands.rest)) in
    IsPermutation-trans (values_on standing day) (flat_map (shown day) (map plain_row rows)) (rows_after action day (values_on (map row_of before) day)) shown_rows
    (subst (λ l. IsPermutation l (rows_after action day (values_on (map row_of before) day))) (sym parts) (staying_shown action before plan stands.stay day plans stands.taken))
