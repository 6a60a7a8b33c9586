-- The steps of a select: values of its items, a row that is selected, and one reference more.
use Rattle.std.proofs.Common.{◌≡◌, ◌↔◌, ◌⊎◌, ◌<◌, ◌≤◌, ◌+◌, ◌-◌, ◌++◌, inl, inr, ℕ, zero, suc, true, false, List, [], ◌∷◌, Option, Some, None, Bor, length, get_or, take, drop, map, refl, subst, sym, ◌∙◌, ap, ap₂, arith, append_assoc, append-nil}
use Rattle.std.specs.Prelude.{slice_get}
use Rattle.std.specs.List.{Contains}
use Rattle.std.proofs.lemmas.List.{map-append, map_more, take_all}
use Rattle.std.proofs.lemmas.List.Elements.{Contains-append_left, Contains-push, Contains-push_cases}
use Rattle.period_core.specs.declared.value.Value.{Value}
use Rattle.period_core.specs.declared.row.PeriodRow.{PeriodRow}
use Rattle.temporal_model.proofs.Members.{Contains-nil}
use Rattle.catalog_core.specs.declared.query.AnswerColumn.{AnswerColumn}
use Rattle.catalog_core.specs.declared.query.resolved.QueryReference.{QueryReference}
use Rattle.catalog_core.specs.declared.query.resolved.Select.{Select}
use Rattle.history_model.specs.OrdinaryQuery.{VisibleRows, InSelect, IsProjection, meets_all, read_items}
use Rattle.snapshot_audit.specs.ActiveRows.{ActiveLists, RowReferences, active_for, VisibleInActive}
use Rattle.snapshot_audit.specs.Selections.{IsSelected, InRest, InRests}

-- ---- the values of items

-- the first element of a list and the rest, as a pattern of a slice reads them
pub first_of : {X : Type 0} (xs : List X) (x : X) → 1 ≤ length xs → x ≡ get_or xs 0 x → xs ≡ x ∷ take (length xs - 1) (drop 1 xs)
first_of [] x h e = absurd (omega arith)
first_of (y ∷ ys) x h e =
    let all : take (length (y ∷ ys) - 1) ys ≡ ys = take_all (length (y ∷ ys) - 1) ys (omega arith) in
    ap (λ z. z ∷ ys) (sym e) ∙ ap (λ zs. x ∷ zs) (sym all)

abbrev pub some : Value → Option Value
some v = Some v

-- the select list's row so far, with one item more
pub projected_more :
    (items : List AnswerColumn) (values row : List Value) (i : ℕ) (item : AnswerColumn) (value : Value) → i < length items
    → item ≡ get_or items i item → slice_get values item.position ≡ Some value → IsProjection (take i items) values row
    → IsProjection (take (i + 1) items) values (row ++ value ∷ [])
projected_more items values row i item value h is there old =
    map_more (λ (x : AnswerColumn). slice_get values x.position) items i item h
    ∙ ap₂ (λ (a : List (Option Value)) (b : Option Value). a ++ b ∷ []) old (ap (λ (x : AnswerColumn). slice_get values x.position) (sym is) ∙ there)
    ∙ sym (map-append some row (value ∷ []))

-- an item without a value gives no row
pub no_value :
    (items : List AnswerColumn) (values row : List Value) (i : ℕ) (item : AnswerColumn) → i < length items
    → slice_get values (get_or items i item).position ≡ None → IsProjection items values row → ⊥
no_value [] values row i item h none all = omega arith
no_value (first ∷ items) values [] i item h none all = cc
no_value (first ∷ items) values (v ∷ row) zero item h none all =
    let here : slice_get values first.position ≡ Some v = cc in
    cc
no_value (first ∷ items) values (v ∷ row) (suc i) item h none all =
    let tail : read_items items values ≡ map some row = cc in
    no_value items values row i item (omega arith) none tail

pub same_values : (values others : List Value) → map some values ≡ map some others → values ≡ others
same_values [] [] e = refl
same_values [] (other ∷ others) e = cc
same_values (value ∷ values) [] e = cc
same_values (value ∷ values) (other ∷ others) e =
    let head : value ≡ other = cc in
    let tail : map some values ≡ map some others = cc in
    ap₂ (λ (v : Value) (vs : List Value). v ∷ vs) head (same_values values others tail)

-- ---- a row that is selected

pub selected_pushed :
    (select : Select) (values row : List Value) (rows : List (List Value)) → IsSelected select values row → (other : List Value)
    → (Contains (rows ++ row ∷ []) other ↔ (Contains rows other ⊎ IsSelected select values other))
selected_pushed select values row rows (met, its) other = (
  λ h. elim (Contains-push_cases rows row other h) [
    | inl old ↦ inl old
    | inr same ↦ inr (met, subst (IsProjection select.items values) same its)
  ],
  λ h. elim h [
    | inl old ↦ Contains-append_left rows (row ∷ []) other old
    | inr here ↦ subst (Contains (rows ++ row ∷ [])) (same_values row other (sym its ∙ here.1)) (Contains-push rows row)
  ],
)

pub selected_skipped :
    (select : Select) (values : List Value) (rows : List (List Value)) → ((row : List Value) → IsSelected select values row → ⊥)
    → (other : List Value) → (Contains rows other ↔ (Contains rows other ⊎ IsSelected select values other))
selected_skipped select values rows none other = (
  λ h. inl h,
  λ h. elim h [ inl old ↦ old | inr here ↦ absurd (none other here) ],
)

-- ---- one reference more

pub rest_none :
    (Sees : VisibleRows) (select : Select) (front row : List Value) → (IsSelected select front row ↔ InRest Sees select [] front row)
rest_none Sees select front row = (
  λ h. ([], refl, subst (λ vs. IsSelected select vs row) (sym (append-nil front)) h),
  λ (rest, none, its). subst (λ vs. IsSelected select vs row) (append-nil front) (subst (λ r. IsSelected select (front ++ r) row) none its),
)

-- a combined row continues with a row of the first reference, and then with the later ones' rows
pub rest_more :
    (seen : ActiveLists) (select : Select) (reference : QueryReference) (more : List QueryReference) (front row : List Value)
    → (InRests (VisibleInActive seen) select more front (active_for seen reference) row
    ↔ InRest (VisibleInActive seen) select (reference ∷ more) front row)
rest_more seen select reference more front row = (
  λ (next, c, (rest, product, its)). (
    next.now.values ++ rest,
    (next.now.values, rest, (next, c, refl), product, refl),
    subst (λ vs. IsSelected select vs row) (append_assoc front next.now.values rest) its,
  ),
  λ (all, (first, rest, (next, c, same), product, is), its). (
    next,
    c,
    (
      rest,
      product,
      subst (λ vs. IsSelected select vs row) (sym (append_assoc front next.now.values rest))
          (subst (λ v. IsSelected select (front ++ (v ++ rest)) row) (sym same) (subst (λ vs. IsSelected select (front ++ vs) row) (sym is) its)),
    ),
  ),
)

-- the values that are added already
abbrev pub HasRests : ActiveLists → Select → List QueryReference → List Value → List (List Value) → RowReferences → List (List Value) → Type 0
HasRests seen select more front old active rows =
    (row : List Value) → (Contains rows row ↔ (Contains old row ⊎ InRests (VisibleInActive seen) select more front active row))

pub HasRests-none :
    (seen : ActiveLists) (select : Select) (more : List QueryReference) (front : List Value) (old : List (List Value))
    → HasRests seen select more front old [] old
HasRests-none seen select more front old row = (
  λ h. inl h,
  λ h. elim h [ inl k ↦ k | inr (next, c, its) ↦ absurd (Contains-nil next c) ],
)

pub HasRests-more :
    (seen : ActiveLists) (select : Select) (more : List QueryReference) (front : List Value) (old rows next : List (List Value))
    (active : RowReferences) (r : Bor PeriodRow) → HasRests seen select more front old active rows
    → ((row : List Value) → (Contains next row ↔ (Contains rows row ⊎ InRest (VisibleInActive seen) select more (front ++ r.now.values) row)))
    → HasRests seen select more front old (active ++ r ∷ []) next
HasRests-more seen select more front old rows next active r has step row = (
  λ h. elim ((step row).0 h) [
    | inl k ↦ elim ((has row).0 k) [
      | inl was ↦ inl was
      | inr (s, c, its) ↦ inr (s, Contains-append_left active (r ∷ []) s c, its)
    ]
    | inr its ↦ inr (r, Contains-push active r, its)
  ],
  λ h. (step row).1 (elim h [
    | inl was ↦ inl ((has row).1 (inl was))
    | inr (s, c, its) ↦ elim (Contains-push_cases active r s c) [
      | inl before ↦ inl ((has row).1 (inr (s, before, its)))
      | inr same ↦ inr (subst (λ (x : Bor PeriodRow). InRest (VisibleInActive seen) select more (front ++ x.now.values) row) (sym same) its)
    ]
  ]),
)

-- a row that no combined row can go on with
pub HasRests-skip :
    (seen : ActiveLists) (select : Select) (more : List QueryReference) (front : List Value) (old rows : List (List Value))
    (active : RowReferences) (r : Bor PeriodRow) → HasRests seen select more front old active rows
    → ((rest : List Value) → meets_all select.conjuncts ((front ++ r.now.values) ++ rest) ≡ false)
    → HasRests seen select more front old (active ++ r ∷ []) rows
HasRests-skip seen select more front old rows active r has none =
    HasRests-more seen select more front old rows rows active r has (λ row. (
      λ h. inl h,
      λ h. elim h [
        | inl was ↦ was
        | inr (rest, product, (met, read)) ↦ absurd (let no = none rest in let yes : meets_all select.conjuncts ((front ++ r.now.values) ++ rest) ≡ true = met in cc)
      ],
    ))

-- the rows of a select once all rows of the first reference are done
pub HasRests-all :
    (seen : ActiveLists) (select : Select) (reference : QueryReference) (more : List QueryReference) (front : List Value)
    (old rows : List (List Value)) → HasRests seen select more front old (active_for seen reference) rows → (row : List Value)
    → (Contains rows row ↔ (Contains old row ⊎ InRest (VisibleInActive seen) select (reference ∷ more) front row))
HasRests-all seen select reference more front old rows has row =
    let both = rest_more seen select reference more front row in (
      λ h. elim ((has row).0 h) [ inl was ↦ inl was | inr its ↦ inr (both.0 its) ],
      λ h. (has row).1 (elim h [ inl was ↦ inl was | inr its ↦ inr (both.1 its) ]),
    )

-- the rows of a select if no reference is left
pub rest_done :
    (Sees : VisibleRows) (select : Select) (front : List Value) (old rows : List (List Value))
    → ((row : List Value) → (Contains rows row ↔ (Contains old row ⊎ IsSelected select front row))) → (row : List Value)
    → (Contains rows row ↔ (Contains old row ⊎ InRest Sees select [] front row))
rest_done Sees select front old rows step row =
    let both = rest_none Sees select front row in (
      λ h. elim ((step row).0 h) [ inl was ↦ inl was | inr its ↦ inr (both.0 its) ],
      λ h. (step row).1 (elim h [ inl was ↦ inl was | inr its ↦ inr (both.1 its) ]),
    )

-- the rows of a select from all references, from no values on
pub selected_all :
    (seen : ActiveLists) (select : Select) (old rows : List (List Value)) → old ≡ []
    → ((row : List Value) → (Contains rows row ↔ (Contains old row ⊎ InRest (VisibleInActive seen) select select.references [] row)))
    → (row : List Value) → (Contains rows row ↔ InSelect (VisibleInActive seen) select row)
selected_all seen select old rows none step row = (
  λ h. elim ((step row).0 h) [
    | inl was ↦ absurd (Contains-nil row (subst (λ l. Contains l row) none was))
    | inr its ↦ let (values, product, (met, read)) = its in (values, product, met, read)
  ],
  λ (values, product, met, read). (step row).1 (inr (values, product, (met, read))),
)
