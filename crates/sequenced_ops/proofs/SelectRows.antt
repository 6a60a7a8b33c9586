-- The steps of a select over several references, and of set operators.
use Rattle.std.proofs.Common.{◌≡◌, ◌↔◌, ◌++◌, ◌∷◌, [], ℕ, ℤ, true, List, map, inl, inr, refl, sym}
use Rattle.std.proofs.Common.{◌∙◌, ap, subst, append_assoc}
use Rattle.std.specs.Prelude.{slice_get}
use Rattle.period_core.specs.declared.row.PeriodRow.{PeriodRow}
use Rattle.period_core.specs.declared.value.Value.{Value}
use Rattle.sql_statements.specs.declared.tree.SetOperator.TheVariants.{Union, Except, Intersect}
use Rattle.temporal_model.specs.Snapshot.{InSnapshot}
use Rattle.catalog_core.specs.declared.query.AnswerColumn.{AnswerColumn}
use Rattle.catalog_core.specs.declared.query.resolved.QueryReference.{QueryReference}
use Rattle.catalog_core.specs.declared.query.resolved.Select.{Select}
use Rattle.catalog_core.specs.query.Queries.{Query, both, one, rows_for}
use Rattle.history_model.specs.OrdinaryQuery.{InAnswerOver, InProduct, VisibleInTables, meets_all}
use Rattle.history_model.specs.OrdinaryQuery.{read_items}
use Rattle.sequenced_ops.specs.Operations.{Cond, InDifference, InIntersection, InPairs}
use Rattle.sequenced_ops.specs.Operations.{InProjection, InUnion, SnapshotsAre}
use Rattle.sequenced_ops.specs.Planning.{InJoined, InMeeting, IsPruned}

append-nil : (l : List Value) → l ++ [] ≡ l
append-nil [] = refl
append-nil (x ∷ xs) = ap (λ (l : List Value). x ∷ l) (append-nil xs)

-- equal sets have equal projections
pub projection_same
    : (columns : List ℕ) (A B : ℤ → List Value → Type 0) (rows : List PeriodRow)
    → ((day : ℤ) (values : List Value) → (A day values ↔ B day values))
    → SnapshotsAre (InProjection columns A) rows → SnapshotsAre (InProjection columns B) rows
projection_same columns A B rows same are day read = (
  λ h.
      let (values, there, reads) = (are day read).0 h in
      (values, (same day values).0 there, reads),
  λ (values, there, reads). (are day read).1 (values, (same day values).1 there, reads),
)

-- a join of no further reference
pub joined_none
    : (tables : List (List PeriodRow)) (conjuncts : List Cond) (rows : List PeriodRow) (day : ℤ)
    → (values : List Value)
    → (InMeeting conjuncts rows day values ↔ InJoined tables conjuncts rows [] day values)
joined_none tables conjuncts rows day values = (
  λ (there, met). (values, [], there, refl, append-nil values, met),
  λ (first, rest, there, none, is, met).
      let same : first ≡ values =
      sym (append-nil first) ∙ ap (λ (l : List Value). first ++ l) (sym none) ∙ is in
      (subst (λ (v : List Value). InSnapshot rows day v) same there, met),
)

-- a join with one reference more
pub joined_more
    : (tables : List (List PeriodRow)) (conjuncts : List Cond) (rows next : List PeriodRow)
    → (reference : QueryReference) (more : List QueryReference)
    → IsPruned conjuncts 0 (InPairs rows (rows_for tables reference)) next
    → (day : ℤ) (values : List Value)
    → (InJoined tables conjuncts next more day values
    ↔ InJoined tables conjuncts rows (reference ∷ more) day values)
joined_more tables conjuncts rows next reference more pruned day values = (
  λ (pair, rest, there, others, is, met).
      let (first, second, a, b, made) = pruned.sound day pair there in (
        first,
        second ++ rest,
        a,
        (second, rest, b, others, refl),
        sym (append_assoc first second rest)
            ∙ ap (λ (v : List Value). v ++ rest) made
            ∙ is,
        met,
      ),
  λ (first, behind, a, (second, rest, b, others, made), is, met).
      let whole : (first ++ second) ++ rest ≡ values =
      append_assoc first second rest ∙ ap (λ (v : List Value). first ++ v) made ∙ is in
      let its : meets_all conjuncts ((first ++ second) ++ rest) ≡ true =
      subst (λ (v : List Value). meets_all conjuncts v ≡ true) (sym whole) met in (
        first ++ second,
        rest,
        pruned.complete day [] (first ++ second) rest refl (first, second, a, b, refl) its,
        others,
        whole,
        met,
      ),
)

-- a join with the last reference
pub joined_last
    : (tables : List (List PeriodRow)) (conjuncts : List Cond) (rows pairs : List PeriodRow)
    → (reference : QueryReference)
    → IsPruned conjuncts 0 (InPairs rows (rows_for tables reference)) pairs
    → (day : ℤ) (values : List Value)
    → (InMeeting conjuncts pairs day values
    ↔ InJoined tables conjuncts rows (reference ∷ []) day values)
joined_last tables conjuncts rows pairs reference pruned day values =
    let none = joined_none tables conjuncts pairs day values in
    let more = joined_more tables conjuncts rows pairs reference [] pruned day values in
    (λ h. more.0 (none.0 h), λ h. none.1 (more.1 h))

-- rows that are left out of the first reference's
pub joined_pruned
    : (tables : List (List PeriodRow)) (conjuncts : List Cond) (rows kept : List PeriodRow)
    → (more : List QueryReference) → IsPruned conjuncts 0 (InSnapshot rows) kept
    → (day : ℤ) (values : List Value)
    → (InJoined tables conjuncts kept more day values
    ↔ InJoined tables conjuncts rows more day values)
joined_pruned tables conjuncts rows kept more pruned day values = (
  λ (first, rest, there, others, is, met).
      (first, rest, pruned.sound day first there, others, is, met),
  λ (first, rest, there, others, is, met).
      let its : meets_all conjuncts (first ++ rest) ≡ true =
      subst (λ (v : List Value). meets_all conjuncts v ≡ true) (sym is) met in
      (first, rest, pruned.complete day [] first rest refl there its, others, is, met),
)

-- ---- the whole select

read_same
    : (items : List AnswerColumn) (values : List Value)
    → map (slice_get values) (map (λ (item : AnswerColumn). item.position) items)
    ≡ read_items items values
read_same [] values = refl
read_same (item ∷ items) values =
    ap (λ l. slice_get values item.position ∷ l) (read_same items values)

pub select_rows
    : (tables : List (List PeriodRow)) (select : Select) (reference : QueryReference)
    → (more : List QueryReference) (columns : List ℕ) (rows : List PeriodRow)
    → select.references ≡ reference ∷ more
    → columns ≡ map (λ (item : AnswerColumn). item.position) select.items
    → SnapshotsAre
    (InProjection columns
    (InJoined tables select.conjuncts (rows_for tables reference) more))
    rows
    → SnapshotsAre (InAnswerOver (one select) tables) rows
select_rows tables select reference more columns rows split positions are day row = (
  λ h.
      let (values, (first, rest, a, others, is, met), reads) = (are day row).0 h in
      let product : InProduct (VisibleInTables tables day) (reference ∷ more) values =
      (first, rest, a, others, is) in (
        values,
        subst (λ (l : List QueryReference). InProduct (VisibleInTables tables day) l values)
            (sym split) product,
        met,
        sym (its values) ∙ reads,
      ),
  λ (values, product, met, reads).
      let (first, rest, a, others, is) =
      subst (λ (l : List QueryReference). InProduct (VisibleInTables tables day) l values) split
      product in
      (are day row).1 (values, (first, rest, a, others, is, met), its values ∙ reads),
)
  where
    its : (values : List Value) → map (slice_get values) columns ≡ read_items select.items values
    its values = ap (map (slice_get values)) positions ∙ read_same select.items values

-- ---- set operators

pub union_rows
    : (tables : List (List PeriodRow)) (left right : Query) (first second rows : List PeriodRow)
    → SnapshotsAre (InAnswerOver left tables) first
    → SnapshotsAre (InAnswerOver right tables) second
    → SnapshotsAre (InUnion first second) rows
    → SnapshotsAre (InAnswerOver (both Union left right) tables) rows
union_rows tables left right first second rows a b are day values = (
  λ h.
      elim ((are day values).0 h) [
        | inl x ↦ inl ((a day values).0 x)
        | inr y ↦ inr ((b day values).0 y)
      ],
  λ h.
      (are day values).1
      (elim h [ inl x ↦ inl ((a day values).1 x) | inr y ↦ inr ((b day values).1 y) ]),
)

pub difference_rows
    : (tables : List (List PeriodRow)) (left right : Query) (first second rows : List PeriodRow)
    → SnapshotsAre (InAnswerOver left tables) first
    → SnapshotsAre (InAnswerOver right tables) second
    → SnapshotsAre (InDifference first second) rows
    → SnapshotsAre (InAnswerOver (both Except left right) tables) rows
difference_rows tables left right first second rows a b are day values = (
  λ h.
      let (x, none) = (are day values).0 h in
      ((a day values).0 x, λ y. none ((b day values).1 y)),
  λ (x, none). (are day values).1 ((a day values).1 x, λ y. none ((b day values).0 y)),
)

pub intersection_rows
    : (tables : List (List PeriodRow)) (left right : Query) (first second rows : List PeriodRow)
    → SnapshotsAre (InAnswerOver left tables) first
    → SnapshotsAre (InAnswerOver right tables) second
    → SnapshotsAre (InIntersection first second) rows
    → SnapshotsAre (InAnswerOver (both Intersect left right) tables) rows
intersection_rows tables left right first second rows a b are day values = (
  λ h.
      let (x, y) = (are day values).0 h in
      ((a day values).0 x, (b day values).0 y),
  λ (x, y). (are day values).1 ((a day values).1 x, (b day values).1 y),
)
