-- Active rows: one row more, their values, and what references see by them.
use Rattle.std.proofs.Common.{◌≡◌, ◌↔◌, ◌⊎◌, ◌≤ℤ◌, ◌<ℤ◌, ◌<◌, ℕ, ℤ, List, [], ◌∷◌, ◌++◌, length, get_or, Bor, refl, sym, ◌∙◌, ap, subst, inl, inr}
use Rattle.std.specs.List.{Contains}
use Rattle.std.proofs.lemmas.List.{get_or-map}
use Rattle.std.proofs.lemmas.List.Elements.{Contains-append_left, Contains-push, Contains-push_cases}
use Rattle.period_core.specs.declared.row.PeriodRow.{PeriodRow}
use Rattle.period_core.specs.declared.value.Value.{Value}
use Rattle.temporal_model.specs.Snapshot.{InSnapshot}
use Rattle.temporal_model.proofs.Snapshots.{CoversDay, held, in_snapshot}
use Rattle.temporal_model.proofs.Members.{Contains-nil}
use Rattle.catalog_core.specs.declared.query.resolved.QueryReference.{QueryReference}
use Rattle.catalog_core.specs.query.Queries.{Query, rows_for}
use Rattle.history_model.specs.OrdinaryQuery.{InAnswerOver, InQuery, VisibleInTables}
use Rattle.history_model.proofs.Visible.{query_seen}
use Rattle.std.specs.Global.{Vec}
use Rattle.snapshot_audit.specs.ActiveRows.{RowReferences, ContainsRow, AreActive, InActive, ActiveLists, active_lists, active_for, VisibleInActive, AllAreActive}
use Rattle.snapshot_audit.proofs.Zips.{zip_at, zip_map}

-- ---- rows by reference

pub ContainsRow-nil : (row : PeriodRow) → ContainsRow [] row → ⊥
ContainsRow-nil row (r, c, is) = Contains-nil r c

pub ContainsRow-push : (references : RowReferences) (r : Bor PeriodRow) → ContainsRow (references ++ r ∷ []) r.now
ContainsRow-push references r = (r, Contains-push references r, refl)

pub ContainsRow-before :
    (references : RowReferences) (r : Bor PeriodRow) (row : PeriodRow) → ContainsRow references row
    → ContainsRow (references ++ r ∷ []) row
ContainsRow-before references r row (s, c, is) = (s, Contains-append_left references (r ∷ []) s c, is)

pub ContainsRow-push_cases :
    (references : RowReferences) (r : Bor PeriodRow) (row : PeriodRow) → ContainsRow (references ++ r ∷ []) row
    → ContainsRow references row ⊎ (r.now ≡ row)
ContainsRow-push_cases references r row (s, c, is) = elim (Contains-push_cases references r s c) [
  | inl before ↦ inl (s, before, is)
  | inr same ↦ inr (subst (λ (x : Bor PeriodRow). x.now ≡ row) (sym same) is)
]

-- ---- the rows of a day

pub AreActive-none : (day : ℤ) → AreActive [] [] day
AreActive-none day row = (λ c. absurd (ContainsRow-nil row c), λ h. absurd (Contains-nil row h.0))

-- one more row that covers the day
pub AreActive-more :
    (rows : List PeriodRow) (active : RowReferences) (day : ℤ) (row : PeriodRow) (r : Bor PeriodRow) → r.now ≡ row
    → CoversDay row day → AreActive rows active day → AreActive (rows ++ row ∷ []) (active ++ r ∷ []) day
AreActive-more rows active day row r is covers are other = (
  λ h. elim (ContainsRow-push_cases active r other h) [
    | inl before ↦ let (there, from, to) = (are other).0 before in (Contains-append_left rows (row ∷ []) other there, from, to)
    | inr same ↦ let one : row ≡ other = sym is ∙ same in
        subst (λ x. Contains (rows ++ row ∷ []) x × (x.period.start ≤ℤ day) × (day <ℤ x.period.end)) one (Contains-push rows row, covers.0, covers.1)
  ],
  λ (c, from, to). elim (Contains-push_cases rows row other c) [
    | inl before ↦ ContainsRow-before active r other ((are other).1 (before, from, to))
    | inr same ↦ subst (ContainsRow (active ++ r ∷ [])) (is ∙ same) (ContainsRow-push active r)
  ],
)

-- one row more, which does not hold on the day
pub AreActive-skip :
    (rows : List PeriodRow) (active : RowReferences) (day : ℤ) (row : PeriodRow) → (CoversDay row day → ⊥)
    → AreActive rows active day → AreActive (rows ++ row ∷ []) active day
AreActive-skip rows active day row none are other = (
  λ h. let (there, from, to) = (are other).0 h in (Contains-append_left rows (row ∷ []) other there, from, to),
  λ (c, from, to). elim (Contains-push_cases rows row other c) [
    | inl before ↦ (are other).1 (before, from, to)
    | inr same ↦ absurd (none (subst (λ x. CoversDay x day) (sym same) (from, to)))
  ],
)

-- ---- the values of rows

-- the active rows' values, with one more row's
pub InActive-more :
    (set : List (List Value)) (active : RowReferences) (r : Bor PeriodRow)
    → ((values : List Value) → (Contains set values ↔ InActive active values)) → (values : List Value)
    → (Contains (set ++ r.now.values ∷ []) values ↔ InActive (active ++ r ∷ []) values)
InActive-more set active r same values = (
  λ h. elim (Contains-push_cases set r.now.values values h) [
    | inl before ↦ let (s, c, is) = (same values).0 before in (s, Contains-append_left active (r ∷ []) s c, is)
    | inr is ↦ (r, Contains-push active r, is)
  ],
  λ (s, c, is). elim (Contains-push_cases active r s c) [
    | inl before ↦ Contains-append_left set (r.now.values ∷ []) values ((same values).1 (s, before, is))
    | inr one ↦ subst (Contains (set ++ r.now.values ∷ [])) (ap (λ (x : Bor PeriodRow). x.now.values) one ∙ is) (Contains-push set r.now.values)
  ],
)

-- the values of the rows of a day are the snapshot
pub active_snapshot :
    (rows : List PeriodRow) (active : RowReferences) (day : ℤ) → AreActive rows active day → (values : List Value)
    → (InActive active values ↔ InSnapshot rows day values)
active_snapshot rows active day are values = (
  λ (r, c, is). let (there, from, to) = (are r.now).0 (r, c, refl) in in_snapshot rows day values (r.now, there, is, (from, to)),
  λ h. let (row, there, is, (from, to)) = held rows day values h in
      let (r, c, same) = (are row).1 (there, from, to) in
      (r, c, ap (λ (x : PeriodRow). x.values) same ∙ is),
)

-- ---- the values that references see

pub active_at :
    (seen : ActiveLists) (place : ℕ) (active : Vec (Bor PeriodRow)) → place < length seen → active ≡ get_or seen place active
    → active.items ≡ get_or (active_lists seen) place []
active_at seen place active inside is =
    ap (λ (v : Vec (Bor PeriodRow)). v.items) is ∙ sym (get_or-map (λ (v : Vec (Bor PeriodRow)). v.items) seen place active [] inside)

-- each reference sees by the active rows of a day what it sees on the day
pub seen_alike :
    (tables : List (List PeriodRow)) (seen : ActiveLists) (day : ℤ) → AllAreActive tables seen day
    → (reference : QueryReference) (values : List Value)
    → (VisibleInActive seen reference values ↔ VisibleInTables tables day reference values)
seen_alike tables seen day all reference =
    active_snapshot (rows_for tables reference) (active_for seen reference) day
    (zip_at (λ rows active. AreActive rows active day) [] [] (AreActive-none day) tables (active_lists seen) reference.place
    (zip_map (λ rows active. AreActive rows active day) (λ (v : Vec (Bor PeriodRow)). v.items) tables seen all))

-- the query's set by the active rows is the day's set
pub answered_alike :
    (tables : List (List PeriodRow)) (seen : ActiveLists) (day : ℤ) → AllAreActive tables seen day
    → (query : Query) (row : List Value) → (InQuery (VisibleInActive seen) query row ↔ InAnswerOver query tables day row)
answered_alike tables seen day all query row =
    query_seen (VisibleInActive seen) (VisibleInTables tables day) query (λ reference c. seen_alike tables seen day all reference) row
