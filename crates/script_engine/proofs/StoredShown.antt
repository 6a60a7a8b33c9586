-- A stored query shows of the versions in memory, in order, what it shows of all versions.
use Rattle.std.proofs.Common.{◌≡◌, ◌&&◌, ◌∙◌, ℕ, Bool, false, true, ap, List, get_or, inl, inr, map, refl, sym}
use Rattle.std.specs.Prelude.{◌+◌, IsSorted}
use Rattle.std.specs.List.Sorted.{IsPermutation, IsSortedBy}
use Rattle.std.specs.Ordering.{int_cmp, is_lt, ordering_then}
use Rattle.std.specs.declared.cmp.Ordering.{Ordering}
use Rattle.std.specs.declared.cmp.Ordering.TheVariants.{Equal, Greater, Less}
use Rattle.std.proofs.lemmas.Bool.{false≢true}
use Rattle.std.proofs.lemmas.List.Sorted.{IsPermutation-sym, IsPermutation-trans}
use Rattle.sqlite_trees.proofs.ListLemmas.{IsPermutation-filter}
use Rattle.period_core.specs.Order as rows
use Rattle.period_core.specs.Order.{values_cmp}
use Rattle.period_core.specs.Windows.{window_sees}
use Rattle.period_core.specs.declared.version.VersionRow.{VersionRow}
use Rattle.period_core.specs.declared.window.Window.{Window}
use Rattle.catalog_core.specs.stored.StoredAnswers.{is_shown, meets_tests, shown_versions}
use Rattle.catalog_core.specs.declared.stored.Stored.{Stored}
use Rattle.history_model.proofs.HistoryVersionFacts.{from_images}
use Rattle.version_store.specs.Contents.{Contents, TableVersion, of_table, version_cmp, version_in}
use Rattle.script_engine.specs.declared.engine.reading.Access.{Access}
use Rattle.script_engine.specs.engine.Reading.{AreTaken, MayBeUnread, is_within}
use Rattle.script_engine.specs.engine.VersionLists.{AreShownIn}
use Rattle.script_engine.proofs.PlanFacts.{one_version}
use Rattle.script_engine.proofs.ShownFacts.{below, versions_sorted}
use Rattle.script_engine.proofs.Taken.{exactly_taken}

-- an order that continues is at least as fine
front : (values start from rest : Ordering) → is_lt (ordering_then values (ordering_then start (ordering_then from rest))) ≡ false → is_lt (ordering_then values (ordering_then start from)) ≡ false
front Less start from rest h = h
front Greater start from rest h = refl
front Equal Less from rest h = h
front Equal Greater from rest h = refl
front Equal Equal Less rest h = h
front Equal Equal Greater rest h = refl
front Equal Equal Equal rest h = refl

in_order : (table : ℕ) (versions : List VersionRow) → IsSorted rows.version_cmp versions → IsSorted version_cmp (map (version_in table) versions)
in_order table versions sorted = versions_sorted table versions each
  where
    each : IsSortedBy (below table) versions
    each k d low high =
        let a = get_or versions (k + 1) d in
        let b = get_or versions k d in
        front (values_cmp a.values b.values) (int_cmp a.period.start b.period.start) (int_cmp a.from b.from)
        (ordering_then (int_cmp a.period.end b.period.end) (int_cmp a.to b.to)) (sorted k d low high)

-- if version rows are in memory as versions of a table, all versions of the table are
all_rows : (table : ℕ) (versions : List TableVersion) (rows memory : List VersionRow) → IsPermutation (of_table table versions) (map (version_in table) rows) → IsPermutation (of_table table versions) (map (version_in table) memory) → IsPermutation rows memory
all_rows table versions rows memory all are =
    from_images (version_in table) (one_version table) rows memory
    (IsPermutation-trans (map (version_in table) rows) (of_table table versions) (map (version_in table) memory)
    (IsPermutation-sym (of_table table versions) (map (version_in table) rows) all) are)

-- of all versions in memory, in order, the query shows all that it shows
pub shown_of_memory : (c : Contents) (query : Stored) (all shown : List VersionRow) → IsPermutation (of_table query.table c.versions) (map (version_in query.table) all) →
    IsPermutation (shown_versions query all) shown → IsSorted rows.version_cmp shown → AreShownIn c query shown
shown_of_memory c query all shown memory same sorted versions stored = record {
  all =
      IsPermutation-trans (shown_versions query versions) (shown_versions query all) shown
      (IsPermutation-filter (is_shown query) versions all (all_rows query.table c.versions versions all stored memory)) same;
  sorted = in_order query.table shown sorted;
}

-- a version that the window does not see is not shown
unseen_unshown : (a b : Bool) → a ≡ false → (a && b) ≡ false
unseen_unshown false b unseen = refl
unseen_unshown true b unseen = absurd (false≢true (sym unseen))

-- a version that is not read is not shown, if each that is shown has its key in the range
pub unread_unshown : (query : Stored) (access : Access) → access.window ≡ query.window → ((v : VersionRow) → is_shown query v ≡ true → is_within access v ≡ true) →
    (v : VersionRow) → MayBeUnread access (λ (w : VersionRow). is_shown query w ≡ false) v → is_shown query v ≡ false
unread_unshown query access same within v may = elim may [
  | inl unseen ↦ unseen_unshown (window_sees query.window v.from v.to) (meets_tests query.condition v) (ap (λ (w : Window). window_sees w v.from v.to) (sym same) ∙ unseen)
  | inr rest ↦ elim rest [
    | inl outside ↦ by_test (is_shown query v) refl outside
    | inr unshown ↦ unshown
  ]
]
  where
    by_test : (b : Bool) → is_shown query v ≡ b → is_within access v ≡ false → b ≡ false
    by_test false shown outside = refl
    by_test true shown outside = absurd (false≢true (sym outside ∙ within v shown))

-- the versions that are read and shown are those that the query shows of all
pub read_shown : (query : Stored) (access : Access) → access.window ≡ query.window → ((v : VersionRow) → is_shown query v ≡ true → is_within access v ≡ true) → (all some : List VersionRow) →
    AreTaken (λ (v : VersionRow). is_shown query v ≡ true) (MayBeUnread access (λ (v : VersionRow). is_shown query v ≡ false)) all some → some ≡ shown_versions query all
read_shown query access same within all some read =
    exactly_taken (λ (v : VersionRow). is_shown query v ≡ true) (MayBeUnread access (λ (v : VersionRow). is_shown query v ≡ false)) (is_shown query)
    (λ v is. is) (unread_unshown query access same within) read
