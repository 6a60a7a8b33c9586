-- The rows that are read of a table's versions in memory: those that a reference sees, or that it
-- needs of them.
use Rattle.std.proofs.Common.{◌≡◌, ◌⊎◌, false, ◌++◌, ◌∷◌, ◌∙◌, [], ℕ, ℤ, List, ap, inl, inr, length, map, refl, subst, sym, true}
use Rattle.std.specs.Prelude.{IsTrue}
use Rattle.std.proofs.lemmas.Bool.{false≢true}
use Rattle.std.specs.List.{Contains}
use Rattle.period_core.specs.Windows.{window_sees}
use Rattle.period_core.specs.declared.row.PeriodRow.{PeriodRow}
use Rattle.period_core.specs.declared.value.Value.{Value}
use Rattle.period_core.specs.declared.version.VersionRow.{VersionRow}
use Rattle.period_core.specs.declared.window.Window.{Window}
use Rattle.temporal_model.specs.Snapshot.{InSnapshot}
use Rattle.temporal_model.proofs.Snapshots.{held, in_snapshot}
use Rattle.sql_statements.specs.declared.tree.Tree.{Tree}
use Rattle.catalog_core.specs.declared.condition.CompareValues.{CompareValues}
use Rattle.catalog_core.specs.declared.query.resolved.QueryReference.{QueryReference}
use Rattle.history_model.specs.Histories.{History}
use Rattle.history_model.specs.OrdinaryQuery.{VisibleInHistory, meets_all}
use Rattle.history_model.specs.Versions.{row_of}
use Rattle.period_keys.specs.FixedKeys.{HasFrom, IsRangeAfter, IsRangeWithin}
use Rattle.period_keys.specs.Keys.{values_at}
use Rattle.period_keys.specs.Ranges.{is_in_range}
use Rattle.period_keys.specs.Rows.{RowsByKey}
use Rattle.period_keys.proofs.Members.{from_filter, from_map, in_filter, in_map}
use Rattle.ended_versions.specs.Packed.{Hold, PackedVersion, seen_through}
use Rattle.sequenced_ops.specs.Planning.{RulesOut}
use Rattle.sequenced_ops.proofs.TwoRows.{holds-append, holds-nil, holds-push}
use Rattle.script_engine.specs.declared.engine.reading.Access.{Access}
use Rattle.script_engine.specs.engine.Answering.{SeesRows}
use Rattle.script_engine.specs.engine.Ended.{ended_in}
use Rattle.script_engine.specs.engine.Needed.{HaveRowFrom, IsNeeded, IsPrunedAfter, SeesWidth}
use Rattle.script_engine.specs.engine.Reading.{AddRead, AreTaken, MayBeUnread, is_within, versions_in}
use Rattle.script_engine.specs.engine.Stored.{RowsRepresent}
use Rattle.script_engine.proofs.Seen.{memory_seen, sees_rows}
use Rattle.script_engine.proofs.Taken.{exactly_taken, taken_whole, taken_within}

-- the reference does not see the version, or conditions rule it out
abbrev MayLack : QueryReference → List (Tree CompareValues) → ℕ → VersionRow → Type 0
MayLack reference conjuncts start v = (window_sees reference.window v.from v.to ≡ false) ⊎ RulesOut conjuncts start v.values

-- the reference sees the version
abbrev IsInSight : QueryReference → VersionRow → Type 0
IsInSight reference v = window_sees reference.window v.from v.to ≡ true

-- the versions that an access leaves, and that a reference sees and conditions do not rule out
abbrev pub AreUnruled : QueryReference → Access → List (Tree CompareValues) → ℕ → List VersionRow → List VersionRow → Type 0
AreUnruled reference access conjuncts start = AreTaken (IsInSight reference) (MayBeUnread access (MayLack reference conjuncts start))

-- the rows of such versions are added
abbrev pub AddUnruled : QueryReference → Access → List (Tree CompareValues) → ℕ → List VersionRow → List PeriodRow → List PeriodRow → Type 0
AddUnruled reference access conjuncts start = AddRead (IsInSight reference) (MayBeUnread access (MayLack reference conjuncts start)) row_of

-- without conditions and over all keys they are those that the reference sees
unruled_all : (reference : QueryReference) (access : Access) (all some : List VersionRow) → access.window ≡ reference.window → ((v : VersionRow) → is_within access v ≡ true) → AreUnruled reference access [] 0 all some →
    some ≡ seen_through reference.window all
unruled_all reference access all some at whole read =
    exactly_taken (IsInSight reference) (MayBeUnread access (MayLack reference [] 0)) (λ (v : VersionRow). window_sees reference.window v.from v.to)
    (λ v is. is)
    (λ v may. elim may [
      | inl unseen ↦ ap (λ (w : Window). window_sees w v.from v.to) (sym at) ∙ unseen
      | inr rest ↦ elim rest [
        | inl outside ↦ absurd (false≢true (sym outside ∙ whole v))
        | inr lacked ↦ elim lacked [ inl unseen ↦ unseen | inr ruled ↦ absurd (ruled [] [] refl refl) ]
      ]
    ])
    read

module _ (history : History) (tables : List RowsByKey) (lists : List (List PackedVersion)) (reference : QueryReference) (represents : RowsRepresent history tables lists) where
  abbrev pub its_versions : List VersionRow
  its_versions = versions_in tables reference.table (represents.ended reference.table).versions

  -- a reading adds versions of its table alone
  pub its_read : (access : Access) (conjuncts : List (Tree CompareValues)) (start : ℕ) (rows new : List PeriodRow) → access.table ≡ reference.table →
      ((versions : List VersionRow) → Hold (ended_in lists access.table) versions → AddUnruled reference access conjuncts start (versions_in tables access.table versions) rows new) →
      AddUnruled reference access conjuncts start its_versions rows new
  its_read access conjuncts start rows new same read =
      let ended = represents.ended reference.table in
      subst (λ (number : ℕ). AddUnruled reference access conjuncts start (versions_in tables number ended.versions) rows new) same
      (read ended.versions (subst (λ (number : ℕ). Hold (ended_in lists number) ended.versions) (sym same) ended.held))

  abbrev sight : List VersionRow
  sight = seen_through reference.window its_versions

  -- of the versions in memory the reference sees those that its window sees
  pub sight_seen : SeesRows history reference (map row_of sight)
  sight_seen =
      sees_rows history represents.contents reference (map row_of sight) represents.said
      (memory_seen represents.contents tables reference.table (ended_in lists reference.table) reference.window represents.current (represents.ended reference.table))

  -- of all keys and without conditions, what is read is what the reference sees
  pub all_read : (access : Access) (some : List VersionRow) → access.window ≡ reference.window → ((v : VersionRow) → is_within access v ≡ true) → AreUnruled reference access [] 0 its_versions some → SeesRows history reference (map row_of some)
  all_read access some at whole read =
      subst (λ (versions : List VersionRow). SeesRows history reference (map row_of versions)) (sym (unruled_all reference access its_versions some at whole read)) sight_seen

  module _ (conjuncts : List (Tree CompareValues)) (start width : ℕ) (access : Access) (some : List VersionRow) (at : access.window ≡ reference.window) (read : AreUnruled reference access conjuncts start its_versions some) where
    -- each row that is read is seen
    read_sound : (day : ℤ) (values : List Value) → InSnapshot (map row_of some) day values → VisibleInHistory history day reference values
    read_sound day values h =
        let (row, among, same, on) = held (map row_of some) day values h in
        let (v, its, made) = from_map row_of some row among in
        let (here, sees) = taken_within (IsInSight reference) (MayBeUnread access (MayLack reference conjuncts start)) v read its in
        let seen : Contains sight v = in_filter (λ (w : VersionRow). window_sees reference.window w.from w.to) its_versions v here sees in
        (sight_seen.daily day values).0 (in_snapshot (map row_of sight) day values (row, subst (Contains (map row_of sight)) made (in_map row_of sight v seen), same, on))

    -- each row that is seen, and that is part of a combined row that meets the conditions, is read if its key is in the range
    read_whole : (day : ℤ) (first values rest : List Value) → length first ≡ start → VisibleInHistory history day reference values → IsTrue (meets_all conjuncts (first ++ (values ++ rest))) → is_in_range access.rows.range (values_at access.rows.positions values) ≡ true → InSnapshot (map row_of some) day values
    read_whole day first values rest long sees met within =
        let (row, among, same, on) = held (map row_of sight) day values ((sight_seen.daily day values).1 sees) in
        let (v, its, made) = from_map row_of sight row among in
        let (here, passes) = from_filter (λ (w : VersionRow). window_sees reference.window w.from w.to) its_versions v its in
        let its_values : v.values ≡ values = ap (λ (r : PeriodRow). r.values) made ∙ same in
        let never : MayBeUnread access (MayLack reference conjuncts start) v → ⊥ = λ may. elim may [
          | inl unseen ↦ false≢true (sym unseen ∙ ap (λ (w : Window). window_sees w v.from v.to) at ∙ passes)
          | inr more ↦ elim more [
            | inl outside ↦ false≢true (sym outside ∙ ap (λ (vs : List Value). is_in_range access.rows.range (values_at access.rows.positions vs)) its_values ∙ within)
            | inr lacked ↦ elim lacked [
              | inl unseen ↦ false≢true (sym unseen ∙ passes)
              | inr ruled ↦ ruled first rest long (subst (λ (vs : List Value). meets_all conjuncts (first ++ (vs ++ rest)) ≡ true) (sym its_values) met)
            ]
          ]
        ] in
        in_snapshot (map row_of some) day values
        (row, subst (Contains (map row_of some)) made (in_map row_of some v (taken_whole (IsInSight reference) (MayBeUnread access (MayLack reference conjuncts start)) v never read here)), same, on)

    -- rows of the keys that the conditions leave are needed
    pub read_needed : SeesWidth history reference width → IsRangeWithin conjuncts start width access.rows.positions access.rows.range → IsNeeded history conjuncts start reference (map row_of some)
    read_needed wide within = record {
      sound = read_sound;
      complete = λ day first values rest long sees met. read_whole day first values rest long sees met (within first values rest long (wide day values sees) met);
    }

    -- after one row more, those of the keys that its values leave are looked up too
    pub read_after : (previous : List PeriodRow) (row : PeriodRow) (rows new : List PeriodRow) (at : ℕ) → SeesWidth history reference width → IsRangeAfter conjuncts row.values at start width access.rows.positions access.rows.range → new ≡ rows ++ map row_of some →
        IsPrunedAfter (HaveRowFrom previous at) conjuncts start (λ day. VisibleInHistory history day reference) rows → IsPrunedAfter (HaveRowFrom (previous ++ row ∷ []) at) conjuncts start (λ day. VisibleInHistory history day reference) new
    read_after previous row rows new at wide within is old = record {
      sound = λ day values h. elim ((holds-append rows (map row_of some) day values).0 (subst (λ (l : List PeriodRow). InSnapshot l day values) is h)) [
        | inl was ↦ old.sound day values was
        | inr here ↦ read_sound day values here
      ];
      complete = λ day first values rest long (known, here, has) sees met.
          subst (λ (l : List PeriodRow). InSnapshot l day values) (sym is)
          ((holds-append rows (map row_of some) day values).1 (elim ((holds-push previous row day known).0 here) [
            | inl was ↦ inl (old.complete day first values rest long (known, was, has) sees met)
            | inr (same, from, to) ↦
                let its : HasFrom row.values at (first ++ (values ++ rest)) = subst (λ (vs : List Value). HasFrom vs at (first ++ (values ++ rest))) (sym same) has in
                inr (read_whole day first values rest long sees met (within first values rest long (wide day values sees) its met))
          ]));
    }

-- nothing is looked up after no rows
pub read_after_none : (history : History) (conjuncts : List (Tree CompareValues)) (start at : ℕ) (reference : QueryReference) → IsPrunedAfter (HaveRowFrom [] at) conjuncts start (λ day. VisibleInHistory history day reference) []
read_after_none history conjuncts start at reference = record {
  sound = λ day values h. absurd (holds-nil day values h);
  complete = λ day first values rest long (known, here, has) sees met. absurd (holds-nil day known here);
}
