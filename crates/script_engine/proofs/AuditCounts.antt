-- Each audit of an answer gives one number of days: the number of the rows that the query's references see.
use Rattle.std.proofs.Common.{◌≡◌, ◌∷◌, ◌<ℤ◌, ◌∙◌, ℤ, List, [], ap, arith, inl, inr, length, map, refl, suc, subst, sym}
use Rattle.std.specs.List.{AllPairs, Contains}
use Rattle.std.specs.List.Sorted.{IsPermutation}
use Rattle.std.proofs.lemmas.Int.{ints}
use Rattle.std.proofs.lemmas.List.Sorted.{Contains-permutation, IsPermutation-map, IsPermutation-sym, IsPermutation-trans}
use Rattle.sqlite_trees.proofs.ListLemmas.{IsPermutation-filter}
use Rattle.period_core.specs.Windows.{window_sees}
use Rattle.period_core.specs.declared.row.PeriodRow.{PeriodRow}
use Rattle.period_core.specs.declared.version.VersionRow.{VersionRow}
use Rattle.temporal_model.proofs.Members.{AllPairs-head, AllPairs-tail, Contains-cons_cases, Contains-here, Contains-nil, Contains-there}
use Rattle.catalog_core.specs.declared.query.resolved.QueryReference.{QueryReference}
use Rattle.catalog_core.specs.query.Queries.{Query, references_of, rows_for}
use Rattle.history_model.proofs.HistoryVersionFacts.{one_list}
use Rattle.history_model.specs.Histories.{History}
use Rattle.history_model.specs.Versions.{row_of}
use Rattle.snapshot_audit.specs.ChangeDays.{AreChangeDays, EndsOn, IsChangeDay, seen_lists}
use Rattle.ended_versions.specs.Packed.{seen_through}
use Rattle.script_engine.specs.engine.Answering.{SeesRows}
use Rattle.script_engine.specs.engine.Audits.{AuditsCountOnce, HaveSeenRows}

abbrev Before : ℤ → ℤ → Type 0
Before a b = a <ℤ b

abbrev IsWithin : List ℤ → List ℤ → Type 0
IsWithin xs ys = (day : ℤ) → Contains xs day → Contains ys day

-- ---- ascending lists with the same members

-- two ascending lists with the same elements have the same first element
same_first : (x y : ℤ) (xs ys : List ℤ) → AllPairs Before (x ∷ xs) → AllPairs Before (y ∷ ys) → IsWithin (x ∷ xs) (y ∷ ys) → IsWithin (y ∷ ys) (x ∷ xs) → x ≡ y
same_first x y xs ys up rising there back =
    elim (Contains-cons_cases y ys x (there x (Contains-here x xs))) [
      | inl same ↦ sym same
      | inr later ↦ elim (Contains-cons_cases x xs y (back y (Contains-here y ys))) [
        | inl same ↦ same
        | inr behind ↦
            let before : y <ℤ x = AllPairs-head Before y ys rising x later in
            let after : x <ℤ y = AllPairs-head Before x xs up y behind in
            absurd (omega (arith, ints, before, after))
      ]
    ]

within_rest : (x : ℤ) (xs ys : List ℤ) → AllPairs Before (x ∷ xs) → IsWithin (x ∷ xs) (x ∷ ys) → IsWithin xs ys
within_rest x xs ys up there day c =
    elim (Contains-cons_cases x ys day (there day (Contains-there x xs day c))) [
      | inl same ↦
          let before : x <ℤ day = AllPairs-head Before x xs up day c in
          absurd (omega (arith, ints, before, same))
      | inr later ↦ later
    ]

same_length : (xs ys : List ℤ) → AllPairs Before xs → AllPairs Before ys → IsWithin xs ys → IsWithin ys xs → length xs ≡ length ys
same_length [] [] up rising there back = refl
same_length [] (y ∷ ys) up rising there back = absurd (Contains-nil y (back y (Contains-here y ys)))
same_length (x ∷ xs) [] up rising there back = absurd (Contains-nil x (there x (Contains-here x xs)))
same_length (x ∷ xs) (y ∷ ys) up rising there back =
    let same : x ≡ y = same_first x y xs ys up rising there back in
    let forth : IsWithin (x ∷ xs) (x ∷ ys) = subst (λ (z : ℤ). IsWithin (x ∷ xs) (z ∷ ys)) (sym same) there in
    let home : IsWithin (x ∷ ys) (x ∷ xs) = subst (λ (z : ℤ). IsWithin (z ∷ ys) (x ∷ xs)) (sym same) back in
    let ascends : AllPairs Before (x ∷ ys) = subst (λ (z : ℤ). AllPairs Before (z ∷ ys)) (sym same) rising in
    ap suc (same_length xs ys (AllPairs-tail Before x xs up) (AllPairs-tail Before x ys ascends) (within_rest x xs ys up forth) (within_rest x ys xs ascends home))

-- ---- the rows that a reference sees are the same in any order

same_rows : (history : History) (reference : QueryReference) (rows others : List PeriodRow) → SeesRows history reference rows → SeesRows history reference others → IsPermutation rows others
same_rows history reference rows others first second =
    let sees = λ (versions : List VersionRow). map row_of (seen_through reference.window versions) in
    let versions : IsPermutation first.versions second.versions = one_list history reference.table first.versions second.versions first.left second.left in
    let between : IsPermutation (sees first.versions) (sees second.versions) =
    IsPermutation-map row_of (seen_through reference.window first.versions) (seen_through reference.window second.versions)
    (IsPermutation-filter (λ (v : VersionRow). window_sees reference.window v.from v.to) first.versions second.versions versions) in
    IsPermutation-trans rows (sees first.versions) others (IsPermutation-sym (sees first.versions) rows first.all)
    (IsPermutation-trans (sees first.versions) (sees second.versions) others between second.all)

-- the lists that references have: each is some reference's list, and each reference's list is one of them
whose : (tables : List (List PeriodRow)) (references : List QueryReference) (rows : List PeriodRow) → Contains (map (rows_for tables) references) rows → (reference : QueryReference) × Contains references reference × (rows_for tables reference ≡ rows)
whose tables [] rows c = absurd (Contains-nil rows c)
whose tables (first ∷ references) rows c =
    elim (Contains-cons_cases (rows_for tables first) (map (rows_for tables) references) rows c) [
      | inl same ↦ (first, Contains-here first references, same)
      | inr more ↦ let (reference, among, same) = whose tables references rows more in (reference, Contains-there first references reference among, same)
    ]

theirs : (tables : List (List PeriodRow)) (references : List QueryReference) (reference : QueryReference) → Contains references reference → Contains (map (rows_for tables) references) (rows_for tables reference)
theirs tables [] reference c = absurd (Contains-nil reference c)
theirs tables (first ∷ references) reference c =
    elim (Contains-cons_cases first references reference c) [
      | inl same ↦ subst (λ (r : QueryReference). Contains (map (rows_for tables) (first ∷ references)) (rows_for tables r)) same (Contains-here (rows_for tables first) (map (rows_for tables) references))
      | inr more ↦ Contains-there (rows_for tables first) (map (rows_for tables) references) (rows_for tables reference) (theirs tables references reference more)
    ]

-- the change days of two audits are the same
module _ (history : History) (query : Query) (answer : List PeriodRow) where
  change_along : (tables others : List (List PeriodRow)) → HaveSeenRows history query tables → HaveSeenRows history query others → (day : ℤ) → IsChangeDay (answer ∷ seen_lists query tables) day → IsChangeDay (answer ∷ seen_lists query others) day
  change_along tables others seen also day (inl first) = inl first
  change_along tables others seen also day (inr (rows, among, ends)) =
      elim (Contains-cons_cases answer (seen_lists query tables) rows among) [
        | inl same ↦ inr (answer, Contains-here answer (seen_lists query others), subst (λ (l : List PeriodRow). EndsOn l day) (sym same) ends)
        | inr more ↦
            let (reference, of, is) = whose tables (references_of query) rows more in
            let (row, there, on) = subst (λ (l : List PeriodRow). EndsOn l day) (sym is) ends in
            let both = same_rows history reference (rows_for tables reference) (rows_for others reference) (seen reference of) (also reference of) in
            inr (
              rows_for others reference,
              Contains-there answer (seen_lists query others) (rows_for others reference) (theirs others (references_of query) reference of),
              (row, Contains-permutation (rows_for tables reference) (rows_for others reference) row both there, on),
            )
      ]

  within_along : (tables others : List (List PeriodRow)) (days more : List ℤ) → HaveSeenRows history query tables → HaveSeenRows history query others → AreChangeDays (answer ∷ seen_lists query tables) days → AreChangeDays (answer ∷ seen_lists query others) more → IsWithin days more
  within_along tables others days more seen also are be day c = (be.members day).1 (change_along tables others seen also day ((are.members day).0 c))

pub counts_once : AuditsCountOnce
counts_once history query answer days others first second =
    let a = first.over in
    let b = second.over in
    sym a.counted
    ∙ same_length a.days b.days a.change_days.ascending b.change_days.ascending
    (within_along history query answer.rows first.tables second.tables a.days b.days first.seen second.seen a.change_days b.change_days)
    (within_along history query answer.rows second.tables first.tables b.days a.days second.seen first.seen b.change_days a.change_days)
    ∙ b.counted
