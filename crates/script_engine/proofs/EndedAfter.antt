-- The versions of a table that have ended, in memory, remain the ended versions of the store.
use Rattle.std.proofs.Common.{◌≡◌, ◌≤ℤ◌, ◌-◌, ◌++◌, ◌∷◌, ◌∙◌, ℕ, ℤ, zero, suc, Bool, true, false, List, [], Option, None, Some, Result, Ok, Err, append-nil, get_or, map, nat_eq, not, refl, set, sym, ap, ap₂, subst, arith}
use Rattle.std.specs.List.{filter, slice_get}
use Rattle.std.specs.List.Sorted.{IsPermutation}
use Rattle.std.specs.Option.{option_map_or}
use Rattle.std.specs.Prelude.{OnErr, OnOk}
use Rattle.std.proofs.lemmas.Bool.Decides.{nat_tests}
use Rattle.std.proofs.lemmas.Int.{ints}
use Rattle.std.proofs.lemmas.List.Elements.{All-nil, All-push, filter-append}
use Rattle.std.proofs.lemmas.Option.{slice_get-get_or, slice_get_within}
use Rattle.std.proofs.lemmas.List.Sorted.{IsPermutation-append_left, IsPermutation-map, IsPermutation-sym, IsPermutation-trans}
use Rattle.sqlite_trees.proofs.ListLemmas.{IsPermutation-filter, all_weaker, filter-map, filter_all, filter_none}
use Rattle.period_core.specs.declared.refusal.Refusal.{Refusal}
use Rattle.period_core.specs.declared.version.VersionRow.{VersionRow}
use Rattle.catalog_core.specs.declared.change.Change.{Change}
use Rattle.catalog_core.specs.declared.change.Plan.{Plan}
use Rattle.catalog_core.specs.declared.table.TableDef.{TableDef}
use Rattle.catalog_core.specs.table.TableWords.{table_of}
use Rattle.ended_versions.specs.Packed.{AreEndedBy, AreOfColumns, Hold, PackedVersion, closed_at, packed}
use Rattle.ended_versions.proofs.PackedFacts.{hold_more}
use Rattle.history_model.specs.Histories.{History}
use Rattle.history_model.proofs.HistoryVersionFacts.{from_images}
use Rattle.period_keys.specs.Versions.{begun}
use Rattle.version_store.specs.Changed.{planned, with_table}
use Rattle.version_store.specs.Contents.{Contents, TableVersion, of_table, version_in}
use Rattle.version_store.specs.DistinctKeys.{HaveDistinctKeys}
use Rattle.script_engine.specs.engine.Ended.{AllEndedBy, HasEnded, HaveClosed, HaveEnded, ended_in, ended_of, has_ended, table_ended}
use Rattle.script_engine.specs.engine.Stored.{AreOfHistory}
use Rattle.script_engine.proofs.Contents.{IsOver, held_planned, rows_after, taken}
use Rattle.script_engine.proofs.CurrentAfter.{S, all_begun, ended_current, is_current, none_current, rows}
use Rattle.script_engine.proofs.PlanFacts.{one_version}

-- version rows that are, as versions of a table, those that have ended
pub ended_rows : (table : ℕ) (versions : List TableVersion) (rows ended : List VersionRow) → IsPermutation (of_table table versions) (map (version_in table) rows) → IsPermutation (ended_of table versions) (map (version_in table) ended) →
    IsPermutation (filter has_ended rows) ended
ended_rows table versions rows ended all are =
    let ours : List VersionRow = filter has_ended rows in
    let filtered : IsPermutation (ended_of table versions) (map (version_in table) ours) =
    subst (IsPermutation (ended_of table versions)) (filter-map table_ended (version_in table) rows) (IsPermutation-filter table_ended (of_table table versions) (map (version_in table) rows) all) in
    from_images (version_in table) (one_version table) ours ended
    (IsPermutation-trans (map (version_in table) ours) (ended_of table versions) (map (version_in table) ended)
    (IsPermutation-sym (ended_of table versions) (map (version_in table) ours) filtered) are)

-- ---- a change

module _ (history : History) (c : Contents) (change : Change) (plan : Plan) (said : AreOfHistory history c) (over : IsOver (said.versions change.table).rows change.action plan) where
  abbrev R₀ : List VersionRow
  R₀ = rows history c change plan said over

  abbrev S₀ : List VersionRow
  S₀ = S history c change plan said over

  -- none of those that the plan ends had ended, so all that had stay
  stayed : IsPermutation (filter has_ended R₀) (filter has_ended S₀)
  stayed =
      let none : filter has_ended plan.ended ≡ [] =
      filter_none has_ended plan.ended
      (all_weaker (λ (v : VersionRow). is_current v ≡ true) (λ (v : VersionRow). has_ended v ≡ false) (λ v is. ap not is) plan.ended (ended_current history c change plan said over)) in
      subst (IsPermutation (filter has_ended R₀)) (filter-append has_ended plan.ended S₀ ∙ ap (λ (l : List VersionRow). l ++ filter has_ended S₀) none)
      (IsPermutation-filter has_ended R₀ (plan.ended ++ S₀) (taken c.clock change.action plan R₀ over))

  -- the versions that the plan ends are added to the ended ones
  pub ended_planned : (list : List PackedVersion) → HaveDistinctKeys c.versions → HasEnded c change.table list → AreOfColumns (closed_at c.clock plan.ended) →
      HasEnded (planned change.table c.clock plan.ended plan.added c) change.table (list ++ map packed (closed_at c.clock plan.ended))
  ended_planned list apart has held =
      let table = change.table in
      let R : List VersionRow = rows_after c.clock change.action plan R₀ in
      let C : List VersionRow = closed_at c.clock plan.ended in
      let B : List VersionRow = map (begun c.clock) plan.added in
      let after : Contents = planned table c.clock plan.ended plan.added c in
      let all : IsPermutation (of_table table after.versions) (map (version_in table) R) = held_planned c.clock change.action plan R₀ over table c.versions (said.versions table).all apart in
      let closed : filter has_ended C ≡ C =
      filter_all has_ended C
      (all_weaker (λ (v : VersionRow). is_current v ≡ false) (λ (v : VersionRow). has_ended v ≡ true) (λ v is. ap not is) C (none_current c.clock said.good.clock.1 plan.ended)) in
      let begin : filter has_ended B ≡ [] =
      filter_none has_ended B
      (all_weaker (λ (v : VersionRow). is_current v ≡ true) (λ (v : VersionRow). has_ended v ≡ false) (λ v is. ap not is) B (all_begun c.clock plan.added)) in
      let left : filter has_ended R ≡ filter has_ended S₀ ++ C =
      filter-append has_ended S₀ (C ++ B)
      ∙ ap (λ (l : List VersionRow). filter has_ended S₀ ++ l)
      (filter-append has_ended C B ∙ (ap₂ (λ (a b : List VersionRow). a ++ b) closed begin ∙ append-nil C)) in
      let were : IsPermutation (filter has_ended S₀) has.versions =
      IsPermutation-trans (filter has_ended S₀) (filter has_ended R₀) has.versions
      (IsPermutation-sym (filter has_ended R₀) (filter has_ended S₀) stayed)
      (ended_rows table c.versions R₀ has.versions (said.versions table).all has.all) in
      record {
        versions = has.versions ++ C;
        held = hold_more list has.versions C has.held held;
        all =
            IsPermutation-trans (ended_of table after.versions) (map (version_in table) (filter has_ended R)) (map (version_in table) (has.versions ++ C))
            (subst (IsPermutation (ended_of table after.versions)) (filter-map table_ended (version_in table) R) (IsPermutation-filter table_ended (of_table table after.versions) (map (version_in table) R) all))
            (IsPermutation-map (version_in table) (filter has_ended R) (has.versions ++ C)
            (subst (λ (l : List VersionRow). IsPermutation l (has.versions ++ C)) (sym left) (IsPermutation-append_left C (filter has_ended S₀) has.versions were)));
      }

-- ---- all tables

pub ended-changed :
    (c after : Contents) (table : ℕ) (more : List VersionRow) (old new : List (List PackedVersion)) → HaveClosed table more old new → HaveEnded c old
    → HasEnded after table (ended_in old table ++ map packed more)
    → ((other : ℕ) → (other ≡ table → ⊥) → of_table other after.versions ≡ of_table other c.versions)
    → HaveEnded after new
ended-changed c after table more old new made was here elsewhere = λ number. at number (nat_eq number table) refl
  where
    at : (number : ℕ) (b : Bool) → nat_eq number table ≡ b → HasEnded after number (ended_in new number)
    at number true same =
        let is : table ≡ number = grind (arith, nat_tests, same) in
        subst (λ (n : ℕ). HasEnded after n (ended_in new n)) is (subst (HasEnded after table) (sym made.there) here)
    at number false off =
        let away : number ≡ table → ⊥ = λ is. let same : nat_eq number table ≡ true = grind (arith, nat_tests, is) in cc in
        let kept = was number in
        subst (HasEnded after number) (sym (made.others number away))
        (record {
          versions = kept.versions;
          held = kept.held;
          all = subst (λ (vs : List TableVersion). IsPermutation (filter table_ended vs) (map (version_in number) kept.versions)) (sym (elsewhere number away)) kept.all;
        })

-- ---- a table more

more_at : (lists : List (List PackedVersion)) (place : ℕ) → ended_in (lists ++ [] ∷ []) (suc place) ≡ ended_in lists (suc place)
more_at [] zero = refl
more_at [] (suc place) = refl
more_at (l ∷ lists) zero = refl
more_at (l ∷ lists) (suc place) = more_at lists place

pub more_ended : (lists : List (List PackedVersion)) (number : ℕ) → ended_in (lists ++ [] ∷ []) number ≡ ended_in lists number
more_ended lists zero = refl
more_ended lists (suc place) = more_at lists place

pub ended-created : (c : Contents) (lists : List (List PackedVersion)) (definition : TableDef) → HaveEnded c lists → HaveEnded (with_table definition c) (lists ++ [] ∷ [])
ended-created c lists definition was = λ number.
    let has = was number in
    subst (HasEnded (with_table definition c) number) (sym (more_ended lists number)) (record { versions = has.versions; held = has.held; all = has.all })

-- ---- the list of one table

pub some_list : (lists : List (List PackedVersion)) (number : ℕ) (list : List PackedVersion) → table_of lists number ≡ Some list → ended_in lists number ≡ list
some_list lists number list there = ap (λ (o : Option (List PackedVersion)). option_map_or (λ (l : List PackedVersion). l) o []) there

pub no_list : (lists : List (List PackedVersion)) (number : ℕ) → table_of lists number ≡ None → ended_in lists number ≡ []
no_list lists number none = ap (λ (o : Option (List PackedVersion)). option_map_or (λ (l : List PackedVersion). l) o []) none

pub list_ended : (moment : ℤ) (lists : List (List PackedVersion)) (number : ℕ) (list : List PackedVersion) → table_of lists number ≡ Some list → AllEndedBy moment lists → AreEndedBy moment list
list_ended moment lists zero list there all = cc
list_ended moment lists (suc place) list there all =
    let below = slice_get_within lists place list there in
    let same : get_or lists place list ≡ list = (let one = sym (slice_get-get_or lists place list below) ∙ there in cc) in
    subst (AreEndedBy moment) same (all place list below)

-- a list that holds nothing has no versions
pub holds_none : (versions : List VersionRow) → Hold [] versions → versions ≡ []
holds_none [] hold = refl
holds_none (v ∷ versions) hold = absurd (let same : packed v ∷ map packed versions ≡ [] = hold.same in cc)

-- ---- written

here : (lists : List (List PackedVersion)) (place : ℕ) (old : List PackedVersion) → slice_get lists place ≡ Some old → ended_in lists (suc place) ≡ old
here lists place old there = ap (λ (o : Option (List PackedVersion)). option_map_or (λ (l : List PackedVersion). l) o []) there

set_here : (lists : List (List PackedVersion)) (place : ℕ) (old new : List PackedVersion) → slice_get lists place ≡ Some old → ended_in (set lists place new) (suc place) ≡ new
set_here [] place old new there = cc
set_here (l ∷ lists) zero old new there = refl
set_here (l ∷ lists) (suc place) old new there = set_here lists place old new there

set_elsewhere : (lists : List (List PackedVersion)) (place other : ℕ) (new : List PackedVersion) → (other ≡ place → ⊥) → ended_in (set lists place new) (suc other) ≡ ended_in lists (suc other)
set_elsewhere [] place other new off = refl
set_elsewhere (l ∷ lists) zero zero new off = absurd (off refl)
set_elsewhere (l ∷ lists) zero (suc other) new off = refl
set_elsewhere (l ∷ lists) (suc place) zero new off = refl
set_elsewhere (l ∷ lists) (suc place) (suc other) new off = set_elsewhere lists place other new (λ same. off (ap suc same))

have_closed_at : (lists : List (List PackedVersion)) (place : ℕ) (old new : List PackedVersion) (more : List VersionRow) → slice_get lists place ≡ Some old → AreOfColumns more → new ≡ old ++ map packed more → HaveClosed (suc place) more lists (set lists place new)
have_closed_at lists place old new more there held made = record {
  held = held;
  there = set_here lists place old new there ∙ (made ∙ ap (λ (l : List PackedVersion). l ++ map packed more) (sym (here lists place old there)));
  others = others;
}
  where
    others : (other : ℕ) → (other ≡ suc place → ⊥) → ended_in (set lists place new) other ≡ ended_in lists other
    others zero off = refl
    others (suc other) off = set_elsewhere lists place other new (λ same. off (ap suc same))

pub have_closed : (lists : List (List PackedVersion)) (number : ℕ) (old new : List PackedVersion) (more : List VersionRow) → table_of lists number ≡ Some old → AreOfColumns more → new ≡ old ++ map packed more → HaveClosed number more lists (set lists (number - 1) new)
have_closed lists zero old new more there held made = cc
have_closed lists (suc place) old new more there held made = let e : suc place - 1 ≡ place = omega arith in rw e (have_closed_at lists place old new more there held made)

-- ---- the clock

-- versions that ended by a moment ended by a later one
ended_by : (old new : ℤ) → old ≤ℤ new → (lists : List (List PackedVersion)) → AllEndedBy old lists → AllEndedBy new lists
ended_by old new le lists all k d below m e inside =
    let was : (get_or (get_or lists k d) m e).to ≤ℤ old = all k d below m e inside in
    omega (arith, ints)

pub ended_later : {X : Type 0} (result : Result X Refusal) (old new moment : ℤ) (lists : List (List PackedVersion)) → OnOk result (new ≡ moment) → OnErr result (new ≡ old) → old ≤ℤ moment → AllEndedBy old lists → AllEndedBy new lists
ended_later (Ok x) old new moment lists moved kept le all = subst (λ (m : ℤ). AllEndedBy m lists) (sym moved) (ended_by old moment le lists all)
ended_later (Err e) old new moment lists moved kept le all = subst (λ (m : ℤ). AllEndedBy m lists) (sym kept) all

-- one table more, without ended versions
pub none_ended : (moment : ℤ) (lists : List (List PackedVersion)) → AllEndedBy moment lists → AllEndedBy moment (lists ++ [] ∷ [])
none_ended moment lists all = All-push (AreEndedBy moment) lists [] all (All-nil (λ (v : PackedVersion). v.to ≤ℤ moment))
