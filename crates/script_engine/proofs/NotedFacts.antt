-- The versions that a change forgets: their number, and what becomes of those that it touches.
use Rattle.std.proofs.Common.{◌≡◌, ◌+◌, ◌∷◌, ◌++◌, ◌&&◌, ◌∙◌, ◌<ℤ◌, ◌≤◌, ℕ, ℤ, Bool, true, false, cond, List, [], Option, Some, Result, Ok, Err, ap, arith, length, map, nat_eq, not, refl, subst, sym, inl, inr}
use Rattle.std.specs.Prelude.{OnErr, OnOk, unwrap_or}
use Rattle.std.specs.List.{filter, flat_map}
use Rattle.std.specs.List.Sorted.{IsPermutation}
use Rattle.std.specs.Ordering.{int_eq}
use Rattle.std.proofs.lemmas.Bool.Decides.{nat_tests}
use Rattle.std.proofs.lemmas.List.{length-append, length-map}
use Rattle.std.proofs.lemmas.List.Elements.{filter-append}
use Rattle.std.proofs.lemmas.List.Sorted.{length_permutation}
use Rattle.sqlite_trees.proofs.ListLemmas.{IsPermutation-filter, filter-map}
use Rattle.period_core.specs.Moments.{forever}
use Rattle.period_core.specs.declared.refusal.Refusal.{Refusal}
use Rattle.sql_front.specs.Grammar.{IsStatement}
use Rattle.sql_front.proofs.Spelling.{spells_one}
use Rattle.sql_statements.specs.Lexemes.{Lexeme}
use Rattle.sql_statements.specs.Trees.{Delete as DeleteStatement, Statement, Update as UpdateStatement}
use Rattle.sql_statements.specs.Trees as statement
use Rattle.sql_statements.specs.declared.statement.InsertRows.{InsertRows}
use Rattle.sqlite.specs.Store.{Ghosts}
use Rattle.statement_resolution.specs.change.PortionChanges.{DeletesAs, UpdatesAs}
use Rattle.statement_resolution.specs.change.Resolution.{ResolvesAction}
use Rattle.catalog_core.specs.declared.change.Action.{Action}
use Rattle.catalog_core.specs.declared.change.Action.TheVariants.{Delete, Insert, Update}
use Rattle.catalog_core.specs.declared.change.Change.{Change}
use Rattle.catalog_core.specs.declared.change.InsertedRow.{InsertedRow}
use Rattle.catalog_core.specs.declared.table.TableDef.{TableDef}
use Rattle.catalog_core.specs.table.Naming.{Name}
use Rattle.catalog_core.specs.table.TableWords.{number_of}
use Rattle.ended_versions.specs.Packed.{PackedVersion, packed}
use Rattle.history_model.specs.Histories.{Changed, History, catalog_of, clock_of, with_event}
use Rattle.history_model.specs.HistoryVersions.{begun_at, is_touched, its_row, remains_of, touched_rows, versions_after, versions_of}
use Rattle.history_model.specs.Portions.{PlainRow, added, touches}
use Rattle.history_model.specs.Versions.{PlainVersion, plain_version}
use Rattle.history_model.proofs.HistoryVersionFacts.{versions_of-event}
use Rattle.history_model.proofs.VersionFacts.{itself}
use Rattle.script_engine.specs.engine.Ended.{ended_in, has_ended}
use Rattle.script_engine.specs.engine.EngineState.{EngineState}
use Rattle.script_engine.specs.engine.Planned.{count_of, word_of}
use Rattle.script_engine.specs.engine.Runs.{Accepts, Step}
use Rattle.script_engine.specs.engine.Stored.{EngineRepresents}
use Rattle.script_engine.specs.script.Noted.{ChangesEndOrForget, Forgets, ending_table, forgotten_by, is_forgotten, is_past, lost_of, past_of, touched_in}
use Rattle.script_engine.specs.script.Script.{PieceStep}
use Rattle.script_engine.proofs.CurrentAfter.{not_forever}
use Rattle.script_engine.proofs.EndedAfter.{ended_rows}
use Rattle.script_engine.proofs.Steps.{tables_of}
use Rattle.statement_reports.specs.declared.outcome.Outcome.{Outcome}
use Rattle.statement_reports.specs.declared.outcome.Outcome.TheVariants.{Done}

-- ---- the versions that a change touches, after it

one_more : {X : Type 0} (b : Bool) (x : X) (xs : List X) → length (cond b (x ∷ xs) xs) ≡ length (cond b (x ∷ []) []) + length xs
one_more true x xs = omega arith
one_more false x xs = omega arith

module _ (clock : ℤ) (action : Action) (before : int_eq clock forever ≡ false) where
  -- a version that the change touches and does not forget
  abbrev is_kept : PlainVersion → Bool
  is_kept v = is_touched action v && not (int_eq v.from clock)

  parted : (versions : List PlainVersion) → length (filter (is_touched action) versions) ≡ length (filter is_kept versions) + length (filter (is_forgotten clock action) versions)
  parted [] = refl
  parted (v ∷ versions) = go (is_touched action v) (int_eq v.from clock) (parted versions)
    where
      go : (t b : Bool) → length (filter (is_touched action) versions) ≡ length (filter is_kept versions) + length (filter (is_forgotten clock action) versions) →
          length (cond t (v ∷ filter (is_touched action) versions) (filter (is_touched action) versions))
          ≡ length (cond (t && not b) (v ∷ filter is_kept versions) (filter is_kept versions)) + length (cond (t && b) (v ∷ filter (is_forgotten clock action) versions) (filter (is_forgotten clock action) versions))
      go true true rest = omega (arith, rest)
      go true false rest = omega (arith, rest)
      go false b rest = rest

  -- the rest of a version has ended if the version had, or if some of it remains
  left_past : (v : PlainVersion) → length (filter is_past (remains_of clock action v)) ≡ length (filter is_past (v ∷ [])) + length (filter is_kept (v ∷ []))
  left_past v = go (int_eq v.to forever) (touches action (its_row v)) (int_eq v.from clock) refl
    where
      ended : PlainVersion
      ended = record v { to = clock }

      go : (c t b : Bool) → int_eq v.to forever ≡ c →
          length (filter is_past (cond (c && t) (cond b [] (record v { to = clock } ∷ [])) (v ∷ [])))
          ≡ length (cond (not c) (v ∷ []) []) + length (cond ((c && t) && not b) (v ∷ []) [])
      go true true true is = refl
      go true true false is = ap (λ (e : Bool). length (cond (not e) (record v { to = clock } ∷ []) [])) before
      go true false b is = ap (λ (e : Bool). length (cond (not e) (v ∷ []) [])) is
      go false t b is = ap (λ (e : Bool). length (cond (not e) (v ∷ []) [])) is

  more_past : (versions : List PlainVersion) → length (filter is_past (flat_map (remains_of clock action) versions)) ≡ length (filter is_past versions) + length (filter is_kept versions)
  more_past [] = refl
  more_past (v ∷ versions) =
      let rest : List PlainVersion = flat_map (remains_of clock action) versions in
      let joined : length (filter is_past (remains_of clock action v ++ rest)) ≡ length (filter is_past (remains_of clock action v)) + length (filter is_past rest) =
      ap length (filter-append is_past (remains_of clock action v) rest) ∙ length-append (filter is_past (remains_of clock action v)) (filter is_past rest) in
      let here = left_past v in
      let others = more_past versions in
      let past = one_more (is_past v) v (filter is_past versions) in
      let kept = one_more (is_kept v) v (filter is_kept versions) in
      omega (arith, joined, here, others, past, kept)

  -- no row that begins has ended
  none_past : (rows : List PlainRow) → length (filter is_past (map (begun_at clock) rows)) ≡ 0
  none_past [] = refl
  none_past (row ∷ rows) = ap (λ (e : Bool). length (cond (not e) (begun_at clock row ∷ filter is_past (map (begun_at clock) rows)) (filter is_past (map (begun_at clock) rows)))) (itself forever) ∙ none_past rows

  -- the versions that have ended after a change
  changed_past : (versions : List PlainVersion) → length (filter is_past (versions_after clock action versions)) ≡ length (filter is_past versions) + length (filter is_kept versions)
  changed_past versions =
      let left : List PlainVersion = flat_map (remains_of clock action) versions in
      let rows : List PlainRow = added action (touched_rows action versions) in
      let joined : length (filter is_past (left ++ map (begun_at clock) rows)) ≡ length (filter is_past left) + length (filter is_past (map (begun_at clock) rows)) =
      ap length (filter-append is_past left (map (begun_at clock) rows)) ∙ length-append (filter is_past left) (filter is_past (map (begun_at clock) rows)) in
      let none = none_past rows in
      let more = more_past versions in
      omega (arith, joined, none, more)

  touched_count : (versions : List PlainVersion) → length (touched_rows action versions) ≡ length (filter is_kept versions) + length (filter (is_forgotten clock action) versions)
  touched_count versions = length-map (filter (is_touched action) versions) its_row ∙ parted versions

-- the versions of the table of a change after it
after_change : (history : History) (change : Change) → versions_of (with_event history (Changed (clock_of history) change)) change.table ≡ versions_after (clock_of history) change.action (versions_of history change.table)
after_change history change =
    let same : nat_eq change.table change.table ≡ true = grind (arith, nat_tests) in
    versions_of-event history (Changed (clock_of history) change) change.table
    ∙ ap (λ (b : Bool). cond b (versions_after (clock_of history) change.action (versions_of history change.table)) (versions_of history change.table)) same

pub changes_end_or_forget : ChangesEndOrForget
changes_end_or_forget history change before =
    let clock = clock_of history in
    let versions = versions_of history change.table in
    let not_last = not_forever clock before in
    let past = ap (λ (vs : List PlainVersion). length (filter is_past vs)) (after_change history change) ∙ changed_past clock change.action not_last versions in
    let touched = touched_count clock change.action not_last versions in
    omega (arith, past, touched)

-- ---- the number that is found

-- the versions in memory that have ended are as many as the history's
past_count : {S : Type 0} (g : Ghosts S) (history : History) (engine : EngineState S) → EngineRepresents g history engine → (table : ℕ) → length (ended_in engine.ended table) ≡ length (past_of history table)
past_count g history engine represents table =
    let has = represents.ended table in
    let held = represents.said.versions table in
    let ended : IsPermutation (filter has_ended held.rows) has.versions = ended_rows table represents.contents.versions held.rows has.versions held.all has.all in
    let past : IsPermutation (filter is_past (map plain_version held.rows)) (past_of history table) = IsPermutation-filter is_past (map plain_version held.rows) (versions_of history table) held.left in
    sym (ap length has.held.same)
    ∙ length-map has.versions packed
    ∙ length_permutation (filter has_ended held.rows) has.versions ended
    ∙ sym (length-map (filter has_ended held.rows) plain_version)
    ∙ sym (ap length (filter-map is_past plain_version held.rows))
    ∙ sym (length_permutation (filter is_past (map plain_version held.rows)) (past_of history table) past)

-- a change of the touched versions
lost : (touched before after past forgotten later : ℕ) → before ≡ past → after ≡ later → past + touched ≡ later + forgotten → past ≤ later → lost_of touched before after ≡ forgotten
lost touched before after past forgotten later was is all more = omega (arith, was, is, all, more)

-- after a change no fewer versions have ended
rise : (history : History) (change : Change) → clock_of history <ℤ forever → length (past_of history change.table) ≤ length (past_of (with_event history (Changed (clock_of history) change)) change.table)
rise history change before =
    let past = ap (λ (vs : List PlainVersion). length (filter is_past vs)) (after_change history change) ∙ changed_past (clock_of history) change.action (not_forever (clock_of history) before) (versions_of history change.table) in
    omega (arith, past)

module _ {S : Type 0} (g : Ghosts S) (history last : History) (old new : EngineState S) (was : EngineRepresents g history old) (is : EngineRepresents g last new) where
  clock_before : clock_of history <ℤ forever
  clock_before = subst (λ (m : ℤ). m <ℤ forever) was.said.clock was.said.good.clock.1

  -- a change that touched this number of versions
  change_lost : (change : Change) (table touched : ℕ) → table ≡ change.table → touched ≡ length (touched_rows change.action (versions_of history change.table)) → last ≡ with_event history (Changed (clock_of history) change) →
      lost_of touched (length (ended_in old.ended table)) (length (ended_in new.ended table)) ≡ length (forgotten_by history change)
  change_lost change table touched same count after =
      let later : length (ended_in new.ended change.table) ≡ length (past_of (with_event history (Changed (clock_of history) change)) change.table) =
      past_count g last new is change.table ∙ ap (λ (h : History). length (past_of h change.table)) after in
      subst (λ (t : ℕ). lost_of touched (length (ended_in old.ended t)) (length (ended_in new.ended t)) ≡ length (forgotten_by history change)) (sym same)
      (lost touched (length (ended_in old.ended change.table)) (length (ended_in new.ended change.table)) (length (past_of history change.table)) (length (forgotten_by history change)) (length (past_of (with_event history (Changed (clock_of history) change)) change.table))
      (past_count g history old was change.table) later
      (ap (λ (n : ℕ). length (past_of history change.table) + n) count ∙ changes_end_or_forget history change clock_before)
      (rise history change clock_before))

  -- the table that a statement names has one number, in the catalog and in the history
  found : (name : Name) (number : ℕ) → number_of (catalog_of history) name ≡ Some number → unwrap_or (number_of old.catalog.tables name) 0 ≡ number
  found name number there = ap (λ (o : Option ℕ). unwrap_or o 0) (ap (λ (ts : List TableDef). number_of ts name) (tables_of g history old was) ∙ there)

  -- INSERT touches no version
  insert_forgets : (given : List InsertedRow) (versions : List PlainVersion) → length (filter (is_forgotten (clock_of history) (Insert given)) versions) ≡ 0
  insert_forgets given [] = refl
  insert_forgets given (v ∷ versions) = go (int_eq v.to forever) (insert_forgets given versions)
    where
      go : (c : Bool) → length (filter (is_forgotten (clock_of history) (Insert given)) versions) ≡ 0 →
          length (cond ((c && false) && int_eq v.from (clock_of history)) (v ∷ filter (is_forgotten (clock_of history) (Insert given)) versions) (filter (is_forgotten (clock_of history) (Insert given)) versions)) ≡ 0
      go true none = none
      go false none = none

  inserted : (t : TableDef) (i : InsertRows) (action : Action) (versions : List PlainVersion) (outcome : Outcome) (before after : ℕ) → ResolvesAction t i action → outcome ≡ Done (word_of action) (count_of action versions) →
      lost_of (touched_in (Ok outcome)) before after ≡ length (filter (is_forgotten (clock_of history) action) versions)
  inserted t i (Insert given) versions outcome before after are done =
      let touched : touched_in (Ok outcome) ≡ 0 = ap (λ (o : Outcome). touched_in (Ok o)) done in
      let none = insert_forgets given versions in
      omega (arith, touched, none)
  inserted t i (Update portion assignments condition) versions outcome before after are done = absurd are
  inserted t i (Delete portion condition) versions outcome before after are done = absurd are

  updated : (t : TableDef) (u : UpdateStatement) (action : Action) (versions : List PlainVersion) (outcome : Outcome) → UpdatesAs t u action → outcome ≡ Done (word_of action) (count_of action versions) →
      touched_in (Ok outcome) ≡ length (touched_rows action versions)
  updated t u (Insert given) versions outcome are done = absurd are
  updated t u (Update portion assignments condition) versions outcome are done = ap (λ (o : Outcome). touched_in (Ok o)) done
  updated t u (Delete portion condition) versions outcome are done = absurd are

  deleted : (t : TableDef) (d : DeleteStatement) (action : Action) (versions : List PlainVersion) (outcome : Outcome) → DeletesAs t d action → outcome ≡ Done (word_of action) (count_of action versions) →
      touched_in (Ok outcome) ≡ length (touched_rows action versions)
  deleted t d (Insert given) versions outcome are done = absurd are
  deleted t d (Update portion assignments condition) versions outcome are done = absurd are
  deleted t d (Delete portion condition) versions outcome are done = ap (λ (o : Outcome). touched_in (Ok o)) done

  -- the number of lost versions, if this is the table that a statement may change
  abbrev pub lost_in : ℕ → Result Outcome Refusal → ℕ
  lost_in table result = lost_of (touched_in result) (length (ended_in old.ended table)) (length (ended_in new.ended table))

  untouched : (outcome : Outcome) (before after : ℕ) → touched_in (Ok outcome) ≡ 0 → lost_of (touched_in (Ok outcome)) before after ≡ 0
  untouched outcome before after none = omega (arith, none)

  -- the versions that an accepted statement forgets
  accepted_forgets : (s : Statement) (outcome : Outcome) → Accepts history s outcome last → Forgets history s (lost_in (ending_table old.catalog.tables s) (Ok outcome))
  accepted_forgets (statement.at moment) outcome all =
      ((λ none. absurd none), λ _. untouched outcome (length (ended_in old.ended 0)) (length (ended_in new.ended 0)) (ap (λ (o : Outcome). touched_in (Ok o)) all.done))
  accepted_forgets (statement.create c) outcome all =
      ((λ none. absurd none), λ _. untouched outcome (length (ended_in old.ended 0)) (length (ended_in new.ended 0)) (ap (λ (o : Outcome). touched_in (Ok o)) all.done))
  accepted_forgets (statement.sequenced q) outcome all =
      ((λ none. absurd none), λ _. untouched outcome (length (ended_in old.ended 0)) (length (ended_in new.ended 0)) (ap (λ (o : Outcome). touched_in (Ok o)) all.1))
  accepted_forgets (statement.stored q) outcome all =
      ((λ none. absurd none), λ _. untouched outcome (length (ended_in old.ended 0)) (length (ended_in new.ended 0)) (ap (λ (o : Outcome). touched_in (Ok o)) all.1))
  accepted_forgets (statement.insert i) outcome all =
      ((λ _. (all.change, all.resolved, inserted all.resolved.definition i all.change.action (versions_of history all.change.table) outcome (length (ended_in old.ended 0)) (length (ended_in new.ended 0)) all.resolved.action all.done)), λ other. absurd (other tt))
  accepted_forgets (statement.update u) outcome all = (
    (λ _. (
      all.change,
      all.resolved,
      change_lost all.change (ending_table old.catalog.tables (statement.update u)) (touched_in (Ok outcome)) (found u.table all.change.table all.resolved.number)
          (updated all.resolved.definition u all.change.action (versions_of history all.change.table) outcome all.resolved.action all.done) all.after,
    )),
    λ other. absurd (other tt),
  )
  accepted_forgets (statement.delete d) outcome all = (
    (λ _. (
      all.change,
      all.resolved,
      change_lost all.change (ending_table old.catalog.tables (statement.delete d)) (touched_in (Ok outcome)) (found d.table all.change.table all.resolved.number)
          (deleted all.resolved.definition d all.change.action (versions_of history all.change.table) outcome all.resolved.action all.done) all.after,
    )),
    λ other. absurd (other tt),
  )

  -- the number for a piece that spells a statement
  pub piece_told : (piece : List Lexeme) (s : Statement) (result : Result Outcome Refusal) (count : ℕ) → IsStatement piece s → PieceStep history piece result last → count ≡ lost_in (ending_table old.catalog.tables s) result →
      OnOk result ((t : Statement) → IsStatement piece t → Forgets history t count)
  piece_told piece s (Err refusal) count spelled step counted = tt
  piece_told piece s (Ok outcome) count spelled (inl (refusal, is_err, may, same)) counted = let wrong : ⊥ = cc in absurd wrong
  piece_told piece s (Ok outcome) count spelled (inr (other, none, spells, step)) counted = λ t stated.
      let same : other ≡ t = spells_one piece other t spells stated in
      let own : s ≡ t = spells_one piece s t spelled stated in
      let taken : Step history t (Ok outcome) last = subst (λ (x : Statement). Step history x (Ok outcome) last) same step in
      subst (Forgets history t) (sym (counted ∙ ap (λ (x : Statement). lost_in (ending_table old.catalog.tables x) (Ok outcome)) own)) (accepted_forgets t outcome taken.1)

-- a refused statement forgets nothing
pub none_told : (result : Result Outcome Refusal) (count before after : ℕ) → count ≡ lost_of (touched_in result) before after → OnErr result (count ≡ 0)
none_told (Ok outcome) count before after found = tt
none_told (Err refusal) count before after found = omega (arith, found)

-- the number that is found, by the table and by what had ended before
pub counted_in : (count touched table before wanted : ℕ) (old new : List (List PackedVersion)) → table ≡ wanted → before ≡ length (ended_in old table) → count ≡ lost_of touched before (length (ended_in new table)) →
    count ≡ lost_of touched (length (ended_in old wanted)) (length (ended_in new wanted))
counted_in count touched table before wanted old new same was is =
    subst (λ (t : ℕ). count ≡ lost_of touched (length (ended_in old t)) (length (ended_in new t))) same
    (subst (λ (b : ℕ). count ≡ lost_of touched b (length (ended_in new table))) was is)
