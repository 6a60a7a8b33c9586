-- A query changes nothing, whatever the schema: a SELECT returns nothing of a write.
use Rattle.std.proofs.Common.{◌≡◌, ◌⊎◌, inl, inr, ℕ, List, None, Ok, Err, Result, refl, sym, ap, subst, ◌∙◌, IsTrue, true≢false}
use Rattle.std.specs.Prelude.{OnOk, IfOk, IfErr, Vec}
use Rattle.std.specs.declared.alloc.Global.{Global}
use Rattle.std.proofs.lemmas.Bool.{cases_Bool}
use Rattle.sqlite.specs.Order.{Row}
use Rattle.sqlite.specs.Schema.{Schema}
use Rattle.sqlite.specs.Listing.{understood, reads_listing, if_select, is_select, listing_schema}
use Rattle.sqlite.specs.State.{State, Shown, IsTooLate, IsUnchanged, IsRolledBack, FailsToQuery, IsNotRun, KeepsCommit}
use Rattle.sqlite.specs.declared.error.Error.{Error}
use Rattle.sqlite_resolve.specs.Compile.{first, returning, command, planned, meaning, compiled, with_command}
use Rattle.sqlite_resolve.specs.Lowering.{Checked, and_then}
use Rattle.sqlite_resolve.specs.declared.compiled.Compiled.{Compiled}
use Rattle.sqlite_syntax.specs.declared.statement.Parsed.{Parsed}
use Rattle.sqlite_tied.specs.Compute.{everything}
use Rattle.version_tables.specs.Texts.{whole_text, ending_text, overlapping_text, meta_rows_text, table_rows_text, version_rows_text, rowids_text, run_keys_text, number_text, keys_text}
use Rattle.version_tables.specs.Selections.{select_text}
use Rattle.version_tables.specs.declared.selection.Selection.{Selection}
use Rattle.version_tables.specs.declared.selection.Selection.TheVariants.{Whole, EndingAt, Overlapping}
use Rattle.version_tables.specs.Steps.{Keeps}

-- ---- parsed commands have no RETURNING

abbrev NamesNothing : Checked Parsed → Type 0
NamesNothing (Ok p) = (schema : Schema) (base : ℕ) → returning schema base p.statement ≡ Ok None
NamesNothing (Err e) = Unit {0}

abbrev pub IsQueryText : List ℕ → Type 0
IsQueryText sql = NamesNothing (first sql)

whole_reads : IsQueryText whole_text
unfolding first everything
whole_reads schema base = refl

ending_reads : IsQueryText ending_text
unfolding first everything
ending_reads schema base = refl

overlapping_reads : IsQueryText overlapping_text
unfolding first everything
overlapping_reads schema base = refl

pub select_reads : (selection : Selection) → IsQueryText (select_text selection)
select_reads Whole = whole_reads
select_reads (EndingAt end) = ending_reads
select_reads (Overlapping start end) = overlapping_reads

pub meta_reads : IsQueryText meta_rows_text
unfolding first everything
meta_reads schema base = refl

pub table_reads : IsQueryText table_rows_text
unfolding first everything
table_reads schema base = refl

pub version_reads : IsQueryText version_rows_text
unfolding first everything
version_reads schema base = refl

pub rowid_reads : IsQueryText rowids_text
unfolding first everything
rowid_reads schema base = refl

pub run_reads : IsQueryText run_keys_text
unfolding first everything
run_reads schema base = refl

pub number_reads : IsQueryText number_text
unfolding first everything
number_reads schema base = refl

pub keys_read : IsQueryText keys_text
unfolding first everything
keys_read schema base = refl

-- ---- so nothing that is compiled of it has

pub through : {A B : Type 0} (r : Checked A) (f : A → Checked B) (b : B) → and_then r f ≡ Ok b → (a : A) × (r ≡ Ok a) × (f a ≡ Ok b)
through (Ok a) f b h = (a, refl, h)
through (Err e) f b h = absurd cc

pub value_is : {A : Type 0} (a b : A) → (let r : Checked A = Ok a in r ≡ Ok b) → b ≡ a
value_is a b h = cc

-- the result with which a command is found
found_with : {A B : Type 0} (r : Checked A) (b : B) (found : A × B) → and_then r (λ a. Ok (a, b)) ≡ Ok found → found.1 ≡ b
found_with {A} {B} (Ok a) b found h = ap (λ (q : A × B). q.1) (value_is (a, b) found h)
found_with (Err e) b found h = absurd cc

compiled_none : (schema : Schema) (sql : List ℕ) → IsQueryText sql → (c : Compiled) → compiled schema sql ≡ Ok c → c.returning ≡ None
unfolding compiled planned meaning
compiled_none schema sql reads c is =
    let parsed = through (first sql) _ c is in
    let p = parsed.0 in
    let none : NamesNothing (Ok p) = subst NamesNothing parsed.1 reads in
    let plan = through (planned schema p) _ c parsed.2 in
    let found = through _ _ plan.0 plan.1 in
    let shown = through (returning schema _ p.statement) _ found.0 found.1 in
    let same = found_with (command schema p.formats _ p.statement) shown.0 found.0 shown.2 in
    let nothing : shown.0 ≡ None = value_is None shown.0 (sym (none schema _) ∙ shown.1) in
    ap (λ (k : Compiled). k.returning) (value_is (with_command p plan.0) c plan.2) ∙ ap (λ (q : _ × (_ × _)). q.1.1) (value_is (_, found.0) plan.0 found.2) ∙ same ∙ nothing

pub selected : (r : Checked Compiled) (c : Compiled) → if_select r ≡ Ok c → r ≡ Ok c
selected (Err e) c h = absurd cc
selected (Ok k) c h = elim (cases_Bool (is_select k.command)) [
  | inl so ↦ rw so at h
  | inr not_so ↦ absurd (let e = rw not_so at h in cc)
]

pub understood_none : (schema : Schema) (sql : List ℕ) → IsQueryText sql → (c : Compiled) → understood schema sql ≡ Ok c → c.returning ≡ None
unfolding understood
understood_none schema sql reads c is = elim (cases_Bool (reads_listing schema sql)) [
  | inl so ↦ compiled_none listing_schema sql reads c (selected (compiled listing_schema sql) c (rw so at is))
  | inr not_so ↦ compiled_none schema sql reads c (rw not_so at is)
]

-- ---- a query that runs changes nothing, and one that fails leaves what was committed

module _ (sql : List ℕ) (reads : IsQueryText sql) (params : Row) (old new : State) where
  pub unchanged_by : (rows : List Row) → Shown sql params old new rows → IsUnchanged old new
  unfolding Shown
  unchanged_by rows h = (rw (understood_none old.now.schema sql reads h.0 h.1.is) at h.2).3

  fails_by : (e : Error) → FailsToQuery sql params old new e → IsUnchanged old new ⊎ IsRolledBack old new
  unfolding FailsToQuery IsNotRun
  fails_by e (inl (inl refused)) = inl refused.1
  fails_by e (inl (inr failed)) = inr failed.3
  fails_by e (inr h) = inl (rw (understood_none old.now.schema sql reads h.0 h.1.is) at h.2).3

  keeps_by : (IsTrue old.is_open → old.now ≡ old.committed) → IsUnchanged old new ⊎ IsRolledBack old new → Keeps old new
  keeps_by settled (inl same) = record { was_open = λ _. same.0.was_open; now = λ _. same.0.now_is; committed = λ _. same.0.committed_is }
  keeps_by settled (inr undone) = record {
    was_open = undone.was_open;
    now = λ on. (undone.undone on).0 ∙ sym (settled (undone.was_open on));
    committed = λ on. (undone.undone on).1;
  }

  pub failed_keeps : (IsTrue old.is_open → old.now ≡ old.committed) → (e : Error) → FailsToQuery sql params old new e → Keeps old new
  failed_keeps settled e err = keeps_by settled (fails_by e err)

  pub query_unchanged : (r : Result (Vec Row Global) Error) → IfOk r (λ rows. Shown sql params old new rows.items) → OnOk r (IsUnchanged old new)
  query_unchanged (Ok rows) ok = unchanged_by rows.items ok
  query_unchanged (Err e) ok = tt

  pub query_keeps : (IsTrue old.is_open → old.now ≡ old.committed) → (r : Result (Vec Row Global) Error) → IfOk r (λ rows. Shown sql params old new rows.items) → IfErr r (FailsToQuery sql params old new) → Keeps old new
  query_keeps settled (Ok rows) ok err = keeps_by settled (inl (unchanged_by rows.items ok))
  query_keeps settled (Err e) ok err = keeps_by settled (fails_by e err)

  -- ---- inside a transaction

  not_late : (e : Error) → IsTooLate sql params old new e → ⊥
  not_late e h = let none = understood_none old.now.schema sql reads h.0 h.1.is in true≢false (sym (rw none at h.2))

  pub in_time : (r : Result (Vec Row Global) Error) → IfErr r (λ e. FailsToQuery sql params old new e ⊎ IsTooLate sql params old new e) → IfErr r (FailsToQuery sql params old new)
  in_time (Ok rows) err = tt
  in_time (Err e) (inl failed) = failed
  in_time (Err e) (inr late) = absurd (not_late e late)

  commit_kept : IsUnchanged old new ⊎ IsRolledBack old new → KeepsCommit old new
  commit_kept (inl same) = record { was_open = λ _. same.0.was_open; committed = λ _. same.0.committed_is }
  commit_kept (inr undone) = record { was_open = undone.was_open; committed = λ on. (undone.undone on).1 }

  pub query_commits_nothing : (r : Result (Vec Row Global) Error) → IfOk r (λ rows. Shown sql params old new rows.items) → IfErr r (λ e. FailsToQuery sql params old new e ⊎ IsTooLate sql params old new e) → KeepsCommit old new
  query_commits_nothing (Ok rows) ok err = commit_kept (inl (unchanged_by rows.items ok))
  query_commits_nothing (Err e) ok err = commit_kept (fails_by e (in_time (Err e) err))
