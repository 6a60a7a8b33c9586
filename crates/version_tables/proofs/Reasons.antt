-- The reasons why a text of the store fails if the three tables exist.
use Rattle.std.proofs.Common.{◌≡◌, ◌∙◌, inl, inr, ℕ, List, [], ◌∷◌, true, false, codes, Ok, Err, Result, IfErr, refl, sym, ap, subst, subst₂, append-nil, length, true≢false, arith}
use Rattle.std.specs.Prelude.{nat_le, Vec}
use Rattle.std.specs.declared.alloc.Global.{Global}
use Rattle.std.specs.List.{Any}
use Rattle.std.proofs.lemmas.Bool.Decides.{nat_tests}
use Rattle.sqlite.specs.Order.{Row}
use Rattle.sqlite.specs.Effect.{RefusesToRead}
use Rattle.sqlite.specs.Command.TheVariants.{Select}
use Rattle.sqlite.specs.Query.{Query}
use Rattle.sqlite.specs.Listing.{understood, reads_listing, IsSourceOf}
use Rattle.sqlite.specs.Schema.{Schema}
use Rattle.sqlite.specs.State.{State, Fails, FailsToQuery, HasCause, IsNoStatement, IsNotRun, Survives, store_error}
use Rattle.sqlite.specs.Tree.{Trees}
use Rattle.sqlite.specs.declared.error.Error.{Error}
use Rattle.sqlite_trees.specs.declared.error.StoreError.{StoreError}
use Rattle.sqlite_trees.specs.declared.error.StoreError.TheVariants.{OutOfMemory, Io, Corrupt, Full, Broken, Unstorable}
use Rattle.sqlite.proofs.Callers.{IsPlain, command_of}
use Rattle.sqlite_resolve.specs.declared.compiled.Compiled.{Compiled}
use Rattle.sqlite_resolve.specs.declared.error.CompileError.{CompileError}
use Rattle.sqlite_sql.specs.Program.{ProgramOverflows}
use Rattle.sqlite_typing.specs.Types.{accepts_program}
use Rattle.sqlite_tied.specs.Compute.{everything}
use Rattle.version_tables.specs.Selections.{select_given, select_text}
use Rattle.version_tables.specs.Steps.{HasReason, KeepsFaults}
use Rattle.version_tables.specs.Tables.{HasStoreTables, Others, schema_with}
use Rattle.version_tables.specs.Texts.{meta_rows_text, rowids_text, table_rows_text, version_rows_text}
use Rattle.version_tables.specs.declared.selection.Selection.{Selection}
use Rattle.version_tables.specs.declared.selection.Selection.TheVariants.{Whole, EndingAt, Overlapping}
use Rattle.version_tables.proofs.Asks.{meta_asks, meta_names, meta_order, meta_project, rowid_asks, rowid_names, rowid_project, table_asks, table_names, table_project, version_asks, version_names, version_order, version_project}
use Rattle.version_tables.proofs.Texts.{select_is, select_query}
use Rattle.version_tables.proofs.Whole.{whole}

-- ---- the text is one statement, with a number of parameters

abbrev pub IsOne : List ℕ → ℕ → Result Compiled CompileError → Type 0
IsOne text count (Ok c) = (nat_le (length text) c.tail ≡ true) × (count ≡ length c.names)
IsOne text count (Err e) = ⊥

whole_one : (others : Others) → IsOne (select_text Whole) 1 (understood (schema_with others) (select_text Whole))
unfolding understood everything
whole_one others = (refl, refl)

ending_one : (others : Others) (end : _) → IsOne (select_text (EndingAt end)) 2 (understood (schema_with others) (select_text (EndingAt end)))
unfolding understood everything
ending_one others end = (refl, refl)

overlapping_one : (others : Others) (start end : _) → IsOne (select_text (Overlapping start end)) 3 (understood (schema_with others) (select_text (Overlapping start end)))
unfolding understood everything
overlapping_one others start end = (refl, refl)

select_one : (table : ℕ) (selection : Selection) (others : Others) → IsOne (select_text selection) (length (select_given table selection)) (understood (schema_with others) (select_text selection))
select_one table Whole others = whole_one others
select_one table (EndingAt end) others = ending_one others end
select_one table (Overlapping start end) others = overlapping_one others start end

meta_one : (others : Others) → IsOne meta_rows_text 0 (understood (schema_with others) meta_rows_text)
unfolding understood everything
meta_one others = (refl, refl)

table_one : (others : Others) → IsOne table_rows_text 0 (understood (schema_with others) table_rows_text)
unfolding understood everything
table_one others = (refl, refl)

version_one : (others : Others) → IsOne version_rows_text 0 (understood (schema_with others) version_rows_text)
unfolding understood everything
version_one others = (refl, refl)

rowid_one : (others : Others) → IsOne rowids_text 0 (understood (schema_with others) rowids_text)
unfolding understood everything
rowid_one others = (refl, refl)

-- ---- the query is typed, and sums nothing

select_typed : (table : ℕ) (selection : Selection) (others : Others) → accepts_program (schema_with others) [] (select_query selection) (select_given table selection) ≡ true
select_typed table Whole others = refl
select_typed table (EndingAt end) others = refl
select_typed table (Overlapping start end) others = refl

pub none_of : {A : Type 0} (xs : List A) → Any (λ (x : A). ⊥) xs → ⊥
none_of xs any = any.4

abbrev pub NeverOverflows : Row → Query → Type 0
NeverOverflows params query = (db : Trees) → ProgramOverflows db params [] [] query → ⊥

select_never : (params : Row) (selection : Selection) → NeverOverflows params (select_query selection)
select_never params selection db (inl group) = group
select_never params selection db (inr some) = none_of _ some

-- ---- why a text fails

module _ (old new : State) where
  pub by_cause : (TooBig : Type 0) → ¬ TooBig → (e : Error) (cause : StoreError) → e ≡ store_error cause → HasCause old new TooBig cause → HasReason old new e
  by_cause TooBig small e OutOfMemory is h on = inl is
  by_cause TooBig small e Io is h on = inr (inl h)
  by_cause TooBig small e Corrupt is h on = inr (inl h)
  by_cause TooBig small e Full is h on = inr (inl h)
  by_cause TooBig small e Broken is h on = absurd (true≢false (sym on ∙ h))
  by_cause TooBig small e Unstorable is h on = absurd (small h)

  pub by_failure : (TooBig : Type 0) → ¬ TooBig → (e : Error) → Fails old new TooBig e → HasReason old new e
  by_failure TooBig small e failed = by_cause TooBig small e failed.0 failed.1 failed.2

  pub keeps_faults : {P : Trees → Type 0} → Survives old new P → KeepsFaults old new
  keeps_faults s = record { faults = s.counts; limit = s.limit }

-- the reasons why a text that is one statement over a schema fails
module _ (text : List ℕ) (params : Row) (schema : Schema) (one : IsOne text (length params) (understood schema text)) (plain : IsPlain (understood schema text)) (s : State) (has : s.now.schema ≡ schema) where
  pub known : (r : Result Compiled CompileError) → understood s.now.schema text ≡ r → understood schema text ≡ r
  known r is = ap (λ schema. understood schema text) (sym has) ∙ is

  pub not_refused : (e : Error) → IsNoStatement s text params e → ⊥
  not_refused e (inl (fault, is, _)) = subst (IsOne text (length params)) (known (Err fault) is) one
  not_refused e (inr (c, is, inl (long, _))) =
      let fits = (subst (IsOne text (length params)) (known (Ok c) is) one).0 in
      long (grind (arith, nat_tests, fits))
  not_refused e (inr (c, is, inr (inl (other, _)))) = other (subst (IsOne text (length params)) (known (Ok c) is) one).1
  not_refused e (inr (c, is, inr (inr (clock, _)))) = clock (subst IsPlain (known (Ok c) is) plain).1

-- the reasons why a query fails
module _ (text : List ℕ) (query : Query) (names : List (List ℕ)) (params : Row) (one : (others : Others) → IsOne text (length params) (understood (schema_with others) text))
    (asks : (others : Others) → (command_of (understood (schema_with others) text) ≡ Select (record { lets = []; body = query }) names) × (reads_listing (schema_with others) text ≡ false) × IsPlain (understood (schema_with others) text))
    (typed : (others : Others) → accepts_program (schema_with others) [] query params ≡ true) (never : NeverOverflows params query) (old new : State) (has : HasStoreTables old.now.schema) where
  reads_with_reason : (e : Error) → RefusesToRead old.step_limit (Select (record { lets = []; body = query }) names) old.now params e → HasReason old new e
  reads_with_reason e (inl (is, untyped)) = absurd (true≢false (sym (ap (λ schema. accepts_program schema [] query params) has.schema_is ∙ typed has.others) ∙ untyped))
  reads_with_reason e (inr (inl (is, over))) = absurd (never old.now.trees over)
  reads_with_reason e (inr (inr (is, some))) = λ on. inr (inr some)

  pub fails_with_reason : (e : Error) → FailsToQuery text params old new e → HasReason old new e
  unfolding FailsToQuery IsNotRun
  fails_with_reason e (inl (inl refused)) = absurd (not_refused text params (schema_with has.others) (one has.others) (asks has.others).2 old has.schema_is e refused.0)
  fails_with_reason e (inl (inr failed)) = by_failure old new ⊥ (λ none. none) e failed
  fails_with_reason e (inr h) =
      let is = known text params (schema_with has.others) (one has.others) (asks has.others).2 old has.schema_is (Ok h.0) h.1.is in
      let it = asks has.others in
      let bare = subst IsPlain is it.2 in
      let read = rw (bare.0, bare.1, append-nil params) at h.2 in
      let db : read.0 ≡ old.now = subst (λ b. IsSourceOf b old.now read.0) (ap (λ schema. reads_listing schema text) has.schema_is ∙ it.1) read.1 in
      let command = sym (ap command_of is) ∙ it.0 in
      reads_with_reason e (subst₂ (λ k d. RefusesToRead old.step_limit k d params e) command db read.2)

  pub query_fails : (r : Result (Vec Row Global) Error) → IfErr r (FailsToQuery text params old new) → IfErr r (HasReason old new)
  query_fails (Ok rows) failed = tt
  query_fails (Err e) failed = fails_with_reason e failed

-- ---- the queries of the store

pub select_fails : (old new : State) (table : ℕ) (selection : Selection) → HasStoreTables old.now.schema → (e : Error) → FailsToQuery (select_text selection) (select_given table selection) old new e → HasReason old new e
select_fails old new table selection has =
    fails_with_reason (select_text selection) (select_query selection) (codes "vals" ∷ codes "s" ∷ codes "e" ∷ codes "ss" ∷ codes "se" ∷ []) (select_given table selection) (select_one table selection) (λ others. select_is others selection)
    (select_typed table selection) (select_never (select_given table selection) selection) old new has

pub version_fails : (old new : State) → HasStoreTables old.now.schema → (e : Error) → FailsToQuery version_rows_text [] old new e → HasReason old new e
version_fails =
    fails_with_reason version_rows_text (whole 2 version_project version_order) version_names [] version_one version_asks (λ others. refl) (λ db over. elim over [ inl group ↦ group | inr some ↦ none_of _ some ])

abbrev FailsWith : List ℕ → Type 1
FailsWith text = (old new : State) → HasStoreTables old.now.schema → (r : Result (Vec Row Global) Error) → IfErr r (FailsToQuery text [] old new) → IfErr r (HasReason old new)

pub meta_fails : FailsWith meta_rows_text
meta_fails = query_fails meta_rows_text (whole 0 meta_project meta_order) meta_names [] meta_one meta_asks (λ others. refl) (λ db over. elim over [ inl group ↦ group | inr some ↦ none_of _ some ])

pub table_fails : FailsWith table_rows_text
table_fails = query_fails table_rows_text (whole 1 table_project meta_order) table_names [] table_one table_asks (λ others. refl) (λ db over. elim over [ inl group ↦ group | inr some ↦ none_of _ some ])

pub rowid_fails : FailsWith rowids_text
rowid_fails = query_fails rowids_text (whole 2 rowid_project meta_order) rowid_names [] rowid_one rowid_asks (λ others. refl) (λ db over. elim over [ inl group ↦ group | inr some ↦ none_of _ some ])
