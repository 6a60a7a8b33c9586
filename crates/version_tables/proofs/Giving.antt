-- A query whose rows are given one at a time.
use Rattle.std.proofs.Common.{◌≡◌, ◌⊎◌, ◌∙◌, ap, ℕ, List, [], ◌∷◌, ◌++◌, Option, Some, None, Ok, Err, Result, OnErr, OnOk, IfOk, IfErr, inl, inr, refl, sym, subst, arith, IsTrue, false}
use Rattle.std.specs.Prelude.{IsSome}
use Rattle.sqlite.specs.Store.{Ghosts}
use Rattle.sqlite.specs.Order.{Row}
use Rattle.sqlite.specs.Tree.{Trees}
use Rattle.sqlite.specs.Schema.{Schema}
use Rattle.sqlite.specs.declared.error.Error.{Error}
use Rattle.sqlite.specs.Held.{Held, state}
use Rattle.sqlite.specs.Given.{Advances, FailsToAdvance, HasBegun, HasGiven, IsRefused, Returns}
use Rattle.sqlite.specs.Listing.{understood}
use Rattle.sqlite.specs.Effect.{Database}
use Rattle.sqlite.specs.State.{State, Fails, FailsToQuery, HasCleanDisk, IsUnchanged, Shown, Survives}
use Rattle.sqlite.proofs.Callers.{EndsIn, begins_shown, command_of, given_begin, unchanged_then}
use Rattle.sqlite.proofs.StateLemmas.{unchanged}
use Rattle.sqlite_resolve.specs.declared.compiled.Compiled.{Compiled}
use Rattle.sqlite_resolve.specs.declared.error.CompileError.{CompileError}
use Rattle.version_tables.specs.Selections.{VersionQuery, OfAllTables, OfTable, query_given, query_text}
use Rattle.version_tables.specs.Represents.{Represents, version_shown}
use Rattle.version_tables.specs.Giving.{AreAll, AreFirst, AreVersions, GivesNext, HasGivenRows, IsAfterQuery, HasNotBegun}
use Rattle.version_tables.specs.Steps.{FailsWithReason, HasReason, Keeps, KeepsFaults}
use Rattle.version_tables.specs.Texts.{version_rows_text}
use Rattle.version_tables.proofs.Asks.{version_asks, version_names, version_order, version_project}
use Rattle.version_tables.proofs.Reasons.{select_fails, version_fails}
use Rattle.version_tables.specs.Tables.{HasStoreTables, schema_with}
use Rattle.version_tables.proofs.Selects.{IsQueryText, failed_keeps, select_reads, understood_none, version_reads}
use Rattle.version_tables.proofs.Shows.{reads}
use Rattle.version_tables.proofs.Texts.{select_is}
use Rattle.version_tables.proofs.Whole.{in_some_order, order_cmp, rows_shown}

-- ---- both queries

reads_alone : (query : VersionQuery) → IsQueryText (query_text query)
reads_alone (OfTable table selection) = select_reads selection
reads_alone OfAllTables = version_reads

never_returns : (query : VersionQuery) (schema : Schema) (r : Result Compiled CompileError) → understood schema (query_text query) ≡ r → ¬ Returns r
never_returns query schema (Ok c) is some = absurd (let e = rw (understood_none schema (query_text query) (reads_alone query) c is) at some in cc)
never_returns query schema (Err e) is some = some

-- the query has no recursion, and so ends
ends_alone : (query : VersionQuery) (s : State) → HasStoreTables s.now.schema → (c : Compiled) → understood s.now.schema (query_text query) ≡ Ok c → (db : Database) (params : Row) → EndsIn c.command db params
ends_alone query s has c is db params = go query (ap (λ schema. command_of (understood schema (query_text query))) (sym has.schema_is) ∙ ap command_of is)
  where
    go : (q : VersionQuery) → command_of (understood (schema_with has.others) (query_text q)) ≡ c.command → EndsIn c.command db params
    go (OfTable table selection) known = subst (λ command. EndsIn command db params) (sym (select_is has.others selection).0 ∙ known) tt
    go OfAllTables known = subst (λ command. EndsIn command db params) (sym (version_asks has.others).0 ∙ known) tt

fails : (old new : State) (query : VersionQuery) → HasStoreTables old.now.schema → (e : Error) → FailsToQuery (query_text query) (query_given query) old new e → HasReason old new e
fails old new (OfTable table selection) = select_fails old new table selection
fails old new OfAllTables = version_fails old new

-- all rows of bt_version are shown
versions_shown : (old new : State) (rows : List Row) → HasStoreTables old.now.schema → Shown version_rows_text [] old new rows → AreVersions old.now rows
versions_shown old new rows has h =
    in_some_order version_shown (order_cmp 2 version_project version_order) (old.now.trees 2) rows
    (rows_shown version_rows_text 2 version_project version_order version_names version_asks old new has rows h)

as_it_was : {a b : State} → IsUnchanged a b → Keeps a b
as_it_was same = record { was_open = λ _. same.0.was_open; now = λ _. same.0.now_is; committed = λ _. same.0.committed_is }

module _ {S : Type 0} (g : Ghosts S) (first : Held S) where
  -- the rows given so far are continued to all that the query shows
  continued : (query : VersionQuery) (now : Held S) (given : List Row) → HasStoreTables (state g now).now.schema → HasGiven g (query_text query) (query_given query) now given → IsUnchanged (state g first) (state g now)
      → (more : List Row) × Shown (query_text query) (query_given query) (state g now) (state g now) (given ++ more)
  continued query now given has h same =
      let s = state g now in
      begins_shown (query_text query) (query_given query) s s given (given_begin g (query_text query) (query_given query) now given h) (unchanged s same.0.is_open) (λ c db it _. ends_alone query s has c it.is db _)

  -- the rows given so far are the first of the query's rows
  are_first : (query : VersionQuery) (now : Held S) (given : List Row) → HasGiven g (query_text query) (query_given query) now given → IsUnchanged (state g first) (state g now) → AreFirst (state g first).now query given
  are_first (OfTable table selection) now given h same = λ m stands.
      let s = state g now in
      let stands_now = subst (λ db. Represents db m) (sym same.0.now_is) stands in
      let whole = continued (OfTable table selection) now given stands_now.schema h same in
      (whole.0, reads s s table selection (given ++ whole.0) m stands_now whole.1)
  are_first OfAllTables now given h same = λ has.
      let s = state g now in
      let has_now = subst (λ (db : Database). HasStoreTables db.schema) (sym same.0.now_is) has in
      let whole = continued OfAllTables now given has_now h same in
      (whole.0, subst (λ db. AreVersions db (given ++ whole.0)) same.0.now_is (versions_shown s s (given ++ whole.0) has_now whole.1))

  -- the rows given up to the end are all of the query's rows
  are_all : (query : VersionQuery) (before now : Held S) (given : List Row) → IsUnchanged (state g first) (state g before) → Shown (query_text query) (query_given query) (state g before) (state g now) given → AreAll (state g first).now query given
  are_all (OfTable table selection) before now given same h = λ m stands.
      reads (state g before) (state g now) table selection given m (subst (λ db. Represents db m) (sym same.0.now_is) stands) h
  are_all OfAllTables before now given same h = λ has.
      subst (λ db. AreVersions db given) same.0.now_is (versions_shown (state g before) (state g now) given (subst (λ (db : Database). HasStoreTables db.schema) (sym same.0.now_is) has) h)

module _ {S : Type 0} (g : Ghosts S) (query : VersionQuery) (first : Held S) where
  abbrev text : List ℕ
  text = query_text query

  abbrev params : Row
  params = query_given query

  abbrev IsSettled : Type 0
  IsSettled = IsTrue (state g first).is_open → (state g first).now ≡ (state g first).committed

  -- ---- the start

  begins : (now : Held S) → HasBegun g text params first now → HasGiven g text params now [] × IsUnchanged (state g first) (state g now)
  begins now (inl h) = h
  begins now (inr h) = absurd (never_returns query first.schema _ refl h.0)

  goes_on : (now : Held S) (given : List Row) → IsSettled → now.in_transaction ≡ false → KeepsFaults (state g first) (state g now) → (HasCleanDisk (state g now) → HasCleanDisk (state g first))
      → (HasCleanDisk (state g now) → HasGiven g text params now given × IsUnchanged (state g first) (state g now)) → HasGivenRows g query first now given
  goes_on now given settled mode faults clean h = record {
    rows = λ sure. let it = h sure in are_first g first query now given it.0 it.1;
    left = record { clean = clean; keeps = λ sure. as_it_was (h sure).1; mode = mode; faults = faults };
    unchanged = λ sure. (h sure).1;
    goes_on = λ sure. (h sure).0;
    settled = settled;
  }

  pub given_none : {X : Type 0} (of : X → Held S) (P : X → Trees → Type 0) (r : Result X Error) → IsSettled → IfOk r (λ x. HasCleanDisk (state g (of x)) → HasBegun g text params first (of x))
      → IfOk r (λ x. Survives (state g first) (state g (of x)) (P x)) → IfOk r (λ x. (of x).in_transaction ≡ false) → IfOk r (λ x. HasGivenRows g query first (of x) [])
  given_none of P (Err e) settled begun survives mode = tt
  given_none of P (Ok x) settled begun survives mode = goes_on (of x) [] settled mode (record { faults = survives.counts; limit = survives.limit }) (λ clean. let kept = survives.clean in omega arith) (λ clean. begins (of x) (begun clean))

  pub not_begun : {X : Type 0} (now : Held S) → first.in_transaction ≡ false → IsSettled → (r : Result X Error) → OnErr r (IsRefused g text params first r now) → OnErr r (HasNotBegun g first r now)
  not_begun now mode settled (Ok x) h = tt
  not_begun now mode settled (Err e) h = record {
    left = record {
      clean = λ clean. let kept = h.survives.clean in omega arith;
      keeps = λ clean. failed_keeps text (reads_alone query) params (state g first) (state g now) settled e (h.err clean);
      mode = h.mode mode;
      faults = record { faults = h.survives.counts; limit = h.survives.limit };
    };
    why = λ clean has. fails (state g first) (state g now) query has e (h.err clean);
  }

  -- ---- a row more, or the end

  module _ (before now : Held S) (given : List Row) (was : HasGivenRows g query first before given) (survives : Survives (state g before) (state g now) (λ _. ⊥)) (mode : before.in_transaction ≡ false → now.in_transaction ≡ false) where
    still_clean : HasCleanDisk (state g now) → HasCleanDisk (state g before)
    still_clean clean = let kept = survives.clean in omega arith

    same_so_far : HasCleanDisk (state g now) → IsUnchanged (state g before) (state g now) → IsUnchanged (state g first) (state g now)
    same_so_far clean same = unchanged_then (state g first) (state g before) (state g now) (was.unchanged (still_clean clean)) same

    counted : KeepsFaults (state g first) (state g now)
    counted = record {
      faults = (let earlier = was.left.faults.faults in let later = survives.counts in omega arith);
      limit = survives.limit ∙ was.left.faults.limit;
    }

    gives : (next : Option Row) → (HasCleanDisk (state g now) → Advances g before now next) → (HasCleanDisk (state g now) → IsUnchanged (state g before) (state g now)) → GivesNext g query first now given next
    gives (Some row) ok same =
        goes_on now (given ++ row ∷ []) was.settled (mode was.left.mode) counted (λ clean. was.left.clean (still_clean clean)) (λ clean. (ok clean text params given (was.goes_on (still_clean clean)), same_so_far clean (same clean)))
    gives None ok same = record {
      rows = λ clean. are_all g first query before now given (was.unchanged (still_clean clean)) (ok clean text params given (was.goes_on (still_clean clean)));
      left = record { clean = λ clean. was.left.clean (still_clean clean); keeps = λ clean. as_it_was (same_so_far clean (same clean)); mode = mode was.left.mode; faults = counted };
    }

    -- the records are as before after an error
    keeps : (e : Error) → Fails (state g before) (state g now) ⊥ e ⊎ IsUnchanged (state g before) (state g now) → HasCleanDisk (state g now) → Keeps (state g first) (state g now)
    keeps e (inl failed) clean =
        let so_far = (was.unchanged (still_clean clean)).0 in
        let undone = failed.3 in
        record {
          was_open = λ on. so_far.was_open;
          now = λ on. (undone.undone on).0 ∙ so_far.committed_is ∙ sym (was.settled so_far.was_open);
          committed = λ on. (undone.undone on).1 ∙ so_far.committed_is;
        }
    keeps e (inr same) clean = as_it_was (same_so_far clean same)

    pub gives_next : {X : Type 0} (next : Option Row) (r : Result X Error) → (HasCleanDisk (state g now) → OnOk r (Advances g before now next)) → (HasCleanDisk (state g now) → OnOk r (IsUnchanged (state g before) (state g now)))
        → OnOk r (GivesNext g query first now given next)
    gives_next next (Ok x) ok same = gives next ok same
    gives_next next (Err e) ok same = tt

    pub left_so : {X : Type 0} (r : Result X Error) → (HasCleanDisk (state g now) → IfErr r (λ e. Fails (state g before) (state g now) ⊥ e ⊎ IsUnchanged (state g before) (state g now))) → OnErr r (IsAfterQuery g first now)
    left_so (Ok x) kept = tt
    left_so (Err e) kept = record { clean = λ clean. was.left.clean (still_clean clean); keeps = λ clean. keeps e (kept clean) clean; mode = mode was.left.mode; faults = counted }

    -- the reason of an error, since the query began
    since : (e : Error) → IsUnchanged (state g first) (state g before) → HasReason (state g before) (state g now) e → HasReason (state g first) (state g now) e
    since e so_far why on = elim (why so_far.0.is_open) [
      | inl memory ↦ inl memory
      | inr fault ↦ inr (elim fault [
        | inl more ↦ inl (let earlier = was.left.faults.faults in omega (arith, more, earlier))
        | inr limit ↦ inr (subst IsSome was.left.faults.limit limit)
      ])
    ]

    pub why_so : {X : Type 0} (r : Result X Error) → (HasCleanDisk (state g now) → IfErr r (FailsToAdvance g before now)) → FailsWithReason g first now r
    why_so (Ok x) failed clean has = tt
    why_so (Err e) failed clean has =
        let so_far = was.unchanged (still_clean clean) in
        since e so_far (fails (state g before) (state g now) query (subst (λ (db : Database). HasStoreTables db.schema) (sym so_far.0.now_is) has) e (failed clean text params given (was.goes_on (still_clean clean))))
