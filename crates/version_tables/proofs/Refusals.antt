-- Why a statement that writes rows fails inside a transaction: it is out of memory, or there was a fault, if the
-- database allows what it writes.
use Rattle.std.proofs.Common.{◌≡◌, ◌∙◌, inl, inr, ℕ, suc, zero, ◌<◌, List, [], ◌∷◌, length, Bool, true, false, Option, Some, None, Ok, Err, Result, IfErr, OnOk, refl, sym, ap, subst, subst₂, append-nil, length-append, arith, true≢false}
use Rattle.std.specs.Prelude.{IsSome, if◌then◌else◌}
use Rattle.std.specs.List.{AllByRecursion}
use Rattle.sqlite.specs.Command.{Command}
use Rattle.sqlite.specs.Command.TheVariants.{CreateTable, Insert, Update, Delete}
use Rattle.sqlite.specs.Does.{Concludes, Does, due}
use Rattle.sqlite.specs.Edit.{edit_of}
use Rattle.sqlite.specs.Effect.{Answers, Database, IsSource, RefusesQuery, RefusesSource, is_query}
use Rattle.sqlite.specs.Listing.{understood}
use Rattle.sqlite.specs.Order.{Row}
use Rattle.sqlite.specs.Schema.{Schema}
use Rattle.sqlite.specs.Rowids.TheVariants.{Above, Chosen, Given}
use Rattle.sqlite.specs.Rows.{Deletes, Edited, Inserts, Task, Updates, Written, count_of, rowids_for, stamped}
use Rattle.sqlite.specs.Source.{Source}
use Rattle.sqlite.specs.Source.TheVariants.{Values}
use Rattle.sqlite.specs.State.{EndsScope, Escapes, Executes, ExecutesIn, ExecutesInside, IsMisplaced, IsNotRun, IsStatement, RunsAlone, State, is_pragma, mode_of, shows_rows, text_of}
use Rattle.sqlite.specs.Tree.{Trees}
use Rattle.sqlite.specs.Clock.{timed}
use Rattle.sqlite.specs.Query.{Query}
use Rattle.sqlite_rules.specs.Calls.{ids_of}
use Rattle.sqlite_schema.specs.declared.program.Program.{Program}
use Rattle.sqlite.specs.declared.error.Error.{Error}
use Rattle.sqlite.specs.declared.run.Mode.{Mode}
use Rattle.sqlite.proofs.Callers.{IsPlain, command_of, statement_of}
use Rattle.sqlite_resolve.specs.declared.compiled.Compiled.{Compiled}
use Rattle.sqlite_rules.specs.Action.{Leads}
use Rattle.sqlite_rules.specs.Edit.{Edit, IsOversized, IsRefused, taken_by}
use Rattle.sqlite_rules.specs.Lists.{Has}
use Rattle.sqlite_rules.specs.declared.error.Refusal.{Refusal}
use Rattle.sqlite_schema.specs.Rules.{Refers}
use Rattle.sqlite_sql.specs.Term.{Term}
use Rattle.sqlite_typing.specs.Types.{accepts_program, accepts_terms}
use Rattle.sqlite_schema.specs.declared.schema.Keys.{Keys}
use Rattle.version_tables.specs.Steps.{HasReason}
use Rattle.version_tables.specs.Tables.{IsApart, Others, schema_with}
use Rattle.version_tables.proofs.Apart.{no_works}
use Rattle.version_tables.proofs.Reasons.{IsOne, NeverOverflows, by_failure, known, not_refused}

-- ---- a command that changes the database is run in its place

abbrev pub IsChange : Command → Type 0
IsChange (Insert at from) = Unit {0}
IsChange (Update at q) = Unit {0}
IsChange (Delete at q) = Unit {0}
IsChange CreateTable = Unit {0}
IsChange _ = ⊥

runs_quiet : (k : Command) → IsChange k → (is_query k ≡ false) × (is_pragma k ≡ false)
runs_quiet (Insert at from) on = (refl, refl)
runs_quiet (Update at q) on = (refl, refl)
runs_quiet (Delete at q) on = (refl, refl)
runs_quiet CreateTable on = (refl, refl)
runs_quiet _ on = absurd on

not_misplaced : (s : State) (k : Command) (e : Error) → IsChange k → IsMisplaced s k e → ⊥
not_misplaced s k e on (inl (_, inl (is, _))) = subst IsChange is on
not_misplaced s k e on (inl (_, inr (inl is, _))) = subst IsChange is on
not_misplaced s k e on (inl (_, inr (inr is, _))) = subst IsChange is on
not_misplaced s k e on (inr (_, name, inl is, _)) = subst IsChange is on
not_misplaced s k e on (inr (_, name, inr is, _)) = subst IsChange is on

stays_inside : (s : State) (k : Command) → IsChange k → Escapes 0 s k → ⊥
stays_inside s k on (inl (inl is)) = subst IsChange is on
stays_inside s k on (inl (inr is)) = subst IsChange is on
stays_inside s k on (inr (name, inl is, _)) = subst IsChange is on
stays_inside s k on (inr (name, inr is, _)) = subst IsChange is on

module _ (text : List ℕ) (params : Row) (command : Command) (schema : Schema) (one : IsOne text (length params) (understood schema text)) (is : (command_of (understood schema text) ≡ command) × IsPlain (understood schema text)) (on : IsChange command)
    (old new : State) (has : old.now.schema ≡ schema) where
  -- a command without a limit on steps is not refused, and what it writes can be stored
  abbrev pub IsAllowed : Type 0
  IsAllowed = (stop : Option Error) → Does None (mode_of old) params (record old.now { schema = schema }) (statement_of text (understood schema text)) None command (Err stop) → ⊥

  its : (c : Compiled) → understood old.now.schema text ≡ Ok c → c.command ≡ command
  its c so = sym (ap command_of (known text params schema one is.1 old has (Ok c) so)) ∙ is.0

  module _ (unlimited : old.step_limit ≡ None) (allowed : IsAllowed) where
    never : (c : Compiled) → understood old.now.schema text ≡ Ok c → (stop : Option Error) (now : ℕ) → Does old.step_limit (mode_of old) (timed params c.formats now) old.now (text_of text c) c.returning c.command (Err stop) → ⊥
    never c so stop now does =
        let means = known text params schema one is.1 old has (Ok c) so in
        let bare = subst IsPlain means is.1 in
        let it = rw (bare.0, bare.1, append-nil params, its c so, unlimited) at does in
        allowed stop (subst₂ (λ s t. Does None (mode_of old) params (record old.now { schema = s }) t None command (Err stop)) has (sym (ap (statement_of text) means)) it)

    alone : (c : Compiled) (it : IsStatement old text params c) (e : Error) → RunsAlone false old new text c (timed params c.formats it.now) (Err e) → HasReason old new e
    alone c it e h =
        let bare = subst IsPlain (known text params schema one is.1 old has (Ok c) it.is) is.1 in
        let quiet = runs_quiet command on in
        let command_is = its c it.is in
        let shows : shows_rows false c ≡ false = rw (command_is, bare.0, quiet.0, quiet.1) refl in
        elim (rw shows at h) [
          | inl refused ↦ elim refused.0 [
            | inl misplaced ↦ absurd (not_misplaced old c.command e (subst IsChange (sym command_is) on) misplaced)
            | inr does ↦ absurd (never c it.is (Some e) it.now does.1)
          ]
          | inr failed ↦ by_failure old new _ (never c it.is None it.now) e failed
        ]

    fails_unlimited : (e : Error) → ExecutesInside 0 text params old new (Err e) → HasReason old new e
    unfolding ExecutesIn IsNotRun EndsScope
    fails_unlimited e (inl (inl (inl refused), _)) = absurd (not_refused text params schema one is.1 old has e refused.0)
    fails_unlimited e (inl (inl (inr failed), _)) = by_failure old new ⊥ (λ none. none) e failed
    fails_unlimited e (inl (inr (c, it, ran), _)) = alone c it e ran
    fails_unlimited e (inr ((c, it, escapes), _, _)) = absurd (stays_inside old c.command (subst IsChange (sym (its c it.is)) on) escapes)

  pub fails_inside : IsAllowed → (e : Error) → ExecutesInside 0 text params old new (Err e) → HasReason old new e
  fails_inside allowed e h = by_limit old.step_limit refl
    where
      by_limit : (limit : Option ℕ) → old.step_limit ≡ limit → HasReason old new e
      by_limit (Some n) some = λ on_disk. inr (inr (subst IsSome (sym some) refl))
      by_limit None none = fails_unlimited none allowed e h

-- ---- the parts of a statement on one of the first trees

module _ (others : Others) (apart : AllByRecursion IsApart others.tables) (keys : Keys) (db : Trees) (edit : Edit) (low : edit.table.tree < 4) where
  settled : (next : Trees) (why : Option Refusal) (n : ℕ) → Leads (schema_with others) keys n next [] (Err why) → ⊥
  settled next why zero h = absurd (let e = h.1 in cc)
  settled next why (suc n) h = absurd (omega (arith, ap length h.2, length-append h.0 (h.1 ∷ [])))

  pub not_stopped : ((why : Refusal) → IsRefused (schema_with others) keys db edit why → ⊥) → ((row : Row) → Has edit.news row → IsOversized (schema_with others) edit.table row → ⊥)
      → (stop : Option Error) → Edited (schema_with others) keys db edit (Err stop) → ⊥
  not_stopped allowed small stop (why, inl (reason, refused, _), _) = allowed reason refused
  not_stopped allowed small stop (why, inr (inl (row, there, big, _)), _) = small row there big
  not_stopped allowed small stop (why, inr (inr (next, applies, after)), _) =
      settled next why after.0 (rw (no_works others apart edit.table.tree low keys (taken_by db edit) edit.news) at after.1)

-- the references hold, and nothing is returned
pub not_concluded : (task : Task) (mode : Mode) (w : Written) (stop : Option Error) → Refers (due mode) task.schema w.trees → Concludes task mode None w (Err stop) → ⊥
not_concluded task mode w stop holds (inl (s, tested, _)) = tested.0 holds
not_concluded task mode w stop holds (inr (doubt, _, inl (s, returns, _))) = absurd (let e = returns in cc)
not_concluded task mode w stop holds (inr (doubt, _, inr (rows, _, gives))) = absurd (let e = gives in cc)

-- rows that are given, if the table has no AUTOINCREMENT
module _ (task : Task) (uncounted : task.table.is_counted ≡ false) (from : Source) (db : Trees) where
  abbrev given : Database
  given = record { schema = task.schema; trees = db }

  pub not_inserted : ((e : Error) → RefusesSource task.limit given (stamped task.table task.params) from e → ⊥)
      → ((rows : List Row) → IsSource given (stamped task.table task.params) from rows → (stop : Option Error) → Edited task.schema task.keys db (edit_of db task.table [] Chosen 0 rows) (Err stop) → ⊥)
      → (stop : Option Error) → Inserts task from db (Err stop) → ⊥
  not_inserted source edits stop (inl (None, refused, _)) = refused
  not_inserted source edits stop (inl (Some e, refused, _)) = source e refused
  not_inserted source edits stop (inr (rows, is, inl (s, counter, _))) = absurd (let e = rw uncounted at counter in cc)
  not_inserted source edits stop (inr (rows, is, inr (counter, _, inl (s, edited, _)))) =
      let chosen : rowids_for task.table (count_of counter) ≡ Chosen = ap (λ (b : Bool). if b then Above (count_of counter) else Chosen) uncounted in
      edits rows is s (subst (λ ids. Edited task.schema task.keys db (edit_of db task.table [] ids 0 rows) (Err s)) chosen edited)
  not_inserted source edits stop (inr (rows, is, inr (counter, _, inr (mid, _, inl (s, counts, _))))) = absurd (let e = rw uncounted at counts in cc)
  not_inserted source edits stop (inr (rows, is, inr (counter, _, inr (mid, _, inr (next, _, gives))))) = absurd (let e = gives in cc)

-- values that are typed are given
pub values_given : (db : Database) (params : Row) (terms : List Term) (width : ℕ) → accepts_terms terms params ≡ true → (e : Error) → RefusesSource None db params (Values terms width) e → ⊥
values_given db params terms width typed e (inl (is, untyped)) = true≢false (sym typed ∙ untyped)
values_given db params terms width typed e (inr (is, limited)) = absurd (let e = limited in cc)

-- ---- the rows that a query gives

pub query_given : (db : Database) (query : Query) (params : Row) → accepts_program db.schema [] query params ≡ true → NeverOverflows params query → (e : Error) → RefusesQuery None db (record { lets = []; body = query }) params e → ⊥
query_given db query params typed never e (inl (is, untyped)) = true≢false (sym typed ∙ untyped)
query_given db query params typed never e (inr (inl (is, over))) = never db.trees over
query_given db query params typed never e (inr (inr (is, limited))) = absurd (let e = limited in cc)

module _ (task : Task) (query : Program) (db : Trees) where
  abbrev asked : Database
  asked = record { schema = task.schema; trees = db }

  pub not_updated : ((e : Error) → RefusesQuery task.limit asked query task.params e → ⊥)
      → ((rows : List Row) → Answers asked query task.params rows → (stop : Option Error) → Edited task.schema task.keys db (edit_of db task.table (ids_of rows) Given 1 rows) (Err stop) → ⊥)
      → (stop : Option Error) → Updates task query task.params db (Err stop) → ⊥
  not_updated gives edits stop (inl (None, refused, _)) = refused
  not_updated gives edits stop (inl (Some e, refused, _)) = gives e refused
  not_updated gives edits stop (inr (rows, is, inl (s, edited, _))) = edits rows is s edited
  not_updated gives edits stop (inr (rows, is, inr (next, _, given))) = absurd (let e = given in cc)

  pub not_deleted : ((e : Error) → RefusesQuery task.limit asked query task.params e → ⊥)
      → ((rows : List Row) → Answers asked query task.params rows → (stop : Option Error) → Edited task.schema task.keys db (edit_of db task.table (ids_of rows) Given 0 []) (Err stop) → ⊥)
      → (stop : Option Error) → Deletes task query db (Err stop) → ⊥
  not_deleted gives edits stop (inl (None, refused, _)) = refused
  not_deleted gives edits stop (inl (Some e, refused, _)) = gives e refused
  not_deleted gives edits stop (inr (rows, is, inl (s, edited, _))) = edits rows is s edited
  not_deleted gives edits stop (inr (rows, is, inr (next, _, given))) = absurd (let e = given in cc)

-- ---- however the statement ends

module _ (text : List ℕ) (params : Row) (old new : State) where
  pub why_inside : (r : Result ℕ Error) → ExecutesInside 0 text params old new r → ((e : Error) → ExecutesInside 0 text params old new (Err e) → HasReason old new e) → IfErr r (HasReason old new)
  why_inside (Ok n) h why = tt
  why_inside (Err e) h why = why e h

  pub healthy_inside : {Healthy : Type 0} (r : Result ℕ Error) → ExecutesInside 0 text params old new r → ((n : ℕ) → Executes text params old new (Ok n) → Healthy) → OnOk r Healthy
  healthy_inside (Ok n) h made = made n h.0
  healthy_inside (Err e) h made = tt
