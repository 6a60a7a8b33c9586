-- A statement that writes rows of one of the three tables leaves all other tables.
use Rattle.std.proofs.Common.{◌≡◌, ◌≢◌, ◌<◌, ◌∙◌, ℕ, List, [], ◌∷◌, Bool, true, false, inl, inr, None, Some, Ok, Err, Result, OnOk, IsTrue, slice_get, ap, refl, sym, subst, arith}
use Rattle.std.specs.Prelude.{MatchBool, Option, if◌then◌else◌}
use Rattle.std.specs.List.{AllByRecursion}
use Rattle.std.proofs.lemmas.Bool.{cases_Bool}
use Rattle.sqlite.specs.Change.{KeepsRows}
use Rattle.sqlite.specs.Command.{Command}
use Rattle.sqlite.specs.Command.TheVariants.{Delete, Insert, Update}
use Rattle.sqlite.specs.Does.{Does, OnRows, Tally, WritesRows}
use Rattle.sqlite.specs.Edit.{Edit, edit_of}
use Rattle.sqlite.specs.Effect.{Database}
use Rattle.sqlite.specs.Held.{Held, state}
use Rattle.sqlite.specs.Listing.{understood}
use Rattle.sqlite.specs.Order.{Row}
use Rattle.sqlite.specs.Rowids.TheVariants.{Given}
use Rattle.sqlite.specs.Rows.{Outcome, Task, Written, count_of, rowids_for}
use Rattle.sqlite.specs.State.{Executes, ExecutesInside, HasCleanDisk, Runs, State, mode_of}
use Rattle.sqlite.specs.Store.{Ghosts}
use Rattle.sqlite.specs.Table.{Table}
use Rattle.sqlite.specs.Tree.{Trees}
use Rattle.sqlite.specs.declared.error.Error.{Error}
use Rattle.sqlite.specs.declared.error.Error.TheVariants.{SqliteFailure}
use Rattle.sqlite.specs.declared.error.ErrorCode.TheVariants.{TransactionState}
use Rattle.sqlite.specs.declared.run.Mode.{Mode}
use Rattle.sqlite.proofs.Callers.{IsPlain, command_of, runs_as, statement_of}
use Rattle.sqlite_rules.specs.Action.{Writes}
use Rattle.sqlite_rules.specs.Calls.{ids_of}
use Rattle.sqlite_schema.specs.declared.schema.Keys.{Keys}
use Rattle.version_tables.specs.Keeping.{KeepsOthers, LeavesOthers, following_tables}
use Rattle.version_tables.specs.Steps.{CommitsNothing}
use Rattle.version_tables.specs.Tables.{HasStoreTables, IsApart, Others, definition_table, meta_table, schema_with, version_table}
use Rattle.version_tables.proofs.Apart.{one_step_with}
use Rattle.version_tables.proofs.Rows.{same_value, went}

-- ---- one after another

rows_then : (tables : List Table) (a b c : Trees) → KeepsRows tables a b → KeepsRows tables b c → KeepsRows tables a c
rows_then [] a b c p q = tt
rows_then (t ∷ more) a b c p q = (q.0 ∙ p.0, rows_then more a b c p.1 q.1)

-- two statements that keep the other tables keep them together
pub keeps_then : (a b c : Database) → KeepsOthers a b → KeepsOthers b c → KeepsOthers a c
keeps_then a b c p q = record {
  schema_is = q.schema_is ∙ p.schema_is;
  others = rows_then (following_tables a.schema) a.trees b.trees c.trees p.others (subst (λ s. KeepsRows (following_tables s) b.trees c.trees) p.schema_is q.others);
}

-- inside a transaction
pub leaves_then : {S : Type 0} (g : Ghosts S) (a b c : Held S) → LeavesOthers g a b → CommitsNothing g b c → LeavesOthers g b c → LeavesOthers g a c
leaves_then g a b c p inside q clean has =
    let between : HasCleanDisk (state g b) = omega (arith, inside.survives.clean, clean) in
    let first = p between has in
    keeps_then _ _ _ first (q clean (subst HasStoreTables (sym first.schema_is) has))

same_rows : (tables : List Table) (a : Trees) → KeepsRows tables a a
same_rows [] a = tt
same_rows (t ∷ more) a = (refl, same_rows more a)

-- a database that is as it was keeps the other tables
pub keeps_same : (a b : Database) → b ≡ a → KeepsOthers a b
keeps_same a b same = subst (KeepsOthers a) (sym same) (record { schema_is = refl; others = same_rows (following_tables a.schema) a.trees })

-- an unchanged database
pub leaves_same : {S : Type 0} (g : Ghosts S) (a b : Held S) → (state g b).now ≡ (state g a).now → LeavesOthers g a b
leaves_same g a b same clean has = keeps_same _ _ same

-- ---- an edit of a table that has one of the first trees

far : (tree : ℕ) → tree < 4 → (db next : Trees) (tables : List Table) → AllByRecursion IsApart tables → AllByRecursion (λ t. t.tree ≢ tree → next t.tree ≡ db t.tree) tables → KeepsRows tables db next
far tree low db next [] apart same = tt
far tree low db next (t ∷ more) apart same = (same.0 (λ e. absurd (omega (arith, e, low, apart.0.tree))), far tree low db next more apart.1 same.1)

edit_keeps : (others : Others) → AllByRecursion IsApart others.tables → (keys : Keys) (db next : Trees) (edit : Edit) → edit.table.tree < 4 → Writes (schema_with others) keys db edit (Ok next) → KeepsRows others.tables db next
edit_keeps others apart keys db next edit low writes =
    far edit.table.tree low db next others.tables apart (one_step_with others apart keys db next edit low writes).tables.1.1.1

-- ---- a command that makes one such edit

-- the table is one of the three, at this place
pub record IsOwn (at : ℕ) (table : Table) : Type 0 where
  pub low : table.tree < 4
  pub uncounted : table.is_counted ≡ false
  pub there : (others : Others) → slice_get (schema_with others).tables at ≡ Some table

pub meta_own : IsOwn 0 (meta_table 0)
meta_own = record { low = omega arith; uncounted = refl; there = λ _. refl }

pub definition_own : IsOwn 1 (definition_table 1)
definition_own = record { low = omega arith; uncounted = refl; there = λ _. refl }

pub version_own : IsOwn 2 (version_table 2)
version_own = record { low = omega arith; uncounted = refl; there = λ _. refl }

-- the command writes rows of the table at the place
abbrev pub IsEditAt : ℕ → Command → Type 0
IsEditAt at (Insert place from) = place ≡ at
IsEditAt at (Update place q) = place ≡ at
IsEditAt at (Delete place q) = place ≡ at
IsEditAt at _ = ⊥

-- a table that doesn't count its rowids has no counter to change
no_counter : (counted test : Bool) (Changes Same : Type 0) → counted ≡ false → MatchBool (if counted then test else false) Changes Same → Same
no_counter true test Changes Same e h = absurd cc
no_counter false test Changes Same e h = h

changed : (at : ℕ) (command : Command) (old new : State) (text : List ℕ) (params : Row) (count : ℕ) → IsEditAt at command → Runs old new None command text params count
    → (tally : Tally) × Does old.step_limit (mode_of old) params old.now text None command (Ok (tally, new.now))
changed at (Insert place from) old new text params count is w = (w.tally, w.changed)
changed at (Update place q) old new text params count is w = (w.tally, w.changed)
changed at (Delete place q) old new text params count is w = (w.tally, w.changed)
changed at _ old new text params count is w = absurd is

module _ {at : ℕ} {table : Table} (own : IsOwn at table) where
  module _ (others : Others) (apart : AllByRecursion IsApart others.tables) (limit : Option ℕ) (mode : Mode) (params : Row) (db : Trees) where
    abbrev task : Task
    task = record { limit = limit; keys = mode.keys; schema = schema_with others; table = table; params = params }

    written_keeps : (command : Command) (w : Written) → IsEditAt at command → WritesRows task db command (Ok w) → KeepsRows others.tables db w.trees
    written_keeps (Insert place from) w is h =
        let rows = went h in
        let counter = went rows.2 in
        let mid = went counter.2 in
        let next = went mid.2 in
        let counts = no_counter table.is_counted _ _ _ own.uncounted next.1 in
        let trees = ap (λ (it : Written). it.trees) (same_value next.2) ∙ same_value counts in
        let edit = edit_of db table [] (rowids_for table (count_of counter.0)) 0 rows.0 in
        subst (KeepsRows others.tables db) (sym trees) (edit_keeps others apart mode.keys db mid.0 edit own.low mid.1)
    written_keeps (Update place q) w is h =
        let rows = went h in
        let next = went rows.2 in
        let trees = ap (λ (it : Written). it.trees) (same_value next.2) in
        let edit = edit_of db table (ids_of rows.0) Given 1 rows.0 in
        subst (KeepsRows others.tables db) (sym trees) (edit_keeps others apart mode.keys db next.0 edit own.low next.1)
    written_keeps (Delete place q) w is h =
        let rows = went h in
        let next = went rows.2 in
        let trees = ap (λ (it : Written). it.trees) (same_value next.2) in
        let edit = edit_of db table (ids_of rows.0) Given 0 [] in
        subst (KeepsRows others.tables db) (sym trees) (edit_keeps others apart mode.keys db next.0 edit own.low next.1)
    written_keeps _ w is h = absurd is

    rows_keep : (command : Command) (tally : Tally) (after : Database) → IsEditAt at command → OnRows task mode None command db (Ok (tally, after)) → KeepsOthers (record { schema = schema_with others; trees = db }) after
    rows_keep command tally after is h =
        let done = went h in
        let now = ap (λ (p : Tally × Database). p.1) (same_value (went (went done.2).2).2) in
        subst (KeepsOthers (record { schema = schema_with others; trees = db })) (sym now) (record { schema_is = refl; others = written_keeps command done.0 is done.1 })

    on_rows : (command : Command) (text : List ℕ) (out : Outcome (Tally × Database)) → IsEditAt at command
        → Does limit mode params (record { schema = schema_with others; trees = db }) text None command out → OnRows task mode None command db out
    on_rows (Insert place from) text out is h = rw (is, own.there others) at h
    on_rows (Update place q) text out is h = rw (is, own.there others) at h
    on_rows (Delete place q) text out is h = rw (is, own.there others) at h
    on_rows _ text out is h = absurd is

  -- ---- a text whose command is one

  module _ (text : List ℕ) (params : Row) (command : Command) (is : (others : Others) → (command_of (understood (schema_with others) text) ≡ command) × IsPlain (understood (schema_with others) text)) (edits : IsEditAt at command) where
    executed : (old new : State) (count : ℕ) → HasStoreTables old.now.schema → Executes text params old new (Ok count) → KeepsOthers old.now new.now
    executed old new count has h =
        let others = has.others in
        let first = schema_with others in
        let runs = runs_as text params old new first has.schema_is command (is others).0 (is others).1 count h in
        let words = statement_of text (understood first text) in
        let it = changed at command old new words params count edits runs in
        let done = subst (λ s. Does old.step_limit (mode_of old) params (record old.now { schema = s }) words None command (Ok (it.0, new.now))) has.schema_is it.1 in
        let rows = on_rows others has.apart old.step_limit (mode_of old) params old.now.trees command words _ edits done in
        subst (λ s. KeepsOthers (record old.now { schema = s }) new.now) (sym has.schema_is)
        (rows_keep others has.apart old.step_limit (mode_of old) params old.now.trees command it.0 new.now edits rows)

    -- a statement leaves the other tables, by the clauses of `Transaction::execute`
    pub statement_leaves : {S : Type 0} (g : Ghosts S) (old new : Held S) (r : Result ℕ Error) → (old.in_transaction ≡ false → (r ≡ Err (SqliteFailure TransactionState)) × (new ≡ old))
        → (HasCleanDisk (state g new) → IsTrue old.in_transaction → ExecutesInside 0 text params (state g old) (state g new) r) → OnOk r (LeavesOthers g old new)
    statement_leaves g old new (Err e) ended runs = tt
    statement_leaves g old new (Ok count) ended runs = λ clean has. elim (cases_Bool old.in_transaction) [
      | inl begun ↦ executed (state g old) (state g new) count has (runs clean begun).0
      | inr shut ↦ absurd (let e = (ended shut).0 in cc)
    ]
