-- The meaning of a CREATE or an INSERT over any schema.
use Rattle.std.proofs.Common.{◌≡◌, ℕ, ◌+◌, List, [], Some, None, Ok, Err, inl, inr, refl, sym, ap, subst, ◌∙◌, false, true, true≢false, Bool}
use Rattle.std.specs.Prelude.{◌&&◌, ◌==◌, if◌then◌else◌, is_some, length, not, slice_get, slice_range}
use Rattle.std.specs.Option.{option_or}
use Rattle.std.proofs.lemmas.Bool.{cases_Bool}
use Rattle.sqlite.specs.Command.{Command}
use Rattle.sqlite.specs.Command.TheVariants.{CreateTable, Insert}
use Rattle.sqlite.specs.Listing.{listing_schema, reads_listing, understood}
use Rattle.sqlite.specs.Schema.{Schema}
use Rattle.sqlite.specs.Source.{Source}
use Rattle.sqlite.specs.State.{text_of}
use Rattle.sqlite.specs.Table.{Table}
use Rattle.sqlite_ast.specs.declared.Conflict.TheVariants as conflict
use Rattle.sqlite_ast.specs.declared.Rows.{Rows}
use Rattle.sqlite_ast.specs.declared.Statement.{Statement}
use Rattle.sqlite_ast.specs.declared.Statement.TheVariants as written
use Rattle.sqlite_resolve.specs.Compile.{command, compiled, create_table, creates, first, insert, insert_or_abort, is_attached, is_reserved, meaning, new_rows, planned, returning, shows, small, timed, with_command}
use Rattle.sqlite_resolve.specs.Define as define
use Rattle.sqlite_resolve.specs.Lowering.{Checked, and_then}
use Rattle.sqlite_resolve.specs.declared.compiled.Compiled.{Compiled}
use Rattle.sqlite_resolve.specs.declared.error.CompileError.TheVariants.{Exists, Misuse, Unsupported}
use Rattle.sqlite_schema.specs.Names.{index_named, table_named, view_named}
use Rattle.sqlite_syntax.specs.declared.statement.Parsed.{Parsed}
use Rattle.version_tables.proofs.Selects.{selected, through, value_is}

-- ---- CREATE TABLE

abbrev IsCreate : Statement → Type 0
IsCreate (written.CreateTable def) = def.if_missing ≡ false
IsCreate _ = ⊥

-- the text is one CREATE TABLE without IF NOT EXISTS, and nothing else
abbrev CreatesOne : List ℕ → Checked Parsed → Type 0
CreatesOne text (Ok p) = IsCreate p.statement × (slice_range text p.start p.end ≡ text)
CreatesOne text (Err e) = Unit {0}

abbrev pub IsCreateText : List ℕ → Type 0
IsCreateText text = CreatesOne text (first text)

-- the text makes a table, if it is understood
abbrev pub Makes : List ℕ → Compiled → Type 0
Makes text c = (c.command ≡ CreateTable) × (text_of text c ≡ text) × (c.returning ≡ None) × (c.formats ≡ [])

only_new : (reserved taken there missing : Bool) (r : Bool) → missing ≡ false → (let answer : Checked Bool = if reserved then Err Misuse else (if taken then Err Exists else (if there then (if missing then Ok false else Err Exists) else Ok true)) in answer ≡ Ok r) → r ≡ true
only_new true taken there missing r fresh h = absurd cc
only_new false true there missing r fresh h = absurd cc
only_new false false true true r fresh h = absurd (true≢false fresh)
only_new false false true false r fresh h = absurd cc
only_new false false false missing r fresh h = value_is true r h

only_table : (fits : Bool) (c : Command) → (let answer : Checked Command = if fits then Ok CreateTable else Err Unsupported in answer ≡ Ok c) → c ≡ CreateTable
only_table true c h = value_is CreateTable c h
only_table false c h = absurd cc

makes_by : (s : Schema) (formats : List (List ℕ)) (base : ℕ) (st : Statement) → IsCreate st → (c : Command) → command s formats base st ≡ Ok c → c ≡ CreateTable
unfolding command create_table creates
makes_by s formats base (written.CreateTable def) fresh c h =
    let same = option_or (table_named s def.name) (view_named s def.name) in
    let other = index_named s def.name in
    elim (cases_Bool (is_attached s def.name)) [
      | inl kept ↦ absurd (let e = rw kept at h in cc)
      | inr free ↦
          let new = through (creates def.if_missing def.name same other) _ c (rw free at h) in
          let is : new.0 ≡ true = only_new (is_reserved def.name) (is_some other) (is_some same) def.if_missing new.0 fresh new.1 in
          let made = through (define.table formats def) (λ t. if length t.computed == length t.stamps.places && not def.resolves then Ok CreateTable else Err Unsupported) c (rw is at new.2) in
          only_table (length made.0.computed == length made.0.stamps.places && not def.resolves) c made.2
    ]
makes_by s formats base _ none c h = absurd none

none_shown : (s : Schema) (base : ℕ) (st : Statement) → IsCreate st → returning s base st ≡ Ok None
unfolding returning
none_shown s base (written.CreateTable def) fresh = refl
none_shown s base _ none = absurd none

none_timed : (s : Schema) (formats : List (List ℕ)) (st : Statement) → IsCreate st → timed s formats st ≡ []
unfolding timed
none_timed s formats (written.CreateTable def) fresh = refl
none_timed s formats _ none = absurd none

made_by : (s : Schema) (text : List ℕ) (p : Parsed) → CreatesOne text (Ok p) → (c : Compiled) → and_then (planned s p) (λ plan. Ok (with_command p plan)) ≡ Ok c → Makes text c
unfolding planned meaning
made_by s text p is c h =
    let plan = through (planned s p) _ c h in
    let found = through _ _ plan.0 plan.1 in
    let shown = through (returning s _ p.statement) _ found.0 found.1 in
    let made = through (command s p.formats _ p.statement) _ found.0 shown.2 in
    let none : shown.0 ≡ None = value_is None shown.0 (sym (none_shown s _ p.statement is.0) ∙ shown.1) in
    let makes = makes_by s p.formats _ p.statement is.0 made.0 made.1 in
    let untimed = none_timed s p.formats p.statement is.0 in
    let its : found.0 ≡ (made.0, shown.0) = value_is _ found.0 made.2 in
    let all : plan.0 ≡ (timed s p.formats p.statement, found.0) = value_is _ plan.0 found.2 in
    let whole : c ≡ with_command p plan.0 = value_is (with_command p plan.0) c plan.2 in (
      ap (λ (k : Compiled). k.command) whole ∙ ap (λ (q : _ × (_ × _)). q.1.0) all ∙ ap (λ (q : _ × _). q.0) its ∙ makes,
      ap (text_of text) whole ∙ is.1,
      ap (λ (k : Compiled). k.returning) whole ∙ ap (λ (q : _ × (_ × _)). q.1.1) all ∙ ap (λ (q : _ × _). q.1) its ∙ none,
      ap (λ (k : Compiled). k.formats) whole ∙ ap (λ (q : _ × (_ × _)). q.0) all ∙ untimed,
    )

compiled_makes : (s : Schema) (text : List ℕ) → IsCreateText text → (c : Compiled) → compiled s text ≡ Ok c → Makes text c
unfolding compiled
compiled_makes s text is c h =
    let parsed = through (first text) _ c h in
    let one = subst (CreatesOne text) parsed.1 is in
    made_by s text parsed.0 one c parsed.2

pub understood_makes : (s : Schema) (text : List ℕ) → IsCreateText text → (c : Compiled) → understood s text ≡ Ok c → Makes text c
unfolding understood
understood_makes s text is c h = elim (cases_Bool (reads_listing s text)) [
  | inl so ↦ compiled_makes listing_schema text is c (selected (compiled listing_schema text) c (rw so at h))
  | inr not_so ↦ compiled_makes s text is c (rw not_so at h)
]

-- ---- INSERT into a table that the schema has

planned_inserts : (s : Schema) (p : Parsed) (name : List ℕ) (columns : List (List ℕ)) (rows : Rows) (at : ℕ) (table : Table) (source : Source) → p.statement ≡ written.Insert conflict.Abort name columns rows [] [] → p.formats ≡ []
    → table_named s name ≡ Some at → slice_get s.tables at ≡ Some table → new_rows s table (small p.names + small table.stamps.formats) columns rows ≡ Ok source → planned s p ≡ Ok (table.stamps.formats, (Insert at source, None))
unfolding planned meaning timed command returning insert_or_abort insert shows
planned_inserts s p name columns rows at table source is plain named there new = rw (is, plain, named, there, new) refl

pub understood_inserts : (s : Schema) (text : List ℕ) (p : Parsed) (name : List ℕ) (columns : List (List ℕ)) (rows : Rows) (at : ℕ) (table : Table) (source : Source) → first text ≡ Ok p → p.statement ≡ written.Insert conflict.Abort name columns rows [] [] → p.formats ≡ []
    → table_named s name ≡ Some at → slice_get s.tables at ≡ Some table → new_rows s table (small p.names + small table.stamps.formats) columns rows ≡ Ok source → understood s text ≡ Ok (with_command p (table.stamps.formats, (Insert at source, None)))
unfolding understood compiled
understood_inserts s text p name columns rows at table source parsed is plain named there new =
    rw (parsed, planned_inserts s p name columns rows at table source is plain named there new) refl
