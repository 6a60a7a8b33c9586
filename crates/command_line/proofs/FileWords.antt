-- The words of the second program's command line, as clap reads them.
use Rattle.std.proofs.Common.{◌≡◌, ◌++◌, ◌⊎◌, ◌∷◌, ◌&&◌, ◌||◌, ◌∙◌, ℕ, Bool, List, [], Option, Some, None, ap, arith, cond, drop, false, refl, subst, sym, true, inl, inr, codes, append_assoc}
use Rattle.std.specs.Prelude.{find, option_map, if◌then◌else◌, is_some, map, suc, unwrap_or, ⊤, IsTrue, ◌↔◌}
use Rattle.std.specs.List.{All, AllByRecursion, IsDistinct, fold}
use Rattle.std.proofs.lemmas.Map.Keys.{IsDistinct-head, IsDistinct-tail}
use Rattle.std.specs.Str.{bytes_eq}
use Rattle.std.specs.String.{string_bytes}
use Rattle.std.proofs.lemmas.List.{append-nil, length-map}
use Rattle.std.proofs.lemmas.Slice.Eq.{bytes_eq-Decides}
use Rattle.clap.specs.Lexer.{long_of, short_of}
use Rattle.clap.specs.Kinds.{Kinds, or_else}
use Rattle.clap.specs.Faults.{settle_fault, turn_fault, walk_fault, use_fault, fault_of, is_simple_and_free, defaults_fault, default_fault, check_fault, entered_fault, given_default_fault}
use Rattle.clap.specs.Simple.{Shape, built, entered, is_simple, new_rule, matches_of}
use Rattle.clap.specs.Takes.{is_given}
use Rattle.clap.specs.Walk.{Row, Rule, Text, Waiting, Walk, all_of, at_row, first_of, has_row, more_values, settled_rows, walked, with_default, with_values, without, used, finished, settled, is_empty, nothing_held, walk_from, Held, idle, positional, stronger, arg_by_id, is_multiple, is_pending, reading_by}
use Rattle.clap.specs.declared.builder.value_parser.Reading.{Reading}
use Rattle.clap.specs.declared.parser.matches.ValueSource.{ValueSource}
use Rattle.clap.specs.declared.parser.matches.ValueSource.TheVariants.{CommandLine, DefaultValue}
use Rattle.clap.proofs.OnLiterals.{clap_on_literals}
use Rattle.command_line.specs.CommandLine.{has_hyphen}
use Rattle.command_line.specs.FileCommand.{AskFor, Asks, WaitsFor, HasConflict, IsFileCommand, IsFlag, IsOneOf, NeedsRun, ExcludesOthers, arguments_of, bitemporal_file, flag_names, flags_in, names_in, is_among}
use Rattle.command_line.specs.declared.file_command.Request.{Request}

-- clap's functions give the matches of this command and its faults
pub is_simple-bitemporal_file : is_simple bitemporal_file ≡ true
unfolding clap_on_literals
is_simple-bitemporal_file = refl

pub is_simple_and_free-bitemporal_file : is_simple_and_free bitemporal_file ≡ true
unfolding clap_on_literals
is_simple_and_free-bitemporal_file = refl

-- ---- the row of an argument

abbrev row_for : Text → List Row → Option Row
row_for id rows = find (λ r. bytes_eq r.id id) rows

-- a row with more values, or a new one
abbrev with_more : (id : Text) (how : Reading) (s : ValueSource) (values : List Text) → Option Row → Row
with_more id how s values None = record { id = id; values = values; count = None; source = Some s; reading = how }
with_more id how s values (Some r) = record r { values = r.values ++ values; source = Some (stronger r.source s) }

same_text : (a : Text) → bytes_eq a a ≡ true
same_text a = (bytes_eq-Decides a a).1 refl

is_text : (a b : Text) → bytes_eq a b ≡ true → a ≡ b
is_text a b same = (bytes_eq-Decides a b).0 same

row_is : (id : Text) (how : Reading) (s : ValueSource) (values : List Text) (rows : List Row) → row_for id (with_values id how s values rows) ≡ Some (with_more id how s values (row_for id rows))
row_is id how s values [] = rw (same_text id) refl
row_is id how s values (r ∷ rs) = go (bytes_eq r.id id) refl (row_is id how s values rs)
  where
    go : (b : Bool) → bytes_eq r.id id ≡ b → row_for id (with_values id how s values rs) ≡ Some (with_more id how s values (row_for id rs)) → row_for id (if b then more_values s values r ++ rs else r ∷ with_values id how s values rs) ≡ Some (with_more id how s values (cond b (Some r) (row_for id rs)))
    go true same rest = rw same refl
    go false other rest = rw other rest

row_kept : (id other : Text) (how : Reading) (s : ValueSource) (values : List Text) (rows : List Row) → bytes_eq id other ≡ false → row_for other (with_values id how s values rows) ≡ row_for other rows
row_kept id other how s values [] apart = rw apart refl
row_kept id other how s values (r ∷ rs) apart = go (bytes_eq r.id id) refl (row_kept id other how s values rs apart)
  where
    go : (b : Bool) → bytes_eq r.id id ≡ b → row_for other (with_values id how s values rs) ≡ row_for other rs → row_for other (if b then more_values s values r ++ rs else r ∷ with_values id how s values rs) ≡ row_for other (r ∷ rs)
    go true same rest = let none : bytes_eq r.id other ≡ false = rw (is_text r.id id same) apart in rw none refl
    go false differs rest = rw rest refl

no_row : (id : Text) (change : Row → List Row) (missing rows : List Row) → row_for id rows ≡ None → at_row id change missing rows ≡ rows ++ missing
no_row id change missing [] none = refl
no_row id change missing (r ∷ rs) none = go (bytes_eq r.id id) none (no_row id change missing rs)
  where
    go : (b : Bool) → cond b (Some r) (row_for id rs) ≡ None → (row_for id rs ≡ None → at_row id change missing rs ≡ rs ++ missing) → (if b then change r ++ rs else r ∷ at_row id change missing rs) ≡ r ∷ rs ++ missing
    go true some rest = cc
    go false none rest = ap (λ (more : List Row). r ∷ more) (rest none)

has_row_is : (id : Text) (rows : List Row) → has_row id rows ≡ is_some (row_for id rows)
has_row_is id [] = refl
has_row_is id (r ∷ rs) = go (bytes_eq r.id id) (has_row_is id rs)
  where
    go : (b : Bool) → has_row id rs ≡ is_some (row_for id rs) → (b || has_row id rs) ≡ is_some (cond b (Some r) (row_for id rs))
    go true rest = refl
    go false rest = rest

-- ---- the walk

abbrev shape : Shape
shape = (built bitemporal_file).top

abbrev file_rules : List Rule
file_rules = shape.rules

abbrev named : Text → Rule
named id = unwrap_or (arg_by_id file_rules id) (new_rule id)

-- the state of the walk between two words
abbrev state : ℕ → List Row → Option (Text × List Text) → Waiting → Walk
state position rows pending waiting = record {
  held = record { rows = rows; pending = pending; skip = 0 };
  waiting = waiting;
  position = position;
  is_trailing = false;
  stopped = None;
}

abbrev IsFree : Waiting → Type 0
IsFree waiting = (waiting ≡ idle) ⊎ (waiting ≡ positional)

abbrev IsFlagName : Text → Type 0
IsFlagName name = IsOneOf name flag_names

-- a property of each text of a list holds of any text in it
each : (P : Text → Type 0) (texts : List Text) → AllByRecursion P texts → (text : Text) → IsOneOf text texts → P text
each P [] rows text none = absurd none
each P (one ∷ others) rows text (inl is) = rw is rows.0
each P (one ∷ others) rows text (inr more) = each P others rows.1 text more

-- the walk over a flag: a row for each of their names
abbrev IsWalked : Text → Type 0
IsWalked name = (at : ℕ) (rows : List Row) (pending : Option (Text × List Text)) (waiting : Waiting) → IsFree waiting
    → (walked file_rules [] (state at rows pending waiting) (45 ∷ 45 ∷ name) ≡ state at (used (named name) [] (settled_rows file_rules pending rows)) None idle)
    × (turn_fault shape [] (state at rows pending waiting) (45 ∷ 45 ∷ name)
    ≡ or_else (or_else (settle_fault file_rules false (state at rows pending waiting).held) (use_fault false (named name) [] (settled_rows file_rules pending rows))) [])

are_walked : AllByRecursion IsWalked flag_names
unfolding clap_on_literals
are_walked = (λ at rows pending waiting free. elim free [ inl f ↦ rw f (refl, refl) | inr f ↦ rw f (refl, refl) ], (λ at rows pending waiting free. elim free [ inl f ↦ rw f (refl, refl) | inr f ↦ rw f (refl, refl) ], (λ at rows pending waiting free. elim free [ inl f ↦ rw f (refl, refl) | inr f ↦ rw f (refl, refl) ], (λ at rows pending waiting free. elim free [ inl f ↦ rw f (refl, refl) | inr f ↦ rw f (refl, refl) ], (λ at rows pending waiting free. elim free [ inl f ↦ rw f (refl, refl) | inr f ↦ rw f (refl, refl) ], (λ at rows pending waiting free. elim free [ inl f ↦ rw f (refl, refl) | inr f ↦ rw f (refl, refl) ], (λ at rows pending waiting free. elim free [ inl f ↦ rw f (refl, refl) | inr f ↦ rw f (refl, refl) ], tt)))))))

flag_walked : (name : Text) → IsFlagName name → IsWalked name
flag_walked name flag = each IsWalked flag_names are_walked name flag

or_false : (b : Bool) → (b || false) ≡ b
or_false false = refl
or_false true = refl

or_true : (b : Bool) → (b || true) ≡ true
or_true false = refl
or_true true = refl

or_assoc : (a b c : Bool) → (a || (b || c)) ≡ ((a || b) || c)
or_assoc false b c = refl
or_assoc true b c = refl

and_false : (b : Bool) → (b && false) ≡ false
and_false false = refl
and_false true = refl

-- a word that begins with no hyphen is read as no flag
name_walked : (id word : Text) (at : ℕ) (rows : List Row) (pending : Option (Text × List Text)) (waiting : Waiting) → ((at ≡ 1) × (id ≡ codes "STORE")) ⊎ ((at ≡ 2) × (id ≡ codes "FILE"))
    → has_hyphen word ≡ false → IsFree waiting
    → (walked file_rules [] (state at rows pending waiting) word ≡ state 2 (settled_rows file_rules pending rows) (Some (id, word ∷ [])) (if is_multiple (named id) then positional else idle))
    × (turn_fault shape [] (state at rows pending waiting) word ≡ settle_fault file_rules false (state at rows pending waiting).held)
unfolding clap_on_literals
name_walked id [] at rows pending waiting (inl (first, is)) plain free =
    let single : (is_pending (named (codes "STORE")) pending && false) ≡ false = and_false _ in
    rw (first, is) (elim free [ inl f ↦ rw (f, single) (refl, refl) | inr f ↦ rw (f, single) (refl, refl) ])
name_walked id [] at rows pending waiting (inr (later, is)) plain free =
    let single : (is_pending (named (codes "FILE")) pending && false) ≡ false = and_false _ in
    rw (later, is) (elim free [ inl f ↦ rw (f, single) (refl, refl) | inr f ↦ rw (f, single) (refl, refl) ])
name_walked id (byte ∷ rest) at rows pending waiting (inl (first, is)) plain free =
    let long : long_of (byte ∷ rest) ≡ None = rw plain refl in
    let short : short_of (byte ∷ rest) ≡ None = rw plain refl in
    let single : (is_pending (named (codes "STORE")) pending && false) ≡ false = and_false _ in
    rw (first, is) (elim free [ inl f ↦ rw (f, long, short, plain, single) (refl, refl) | inr f ↦ rw (f, long, short, plain, single) (refl, refl) ])
name_walked id (byte ∷ rest) at rows pending waiting (inr (later, is)) plain free =
    let long : long_of (byte ∷ rest) ≡ None = rw plain refl in
    let short : short_of (byte ∷ rest) ≡ None = rw plain refl in
    let single : (is_pending (named (codes "FILE")) pending && false) ≡ false = and_false _ in
    rw (later, is) (elim free [ inl f ↦ rw (f, long, short, plain, single) (refl, refl) | inr f ↦ rw (f, long, short, plain, single) (refl, refl) ])

-- ---- rows found after some words

-- the row of an argument with these values
abbrev row_with : Text → List Text → Row
row_with id values = record { id = id; values = values; count = None; source = Some CommandLine; reading = reading_by (named id) }

abbrev store_row : List Text → Option Row
store_row [] = None
store_row (store ∷ files) = Some (row_with (codes "STORE") (store ∷ []))

abbrev files_row : List Text → Option Row
files_row [] = None
files_row (file ∷ files) = Some (row_with (codes "FILE") (file ∷ files))

abbrev flag_row : Text → Bool → Option Row
flag_row name false = None
flag_row name true = Some (row_with name (codes "true" ∷ []))

abbrev flag_of : Text → Text
flag_of name = 45 ∷ 45 ∷ name

record Found (names flags : List Text) (rows : List Row) : Type 0 where
  store : row_for (codes "STORE") rows ≡ store_row names
  files : row_for (codes "FILE") rows ≡ files_row (drop 1 names)
  wait : row_for (codes "wait") rows ≡ None
  set : (name : Text) → IsFlagName name → row_for name rows ≡ flag_row name (is_among (flag_of name) flags)

abbrev position_after : List Text → ℕ
position_after [] = 1
position_after (name ∷ names) = 2

record WalkHolds (names flags : List Text) (w : Walk) : Type 0 where
  rows : List Row
  pending : Option (Text × List Text)
  waiting : Waiting
  is : w ≡ state (position_after names) rows pending waiting
  free : IsFree waiting
  fine : settle_fault file_rules false w.held ≡ []
  found : Found names flags (settled_rows file_rules pending rows)

-- ---- one more flag

abbrev IsApart : Text → Type 0
IsApart name = (bytes_eq name (codes "STORE") ≡ false) × (bytes_eq name (codes "FILE") ≡ false) × (bytes_eq (codes "STORE") name ≡ false) × (bytes_eq (codes "FILE") name ≡ false) × (bytes_eq name (codes "wait") ≡ false)

flag_apart : (name : Text) → IsFlagName name → IsApart name
flag_apart name flag = each IsApart flag_names ((refl, refl, refl, refl, refl), ((refl, refl, refl, refl, refl), ((refl, refl, refl, refl, refl), ((refl, refl, refl, refl, refl), ((refl, refl, refl, refl, refl), ((refl, refl, refl, refl, refl), ((refl, refl, refl, refl, refl), tt))))))) name flag

abbrev IsRead : Text → Type 0
IsRead name = (rows : List Row) → without name rows ≡ rows → has_row name rows ≡ false
    → (used (named name) [] rows ≡ with_values name (reading_by (named name)) CommandLine (codes "true" ∷ []) rows) × (use_fault false (named name) [] rows ≡ [])

flag_reads : (name : Text) → IsFlagName name → IsRead name
flag_reads name flag =
    each IsRead flag_names (λ rows gone new. (rw gone refl, rw new refl), (λ rows gone new. (rw gone refl, rw new refl), (λ rows gone new. (rw gone refl, rw new refl), (λ rows gone new. (rw gone refl, rw new refl), (λ rows gone new. (rw gone refl, rw new refl), (λ rows gone new. (rw gone refl, rw new refl), (λ rows gone new. (rw gone refl, rw new refl), tt))))))) name flag

none_gone : (id : Text) (rows : List Row) → row_for id rows ≡ None → without id rows ≡ rows
none_gone id rows none = no_row id (λ _. []) [] rows none ∙ append-nil rows

not_there : (id : Text) (rows : List Row) → row_for id rows ≡ None → has_row id rows ≡ false
not_there id rows none = has_row_is id rows ∙ ap is_some none

is_among_more : (word : Text) (words : List Text) (more : Text) → is_among word (words ++ more ∷ []) ≡ (is_among word words || bytes_eq word more)
is_among_more word [] more = or_false (bytes_eq word more)
is_among_more word (w ∷ words) more = rw (is_among_more word words more) (or_assoc (bytes_eq word w) (is_among word words) (bytes_eq word more))

turned : (a b : Text) → bytes_eq a b ≡ false → bytes_eq b a ≡ false
turned a b apart = go (bytes_eq b a) refl
  where
    go : (same : Bool) → bytes_eq b a ≡ same → bytes_eq b a ≡ false
    go false is = is
    go true is = let wrong : bytes_eq a b ≡ true = rw (is_text b a is) (same_text a) in cc

flag_found : (name : Text) (names flags : List Text) (rows : List Row) → IsFlagName name → is_among (flag_of name) flags ≡ false → Found names flags rows
    → Found names (flags ++ flag_of name ∷ []) (used (named name) [] rows)
flag_found name names flags rows is new found =
    let none : row_for name rows ≡ None = rw (found.set name is, new) refl in
    let how = reading_by (named name) in
    let read = (flag_reads name is rows (none_gone name rows none) (not_there name rows none)).0 in
    rw read (record {
      store = row_kept name (codes "STORE") how CommandLine (codes "true" ∷ []) rows (flag_apart name is).0 ∙ found.store;
      files = row_kept name (codes "FILE") how CommandLine (codes "true" ∷ []) rows (flag_apart name is).1 ∙ found.files;
      wait = row_kept name (codes "wait") how CommandLine (codes "true" ∷ []) rows (flag_apart name is).4 ∙ found.wait;
      set = λ other flag. go other flag none (bytes_eq other name) refl;
    })
  where
    go : (other : Text) → IsFlagName other → row_for name rows ≡ None → (same : Bool) → bytes_eq other name ≡ same
        → row_for other (with_values name (reading_by (named name)) CommandLine (codes "true" ∷ []) rows) ≡ flag_row other (is_among (flag_of other) (flags ++ flag_of name ∷ []))
    go other flag none true same =
        let there : is_among (flag_of other) (flags ++ flag_of name ∷ []) ≡ true = is_among_more (flag_of other) flags (flag_of name) ∙ rw same (or_true _) in
        let is_name = is_text other name same in
        rw there (rw is_name (row_is name (reading_by (named name)) CommandLine (codes "true" ∷ []) rows ∙ rw none refl))
    go other flag none false apart =
        let there : is_among (flag_of other) (flags ++ flag_of name ∷ []) ≡ is_among (flag_of other) flags = is_among_more (flag_of other) flags (flag_of name) ∙ rw apart (or_false _) in
        rw there (row_kept name other (reading_by (named name)) CommandLine (codes "true" ∷ []) rows (turned other name apart) ∙ found.set other flag)

-- a flag that is not given yet
flag_step : (name : Text) (names flags : List Text) (w : Walk) → IsFlagName name → is_among (flag_of name) flags ≡ false → WalkHolds names flags w
    → (turn_fault shape [] w (flag_of name) ≡ []) × WalkHolds names (flags ++ flag_of name ∷ []) (walked file_rules [] w (flag_of name))
flag_step name names flags w is new stands =
    let at = position_after names in
    let rows = settled_rows file_rules stands.pending stands.rows in
    let none : row_for name rows ≡ None = rw (stands.found.set name is, new) refl in
    let fine = (flag_reads name is rows (none_gone name rows none) (not_there name rows none)).1 in
    let held = rw stands.is at stands.fine in
    let met = flag_walked name is at stands.rows stands.pending stands.waiting stands.free in
    rw stands.is (
      rw (met.1, held, fine) refl,
      record {
        rows = used (named name) [] rows;
        pending = None;
        waiting = idle;
        is = met.0;
        free = inl refl;
        fine = rw met.0 refl;
        found = flag_found name names flags rows is new stands.found;
      },
    )

-- ---- one more name

store_reads : (word : Text) (rows : List Row) → without (codes "STORE") rows ≡ rows → has_row (codes "STORE") rows ≡ false
    → (settled_rows file_rules (Some (codes "STORE", word ∷ [])) rows ≡ with_values (codes "STORE") (reading_by (named (codes "STORE"))) CommandLine (word ∷ []) rows)
    × (settle_fault file_rules false (record { rows = rows; pending = Some (codes "STORE", word ∷ []); skip = 0 }) ≡ [])
store_reads word rows gone new = (rw gone refl, rw new refl)

file_reads : (word : Text) (rows : List Row)
    → (settled_rows file_rules (Some (codes "FILE", word ∷ [])) rows ≡ with_values (codes "FILE") (reading_by (named (codes "FILE"))) CommandLine (word ∷ []) rows)
    × (settle_fault file_rules false (record { rows = rows; pending = Some (codes "FILE", word ∷ []); skip = 0 }) ≡ [])
file_reads word rows = (refl, refl)

store_found : (word : Text) (flags : List Text) (rows : List Row) → Found [] flags rows
    → Found (word ∷ []) flags (with_values (codes "STORE") (reading_by (named (codes "STORE"))) CommandLine (word ∷ []) rows)
store_found word flags rows found = record {
  store = row_is (codes "STORE") (reading_by (named (codes "STORE"))) CommandLine (word ∷ []) rows ∙ rw found.store refl;
  files = row_kept (codes "STORE") (codes "FILE") (reading_by (named (codes "STORE"))) CommandLine (word ∷ []) rows refl ∙ found.files;
  wait = row_kept (codes "STORE") (codes "wait") (reading_by (named (codes "STORE"))) CommandLine (word ∷ []) rows refl ∙ found.wait;
  set = λ name flag. row_kept (codes "STORE") name (reading_by (named (codes "STORE"))) CommandLine (word ∷ []) rows (flag_apart name flag).2 ∙ found.set name flag;
}

more_files : (files : List Text) (word : Text)
    → Some (with_more (codes "FILE") (reading_by (named (codes "FILE"))) CommandLine (word ∷ []) (files_row files)) ≡ files_row (files ++ word ∷ [])
more_files [] word = refl
more_files (file ∷ files) word = refl

file_found : (store word : Text) (files flags : List Text) (rows : List Row) → Found (store ∷ files) flags rows
    → Found (store ∷ files ++ word ∷ []) flags (with_values (codes "FILE") (reading_by (named (codes "FILE"))) CommandLine (word ∷ []) rows)
file_found store word files flags rows found = record {
  store = row_kept (codes "FILE") (codes "STORE") (reading_by (named (codes "FILE"))) CommandLine (word ∷ []) rows refl ∙ found.store;
  files = row_is (codes "FILE") (reading_by (named (codes "FILE"))) CommandLine (word ∷ []) rows ∙ rw found.files (more_files files word);
  wait = row_kept (codes "FILE") (codes "wait") (reading_by (named (codes "FILE"))) CommandLine (word ∷ []) rows refl ∙ found.wait;
  set = λ name flag. row_kept (codes "FILE") name (reading_by (named (codes "FILE"))) CommandLine (word ∷ []) rows (flag_apart name flag).3 ∙ found.set name flag;
}

-- a word that begins with no hyphen
name_step : (word : Text) (names flags : List Text) (w : Walk) → has_hyphen word ≡ false → WalkHolds names flags w
    → (turn_fault shape [] w word ≡ []) × WalkHolds (names ++ word ∷ []) flags (walked file_rules [] w word)
name_step word [] flags w plain stands =
    let rows = settled_rows file_rules stands.pending stands.rows in
    let met = name_walked (codes "STORE") word 1 stands.rows stands.pending stands.waiting (inl (refl, refl)) plain stands.free in
    let none = stands.found.store in
    let read = store_reads word rows (none_gone (codes "STORE") rows none) (not_there (codes "STORE") rows none) in
    let held = rw stands.is at stands.fine in
    rw stands.is (
      met.1 ∙ held,
      record {
        rows = rows;
        pending = Some (codes "STORE", word ∷ []);
        waiting = idle;
        is = met.0;
        free = inl refl;
        fine = rw met.0 read.1;
        found = rw read.0 (store_found word flags rows stands.found);
      },
    )
name_step word (store ∷ files) flags w plain stands =
    let rows = settled_rows file_rules stands.pending stands.rows in
    let met = name_walked (codes "FILE") word 2 stands.rows stands.pending stands.waiting (inr (refl, refl)) plain stands.free in
    let held = rw stands.is at stands.fine in
    rw stands.is (
      met.1 ∙ held,
      record {
        rows = rows;
        pending = Some (codes "FILE", word ∷ []);
        waiting = positional;
        is = met.0;
        free = inr refl;
        fine = rw met.0 refl;
        found = file_found store word files flags rows stands.found;
      },
    )

-- ---- all the words

-- each word begins with no hyphen, or is a flag that is not given yet
abbrev Fits : List Text → List Text → Type 0
Fits flags [] = ⊤
Fits flags (word ∷ rest) = ((has_hyphen word ≡ false) × Fits flags rest)
    ⊎ ((name : Text) × IsFlagName name × (word ≡ flag_of name) × (is_among word flags ≡ false) × Fits (flags ++ word ∷ []) rest)

walk_holds_after : (names flags words : List Text) (w : Walk) → Fits flags words → WalkHolds names flags w
    → (walk_fault shape [] w words ≡ []) × WalkHolds (names ++ names_in words) (flags ++ flags_in words) (fold (walked file_rules []) w words)
unfolding walk_fault
walk_holds_after names flags [] w fits stands = (refl, rw (append-nil names, append-nil flags) stands)
walk_holds_after names flags (word ∷ rest) w (inl (plain, fits)) stands =
    let step = name_step word names flags w plain stands in
    let more = walk_holds_after (names ++ word ∷ []) flags rest (walked file_rules [] w word) fits step.1 in
    let joined = rw (append_assoc names (word ∷ []) (names_in rest)) at more.1 in
    rw plain (rw (step.0, more.0) refl, joined)
walk_holds_after names flags (word ∷ rest) w (inr (name, is, word_is, new, fits)) stands =
    let new = rw word_is at new in
    let step = flag_step name names flags w is new stands in
    let more = walk_holds_after names (flags ++ flag_of name ∷ []) rest (walked file_rules [] w (flag_of name)) (rw word_is at fits) step.1 in
    let joined = rw (append_assoc flags (flag_of name ∷ []) (flags_in rest)) at more.1 in
    rw word_is (rw (step.0, more.0) refl, joined)

-- ---- arguments that were not given

either : (b : Bool) (rows : List Row) → (if b then rows else rows) ≡ rows
either false rows = refl
either true rows = refl

plain_default : (id : Text) (rows : List Row) → (id ≡ codes "STORE") ⊎ (id ≡ codes "FILE") ⊎ (id ≡ codes "help") ⊎ (id ≡ codes "version") ⊎ (id ≡ codes "wait") → with_default rows (named id) ≡ rows
plain_default id rows (inl is) = rw is (either (has_row (codes "STORE") rows) rows)
plain_default id rows (inr (inl is)) = rw is (either (has_row (codes "FILE") rows) rows)
plain_default id rows (inr (inr (inl is))) = rw is (either (has_row (codes "help") rows) rows)
plain_default id rows (inr (inr (inr (inl is)))) = rw is (either (has_row (codes "version") rows) rows)
plain_default id rows (inr (inr (inr (inr is)))) = rw is (either (has_row (codes "wait") rows) rows)

abbrev HasDefault : Text → Type 0
HasDefault name = (rows : List Row)
    → with_default rows (named name) ≡ (if has_row name rows then rows else with_values name (reading_by (named name)) DefaultValue (codes "false" ∷ []) rows)

flag_default : (name : Text) → IsFlagName name → HasDefault name
flag_default name flag = each HasDefault flag_names (λ rows. refl, (λ rows. refl, (λ rows. refl, (λ rows. refl, (λ rows. refl, (λ rows. refl, (λ rows. refl, tt))))))) name flag

-- the rows with the defaults of the flags
abbrev with_defaults : List Text → List Row → List Row
with_defaults names rows = fold (λ (rows : List Row) (name : Text). with_default rows (named name)) rows names

abbrev with_flags : List Row → List Row
with_flags rows = with_defaults flag_names rows

finished_rows : (h : Held) → finished file_rules h ≡ with_flags (settled file_rules h).rows
finished_rows h =
    let rows = (settled file_rules h).rows in
    let store = plain_default (codes "STORE") rows (inl refl) in
    let file = plain_default (codes "FILE") rows (inr (inl refl)) in
    let wait = plain_default (codes "wait") (with_flags rows) (inr (inr (inr (inr refl)))) in
    let help = plain_default (codes "help") (with_flags rows) (inr (inr (inl refl))) in
    let version = plain_default (codes "version") (with_flags rows) (inr (inr (inr (inl refl)))) in
    ap (λ (r : List Row). with_default (with_default (with_default (with_flags (with_default r (named (codes "FILE")))) (named (codes "wait"))) (named (codes "help"))) (named (codes "version"))) store
    ∙ ap (λ (r : List Row). with_default (with_default (with_default (with_flags r) (named (codes "wait"))) (named (codes "help"))) (named (codes "version"))) file
    ∙ ap (λ (r : List Row). with_default (with_default r (named (codes "help"))) (named (codes "version"))) wait
    ∙ ap (λ (r : List Row). with_default r (named (codes "version"))) help
    ∙ version

abbrev said : Bool → Text
said false = codes "false"
said true = codes "true"

flag_set : (name : Text) (rows : List Row) (given : Bool) → IsFlagName name → row_for name rows ≡ flag_row name given
    → first_of name (with_default rows (named name)) ≡ Some (said given)
flag_set name rows false flag none =
    let new : has_row name rows ≡ false = not_there name rows none in
    let row = row_is name (reading_by (named name)) DefaultValue (codes "false" ∷ []) rows in
    rw (flag_default name flag rows, new, row, none) refl
flag_set name rows true flag there =
    let old : has_row name rows ≡ true = has_row_is name rows ∙ ap is_some there in
    rw (flag_default name flag rows, old, there) refl

flag_kept : (name other : Text) (rows : List Row) → IsFlagName name → bytes_eq name other ≡ false → row_for other (with_default rows (named name)) ≡ row_for other rows
flag_kept name other rows flag apart = rw (flag_default name flag rows) (go (has_row name rows))
  where
    go : (b : Bool) → row_for other (if b then rows else with_values name (reading_by (named name)) DefaultValue (codes "false" ∷ []) rows) ≡ row_for other rows
    go true = refl
    go false = row_kept name other (reading_by (named name)) DefaultValue (codes "false" ∷ []) rows apart

-- an argument that is none of the flags keeps its row
rows_kept : (names : List Text) (other : Text) (rows : List Row) → AllByRecursion (λ name. IsFlagName name × (bytes_eq name other ≡ false)) names → row_for other (with_defaults names rows) ≡ row_for other rows
rows_kept [] other rows apart = refl
rows_kept (name ∷ names) other rows apart = rows_kept names other (with_default rows (named name)) apart.1 ∙ flag_kept name other rows apart.0.0 apart.0.1

-- each of the flags, none of which is given twice, is set as it was given
rows_set : (names : List Text) (name : Text) (rows : List Row) (given : Bool) → AllByRecursion IsFlagName names → IsDistinct bytes_eq names → IsOneOf name names → row_for name rows ≡ flag_row name given
    → first_of name (with_defaults names rows) ≡ Some (said given)
rows_set [] name rows given flags once none there = absurd none
rows_set (one ∷ names) name rows given flags once (inl is) there =
    subst (λ (n : Text). row_for n rows ≡ flag_row n given → first_of n (with_defaults (one ∷ names) rows) ≡ Some (said given)) (sym is) head there
  where
    later : (names : List Text) → AllByRecursion IsFlagName names → AllByRecursion (λ other. bytes_eq one other ≡ false) names → AllByRecursion (λ other. IsFlagName other × (bytes_eq other one ≡ false)) names
    later [] flags apart = tt
    later (other ∷ others) flags apart = ((flags.0, turned one other apart.0), later others flags.1 apart.1)

    head : row_for one rows ≡ flag_row one given → first_of one (with_defaults (one ∷ names) rows) ≡ Some (said given)
    head found = rw (rows_kept names one (with_default rows (named one)) (later names flags.1 (IsDistinct-head _ one names once))) (flag_set one rows given flags.0 found)
rows_set (one ∷ names) name rows given flags once (inr more) there =
    let apart : bytes_eq one name ≡ false = among names (IsDistinct-head _ one names once) name more in
    rows_set names name (with_default rows (named one)) given flags.1 (IsDistinct-tail _ one names once) more (flag_kept one name rows flags.0 apart ∙ there)
  where
    among : (names : List Text) → AllByRecursion (λ other. bytes_eq one other ≡ false) names → (name : Text) → IsOneOf name names → bytes_eq one name ≡ false
    among names apart name is = each (λ other. bytes_eq one other ≡ false) names apart name is

are_flags : AllByRecursion IsFlagName flag_names
are_flags = (inl refl, (inr (inl refl), (inr (inr (inl refl)), (inr (inr (inr (inl refl))), (inr (inr (inr (inr (inl refl)))), (inr (inr (inr (inr (inr (inl refl))))), (inr (inr (inr (inr (inr (inr (inl refl)))))), tt)))))))

once_each : IsDistinct bytes_eq flag_names
unfolding IsDistinct
once_each = ((refl, (refl, (refl, (refl, (refl, (refl, tt)))))), ((refl, (refl, (refl, (refl, (refl, tt))))), ((refl, (refl, (refl, (refl, tt)))), ((refl, (refl, (refl, tt))), ((refl, (refl, tt)), ((refl, tt), (tt, tt)))))))

no_flag_kept : (id : Text) (rows : List Row) → AllByRecursion (λ name. bytes_eq name id ≡ false) flag_names → row_for id (with_flags rows) ≡ row_for id rows
no_flag_kept id rows apart = rows_kept flag_names id rows (both flag_names are_flags apart)
  where
    both : (names : List Text) → AllByRecursion IsFlagName names → AllByRecursion (λ name. bytes_eq name id ≡ false) names → AllByRecursion (λ name. IsFlagName name × (bytes_eq name id ≡ false)) names
    both [] flags apart = tt
    both (name ∷ names) flags apart = ((flags.0, apart.0), both names flags.1 apart.1)

-- STORE and FILE are no flags
name_kept : (id : Text) (rows : List Row) → (id ≡ codes "STORE") ⊎ ((id ≡ codes "FILE") ⊎ (id ≡ codes "wait")) → row_for id (with_flags rows) ≡ row_for id rows
name_kept id rows (inl is) = rw is (no_flag_kept (codes "STORE") rows (refl, (refl, (refl, (refl, (refl, (refl, (refl, tt))))))))
name_kept id rows (inr (inl is)) = rw is (no_flag_kept (codes "FILE") rows (refl, (refl, (refl, (refl, (refl, (refl, (refl, tt))))))))
name_kept id rows (inr (inr is)) = rw is (no_flag_kept (codes "wait") rows (refl, (refl, (refl, (refl, (refl, (refl, (refl, tt))))))))

-- the rows at the end of the walk, for the names and the given words
pub record Says (rows : List Row) (names words : List Text) : Type 0 where
  pub store : (name : Text) (files : List Text) → names ≡ name ∷ files → first_of (codes "STORE") rows ≡ Some name
  pub files : unwrap_or (all_of (codes "FILE") rows) [] ≡ drop 1 names
  pub wait : first_of (codes "wait") rows ≡ None
  pub flag : (name : Text) → IsFlagName name → first_of name rows ≡ Some (said (is_among (flag_of name) words))

said_files : (files : List Text) → unwrap_or (option_map (λ (r : Row). r.values) (files_row files)) [] ≡ files
said_files [] = refl
said_files (file ∷ files) = refl

says : (names flags : List Text) (rows : List Row) → Found names flags rows → Says (with_flags rows) names flags
says names flags rows found = record {
  store = λ name files is. rw (name_kept (codes "STORE") rows (inl refl), found.store, is) refl;
  files = rw (name_kept (codes "FILE") rows (inr (inl refl)), found.files) (said_files (drop 1 names));
  wait = rw (name_kept (codes "wait") rows (inr (inr refl)), found.wait) refl;
  flag = λ name flag. rows_set flag_names name rows (is_among (flag_of name) flags) are_flags once_each flag (found.set name flag);
}

-- ---- no fault at the end

-- the default of an argument is no fault
abbrev IsFineDefault : Rule → Type 0
IsFineDefault a = (is_empty a.defaults ≡ true) ⊎ (given_default_fault a a.defaults ≡ [])

fine_default : (a : Rule) (rows : List Row) → IsFineDefault a → default_fault rows a ≡ []
fine_default a rows (inl none) = rw (none, or_true (has_row a.id rows)) refl
fine_default a rows (inr fine) = go (has_row a.id rows || is_empty a.defaults)
  where
    go : (b : Bool) → (if b then [] else given_default_fault a a.defaults) ≡ []
    go true = refl
    go false = fine

abbrev AreFineDefaults : List Rule → Type 0
AreFineDefaults [] = ⊤
AreFineDefaults (a ∷ more) = IsFineDefault a × AreFineDefaults more

fine_defaults : (list : List Rule) (rows : List Row) → AreFineDefaults list → defaults_fault rows list ≡ []
unfolding defaults_fault
fine_defaults [] rows fine = refl
fine_defaults (a ∷ more) rows fine = rw (fine_default a rows fine.0, fine_defaults more (with_default rows a) fine.1) refl

file_defaults : AreFineDefaults file_rules
file_defaults = (inr refl, (inr refl, (inr refl, (inr refl, (inr refl, (inr refl, (inr refl, (inr refl, (inr refl, (inr refl, (inl refl, (inl refl, tt))))))))))))

store_given : (store : Text) (files : List Text) (rows : List Row) → row_for (codes "STORE") rows ≡ store_row (store ∷ files) → check_fault shape rows false ≡ []
store_given store files rows found =
    let given : is_given (codes "STORE") rows ≡ true = rw found refl in
    rw given refl

starts : WalkHolds [] [] (walk_from nothing_held)
starts = record {
  rows = [];
  pending = None;
  waiting = idle;
  is = refl;
  free = inl refl;
  fine = refl;
  found = record { store = refl; files = refl; wait = refl; set = λ name flag. refl };
}

-- the faults, from the faults of the walk and the word at which it ends
abbrev faults_after : Kinds → Walk → Kinds
faults_after first end =
    or_else first (or_else (entered_fault (built bitemporal_file) end.stopped) (or_else (settle_fault file_rules false end.held)
    (or_else (defaults_fault (settled file_rules end.held).rows file_rules) (check_fault shape (finished file_rules end.held) (is_some (entered (built bitemporal_file) end.stopped))))))

no_fault_after : (first : Kinds) (end : Walk) → first ≡ [] → end.stopped ≡ None → settle_fault file_rules false end.held ≡ [] → check_fault shape (finished file_rules end.held) false ≡ []
    → faults_after first end ≡ []
no_fault_after first end none stopped settled_well checked =
    rw (none, stopped, settled_well, fine_defaults file_rules (settled file_rules end.held).rows file_defaults, checked) refl

fault_is : (program : Text) (words : List Text) → fault_of bitemporal_file (program ∷ words) ≡ faults_after (walk_fault shape [] (walk_from nothing_held) words) (fold (walked file_rules []) (walk_from nothing_held) words)
fault_is program words = refl

-- clap finds no fault in the words, and what the matches say is what the words do
record AreRead (words : List Text) : Type 0 where
  fine : fault_of bitemporal_file words ≡ []
  says : Says (matches_of bitemporal_file words) (names_in (arguments_of words)) (flags_in (arguments_of words))

file_words : (program store : Text) (files words : List Text) → Fits [] words → names_in words ≡ store ∷ files → AreRead (program ∷ words)
file_words program store files words fits names =
    let after = walk_holds_after [] [] words (walk_from nothing_held) fits starts in
    let stands = after.1 in
    let end = fold (walked file_rules []) (walk_from nothing_held) words in
    let rows = settled_rows file_rules stands.pending stands.rows in
    let done : end ≡ state (position_after (names_in words)) stands.rows stands.pending stands.waiting = stands.is in
    let settled_is : (settled file_rules end.held).rows ≡ rows = ap (λ (w : Walk). (settled file_rules w.held).rows) done in
    let finished_is : finished file_rules end.held ≡ with_flags rows = finished_rows end.held ∙ ap with_flags settled_is in
    let store_is : row_for (codes "STORE") (finished file_rules end.held) ≡ store_row (store ∷ files) =
    ap (row_for (codes "STORE")) finished_is ∙ name_kept (codes "STORE") rows (inl refl) ∙ stands.found.store ∙ ap store_row names in
    let stopped : end.stopped ≡ None = ap (λ (w : Walk). w.stopped) done in
    record {
      fine = fault_is program words ∙ no_fault_after _ end after.0 stopped stands.fine (store_given store files (finished file_rules end.held) store_is);
      says = subst (λ (rows : List Row). Says rows (names_in words) (flags_in words)) (sym finished_is) (says (names_in words) (flags_in words) rows stands.found);
    }

-- ---- lines of the usual form

flag_word_of : (word : Text) → IsFlag word → (name : Text) × IsFlagName name × (word ≡ flag_of name)
flag_word_of word flag = go flag_names flag
  where
    go : (names : List Text) → IsOneOf word (map (λ name. codes "--" ++ name) names) → (name : Text) × IsOneOf name names × (word ≡ flag_of name)
    go [] none = absurd none
    go (name ∷ names) (inl is) = (name, inl refl, is)
    go (name ∷ names) (inr more) = let rest = go names more in (rest.0, inr rest.1, rest.2)

still_new : (flags : List Text) (word : Text) (others : List Text) → AllByRecursion (λ other. is_among other flags ≡ false) others → AllByRecursion (λ other. bytes_eq word other ≡ false) others
    → AllByRecursion (λ other. is_among other (flags ++ word ∷ []) ≡ false) others
still_new flags word [] new apart = tt
still_new flags word (other ∷ others) new apart =
    (is_among_more other flags word ∙ rw (new.0, turned word other apart.0) refl, still_new flags word others new.1 apart.1)

abbrev AreNew : List Text → List Text → Type 0
AreNew flags others = All IsFlag others × IsDistinct bytes_eq others × AllByRecursion (λ other. is_among other flags ≡ false) others

fits : (flags words : List Text) → AreNew flags (flags_in words) → Fits flags words
fits flags [] new = tt
fits flags (word ∷ rest) new = go (has_hyphen word) refl new (λ others. fits others rest)
  where
    go : (b : Bool) → has_hyphen word ≡ b → AreNew flags (cond b (word ∷ flags_in rest) (flags_in rest)) → ((others : List Text) → AreNew others (flags_in rest) → Fits others rest) → Fits flags (word ∷ rest)
    go false plain new more = inl (plain, more flags new)
    go true hyphen (all, once, new) more =
        let is = flag_word_of word (all 0 word (omega arith)) in
        let others : All IsFlag (flags_in rest) = λ k d below. all (suc k) d (omega arith) in
        inr (is.0, is.1, is.2, new.0, more (flags ++ word ∷ []) (others, IsDistinct-tail _ word (flags_in rest) once, still_new flags word (flags_in rest) new.1 (IsDistinct-head _ word (flags_in rest) once)))

-- a flag among the words is among the flags
is_among_flags : (flag : Text) (words : List Text) → has_hyphen flag ≡ true → is_among flag (flags_in words) ≡ is_among flag words
is_among_flags flag [] hyphen = refl
is_among_flags flag (word ∷ rest) hyphen = go (has_hyphen word) refl (is_among_flags flag rest hyphen)
  where
    go : (b : Bool) → has_hyphen word ≡ b → is_among flag (flags_in rest) ≡ is_among flag rest → is_among flag (cond b (word ∷ flags_in rest) (flags_in rest)) ≡ is_among flag (word ∷ rest)
    go true same more = rw more refl
    go false plain more = differs (bytes_eq flag word) refl
      where
        differs : (same : Bool) → bytes_eq flag word ≡ same → is_among flag (flags_in rest) ≡ (bytes_eq flag word || is_among flag rest)
        differs false is = rw is more
        differs true is = let wrong : has_hyphen word ≡ true = rw (← is_text flag word is) hyphen in cc

said_is : (given set : Bool) (text : Option Text) → text ≡ Some (said given) → IsTrue set ↔ (text ≡ Some (codes "true")) → set ≡ given
said_is true set text is same = same.1 is
said_is false false text is same = refl
said_is false true text is same = let wrong : Some (codes "false") ≡ Some (codes "true") = sym is ∙ same.0 refl in cc

as_asked : (words : List Text) (rows : List Row) (asked : Request) (store : Text) (files : List Text) → names_in words ≡ store ∷ files → Says rows (names_in words) (flags_in words) → Asks rows asked → AskFor words asked
as_asked words rows asked store files names says asks =
    let store_is : string_bytes asked.store ≡ store = asks.store ∙ ap (λ (o : Option Text). unwrap_or o []) (says.store store files names) in
    let files_are : map string_bytes asked.files.items ≡ files = asks.files ∙ says.files ∙ ap (drop 1) names in
    record {
      names = rw (store_is, files_are) names;
      audits = said_is _ _ _ (says.flag (codes "audit") (inl refl)) asks.audits ∙ is_among_flags (codes "--audit") words refl;
      stops = said_is _ _ _ (says.flag (codes "stop") (inr (inl refl))) asks.stops ∙ is_among_flags (codes "--stop") words refl;
      timed = said_is _ _ _ (says.flag (codes "now") (inr (inr (inl refl)))) asks.timed ∙ is_among_flags (codes "--now") words refl;
      clock_ahead = said_is _ _ _ (says.flag (codes "clock-ahead") (inr (inr (inr (inl refl))))) asks.clock_ahead ∙ is_among_flags (codes "--clock-ahead") words refl;
      lists = said_is _ _ _ (says.flag (codes "tables") (inr (inr (inr (inr (inl refl)))))) asks.lists ∙ is_among_flags (codes "--tables") words refl;
      verifies = said_is _ _ _ (says.flag (codes "verify") (inr (inr (inr (inr (inr (inl refl))))))) asks.verifies ∙ is_among_flags (codes "--verify") words refl;
      reads_only = said_is _ _ _ (says.flag (codes "read-only") (inr (inr (inr (inr (inr (inr (inl refl)))))))) asks.reads_only ∙ is_among_flags (codes "--read-only") words refl;
      waits = subst (λ (text : Option Text). WaitsFor text asked.wait) says.wait asks.waits;
    }

none_new : (others : List Text) → AllByRecursion (λ other. is_among other [] ≡ false) others
none_new [] = tt
none_new (other ∷ others) = (refl, none_new others)

is_none : (name : Text) (names : List Text) → ◌≡◌ {A = List Text} [] (name ∷ names) → ⊥
is_none name names same = cc

form_read : (words names : List Text) → IsFileCommand (arguments_of words) → names_in (arguments_of words) ≡ names → AreRead words
form_read words [] form names = let some = rw names at form.store in absurd (omega (arith, some))
form_read [] (store ∷ files) form names = absurd (is_none store files names)
form_read (program ∷ rest) (store ∷ files) form names = file_words program store files rest (fits [] rest (form.flags, form.once, none_new (flags_in rest))) names

-- clap finds no fault in a line of the usual form
pub no_fault : (words : List Text) → IsFileCommand (arguments_of words) → fault_of bitemporal_file words ≡ []
no_fault words form = (form_read words (names_in (arguments_of words)) form refl).fine

-- a request by the matches is the request of the words
pub asked_as : (words : List Text) (asked : Request) → IsFileCommand (arguments_of words) → Asks (matches_of bitemporal_file words) asked → AskFor (arguments_of words) asked
asked_as words asked form asks = named_so (names_in (arguments_of words)) refl
  where
    named_so : (names : List Text) → names_in (arguments_of words) ≡ names → AskFor (arguments_of words) asked
    named_so [] none = let some = rw none at form.store in absurd (omega (arith, some))
    named_so (store ∷ files) names = as_asked (arguments_of words) (matches_of bitemporal_file words) asked store files names (form_read words (store ∷ files) form names).says asks

-- no other flag is given if one is alone
no_other : (flag other : Text) (flags : List Text) → bytes_eq other flag ≡ false → bytes_eq other (codes "--read-only") ≡ false → All (λ word. (word ≡ flag) ⊎ (word ≡ codes "--read-only")) flags
    → is_among other flags ≡ false
no_other flag other [] apart writes alone = refl
no_other flag other (word ∷ rest) apart writes alone =
    let later : All (λ word. (word ≡ flag) ⊎ (word ≡ codes "--read-only")) rest = λ k d below. alone (suc k) d (omega arith) in
    let differs : bytes_eq other word ≡ false = elim (alone 0 word (omega arith)) [ inl is ↦ rw is apart | inr is ↦ rw is writes ] in
    rw differs (no_other flag other rest apart writes later)

-- a flag that is alone sets no other flag
not_set : (words : List Text) (flag other : Text) (is_set : Bool) → has_hyphen other ≡ true → bytes_eq other flag ≡ false → bytes_eq other (codes "--read-only") ≡ false → ExcludesOthers flag words
    → is_set ≡ is_among other words → is_set ≡ true → ⊥
not_set words flag other is_set hyphen apart writes alone asks set =
    let none : is_among other words ≡ false = sym (is_among_flags other words hyphen) ∙ no_other flag other (flags_in words) apart writes alone.0 in
    let wrong : true ≡ false = sym set ∙ asks ∙ none in
    cc

-- no word of the list calls for a run
no_run : (words : List Text) (flag : Text) (asked : Request) → AllByRecursion (λ other. bytes_eq other flag ≡ false) (codes "--audit" ∷ codes "--stop" ∷ codes "--now" ∷ []) → ExcludesOthers flag words
    → AskFor words asked → NeedsRun asked → ⊥
no_run words flag asked apart alone asks (inl audits) = not_set words flag (codes "--audit") asked.audits refl apart.0 refl alone asks.audits audits
no_run words flag asked apart alone asks (inr (inl stops)) = not_set words flag (codes "--stop") asked.stops refl apart.1.0 refl alone asks.stops stops
no_run words flag asked apart alone asks (inr (inr (inl timed))) = not_set words flag (codes "--now") asked.timed refl apart.1.1.0 refl alone asks.timed timed
no_run words flag asked apart alone asks (inr (inr (inr files))) =
    let one = rw asks.names at alone.1 in
    omega (arith, one, files, length-map asked.files.items string_bytes)

-- a line of the usual form asks for nothing that is in conflict
pub no_conflict : (words : List Text) (asked : Request) → IsFileCommand words → AskFor words asked → HasConflict asked → ⊥
no_conflict words asked form asks (inl (lists, verifies)) =
    not_set words (codes "--tables") (codes "--verify") asked.verifies refl refl refl (form.lists (sym asks.lists ∙ lists)) asks.verifies verifies
no_conflict words asked form asks (inr (inl (lists, runs))) = no_run words (codes "--tables") asked (refl, (refl, (refl, tt))) (form.lists (sym asks.lists ∙ lists)) asks runs
no_conflict words asked form asks (inr (inr (inl (verifies, runs)))) = no_run words (codes "--verify") asked (refl, (refl, (refl, tt))) (form.verifies (sym asks.verifies ∙ verifies)) asks runs
no_conflict words asked form asks (inr (inr (inr (inl (reads_only, timed))))) =
    let wrong : true ≡ false = sym timed ∙ asks.timed ∙ form.reads_only (sym asks.reads_only ∙ reads_only) in
    cc
no_conflict words asked form asks (inr (inr (inr (inr (ahead, untimed))))) =
    let wrong : true ≡ false = sym (form.ahead (sym asks.clock_ahead ∙ ahead)) ∙ sym asks.timed ∙ untimed in
    cc
