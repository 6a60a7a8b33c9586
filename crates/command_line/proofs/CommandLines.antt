-- The lines that ask for a run or a check, as clap reads them.
use Rattle.std.proofs.Common.{◌≡◌, ◌⊎◌, ◌∙◌, [], ◌∷◌, List, Option, Some, None, codes, false, true, ap, inl, inr, refl, subst, sym}
use Rattle.clap.specs.Lexer.{long_of, short_of}
use Rattle.clap.specs.Words.{App, HasMatchesOf, Row, Text, found_of, is_simple, is_simple_and_free, rows_of, subcommand_of, subcommand_rows, subcommand_rows_of}
use Rattle.clap.specs.declared.parser.matches.ArgMatches.{ArgMatches}
use Rattle.clap.specs.declared.parser.matches.ArgMatches.TheViews.{out-SubCommand}
use Rattle.clap.specs.declared.parser.matches.SubCommand.{SubCommand}
use Rattle.std.specs.Prelude.{Box, option_map, unwrap_or}
use Rattle.std.specs.Box.{box_value}
use Rattle.std.proofs.lemmas.Option.{same_Some}
use Rattle.clap.proofs.OnLiterals.{clap_on_literals}
use Rattle.command_line.specs.CommandLine.{IsCommandLineFor, AuditsFile, CallsFor, Chooses, IsMode, IsReadAs, bitemporal, has_hyphen}
use Rattle.command_line.specs.declared.command.Mode.{Mode}
use Rattle.command_line.specs.declared.command.Mode.TheVariants.{Run, RunAudited, Check}

-- clap's functions give the matches of this command and its faults
pub is_simple_and_free-bitemporal : is_simple_and_free bitemporal ≡ true
unfolding clap_on_literals
is_simple_and_free-bitemporal = refl

is_simple-bitemporal : is_simple bitemporal ≡ true
unfolding clap_on_literals
is_simple-bitemporal = refl

no_flag : Some (codes "false") ≡ Some (codes "true") → ⊥
no_flag same = let wrong : codes "false" ≡ codes "true" = same_Some _ _ same in cc

none_named-run : (program : Text) → IsReadAs (program ∷ codes "run" ∷ []) Run None
unfolding clap_on_literals
none_named-run program = (refl, ((refl, no_flag), refl))

none_named-audit : (program : Text) → IsReadAs (program ∷ codes "run" ∷ codes "--audit" ∷ []) RunAudited None
unfolding clap_on_literals
none_named-audit program = (refl, ((refl, refl), refl))

none_named-check : (program : Text) → IsReadAs (program ∷ codes "check" ∷ []) Check None
unfolding clap_on_literals
none_named-check program = (refl, (refl, refl))

named-run : (program name : Text) → has_hyphen name ≡ false → IsReadAs (program ∷ codes "run" ∷ name ∷ []) Run (Some name)
unfolding clap_on_literals
named-run program [] plain = (refl, ((refl, no_flag), refl))
named-run program (byte ∷ rest) plain =
    let long : long_of (byte ∷ rest) ≡ None = rw plain refl in
    let short : short_of (byte ∷ rest) ≡ None = rw plain refl in
    rw (long, short, plain) (refl, ((refl, no_flag), refl))

named-audit : (program name : Text) → has_hyphen name ≡ false → IsReadAs (program ∷ codes "run" ∷ codes "--audit" ∷ name ∷ []) RunAudited (Some name)
unfolding clap_on_literals
named-audit program [] plain = (refl, ((refl, refl), refl))
named-audit program (byte ∷ rest) plain =
    let long : long_of (byte ∷ rest) ≡ None = rw plain refl in
    let short : short_of (byte ∷ rest) ≡ None = rw plain refl in
    rw (long, short, plain) (refl, ((refl, refl), refl))

named-audit_behind : (program name : Text) → has_hyphen name ≡ false → IsReadAs (program ∷ codes "run" ∷ name ∷ codes "--audit" ∷ []) RunAudited (Some name)
unfolding clap_on_literals
named-audit_behind program [] plain = (refl, ((refl, refl), refl))
named-audit_behind program (byte ∷ rest) plain =
    let long : long_of (byte ∷ rest) ≡ None = rw plain refl in
    let short : short_of (byte ∷ rest) ≡ None = rw plain refl in
    rw (long, short, plain) (refl, ((refl, refl), refl))

named-check : (program name : Text) → has_hyphen name ≡ false → IsReadAs (program ∷ codes "check" ∷ name ∷ []) Check (Some name)
unfolding clap_on_literals
named-check program [] plain = (refl, (refl, refl))
named-check program (byte ∷ rest) plain =
    let long : long_of (byte ∷ rest) ≡ None = rw plain refl in
    let short : short_of (byte ∷ rest) ≡ None = rw plain refl in
    rw (long, short, plain) (refl, (refl, refl))

dashed-run : (program name : Text) → IsReadAs (program ∷ codes "run" ∷ codes "--" ∷ name ∷ []) Run (Some name)
unfolding clap_on_literals
dashed-run program name = (refl, ((refl, no_flag), refl))

dashed-audit : (program name : Text) → IsReadAs (program ∷ codes "run" ∷ codes "--audit" ∷ codes "--" ∷ name ∷ []) RunAudited (Some name)
unfolding clap_on_literals
dashed-audit program name = (refl, ((refl, refl), refl))

dashed-check : (program name : Text) → IsReadAs (program ∷ codes "check" ∷ codes "--" ∷ name ∷ []) Check (Some name)
unfolding clap_on_literals
dashed-check program name = (refl, (refl, refl))

-- the words after `run` with --audit among them
read_audit : (program word : Text) (rest : List Text) (file : Option Text) → AuditsFile (word ∷ rest) file → IsReadAs (program ∷ codes "run" ∷ word ∷ rest) RunAudited file
read_audit program word [] file (inl (flag, none)) = rw (flag, none) (none_named-audit program)
read_audit program word (name ∷ []) file (inl (flag, (plain, named))) = rw (flag, named) (named-audit program name plain)
read_audit program word (dashes ∷ name ∷ []) file (inl (flag, (are, named))) = rw (flag, are, named) (dashed-audit program name)
read_audit program word (dashes ∷ name ∷ other ∷ more) file (inl (flag, none)) = absurd none
read_audit program word rest file (inr (flag, (plain, named))) = rw (flag, named) (named-audit_behind program word plain)

-- a line of the program's forms is read as what it asks for
pub read_as : (words : List Text) (mode : Mode) (file : Option Text) → IsCommandLineFor words mode file → IsReadAs words mode file
read_as [] mode file asks = absurd asks
read_as (program ∷ []) mode file asks = absurd asks
read_as (program ∷ sub ∷ []) Run file asks = rw (asks.0, asks.1) (none_named-run program)
read_as (program ∷ sub ∷ []) RunAudited file asks = absurd asks.1
read_as (program ∷ sub ∷ []) Check file asks = rw (asks.0, asks.1) (none_named-check program)
read_as (program ∷ sub ∷ word ∷ rest) RunAudited file asks = rw asks.0 (read_audit program word rest file asks.1)
read_as (program ∷ sub ∷ name ∷ []) Run file asks = rw (asks.0, asks.1.1) (named-run program name asks.1.0)
read_as (program ∷ sub ∷ name ∷ []) Check file asks = rw (asks.0, asks.1.1) (named-check program name asks.1.0)
read_as (program ∷ sub ∷ dashes ∷ name ∷ []) Run file asks = rw (asks.0, asks.1.0, asks.1.1) (dashed-run program name)
read_as (program ∷ sub ∷ dashes ∷ name ∷ []) Check file asks = rw (asks.0, asks.1.0, asks.1.1) (dashed-check program name)
read_as (program ∷ sub ∷ dashes ∷ name ∷ word ∷ more) Run file asks = absurd asks.1
read_as (program ∷ sub ∷ dashes ∷ name ∷ word ∷ more) Check file asks = absurd asks.1

-- a line is read as what it calls for
pub read_so : (words : List Text) (mode : Mode) (file : Option Text) → CallsFor words mode file → IsReadAs words mode file
read_so words mode file (inl usual) = read_as words mode file usual
read_so words mode file (inr read) = read

-- a subcommand with its matches chooses one mode and one file
run_is_not_check : codes "run" ≡ codes "check" → ⊥
run_is_not_check same = cc

same_mode : (chosen : Text × List Row) (mode other : Mode) → IsMode chosen mode → IsMode chosen other → mode ≡ other
same_mode chosen Run Run is has = refl
same_mode chosen Run RunAudited is has = absurd (is.1 has.1)
same_mode chosen Run Check is has = absurd (run_is_not_check (sym is.0 ∙ has))
same_mode chosen RunAudited Run is has = absurd (has.1 is.1)
same_mode chosen RunAudited RunAudited is has = refl
same_mode chosen RunAudited Check is has = absurd (run_is_not_check (sym is.0 ∙ has))
same_mode chosen Check Run is has = absurd (run_is_not_check (sym has.0 ∙ is))
same_mode chosen Check RunAudited is has = absurd (run_is_not_check (sym has.0 ∙ is))
same_mode chosen Check Check is has = refl

pub same_choice : (chosen : Option (Text × List Row)) (mode other : Mode) (file another : Option Text) → Chooses chosen mode file → Chooses chosen other another
    → (mode ≡ other) × (file ≡ another)
same_choice None mode other file another one two = absurd one
same_choice (Some chosen) mode other file another one two = (same_mode chosen mode other one.0 two.0, one.1 ∙ sym two.1)

-- the subcommand of the matches is the one that clap's function gives
pub row_of_subcommand : (app : App) (words : List Text) (matches : ArgMatches) → app ≡ bitemporal → HasMatchesOf app words matches
    → subcommand_rows_of matches ≡ subcommand_of bitemporal words
row_of_subcommand app words matches is has =
    (has (ap is_simple is ∙ is_simple-bitemporal)).1 ∙ ap (λ (a : App). subcommand_of a words) is

mode_word : (name : Text) (rows : List Row) (mode : Mode) → IsMode (name, rows) mode → (name ≡ codes "run") ⊎ (name ≡ codes "check")
mode_word name rows Run is = inl is.0
mode_word name rows RunAudited is = inl is.0
mode_word name rows Check is = inr is

-- a subcommand that chooses a mode has the name of a mode
pub chosen_word : {Z : Type 0} (met : Option (Box SubCommand Z)) (name : Text) (mode : Mode) (file : Option Text)
    → Some name ≡ option_map (λ b. (out-SubCommand (box_value b)).name.now) met → Chooses (subcommand_rows met) mode file
    → (name ≡ codes "run") ⊎ (name ≡ codes "check")
chosen_word None name mode file is chooses = absurd chooses
chosen_word (Some b) name mode file is chooses =
    let same : name ≡ (out-SubCommand (box_value b)).name.now = ap (λ (o : Option Text). unwrap_or o name) is in
    subst (λ (word : Text). (word ≡ codes "run") ⊎ (word ≡ codes "check")) (sym same) (mode_word _ (rows_of (found_of (out-SubCommand (box_value b)).matches)) mode chooses.0)
