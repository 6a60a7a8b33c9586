-- Statements that are read are the statements that are spelled, and none is spelled twice.
use Rattle.std.proofs.Common.{◌≡◌, ℕ, Bool, true, false, List, Some, None, length, ◌↔◌}
use Rattle.period_core.specs.Leasts.{NoneApplies}
use Rattle.period_core.specs.declared.refusal.Refusal.TheVariants.{BadDate, BadMoment, NumberRange}
use Rattle.sql_statements.specs.Lexemes.{Lexeme}
use Rattle.sql_statements.specs.Trees.{Statement}
use Rattle.sql_front.specs.Grammar.{IsStatement}
use Rattle.sql_front.specs.Laws.{SpellsOne}
use Rattle.sql_front.specs.LiteralRefusals.{LiteralApplies}
use Rattle.sql_front.specs.LiteralTests.{is_bad_date, is_bad_moment, number_above, somewhere}
use Rattle.sql_front.specs.PieceRefusals.{SpellsNone}
use Rattle.sql_front.specs.reading.Reading.{whole_read}
use Rattle.sql_front.specs.reading.StatementReaders.{statement_read}
use Rattle.sql_front.proofs.GrammarReadings.{exactly_read, some_read, spelled_exactly}
use Rattle.sql_front.proofs.LiteralFaultFacts.{bad_date_somewhere, bad_moment_somewhere, number_somewhere}
use Rattle.sql_front.proofs.Readings.{NoFault}
use Rattle.sql_front.proofs.StatementsRead.{read_none, read_one, read_spelled}

-- if no refusal for a literal applies, no literal has a fault
pub no_fault : (ts : List Lexeme) → NoneApplies (LiteralApplies ts) → NoFault ts
no_fault ts none = record { dates = none BadDate; moments = none BadMoment; numbers = none NumberRange }

untested : {D : Type 0} (test : Bool) → test ≡ true ↔ D → test ≡ false → D → ⊥
untested true i e d = absurd cc
untested false i e d = let holds : false ≡ true = i.1 d in absurd cc

-- if the tests find nothing, no literal has a fault
tested : (ts : List Lexeme) → somewhere is_bad_date ts ≡ false → somewhere is_bad_moment ts ≡ false → number_above false ts ≡ false → NoFault ts
tested ts date moment number = record {
  dates = untested (somewhere is_bad_date ts) (bad_date_somewhere ts) date;
  moments = untested (somewhere is_bad_moment ts) (bad_moment_somewhere ts) moment;
  numbers = untested (number_above false ts) (number_somewhere ts) number;
}

-- a statement that is read of all of the tokens is spelled by them
pub spelled_if_read : (n : ℕ) (ts : List Lexeme) (s : Statement) → whole_read (statement_read n) ts ≡ Some s
    → somewhere is_bad_date ts ≡ false → somewhere is_bad_moment ts ≡ false → number_above false ts ≡ false → IsStatement ts s
spelled_if_read n ts s e date moment number = spelled_exactly ts s (tested ts date moment number) (read_spelled n ts s e)

-- if nothing is read at a depth that the tokens cannot reach, they spell none
pub none_if_unread : (ts : List Lexeme) → whole_read (statement_read (length ts)) ts ≡ None → SpellsNone ts
none_if_unread ts e s spelled =
    let t = some_read ts s spelled in
    read_none ts e t.0 t.1

-- no list of tokens spells two statements
pub spells_one : SpellsOne
spells_one ts a b h k = read_one ts a b (exactly_read ts a h) (exactly_read ts b k)
