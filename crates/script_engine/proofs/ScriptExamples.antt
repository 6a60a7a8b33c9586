-- Worked rows: how long a piece may be, and the runs and checks of whole scripts.
use Rattle.std.proofs.Common.{◌≡◌, ◌≤◌, ◌∷◌, ◌++◌, ◌∙◌, [], ℕ, false, List, None, Some, Ok, Err, codes, length, refl, sym, inl, inr, arith, lit≤}
use Rattle.std.proofs.lemmas.Bool.{false≢true}
use Rattle.period_core.specs.Leasts.{MayAnswer, NoneApplies}
use Rattle.period_core.specs.declared.refusal.Refusal.{Refusal}
use Rattle.period_core.specs.declared.refusal.Refusal.TheVariants.{BadDate, BadMoment, NumberRange, Syntax, UnknownTable}
use Rattle.sql_front.specs.Depth.{room}
use Rattle.sql_front.specs.Grammar.{IsStatement}
use Rattle.sql_statements.specs.Lexemes.{Lexeme}
use Rattle.sql_statements.specs.Lexis as lexis
use Rattle.sql_statements.specs.Lexis.{first_lexeme}
use Rattle.sql_front.specs.LiteralRefusals.{LiteralApplies}
use Rattle.sql_front.specs.LiteralTests.{is_bad_date, is_bad_moment, number_above, somewhere}
use Rattle.sql_statements.specs.Names.{is_plain_word}
use Rattle.sql_front.specs.PieceRefusals.{IsTooDeep, PieceApplies}
use Rattle.sql_front.specs.Pieces as pieces
use Rattle.sql_front.specs.reading.ConditionReaders.{where_read}
use Rattle.sql_front.specs.reading.Leaves.{name_read}
use Rattle.sql_front.specs.reading.WindowReaders.{for_window_read}
use Rattle.sql_front.specs.reading.Reading.{whole_read}
use Rattle.sql_front.specs.reading.StatementReaders.{later_statement_read, query_statement_read, statement_read, stored_read, stored_table_read}
use Rattle.sql_statements.specs.Trees.{Statement, stored}
use Rattle.sql_statements.specs.Words.{is_reserved}
use Rattle.sql_statements.specs.declared.token.TokenKind.TheVariants.{Symbol, Word}
use Rattle.sql_front.proofs.DepthFacts.{some_shallow}
use Rattle.sql_front.proofs.LiteralFaultFacts.{bad_date_somewhere, bad_moment_somewhere, number_somewhere}
use Rattle.sql_front.proofs.Parsing.{no_statement, spelled_some}
use Rattle.sql_front.proofs.PieceFaults.{piece_none}
use Rattle.sql_front.proofs.Spelling.{none_if_unread, spelled_if_read}
use Rattle.sql_front.proofs.StatementsRead.{read_spelled}
use Rattle.statement_resolution.specs.stored.StoredQueries.{stored_conditions}
use Rattle.catalog_core.specs.table.TableWords.{number_of, table_of_name}
use Rattle.catalog_core.proofs.lemmas.judged.Least.{first_least}
use Rattle.history_model.specs.Histories.{new_database, opened}
use Rattle.script_engine.specs.script.Check.{IsCheckOf}
use Rattle.script_engine.specs.script.Script.{IsCutInto, IsOverlong, IsRunOf, PieceStep, TextApplies}
use Rattle.script_engine.proofs.PieceFacts.{none_of_text}
use Rattle.script_engine.proofs.ScriptFacts.{none_of_script}

-- ---- pieces that are read as a statement

faultless : (ts : List Lexeme) → somewhere is_bad_date ts ≡ false → somewhere is_bad_moment ts ≡ false → number_above false ts ≡ false → NoneApplies (LiteralApplies ts)
faultless ts date moment number BadDate h = false≢true (sym date ∙ (bad_date_somewhere ts).1 h)
faultless ts date moment number BadMoment h = false≢true (sym moment ∙ (bad_moment_somewhere ts).1 h)
faultless ts date moment number NumberRange h = false≢true (sym number ∙ (number_somewhere ts).1 h)
faultless ts date moment number other h = h

-- no refusal applies to tokens that are read as a statement, are at most 10,000 and not too deep, and have no bad literal
sound_if_read : (n left : ℕ) (ts : List Lexeme) (s : Statement) → whole_read (statement_read n) ts ≡ Some s → length ts ≤ 10_000 → room 32 ts ≡ Some left
    → somewhere is_bad_date ts ≡ false → somewhere is_bad_moment ts ≡ false → number_above false ts ≡ false → NoneApplies (TextApplies ts)
sound_if_read n left ts s read short shallow date moment number =
    none_of_text ts (λ long. omega arith)
    (piece_none ts (some_shallow 32 ts left shallow) (spelled_some ts s (read_spelled n ts s read)) (faultless ts date moment number))

-- ---- two pieces

-- the script SELECT * FROM T;a
abbrev script_text : List ℕ
script_text = codes "SELECT * FROM T;a"

-- the semicolon of the example
abbrev semicolon : Lexeme
semicolon = record { kind = Symbol; text = codes ";"; start = 15; end = 16 }

-- the tokens before the semicolon
abbrev lookup : List Lexeme
lookup =
    record { kind = Word; text = codes "SELECT"; start = 0; end = 6 }
    ∷ record { kind = Symbol; text = codes "*"; start = 7; end = 8 }
    ∷ record { kind = Word; text = codes "FROM"; start = 9; end = 13 }
    ∷ record { kind = Word; text = codes "T"; start = 14; end = 15 }
    ∷ []

-- the token after the semicolon
abbrev letter : List Lexeme
letter = record { kind = Word; text = codes "a"; start = 16; end = 17 } ∷ []

-- the tokens of the example; only white space is between them
lexed : lexis.TokensOf script_text (lookup ++ semicolon ∷ letter)
unfolding first_lexeme
lexed =
    lexis.TokensFrom.token Word 6 refl (lexis.TokensFrom.blank 1 refl (lexis.TokensFrom.token Symbol 1 refl (lexis.TokensFrom.blank 1 refl
    (lexis.TokensFrom.token Word 4 refl (lexis.TokensFrom.blank 1 refl (lexis.TokensFrom.token Word 1 refl
    (lexis.TokensFrom.token Symbol 1 refl (lexis.TokensFrom.token Word 1 refl lexis.TokensFrom.ended))))))))

-- the semicolon cuts the script in two
cut : IsCutInto script_text (lookup ∷ letter ∷ [])
unfolding lib.Utf8.encode
cut = record {
  sound = none_of_script script_text (lookup ++ semicolon ∷ letter) (omega arith) (script_text, (refl, refl)) lexed;
  tokens = lookup ++ semicolon ∷ letter;
  lexed = lexed;
  parted = (lookup ∷ letter ∷ [], pieces.Joined.more lookup semicolon refl refl (pieces.Joined.one letter refl), refl);
}

-- the first piece is a query of the stored rows of T
abbrev looked_up : Statement
looked_up = stored (record { table = codes "T"; window = None; condition = None })

-- the tokens are read as the query, and so spell it
lookup_is_read : whole_read (statement_read 0) lookup ≡ Some looked_up
unfolding statement_read later_statement_read query_statement_read stored_read stored_table_read for_window_read where_read name_read is_plain_word is_reserved
lookup_is_read = refl

lookup_spelled : IsStatement lookup looked_up
lookup_spelled = spelled_if_read 0 lookup looked_up lookup_is_read refl refl refl

-- no refusal applies to the lookup: it has four tokens, no literal, and no parenthesis
lookup_sound : NoneApplies (TextApplies lookup)
unfolding room
lookup_sound = sound_if_read 0 32 lookup looked_up lookup_is_read (omega arith) refl refl refl refl

-- the second piece spells no statement
letter_is_not_read : whole_read (statement_read 1) letter ≡ None
unfolding statement_read later_statement_read query_statement_read stored_read
letter_is_not_read = refl

-- the letter is not too deep
letter_shallow : IsTooDeep letter → ⊥
unfolding room
letter_shallow = some_shallow 32 letter 32 refl

-- an answer for the spelling of a piece that is not overlong is an answer for the piece
of_text : (piece : List Lexeme) (refusal : Refusal) → (IsOverlong piece → ⊥) → MayAnswer (PieceApplies piece) refusal → MayAnswer (TextApplies piece) refusal
of_text piece refusal short (inr memory) = inr memory
of_text piece refusal short (inl least) = inl (record {
  applies = inr (short, least.applies);
  least = λ other h.
      elim h [
        | inl long ↦ absurd (short long.0)
        | inr its ↦ least.least other its.1
      ];
})

-- the letter is refused with 10
letter_refused : MayAnswer (TextApplies letter) Syntax
letter_refused = of_text letter Syntax (λ long. omega arith) (no_statement letter letter_shallow (none_if_unread letter letter_is_not_read))

-- checked: the first piece is right, and the second is refused with 10
checked : IsCheckOf script_text (Ok tt ∷ Err Syntax ∷ [])
checked = record { pieces = lookup ∷ letter ∷ []; cut = cut; checked = (((looked_up, lookup_spelled), lookup_sound), (letter_refused, tt)) }

-- run: the first is refused with 23, since there is no table T; the history stays
lookup_step : PieceStep (opened new_database) lookup (Err UnknownTable) (opened new_database)
unfolding number_of table_of_name
lookup_step =
    inr (looked_up, lookup_sound, lookup_spelled, (inl (inl (first_least (stored_conditions [] looked_up) UnknownTable (lit≤ tt, (lit≤ tt, (lit≤ tt, (lit≤ tt, (lit≤ tt, (lit≤ tt, (lit≤ tt, (lit≤ tt, (lit≤ tt, tt))))))))) refl)), refl))

-- the second piece is refused as it is if the script is checked
run : IsRunOf script_text (Err UnknownTable ∷ Err Syntax ∷ [])
run = record {
  pieces = lookup ∷ letter ∷ [];
  cut = cut;
  last = opened new_database;
  run = (opened new_database, lookup_step, (opened new_database, inl (Syntax, refl, letter_refused, refl), refl));
}
