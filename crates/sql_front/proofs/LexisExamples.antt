-- Worked rows of the lexis and of pieces.
use Rattle.std.proofs.Common.{[], ◌∷◌, refl}
use Rattle.std.specs.Prelude.{codes}
use Rattle.sql_statements.specs.declared.token.TokenKind.TheVariants.{Word, Number, Symbol}
use Rattle.sql_statements.specs.Lexemes.{Lexeme}
use Rattle.sql_statements.specs.Lexis as lexis
use Rattle.sql_statements.specs.Lexis.{first_lexeme, TokensOf, byte_order_mark_size}
use Rattle.sql_front.specs.Pieces as pieces
use Rattle.sql_front.specs.Pieces.{HasPieces, HasSpans}

-- a number and a word
number_and_word : TokensOf (codes "12a") (record { kind = Number; text = codes "12"; start = 0; end = 2 } ∷ record { kind = Word; text = codes "a"; start = 2; end = 3 } ∷ [])
unfolding first_lexeme
number_and_word = lexis.TokensFrom.token Number 2 refl (lexis.TokensFrom.token Word 1 refl lexis.TokensFrom.ended)

semicolon : Lexeme
semicolon = record { kind = Symbol; text = codes ";"; start = 0; end = 1 }

word : Lexeme
word = record { kind = Word; text = codes "a"; start = 1; end = 2 }

-- `;a;` has one piece
one_piece : HasPieces (semicolon ∷ word ∷ semicolon ∷ []) ((word ∷ []) ∷ [])
unfolding semicolon word
one_piece = (
  [] ∷ (word ∷ []) ∷ [] ∷ [],
  pieces.Joined.more [] semicolon refl refl (pieces.Joined.more (word ∷ []) semicolon refl refl (pieces.Joined.one [] refl)),
  refl,
)

-- each piece of `a;a` has its own span
two_spans : HasSpans 0 (word ∷ semicolon ∷ word ∷ []) (record { start = 0; end = 1 } ∷ record { start = 2; end = 3 } ∷ [])
unfolding semicolon word
two_spans = (
  (word ∷ []) ∷ (word ∷ []) ∷ [],
  pieces.Joined.more (word ∷ []) semicolon refl refl (pieces.Joined.one (word ∷ []) refl),
  refl,
)
