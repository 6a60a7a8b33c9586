-- Tokens as the definitions see them: by their bytes, wherever these lie in memory.
use Rattle.std.specs.Prelude.{ℕ, List, map}
use Rattle.sql_statements.specs.declared.token.TokenKind.{TokenKind}
use Rattle.sql_statements.specs.declared.token.Token.{Token}

-- a token's kind, its bytes, and where in the script these begin and end
pub record Lexeme : Type 0 where
  pub kind : TokenKind
  pub text : List ℕ
  pub start : ℕ
  pub end : ℕ

-- a token of the program by its bytes
abbrev pub lexeme : Token → Lexeme
lexeme token =
    record { kind = token.kind; text = token.text.now; start = token.start; end = token.end }

-- the tokens of the program by their bytes
abbrev pub lexemes : List Token → List Lexeme
lexemes tokens = map lexeme tokens
