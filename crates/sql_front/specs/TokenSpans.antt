-- Tokens by their places in a script.
use Rattle.std.specs.Prelude.{ℕ, ◌≤◌, List, map}
use Rattle.std.specs.List.{slice_range}
use Rattle.std.specs.Str.{IsCharBoundary}
use Rattle.sql_front.specs.declared.token_spans.TokenSpan.{TokenSpan}
use Rattle.sql_statements.specs.Lexemes.{Lexeme}

-- the token at a place of the script
abbrev pub lexeme_at : List ℕ → TokenSpan → Lexeme
lexeme_at script span = record {
  kind = span.kind;
  text = slice_range script span.start span.end;
  start = span.start;
  end = span.end;
}

-- the tokens at these places
abbrev pub lexemes_at : List ℕ → List TokenSpan → List Lexeme
lexemes_at script spans = map (lexeme_at script) spans

-- the place is in the script, and begins and ends between characters
pub record IsInScript (script : List ℕ) (span : TokenSpan) : Type 0 where
  pub ordered : span.start ≤ span.end
  pub begins : IsCharBoundary script span.start
  pub ends : IsCharBoundary script span.end

-- the place of a token
abbrev pub span_of : Lexeme → TokenSpan
span_of token = record { kind = token.kind; start = token.start; end = token.end }
