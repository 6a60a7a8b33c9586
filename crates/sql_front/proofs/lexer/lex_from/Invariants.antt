use Rattle.std.proofs.Common.{◌≡◌, ℕ, ◌+◌, List, ◌++◌, length}
use denote.Shadow.{shadow}
use denote.Text.{Utf8}
use Rattle.sql_statements.specs.Lexemes.{Lexeme, lexemes}
use Rattle.sql_statements.specs.Lexis.{TokensFrom, StopsFrom}
use Rattle.sql_front.proofs.lexer.lex_from.Given as goal

-- whatever the rest has completes the whole
abbrev pub invariant-tokens : goal.invariant-tokens
invariant-tokens l = record {
  whole : l.at + length l.rest ≡ l.start + length l.text;
  text : shadow (Utf8 l.rest);
  tokens : (more : List Lexeme) → TokensFrom l.at l.rest more → TokensFrom l.start l.text (lexemes l.tokens.items ++ more);
  stops : (bad : ℕ) → StopsFrom l.at l.rest bad → StopsFrom l.start l.text bad;
}

abbrev pub decreases-tokens : goal.decreases-tokens
decreases-tokens l = length l.rest
