use Rattle.std.proofs.Common.{◌≡◌, ℕ, ◌+◌, ◌≤◌, List, length}
use denote.Shadow.{shadow}
use denote.Text.{Utf8}
use Rattle.sql_statements.specs.Lexemes.{Lexeme}
use Rattle.sql_statements.specs.Lexis.{TokensFrom, StopsFrom}
use Rattle.sql_front.proofs.lexer.first_token.Given as goal

-- whatever the rest has completes the whole
abbrev pub invariant-fronts : goal.invariant-fronts
invariant-fronts l = record {
  whole : l.at + length l.rest ≡ l.start + length l.text;
  behind : l.start ≤ l.at;
  text : shadow (Utf8 l.rest);
  tokens : (more : List Lexeme) → TokensFrom l.at l.rest more → TokensFrom l.start l.text more;
  stops : (bad : ℕ) → StopsFrom l.at l.rest bad → StopsFrom l.start l.text bad;
}

abbrev pub decreases-fronts : goal.decreases-fronts
decreases-fronts l = length l.rest
