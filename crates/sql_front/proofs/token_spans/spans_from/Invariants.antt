use Rattle.std.proofs.Common.{◌≡◌, ℕ, ◌+◌, List, ◌++◌, length, map}
use denote.Shadow.{shadow}
use denote.Text.{Utf8}
use Rattle.sql_statements.specs.Lexemes.{Lexeme}
use Rattle.sql_statements.specs.Lexis.{TokensFrom, StopsFrom}
use Rattle.sql_front.specs.TokenSpans.{span_of}
use Rattle.sql_front.proofs.token_spans.spans_from.Given as goal

-- the places are tokens' places; whatever tokens the rest has follow them
abbrev pub invariant-tokens : goal.invariant-tokens
invariant-tokens l = record {
  whole : l.at + length l.rest ≡ l.start + length l.text;
  text : shadow (Utf8 l.rest);
  tokens : (so_far : List Lexeme) × (l.spans.items ≡ map span_of so_far)
      × ((more : List Lexeme) → TokensFrom l.at l.rest more → TokensFrom l.start l.text (so_far ++ more));
  stops : (bad : ℕ) → StopsFrom l.at l.rest bad → StopsFrom l.start l.text bad;
}

abbrev pub decreases-tokens : goal.decreases-tokens
decreases-tokens l = length l.rest
