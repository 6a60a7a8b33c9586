use Rattle.std.proofs.Common.{◌≡◌, ◌≤◌, length, take, vec_capacity, vec_len}
use Rattle.sql_statements.specs.Lexemes.{lexemes}
use Rattle.sql_front.specs.TokenSpans.{lexemes_at}
use Rattle.sql_front.proofs.token_spans.tokens_at.Given as goal

abbrev pub invariant-loop-span : goal.invariant-loop-span
invariant-loop-span l = record {
  made : lexemes l.tokens.items ≡ lexemes_at l.script (take l.span-index l.spans);
  count : vec_len l.tokens ≡ l.span-index;
  room : length l.spans ≤ vec_capacity l.tokens;
}
