use Rattle.std.proofs.Common.{◌≡◌, ◌≤◌, ◌+◌, ◌||◌, length, false}
use Rattle.std.specs.Prelude.{is_none}
use Rattle.sql_statements.specs.Lexemes.{lexemes}
use Rattle.sql_front.specs.Depth.{is_too_small, most_open, room}
use Rattle.sql_front.specs.LiteralTests.{is_bad_date, is_bad_moment, number_above, somewhere}
use Rattle.sql_front.proofs.piece_faults.faults_of.Given as goal

abbrev pub invariant-tokens : goal.invariant-tokens
invariant-tokens l = record {
  dates : somewhere is_bad_date (lexemes l.tokens) ≡ (l.faults.bad_date || somewhere is_bad_date (lexemes l.rest));
  moments : somewhere is_bad_moment (lexemes l.tokens) ≡ (l.faults.bad_moment || somewhere is_bad_moment (lexemes l.rest));
  numbers : number_above false (lexemes l.tokens) ≡ (l.faults.number_outside || number_above l.minus (lexemes l.rest));
  depth : is_too_small l.room (lexemes l.rest) ≡ is_none (room most_open (lexemes l.tokens));
  left : l.room.left + length l.rest ≤ 32 + length l.tokens;
}

abbrev pub decreases-tokens : goal.decreases-tokens
decreases-tokens l = length l.rest
