use Rattle.std.proofs.Common.{◌≡◌, ◌≤◌, length, map, take, vec_capacity, vec_len}
use Rattle.std.specs.List.{AllZip}
use Rattle.sql_front.specs.TokenSpans.{lexemes_at}
use Rattle.sql_front.specs.Pieces.{spanned}
use Rattle.script_engine.specs.script.Check.{IsPieceCheck}
use Rattle.script_engine.proofs.script.check.check_pieces.Given as goal

abbrev pub invariant-loop-piece : goal.invariant-loop-piece
invariant-loop-piece l = record {
  room : length l.pieces ≤ vec_capacity l.results;
  count : vec_len l.results ≡ l.piece-index;
  checked : AllZip IsPieceCheck (map (spanned (lexemes_at l.script l.tokens)) (take l.piece-index l.pieces)) l.results.items;
}
