use Rattle.std.proofs.Common.{◌≡◌, ◌≤◌, length, map, take, vec_capacity, vec_len}
use Rattle.statement_resolution.specs.change.Resolution.{row_parts, written_row}
use Rattle.statement_resolution.proofs.change.inserted_rows.inserted_rows.Given as goal

abbrev pub invariant-loop-row : goal.invariant-loop-row
invariant-loop-row l = record {
  room : length l.rows ≤ vec_capacity l.given;
  count : vec_len l.given ≡ l.row-index;
  rows : map (written_row l.table l.insert.columns) (take l.row-index l.rows) ≡ map row_parts l.given.items;
}
