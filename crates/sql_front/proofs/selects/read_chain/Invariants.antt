use Rattle.std.proofs.Common.{◌≤◌, map, length}
use Rattle.sql_statements.specs.Lexemes.{lexemes}
use Rattle.sql_front.specs.reading.Reading.{begins, repetition_read}
use Rattle.sql_statements.specs.Plain.{plain_join}
use Rattle.sql_front.specs.reading.QueryReaders.{begins_join, join_read}
use Rattle.sql_front.proofs.Loop.{Going}
use Rattle.sql_front.proofs.selects.read_chain.Given as goal

abbrev pub invariant-items : goal.invariant-items
invariant-items l = record {
  goes : Going (begins begins_join) (join_read l.depth) (map plain_join l.items.items) (lexemes l.rest) (repetition_read (begins begins_join) (join_read l.depth) (lexemes l.initial.rest));
  rest : length l.rest ≤ length l.initial.rest;
}

abbrev pub decreases-items : goal.decreases-items
decreases-items l = length l.rest
