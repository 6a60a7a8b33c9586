use Rattle.std.proofs.Common.{◌+◌, ◌*◌, ◌≤◌, codes, map, length}
use Rattle.sql_statements.specs.Lexemes.{lexemes}
use Rattle.sql_front.specs.Language.{keyword}
use Rattle.sql_front.specs.reading.Reading.{begins, repetition_read}
use Rattle.sql_statements.specs.Plain.{plain_step}
use Rattle.sql_front.specs.reading.QueryReaders.{begins_set_operator, intersection_read, step_read}
use Rattle.sql_front.proofs.Loop.{Going}
use Rattle.sql_front.proofs.queries.+queries.Given as goal

abbrev pub decreases-read_query : goal.decreases-read_query
decreases-read_query l = 8 * l.depth + 7

abbrev pub decreases-read_steps : goal.decreases-read_steps
decreases-read_steps l = 8 * l.depth + 6

abbrev pub decreases-read_step : goal.decreases-read_step
decreases-read_step l = 8 * l.depth + 5

abbrev pub decreases-read_term : goal.decreases-read_term
decreases-read_term l = 8 * l.depth + 4

abbrev pub decreases-read_intersections : goal.decreases-read_intersections
decreases-read_intersections l = 8 * l.depth + 3

abbrev pub decreases-read_intersection : goal.decreases-read_intersection
decreases-read_intersection l = 8 * l.depth + 2

abbrev pub decreases-read_primary : goal.decreases-read_primary
decreases-read_primary l = 8 * l.depth + 1

abbrev pub decreases-read_inner_query : goal.decreases-read_inner_query
decreases-read_inner_query l = 8 * l.depth

abbrev pub invariant-read_steps-items : goal.invariant-read_steps-items
invariant-read_steps-items l = record {
  goes : Going (begins begins_set_operator) (step_read l.depth) (map plain_step l.items.items) (lexemes l.rest) (repetition_read (begins begins_set_operator) (step_read l.depth) (lexemes l.tokens));
  rest : length l.rest ≤ length l.tokens;
}

abbrev pub decreases-read_steps-items : goal.decreases-read_steps-items
decreases-read_steps-items l = length l.rest

abbrev pub invariant-read_intersections-items : goal.invariant-read_intersections-items
invariant-read_intersections-items l = record {
  goes : Going (begins (keyword (codes "INTERSECT"))) (intersection_read l.depth) (map plain_step l.items.items) (lexemes l.rest) (repetition_read (begins (keyword (codes "INTERSECT"))) (intersection_read l.depth) (lexemes l.tokens));
  rest : length l.rest ≤ length l.tokens;
}

abbrev pub decreases-read_intersections-items : goal.decreases-read_intersections-items
decreases-read_intersections-items l = length l.rest
