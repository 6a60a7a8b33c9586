use Rattle.std.proofs.Common.{◌≡◌, ◌<◌, ◌++◌, ◌∷◌, [], codes, map, length, sym, arith}
use Rattle.std.proofs.lemmas.Result.{err_from_is_err_and}
use Rattle.std.proofs.lemmas.List.{map_push, length-map}
use Rattle.sql_statements.specs.Lexemes.{lexemes}
use Rattle.sql_front.specs.Language.{keyword}
use Rattle.sql_front.specs.reading.Reading.{begins, repetition_read}
use Rattle.sql_statements.specs.Plain.{plain_step}
use Rattle.sql_front.specs.reading.QueryReaders.{begins_set_operator, intersection_read, intersections_read, step_read, steps_read}
use Rattle.sql_front.proofs.Loop.{going_on, going_stops, going_fails, begins_some}
use Rattle.sql_front.proofs.queries.+queries.Goals as goal

pub read_steps-returns-in_err-next-clause-value : goal.read_steps-returns-in_err-next-clause-value
unfolding steps_read
read_steps-returns-in_err-next-clause-value t c =
    let p = err_from_is_err_and c.from_residual.result c.from_residual.ensures.1 in
    rw (p.1, p.2) (going_fails (begins begins_set_operator) (step_read c.args.depth) c.in_err-next.field-0.0 (map plain_step c.items.items.items) (lexemes c.items.rest.now) (repetition_read (begins begins_set_operator) (step_read c.args.depth) (lexemes c.args.tokens.now)) (sym c.items-test.ensures) (begins_some begins_set_operator (lexemes c.items.rest.now) (sym c.items-test.ensures)) c.in_err-next.ensures.value c.items.invariant.goes)

pub read_steps-items-preserved : goal.read_steps-items-preserved
read_steps-items-preserved t c =
    let e : map plain_step c.push.new.self.items ≡ map plain_step c.items.items.items ++ plain_step c.in_ok-next.next ∷ [] = rw c.in_ok-push.ensures.items (map_push _ c.items.items.items c.in_ok-next.next) in
    let less : length (lexemes c.in_ok-next.after.now) < length (lexemes c.items.rest.now) = simp length-map c.in_ok-next.ensures.rest in
    record {
      goes = rw e (going_on (begins begins_set_operator) (step_read c.args.depth) (map plain_step c.items.items.items) (lexemes c.items.rest.now) (lexemes c.in_ok-next.after.now) (plain_step c.in_ok-next.next) (repetition_read (begins begins_set_operator) (step_read c.args.depth) (lexemes c.args.tokens.now)) (sym c.items-test.ensures) c.in_ok-next.ensures.value less c.items.invariant.goes);
      rest = omega (arith, c.in_ok-next.ensures.rest, c.items.invariant.rest);
    }

pub read_steps-returns-clause-value : goal.read_steps-returns-clause-value
unfolding steps_read
read_steps-returns-clause-value t c =
    going_stops (begins begins_set_operator) (step_read c.args.depth) (map plain_step c.items.items.items) (lexemes c.items.rest.now) (repetition_read (begins begins_set_operator) (step_read c.args.depth) (lexemes c.args.tokens.now)) (sym c.items-test.ensures) c.items.invariant.goes

pub read_intersections-returns-in_err-next-clause-value : goal.read_intersections-returns-in_err-next-clause-value
unfolding intersections_read
read_intersections-returns-in_err-next-clause-value t c =
    let p = err_from_is_err_and c.from_residual.result c.from_residual.ensures.1 in
    rw (p.1, p.2) (going_fails (begins (keyword (codes "INTERSECT"))) (intersection_read c.args.depth) c.in_err-next.field-0.0 (map plain_step c.items.items.items) (lexemes c.items.rest.now) (repetition_read (begins (keyword (codes "INTERSECT"))) (intersection_read c.args.depth) (lexemes c.args.tokens.now)) (sym c.items-test.ensures) (begins_some (keyword (codes "INTERSECT")) (lexemes c.items.rest.now) (sym c.items-test.ensures)) c.in_err-next.ensures.value c.items.invariant.goes)

pub read_intersections-items-preserved : goal.read_intersections-items-preserved
read_intersections-items-preserved t c =
    let e : map plain_step c.push.new.self.items ≡ map plain_step c.items.items.items ++ plain_step c.in_ok-next.next ∷ [] = rw c.in_ok-push.ensures.items (map_push _ c.items.items.items c.in_ok-next.next) in
    let less : length (lexemes c.in_ok-next.after.now) < length (lexemes c.items.rest.now) = simp length-map c.in_ok-next.ensures.rest in
    record {
      goes = rw e (going_on (begins (keyword (codes "INTERSECT"))) (intersection_read c.args.depth) (map plain_step c.items.items.items) (lexemes c.items.rest.now) (lexemes c.in_ok-next.after.now) (plain_step c.in_ok-next.next) (repetition_read (begins (keyword (codes "INTERSECT"))) (intersection_read c.args.depth) (lexemes c.args.tokens.now)) (sym c.items-test.ensures) c.in_ok-next.ensures.value less c.items.invariant.goes);
      rest = omega (arith, c.in_ok-next.ensures.rest, c.items.invariant.rest);
    }

pub read_intersections-returns-clause-value : goal.read_intersections-returns-clause-value
unfolding intersections_read
read_intersections-returns-clause-value t c =
    going_stops (begins (keyword (codes "INTERSECT"))) (intersection_read c.args.depth) (map plain_step c.items.items.items) (lexemes c.items.rest.now) (repetition_read (begins (keyword (codes "INTERSECT"))) (intersection_read c.args.depth) (lexemes c.args.tokens.now)) (sym c.items-test.ensures) c.items.invariant.goes
