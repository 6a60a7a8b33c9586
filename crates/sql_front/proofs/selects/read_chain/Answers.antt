use Rattle.std.proofs.Common.{◌≡◌, ◌<◌, ◌++◌, ◌∷◌, [], map, length, sym, arith}
use Rattle.std.proofs.lemmas.Result.{err_from_is_err_and}
use Rattle.std.proofs.lemmas.List.{map_push, length-map}
use Rattle.sql_statements.specs.Lexemes.{lexemes}
use Rattle.sql_front.specs.reading.Reading.{begins, repetition_read}
use Rattle.sql_front.specs.Builders.{chain_of}
use Rattle.sql_statements.specs.Plain.{plain_join}
use Rattle.sql_front.specs.reading.QueryReaders.{reference_read, begins_join, join_read, joins_read, chain_read}
use Rattle.sql_front.proofs.Loop.{going_on, going_stops, going_fails, begins_some}
use Rattle.sql_front.proofs.Headed.{headed_found, headed_fails}
use Rattle.sql_front.proofs.selects.read_chain.Goals as goal

pub returns-in_err-next-clause-value : goal.returns-in_err-next-clause-value
unfolding chain_read joins_read
returns-in_err-next-clause-value c =
    let p = err_from_is_err_and c.from_residual-in_err-next.result c.from_residual-in_err-next.ensures.1 in
    rw (p.1, p.2) (headed_fails chain_of reference_read (begins begins_join) (join_read c.args.depth) c.in_err-next.field-0.0 (lexemes c.args.tokens.now) (lexemes c.in_ok-first.rest.now) c.in_ok-first.first c.in_ok-first.ensures.value
    (going_fails (begins begins_join) (join_read c.args.depth) c.in_err-next.field-0.0 (map plain_join c.items.items.items) (lexemes c.items.rest.now) (repetition_read (begins begins_join) (join_read c.args.depth) (lexemes c.in_ok-first.rest.now)) (sym c.items-test.ensures) (begins_some begins_join (lexemes c.items.rest.now) (sym c.items-test.ensures)) c.in_err-next.ensures.value c.items.invariant.goes))

pub items-preserved : goal.items-preserved
items-preserved c =
    let e : map plain_join c.push.new.self.items ≡ map plain_join c.items.items.items ++ plain_join c.in_ok-next.next ∷ [] = rw c.in_ok-push.ensures.items (map_push _ c.items.items.items c.in_ok-next.next) in
    let less : length (lexemes c.in_ok-next.after.now) < length (lexemes c.items.rest.now) = simp length-map c.in_ok-next.ensures.rest in
    record {
      goes = rw e (going_on (begins begins_join) (join_read c.args.depth) (map plain_join c.items.items.items) (lexemes c.items.rest.now) (lexemes c.in_ok-next.after.now) (plain_join c.in_ok-next.next) (repetition_read (begins begins_join) (join_read c.args.depth) (lexemes c.in_ok-first.rest.now)) (sym c.items-test.ensures) c.in_ok-next.ensures.value less c.items.invariant.goes);
      rest = omega (arith, c.in_ok-next.ensures.rest, c.items.invariant.rest);
    }

pub returns-clause-value : goal.returns-clause-value
unfolding chain_read joins_read
returns-clause-value c =
    rw c.from_vec.ensures (headed_found chain_of reference_read (begins begins_join) (join_read c.args.depth) (lexemes c.args.tokens.now) (lexemes c.in_ok-first.rest.now) (lexemes c.items.rest.now) c.in_ok-first.first (map plain_join c.items.items.items) c.in_ok-first.ensures.value
    (going_stops (begins begins_join) (join_read c.args.depth) (map plain_join c.items.items.items) (lexemes c.items.rest.now) (repetition_read (begins begins_join) (join_read c.args.depth) (lexemes c.in_ok-first.rest.now)) (sym c.items-test.ensures) c.items.invariant.goes))
