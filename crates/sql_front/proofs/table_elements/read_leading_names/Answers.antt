use Rattle.std.proofs.Common.{◌≡◌, ◌<◌, [], ◌∷◌, ◌++◌, length, length-append, refl, sym, ap, arith}
use Rattle.std.proofs.lemmas.Result.{err_from_is_err_and}
use Rattle.std.proofs.lemmas.List.{length-map}
use Rattle.sql_statements.specs.Lexemes.{lexemes}
use Rattle.sql_front.specs.Grammar.{comma}
use Rattle.sql_front.specs.reading.ElementReaders.{leading_names_read, one_more_name}
use Rattle.sql_front.proofs.Loop.{going_stops, no_fail}
use Rattle.sql_front.proofs.LeadingNames.{comma_first, leading_first, leading_fails_first, leading_on, leading_fails, next_name}
use Rattle.sql_front.proofs.table_elements.read_leading_names.Goals as goal

pub returns-in_err-next-clause-value : goal.returns-in_err-next-clause-value
returns-in_err-next-clause-value c =
    let p = err_from_is_err_and c.from_residual-in_err-next.result c.from_residual-in_err-next.ensures.1 in
    let rest = lexemes c.names.rest.now in
    let between = lexemes c.in_ok-expect.field-0.now in
    let whole = leading_names_read (lexemes c.args.tokens.now) in
    rw (p.1, p.2)
    (leading_fails c.in_err-next.field-0.0 c.names.names.items rest between whole (sym c.names-test.ensures)
    c.in_ok-expect.ensures.value c.in_err-next.ensures.value c.names.invariant.goes)

pub returns-in_err-first-clause-value : goal.returns-in_err-first-clause-value
returns-in_err-first-clause-value c =
    let p = err_from_is_err_and c.from_residual.result c.from_residual.ensures.1 in
    rw (p.1, p.2) (leading_fails_first c.in_err-first.field-0.0 (lexemes c.args.tokens.now) c.in_err-first.ensures.value)

pub names-init : goal.names-init
names-init c =
    let first = c.in_ok-first.first in
    let rest = lexemes c.in_ok-first.rest.now in
    let one : c.push.new.self.items ≡ first ∷ [] = rw (c.in_ok-push.ensures.items, c.new-names.ensures.items) refl in
    record {
      goes = rw one (leading_first (lexemes c.args.tokens.now) first rest c.in_ok-first.ensures.value);
      rest = c.in_ok-first.ensures.rest;
      filled = omega (arith, ap length one);
    }

-- if one more name follows, only memory can fail
pub returns-in_err-expect-clause-value : goal.returns-in_err-expect-clause-value
returns-in_err-expect-clause-value c =
    let p = err_from_is_err_and c.from_residual-in_err-expect.result c.from_residual-in_err-expect.ensures.1 in
    let rest = lexemes c.names.rest.now in
    let starts = comma_first rest (sym c.names-test.ensures) in
    let memory = no_fail comma c.in_err-expect.field-0.0 rest starts c.in_err-expect.ensures.value in
    rw (p.1, p.2, memory) tt

pub names-preserved : goal.names-preserved
names-preserved c =
    let rest = lexemes c.names.rest.now in
    let between = lexemes c.in_ok-expect.field-0.now in
    let after = lexemes c.in_ok-next.after.now in
    let next = c.in_ok-next.next in
    let more : c.push-in-names.new.self.items ≡ c.names.names.items ++ next ∷ [] = c.in_ok-push-2.ensures.items in
    let shorter : length c.in_ok-next.after.now < length c.names.rest.now =
    omega (arith, c.in_ok-expect.ensures.rest, c.in_ok-next.ensures.rest)
    in
    let less : length after < length rest = simp length-map shorter in
    let whole = leading_names_read (lexemes c.args.tokens.now) in
    record {
      goes = rw more
          (leading_on c.names.names.items rest between after next whole (sym c.names-test.ensures)
          c.in_ok-expect.ensures.value c.in_ok-next.ensures.value less c.names.invariant.goes);
      rest = omega (arith, c.in_ok-expect.ensures.rest, c.in_ok-next.ensures.rest);
      filled = omega (arith, ap length more, length-append c.names.names.items (next ∷ []));
    }

pub returns-clause-value : goal.returns-clause-value
returns-clause-value c =
    let whole = leading_names_read (lexemes c.args.tokens.now) in
    let rest = lexemes c.names.rest.now in
    rw c.from_vec.ensures
    (going_stops one_more_name next_name c.names.names.items rest whole (sym c.names-test.ensures) c.names.invariant.goes)
