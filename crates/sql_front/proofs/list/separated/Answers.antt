use Rattle.std.proofs.Common.{◌≡◌, ◌≤◌, ◌++◌, ◌∷◌, [], map, length, sym, ap, arith, codes, length-append}
use Rattle.std.proofs.lemmas.Result.{err_from_is_err_and}
use Rattle.std.proofs.lemmas.List.{map_push, length-map}
use Rattle.sql_statements.specs.Lexemes.{lexemes}
use Rattle.sql_front.specs.Language.{symbol}
use Rattle.sql_front.specs.reading.Reading.{separated_read}
use Rattle.sql_front.proofs.Loop.{goes_on, stops, fails}
use Rattle.sql_front.proofs.list.separated.Goals as goal

pub returns-in_err-next-clause-value : goal.returns-in_err-next-clause-value
returns-in_err-next-clause-value g c =
    let p = err_from_is_err_and c.from_residual-in_err-next.result c.from_residual-in_err-next.ensures.1 in
    rw (p.1, p.2) (fails (symbol (codes ",")) (g.T.Item.reader c.args.depth) c.in_err-next.field-0.0 (map g.T.Item.view c.items.items.items) (lexemes c.items.rest.now) (lexemes c.in_ok-expect.field-0.now) (separated_read (symbol (codes ",")) (g.T.Item.reader c.args.depth) (lexemes c.args.tokens.now)) (sym c.items-test.ensures) c.in_ok-expect.ensures.value c.in_err-next.ensures.value c.items.invariant.goes)

pub items-preserved : goal.items-preserved
items-preserved g c =
    let e : map g.T.Item.view c.push-in-items.new.self.items ≡ map g.T.Item.view c.items.items.items ++ g.T.Item.view c.in_ok-next.next ∷ [] = rw c.in_ok-push-2.ensures.items (map_push _ c.items.items.items c.in_ok-next.next) in
    let less : length (lexemes c.in_ok-next.after.now) ≤ length (lexemes c.in_ok-expect.field-0.now) = simp length-map c.in_ok-next.ensures.rest in
    record {
      goes = rw e (goes_on (symbol (codes ",")) (g.T.Item.reader c.args.depth) (map g.T.Item.view c.items.items.items) (lexemes c.items.rest.now) (lexemes c.in_ok-expect.field-0.now) (lexemes c.in_ok-next.after.now) (g.T.Item.view c.in_ok-next.next) (separated_read (symbol (codes ",")) (g.T.Item.reader c.args.depth) (lexemes c.args.tokens.now)) (sym c.items-test.ensures) c.in_ok-expect.ensures.value c.in_ok-next.ensures.value less c.items.invariant.goes);
      rest = omega (arith, c.in_ok-expect.ensures.rest, c.in_ok-next.ensures.rest);
      filled = omega (arith, ap length c.in_ok-push-2.ensures.items, length-append c.items.items.items (c.in_ok-next.next ∷ []));
    }

pub returns-clause-value : goal.returns-clause-value
returns-clause-value g c = stops (symbol (codes ",")) (g.T.Item.reader c.args.depth) (map g.T.Item.view c.items.items.items) (lexemes c.items.rest.now) (separated_read (symbol (codes ",")) (g.T.Item.reader c.args.depth) (lexemes c.args.tokens.now)) (sym c.items-test.ensures) c.items.invariant.goes
