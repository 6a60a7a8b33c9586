use Rattle.std.proofs.Common.{◌≡◌, ◌≤◌, ◌++◌, ◌∷◌, [], map, length, sym, refl, arith, codes}
use Rattle.std.proofs.lemmas.Result.{err_from_is_err_and}
use Rattle.std.proofs.lemmas.List.{map_push, length-map}
use Rattle.sql_front.specs.Language.{keyword}
use Rattle.sql_statements.specs.Lexemes.{lexemes}
use Rattle.sql_front.specs.Builders.{all_of, any_of}
use Rattle.sql_statements.specs.Plain.{plain_condition}
use Rattle.sql_front.specs.reading.Reading.{separated_read}
use Rattle.sql_front.specs.reading.ConditionReaders.{factor_read, conjunction_read, condition_read}
use Rattle.period_core.proofs.OptionFacts.{some_is}
use Rattle.sql_front.proofs.Loop.{goes_first, goes_on, stops, fails, mapped_fails}
use Rattle.sql_front.proofs.conditions.+conditions.Goals as goal

pub read_condition-others-init : goal.read_condition-others-init
read_condition-others-init g t c =
    record {
      goes =
          rw c.new-others.ensures.items
          (goes_first (keyword (codes "OR")) (conjunction_read g.T.Test.reader c.args.depth)
          (lexemes c.args.tokens.now) (plain_condition c.in_ok-first.first)
          (lexemes c.in_ok-first.rest.now) c.in_ok-first.ensures.value);
      rest = c.in_ok-first.ensures.rest;
      first = refl;
    }

pub read_condition-returns-in_err-next-clause-value : goal.read_condition-returns-in_err-next-clause-value
unfolding condition_read
read_condition-returns-in_err-next-clause-value g t c =
    let p = err_from_is_err_and c.from_residual-in_err-next.result c.from_residual-in_err-next.ensures.1 in
    rw (p.1, p.2) (mapped_fails any_of c.in_err-next.field-0.0
    (separated_read (keyword (codes "OR")) (conjunction_read g.T.Test.reader c.args.depth) (lexemes c.args.tokens.now))
    (fails (keyword (codes "OR")) (conjunction_read g.T.Test.reader c.args.depth) c.in_err-next.field-0.0
    (plain_condition c.in_ok-first.first ∷ map plain_condition c.others.others.items)
    (lexemes c.others.rest.now) (lexemes c.in_ok-expect.field-0.now)
    (separated_read (keyword (codes "OR")) (conjunction_read g.T.Test.reader c.args.depth) (lexemes c.args.tokens.now))
    (sym c.others-test.ensures) c.in_ok-expect.ensures.value c.in_err-next.ensures.value c.others.invariant.goes))

pub read_condition-others-preserved : goal.read_condition-others-preserved
read_condition-others-preserved g t c =
    let e : map plain_condition c.push.new.self.items ≡ map plain_condition c.others.others.items ++ plain_condition c.in_ok-next.next ∷ [] =
    rw c.in_ok-push.ensures.items (map_push _ c.others.others.items c.in_ok-next.next) in
    let less : length (lexemes c.in_ok-next.after.now) ≤ length (lexemes c.in_ok-expect.field-0.now) =
    simp length-map c.in_ok-next.ensures.rest in
    record {
      goes =
          rw e (goes_on (keyword (codes "OR")) (conjunction_read g.T.Test.reader c.args.depth)
          (plain_condition c.in_ok-first.first ∷ map plain_condition c.others.others.items)
          (lexemes c.others.rest.now) (lexemes c.in_ok-expect.field-0.now)
          (lexemes c.in_ok-next.after.now) (plain_condition c.in_ok-next.next)
          (separated_read (keyword (codes "OR")) (conjunction_read g.T.Test.reader c.args.depth) (lexemes c.args.tokens.now))
          (sym c.others-test.ensures) c.in_ok-expect.ensures.value c.in_ok-next.ensures.value less c.others.invariant.goes);
      rest = omega (arith, c.in_ok-expect.ensures.rest, c.in_ok-next.ensures.rest);
      first = c.others.invariant.first;
    }

pub read_condition-returns-clause-value : goal.read_condition-returns-clause-value
unfolding condition_read
read_condition-returns-clause-value g t c =
    let all_read =
    stops (keyword (codes "OR")) (conjunction_read g.T.Test.reader c.args.depth)
    (plain_condition c.in_ok-first.first ∷ map plain_condition c.others.others.items)
    (lexemes c.others.rest.now)
    (separated_read (keyword (codes "OR")) (conjunction_read g.T.Test.reader c.args.depth) (lexemes c.args.tokens.now))
    (sym c.others-test.ensures) c.others.invariant.goes in
    rw (all_read, sym (some_is _ _ c.in_ok-or_chain.ensures), c.others.invariant.first) refl

pub read_conjunction-others-init : goal.read_conjunction-others-init
read_conjunction-others-init g t c =
    record {
      goes =
          rw c.new-others.ensures.items
          (goes_first (keyword (codes "AND")) (factor_read g.T.Test.reader c.args.depth)
          (lexemes c.args.tokens.now) (plain_condition c.in_ok-first.first)
          (lexemes c.in_ok-first.rest.now) c.in_ok-first.ensures.value);
      rest = c.in_ok-first.ensures.rest;
      first = refl;
    }

pub read_conjunction-returns-in_err-next-clause-value : goal.read_conjunction-returns-in_err-next-clause-value
unfolding conjunction_read
read_conjunction-returns-in_err-next-clause-value g t c =
    let p = err_from_is_err_and c.from_residual-in_err-next.result c.from_residual-in_err-next.ensures.1 in
    rw (p.1, p.2) (mapped_fails all_of c.in_err-next.field-0.0
    (separated_read (keyword (codes "AND")) (factor_read g.T.Test.reader c.args.depth) (lexemes c.args.tokens.now))
    (fails (keyword (codes "AND")) (factor_read g.T.Test.reader c.args.depth) c.in_err-next.field-0.0
    (plain_condition c.in_ok-first.first ∷ map plain_condition c.others.others.items)
    (lexemes c.others.rest.now) (lexemes c.in_ok-expect.field-0.now)
    (separated_read (keyword (codes "AND")) (factor_read g.T.Test.reader c.args.depth) (lexemes c.args.tokens.now))
    (sym c.others-test.ensures) c.in_ok-expect.ensures.value c.in_err-next.ensures.value c.others.invariant.goes))

pub read_conjunction-others-preserved : goal.read_conjunction-others-preserved
read_conjunction-others-preserved g t c =
    let e : map plain_condition c.push.new.self.items ≡ map plain_condition c.others.others.items ++ plain_condition c.in_ok-next.next ∷ [] =
    rw c.in_ok-push.ensures.items (map_push _ c.others.others.items c.in_ok-next.next) in
    let less : length (lexemes c.in_ok-next.after.now) ≤ length (lexemes c.in_ok-expect.field-0.now) =
    simp length-map c.in_ok-next.ensures.rest in
    record {
      goes =
          rw e (goes_on (keyword (codes "AND")) (factor_read g.T.Test.reader c.args.depth)
          (plain_condition c.in_ok-first.first ∷ map plain_condition c.others.others.items)
          (lexemes c.others.rest.now) (lexemes c.in_ok-expect.field-0.now)
          (lexemes c.in_ok-next.after.now) (plain_condition c.in_ok-next.next)
          (separated_read (keyword (codes "AND")) (factor_read g.T.Test.reader c.args.depth) (lexemes c.args.tokens.now))
          (sym c.others-test.ensures) c.in_ok-expect.ensures.value c.in_ok-next.ensures.value less c.others.invariant.goes);
      rest = omega (arith, c.in_ok-expect.ensures.rest, c.in_ok-next.ensures.rest);
      first = c.others.invariant.first;
    }

pub read_conjunction-returns-clause-value : goal.read_conjunction-returns-clause-value
unfolding conjunction_read
read_conjunction-returns-clause-value g t c =
    let all_read =
    stops (keyword (codes "AND")) (factor_read g.T.Test.reader c.args.depth)
    (plain_condition c.in_ok-first.first ∷ map plain_condition c.others.others.items)
    (lexemes c.others.rest.now)
    (separated_read (keyword (codes "AND")) (factor_read g.T.Test.reader c.args.depth) (lexemes c.args.tokens.now))
    (sym c.others-test.ensures) c.others.invariant.goes in
    rw (all_read, sym (some_is _ _ c.in_ok-and_chain.ensures), c.others.invariant.first) refl
