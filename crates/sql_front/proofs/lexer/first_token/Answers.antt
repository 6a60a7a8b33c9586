use Rattle.std.proofs.Common.{◌≡◌, ◌<◌, ℕ, length, sym, subst, arith, rules}
use Rattle.sql_statements.specs.Lexis.{StopsFrom}
use Rattle.sql_front.proofs.LexingSteps.{blank_tokens, blank_stops, token_tokens, token_stops, stops_here, none_left}
use Rattle.sql_front.proofs.lexer.first_token.Goals as goal

pub fronts-preserved : goal.fronts-preserved
fronts-preserved c = record {
  whole = omega (arith, c.split_at.ensures.back_len, c.fronts.invariant.whole);
  behind = omega (arith, c.fronts.invariant.behind);
  text = search rules;
  tokens = blank_tokens c.args.start c.args.text.now c.fronts.at c.fronts.rest.now c.split_at.result.1.now c.in-Blank.size (sym c.in-Blank.ensures.value) c.split_at.ensures.back c.fronts.invariant.tokens;
  stops = blank_stops c.args.start c.args.text.now c.fronts.at c.fronts.rest.now c.split_at.result.1.now c.in-Blank.size (sym c.in-Blank.ensures.value) c.split_at.ensures.back c.fronts.invariant.stops;
}

pub returns-in-Lexeme-clause-token : goal.returns-in-Lexeme-clause-token
returns-in-Lexeme-clause-token c =
    token_tokens c.args.start c.args.text.now c.fronts.at c.fronts.rest.now c.split_at-in-Lexeme.result.1.now c.in-Lexeme.size c.in-Lexeme.kind c.split_at-in-Lexeme.result.0.now
    (sym c.in-Lexeme.ensures.value) c.split_at-in-Lexeme.ensures.back c.split_at-in-Lexeme.ensures.front c.fronts.invariant.tokens

pub returns-in-Lexeme-clause-more : goal.returns-in-Lexeme-clause-more
returns-in-Lexeme-clause-more c =
    token_stops c.args.start c.args.text.now c.fronts.at c.fronts.rest.now c.split_at-in-Lexeme.result.1.now c.in-Lexeme.size c.in-Lexeme.kind
    (sym c.in-Lexeme.ensures.value) c.split_at-in-Lexeme.ensures.back c.fronts.invariant.stops

pub returns-in-Bad-clause-bad : goal.returns-in-Bad-clause-bad
returns-in-Bad-clause-bad c offset e =
    let some : 0 < length c.fronts.rest.now = search rules in
    let at : c.fronts.at ≡ offset = cc in
    c.fronts.invariant.stops offset (subst (λ (o : ℕ). StopsFrom c.fronts.at c.fronts.rest.now o) at (stops_here c.fronts.at c.fronts.rest.now some (sym c.in-Bad.ensures.value)))

pub returns-clause-none : goal.returns-clause-none
returns-clause-none c =
    let none : length c.fronts.rest.now ≡ 0 = search rules in
    none_left c.args.start c.args.text.now c.fronts.at c.fronts.rest.now none c.fronts.invariant.tokens
