use Rattle.std.proofs.Common.{◌≡◌, [], ◌∷◌, ◌++◌, List, map, sym, ◌∙◌, ap, rules}
use Rattle.std.proofs.lemmas.List.{map_push}
use Rattle.sql_statements.specs.Lexemes.{Lexeme, lexeme}
use Rattle.sql_statements.specs.Lexis.{TokensFrom}
use Rattle.sql_front.specs.TokenSpans.{span_of}
use Rattle.sql_front.proofs.LexingSteps.{one_more}
use Rattle.sql_front.proofs.token_spans.spans_from.Goals as goal

pub tokens-preserved : goal.tokens-preserved
tokens-preserved c =
    let (so_far, same, completes) = c.tokens.invariant.tokens in
    let token = lexeme c.in-Some.token in
    let step : (more : List Lexeme) → TokensFrom c.in-Some.token.end c.in-Some.after.now more → TokensFrom c.tokens.at c.tokens.rest.now (token ∷ more) = search rules in
    let pushed : c.push.new.self.items ≡ map span_of (so_far ++ token ∷ []) =
    c.in_ok-push.ensures.items ∙ ap (λ xs. xs ++ c.of.result ∷ []) same ∙ ap (λ s. map span_of so_far ++ s ∷ []) c.of.ensures ∙ sym (map_push span_of so_far token) in
    record {
      whole = search rules;
      text = search rules;
      tokens = (
        so_far ++ token ∷ [],
        pushed,
        one_more c.args.start c.args.text.now c.tokens.at c.in-Some.token.end c.tokens.rest.now c.in-Some.after.now so_far token completes step,
      );
      stops = search rules;
    }
