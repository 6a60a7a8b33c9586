use Rattle.std.proofs.Common.{◌≡◌, sym, ◌∙◌, ap, subst}
use Rattle.std.specs.Str.{IsCharBoundary}
use Rattle.std.proofs.lemmas.Result.{IfOk-weaker}
use Rattle.sql_statements.specs.Lexis.{byte_order_mark_size}
use Rattle.sql_front.proofs.ByteOrderMark.{mark_boundary}
use Rattle.sql_front.proofs.TokenSpanFacts.{places_lexed, places_within}
use Rattle.sql_front.proofs.token_spans.lex_spans.Goals as goal

pub split_at-requires : goal.split_at-requires
split_at-requires c =
    let size : c.byte_order_mark_size-start.result ≡ byte_order_mark_size c.args.script.now = c.byte_order_mark_size-start.ensures ∙ ap byte_order_mark_size c.as_bytes.ensures.value in
    subst (IsCharBoundary c.args.script.now) (sym size) (mark_boundary c.args.script.now c.utf8.script)

pub returns-clause-tokens : goal.returns-clause-tokens
returns-clause-tokens c =
    let size : c.byte_order_mark_size-start.result ≡ byte_order_mark_size c.args.script.now = c.byte_order_mark_size-start.ensures ∙ ap byte_order_mark_size c.as_bytes.ensures.value in
    IfOk-weaker c.spans_from.result _ _ (λ spans. places_lexed c.args.script.now c.byte_order_mark_size-start.result c.split_at.result.1.now spans.items c.utf8.script size c.split_at.ensures.back) c.spans_from.ensures.tokens

pub returns-clause-within : goal.returns-clause-within
returns-clause-within c =
    let size : c.byte_order_mark_size-start.result ≡ byte_order_mark_size c.args.script.now = c.byte_order_mark_size-start.ensures ∙ ap byte_order_mark_size c.as_bytes.ensures.value in
    IfOk-weaker c.spans_from.result _ _ (λ spans. places_within c.args.script.now c.byte_order_mark_size-start.result c.split_at.result.1.now spans.items c.utf8.script size c.split_at.ensures.back) c.spans_from.ensures.tokens
