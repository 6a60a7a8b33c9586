use Rattle.std.proofs.Common.{◌≡◌, sym, ◌∙◌, ap, subst, rules}
use Rattle.std.specs.Prelude.{IfOk}
use Rattle.std.specs.Str.{IsCharBoundary}
use Rattle.sql_statements.specs.Lexemes.{lexemes}
use Rattle.sql_statements.specs.Lexis.{byte_order_mark_size, TokensOf}
use Rattle.sql_front.proofs.ByteOrderMark.{mark_boundary}
use Rattle.sql_front.proofs.TokenLists.{ok_tokens_at}
use Rattle.sql_front.proofs.lexer.lex.Goals as goal

pub split_at-requires : goal.split_at-requires
split_at-requires c =
    let size : c.byte_order_mark_size-start.result ≡ byte_order_mark_size c.args.script.now = c.byte_order_mark_size-start.ensures ∙ ap byte_order_mark_size c.as_bytes.ensures.value in
    subst (IsCharBoundary c.args.script.now) (sym size) (mark_boundary c.args.script.now c.utf8.script)

pub returns-clause-slices : goal.returns-clause-slices
returns-clause-slices c =
    let tokens : IfOk c.lex_from.result (λ v. TokensOf c.args.script.now (lexemes v.items)) = search rules in
    ok_tokens_at c.args.script.now c.lex_from.result c.utf8.script tokens
