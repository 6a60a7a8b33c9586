use Rattle.std.proofs.Common.{subst, sym, ◌∙◌, ap}
use Rattle.std.specs.Str.{IsUtf8}
use Rattle.sql_statements.specs.Lexis.{first_lexeme, EndsBetween}
use Rattle.sql_statements.proofs.FrontEnds.{front_ends}
use Rattle.sql_statements.proofs.lexeme.first_lexeme.Goals as goal

pub returns-clause-ends : goal.returns-clause-ends
returns-clause-ends c =
    let utf8 : IsUtf8 c.args.text.now = subst IsUtf8 c.as_bytes.ensures.value c.as_bytes.ensures.utf8 in
    let same = c.first_of_bytes.ensures ∙ ap first_lexeme c.as_bytes.ensures.value in
    subst (λ p. EndsBetween p c.args.text.now) (sym same) (front_ends c.args.text.now utf8)
