use Rattle.sql_front.proofs.PiecesFacts.{Cut}
use Rattle.sql_front.proofs.pieces.cut_all.Given as goal

abbrev pub invariant-tokens : goal.invariant-tokens
invariant-tokens g l = Cut (g.T.Lexed.lexeme l.script) l.tokens l.start l.i l.spans.items
