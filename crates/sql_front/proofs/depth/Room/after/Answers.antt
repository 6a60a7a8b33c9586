use Rattle.std.proofs.Common.{◌||◌, ◌<◌, ap, sym, arith}
use Rattle.std.specs.Prelude.{is_none}
use Rattle.sql_statements.specs.Lexemes.{lexeme}
use Rattle.sql_front.proofs.DepthFacts.{room_closes, room_none, room_opens, room_passes, too_small}
use Rattle.sql_front.proofs.depth.Room.after.Goals as goal

pub returns-then-self-eq0-clause-tokens : goal.returns-then-self-eq0-clause-tokens
returns-then-self-eq0-clause-tokens c = λ rest.
    too_small c.args.self.is_exceeded _ (room_none c.args.self.left (lexeme c.args.token.now) rest c.if-self-eq0.true c.if-is_terminal.ensures)

pub returns-then-is_terminal-clause-tokens : goal.returns-then-is_terminal-clause-tokens
returns-then-is_terminal-clause-tokens c = λ rest.
    let some : 0 < c.args.self.left = omega (arith, c.if-self-eq0.false) in
    ap (λ room. c.args.self.is_exceeded || is_none room) (sym (room_opens c.args.self.left (lexeme c.args.token.now) rest some c.if-is_terminal.ensures))

pub returns-then-is_terminal-2-clause-tokens : goal.returns-then-is_terminal-2-clause-tokens
returns-then-is_terminal-2-clause-tokens c = λ rest.
    ap (λ room. c.args.self.is_exceeded || is_none room) (sym (room_closes c.args.self.left (lexeme c.args.token.now) rest c.if-is_terminal.ensures c.if-is_terminal-2.ensures))

pub returns-clause-tokens : goal.returns-clause-tokens
returns-clause-tokens c = λ rest.
    ap (λ room. c.args.self.is_exceeded || is_none room) (sym (room_passes c.args.self.left (lexeme c.args.token.now) rest c.if-is_terminal.ensures c.if-is_terminal-2.ensures))
