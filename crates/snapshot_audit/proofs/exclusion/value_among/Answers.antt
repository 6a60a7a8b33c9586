use Rattle.std.proofs.Common.{◌-◌, length, refl, arith}
use Rattle.snapshot_audit.proofs.Ruling.{in_front, in_next}
use Rattle.snapshot_audit.proofs.exclusion.value_among.Goals as goal

pub returns-then-position-front : goal.returns-then-position-front
returns-then-position-front c = λ rest.
    in_front c.args.front.now c.args.next.now rest c.args.position c.index-front-position.result (omega arith) c.index-front-position.is

pub returns-then-later-next : goal.returns-then-later-next
returns-then-later-next c = λ rest.
    in_next c.args.front.now c.args.next.now rest c.args.position (c.args.position - length c.args.front.now) c.index-next-later.result
    c.if-position-front.false refl c.if-later-next.true c.index-next-later.is
