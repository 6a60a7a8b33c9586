use Rattle.std.proofs.Common.{◌≡◌, Option, None, Some, refl, sym, subst, arith}
use Rattle.period_core.specs.declared.row.PeriodRow.{PeriodRow}
use Rattle.coalesce_core.specs.Streaming.{Merges}
use Rattle.coalesce_core.proofs.Streams.{IsMerging-more, Merges-end, Merges-next, coalesce_steps-merges}
use Rattle.coalesce_core.proofs.merging.CoalesceIterator.next.Goals as goal

pub returns-then-not-joins-clause-steps : goal.returns-then-not-joins-clause-steps
returns-then-not-joins-clause-steps g c =
    let steps = g.I.Iterator.next_gives in
    let source = c.args.self.now.source in
    let first : PeriodRow = c.in_ok-row.row in
    let held : c.args.self.now.ahead ≡ Some first = sym c.in_ok-row.ensures.value in
    coalesce_steps-merges steps c.args.self.now (record { source = c.next.new.self; ahead = Some c.in-Some.next }) first c.loop-next.row held
    (Merges-next steps first source c.loop-next.row c.in-Some.next c.loop-next.self.source c.next.new.self c.loop-next.invariant.merging c.in-Some.ensures.steps
    (λ joined. let wrong = c.if-not-joins.ensures.1 joined in cc))

pub loop-next-preserved : goal.loop-next-preserved
loop-next-preserved g c =
    let source = c.args.self.now.source in
    let wide : PeriodRow = record { values = c.loop-next.row.values; period = c.extended-row.result } in
    let joined = c.if-not-joins.ensures.0 refl in
    let on = c.in-Some.ensures.goes.on c.loop-next.invariant.finite in
    let its = c.extended-row.ensures in
    record {
      merging = IsMerging-more g.I.Iterator.next_gives c.in_ok-row.row source c.loop-next.row c.in-Some.next wide c.loop-next.self.source c.next.new.self c.loop-next.invariant.merging c.in-Some.ensures.steps
          joined.0 joined.1 refl (sym its.start) its.keeps its.reaches its.tight;
      none = c.loop-next.invariant.none;
      can = on.0;
      finite = on.1;
      fewer = omega (arith, on.2, c.loop-next.invariant.fewer);
    }

pub returns-clause-steps : goal.returns-clause-steps
returns-clause-steps g c =
    let steps = g.I.Iterator.next_gives in
    let source = c.args.self.now.source in
    let first : PeriodRow = c.in_ok-row.row in
    let held : c.args.self.now.ahead ≡ Some first = sym c.in_ok-row.ensures.value in
    let none : c.loop-next.self.ahead ≡ None = c.loop-next.invariant.none in
    coalesce_steps-merges steps c.args.self.now (record { source = c.next.new.self; ahead = c.loop-next.self.ahead }) first c.loop-next.row held
    (subst (λ (ahead : Option PeriodRow). Merges steps first source c.loop-next.row ahead c.next.new.self) (sym none)
    (Merges-end steps first source c.loop-next.row c.loop-next.self.source c.next.new.self c.loop-next.invariant.merging c.in_default.ensures.steps))
