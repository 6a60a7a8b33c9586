use Rattle.std.proofs.Common.{◌≡◌, of_z, rules, subst, sym, to_z, w64}
use Rattle.std.proofs.lemmas.Int.{to_z-of_z}
use Rattle.sqlite.specs.Held.{state}
use Rattle.version_tables.specs.Healthy.{IsNextNumber}
use Rattle.version_tables.proofs.Adds.{next_after_last}
use Rattle.version_tables.proofs.insertion.insert_next.Goals as goal

pub returns-in-Some-clause-made : goal.returns-in-Some-clause-made
returns-in-Some-clause-made g c clean begun = rw (to_z-of_z w64 c.args.from c.ranges.from, to_z-of_z w64 c.args.to c.ranges.to) at (c.insert_numbered.ensures.made clean begun)

pub returns-in-None-clause-made : goal.returns-in-None-clause-made
returns-in-None-clause-made g c clean begun = rw (to_z-of_z w64 c.args.from c.ranges.from, to_z-of_z w64 c.args.to c.ranges.to) at (c.insert_batch.ensures.made clean begun)

pub returns-in-Some-clause-why : goal.returns-in-Some-clause-why
returns-in-Some-clause-why g c clean begun healthy records was can =
    let why = rw (to_z-of_z w64 c.args.from c.ranges.from, to_z-of_z w64 c.args.to c.ranges.to) at c.insert_numbered.ensures.why in
    let now = (state g.S.Store c.args.transaction.now.conn.now).now in
    let same : to_z w64 (of_z w64 c.in-Some.first) ≡ c.in-Some.first = search rules in
    why clean begun healthy records was (subst (λ n. IsNextNumber n now) (sym same) (next_after_last c.in-Some.first now (rw c.in-Some.ensures.next at can.0)), can.1)

pub returns-in-None-clause-why : goal.returns-in-None-clause-why
returns-in-None-clause-why g c clean begun healthy records was can =
    let why = rw (to_z-of_z w64 c.args.from c.ranges.from, to_z-of_z w64 c.args.to c.ranges.to) at c.insert_batch.ensures.why in
    why clean begun healthy records was can.1

pub returns-in-Some-clause-room : goal.returns-in-Some-clause-room
returns-in-Some-clause-room g c clean begun left healthy next records was =
    let now = (state g.S.Store c.args.transaction.now.conn.now).now in
    let same : to_z w64 (of_z w64 c.in-Some.first) ≡ c.in-Some.first = search rules in
    c.insert_numbered.ensures.room clean begun left healthy (subst (λ n. IsNextNumber n now) (sym same) (next_after_last c.in-Some.first now (rw c.in-Some.ensures.next at next))) records was

pub returns-in-None-clause-room : goal.returns-in-None-clause-room
returns-in-None-clause-room g c clean begun left healthy next records was = c.insert_batch.ensures.room clean begun left healthy tt records was
