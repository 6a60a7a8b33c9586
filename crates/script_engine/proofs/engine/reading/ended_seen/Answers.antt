use Rattle.std.proofs.Common.{◌≡◌, reverse, subst, sym}
use Rattle.std.specs.List.{filter}
use Rattle.ended_versions.specs.Hashes.{may_have}
use Rattle.ended_versions.specs.Packed.{seen_through}
use Rattle.period_keys.proofs.PlanParts.{if_ok}
use Rattle.script_engine.proofs.Taken.{AreSeen, all_seen, key_seen}
use Rattle.script_engine.proofs.engine.reading.ended_seen.Goals as goal

pub returns-in-Some : goal.returns-in-Some
returns-in-Some c = λ versions hold.
    let access = c.args.access.now in
    let positions = c.in-Some.fixed.positions.now in
    let key = c.in-Some.fixed.values.now in
    if_ok c.seen_of_key.result (λ seen. seen.items ≡ reverse (filter (may_have positions key) (seen_through access.window versions))) _
    (λ seen is. subst (AreSeen access versions) (sym is) (key_seen access versions positions key c.in-Some.ensures))
    (c.seen_of_key.ensures versions hold)

pub returns-in-None : goal.returns-in-None
returns-in-None c = λ versions hold.
    let access = c.args.access.now in
    if_ok c.seen.result (λ seen. seen.items ≡ reverse (seen_through access.window versions)) _
    (λ seen is. subst (AreSeen access versions) (sym is) (all_seen access versions))
    (c.seen.ensures versions hold)
