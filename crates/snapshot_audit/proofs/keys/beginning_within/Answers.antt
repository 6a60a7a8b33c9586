use Rattle.std.proofs.Common.{◌<◌, ◌≤◌, ℕ, arith}
use Rattle.snapshot_audit.proofs.KeyOrder.{contains_between, entry_between}
use Rattle.snapshot_audit.proofs.keys.beginning_within.Goals as goal

pub returns-then-end-first-clause-all : goal.returns-then-end-first-clause-all
returns-then-end-first-clause-all c = λ other (k, inside, at) within.
    let first : ℕ = c.count_before-first.result in
    let end : ℕ = c.count_before-end.result in
    let place = entry_between c.args.entry.now c.args.entries.now first end c.count_before-first.ensures.before c.count_before-end.ensures.before other within k inside at in
    let from : first ≤ k = place.0 in
    let to : k < end = place.1 in
    absurd (omega arith)

pub returns-clause-all : goal.returns-clause-all
returns-clause-all c = λ other (k, inside, at) within.
    let first : ℕ = c.count_before-first.result in
    let end : ℕ = c.count_before-end.result in
    let place = entry_between c.args.entry.now c.args.entries.now first end c.count_before-first.ensures.before c.count_before-end.ensures.before other within k inside at in
    contains_between c.args.entries.now first end other k place.0 place.1 inside at
