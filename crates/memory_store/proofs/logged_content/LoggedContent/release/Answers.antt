use Rattle.std.proofs.Common.{◌∙◌, ap, sym}
use Rattle.std.proofs.Math.Logic.{∥∥₁_map}
use Rattle.memory_store.specs.ContentStates.{shorter, state_of}
use Rattle.memory_store.proofs.Logs.{released_base, released_marks, released_past, unmarked}
use Rattle.memory_store.proofs.logged_content.LoggedContent.release.Goals as goal

pub invariant_of-self : goal.invariant_of-self
invariant_of-self c =
    let s = c.args.self.now in
    record { valid = ∥∥₁_map s.valid (λ h. released_past s.log.items c.in-Some.at c.in-Some.ensures (state_of s.content) h) }

pub returns-in-Some-clause-marks : goal.returns-in-Some-clause-marks
returns-in-Some-clause-marks c = let s = c.args.self.now in released_marks s.log.items c.in-Some.at c.in-Some.ensures (state_of s.content)

pub returns-in-Some-clause-base : goal.returns-in-Some-clause-base
returns-in-Some-clause-base c = let s = c.args.self.now in released_base s.log.items c.in-Some.at c.in-Some.ensures (state_of s.content)

pub returns-in_default-clause-marks : goal.returns-in_default-clause-marks
returns-in_default-clause-marks c =
    let s = c.args.self.now in
    let none = unmarked s.log.items (state_of s.content) c.in_default.ensures in
    none ∙ sym (ap shorter none)
