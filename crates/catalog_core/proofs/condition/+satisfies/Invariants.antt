use Rattle.std.proofs.Common.{◌≡◌, false, true, take}
use Rattle.std.specs.List.{list_any, list_all}
use Rattle.catalog_core.proofs.lemmas.conditions.Truth.{truth}
use Rattle.catalog_core.proofs.condition.+satisfies.Given as goal

-- none of the parts so far holds
abbrev pub invariant-loop-part : goal.invariant-loop-part
invariant-loop-part g l = list_any (truth (g.S.Subject.passed l.subject)) (take l.part-index l.part-items) ≡ false

-- each of the parts so far holds
abbrev pub invariant-loop-part-2 : goal.invariant-loop-part-2
invariant-loop-part-2 g l = list_all (truth (g.S.Subject.passed l.subject)) (take l.part-index l.part-items) ≡ true
