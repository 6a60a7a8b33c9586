use Rattle.std.specs.Prelude.{◌≡◌, map, take}
use Rattle.statement_resolution.proofs.lemmas.conditions.Numbers.{mapped}
use Rattle.statement_resolution.proofs.lemmas.conditions.Parts.{faults_in}
use Rattle.statement_resolution.specs.Faults.{either, faults_among}
use Rattle.statement_resolution.proofs.resolver.+resolve_condition.Given as goal

abbrev pub invariant-loop-part : goal.invariant-loop-part
invariant-loop-part g l = record {
  numbered : map (mapped (g.S.Resolver.placed l.resolver)) (take l.part-index l.part-items) ≡ map (mapped g.S.Resolver.parts) l.numbered.items;
  judged : l.found ≡ either l.fn.found (faults_among (faults_in (g.S.Resolver.faults l.resolver)) (take l.part-index l.part-items));
}
