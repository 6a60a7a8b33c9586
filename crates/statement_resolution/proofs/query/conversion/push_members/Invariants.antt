use Rattle.std.proofs.Common.{◌≡◌, ◌++◌, map, take}
use Rattle.statement_resolution.proofs.lemmas.conditions.Numbers.{mapped, placed_by}
use Rattle.statement_resolution.proofs.lemmas.conditions.Parts.{faults_in}
use Rattle.statement_resolution.specs.Faults.{either, faults_among}
use Rattle.statement_resolution.specs.query.Faults.{compare_faults, matches_among}
use Rattle.statement_resolution.specs.query.Places.{place_among}
use Rattle.statement_resolution.specs.query.Resolving.{conjunct_parts}
use Rattle.statement_resolution.proofs.query.conversion.push_members.Given as goal

abbrev pub invariant-loop-part : goal.invariant-loop-part
invariant-loop-part l = record {
  placed : map conjunct_parts l.conjuncts.items ≡ map conjunct_parts l.initial.conjuncts.items ++ map (mapped (placed_by (place_among l.scope.before.now l.scope.seen.now))) (take l.part-index l.others);
  faults : l.faults ≡ either l.initial.faults (faults_among (faults_in (compare_faults (matches_among l.scope.seen.now))) (take l.part-index l.others));
}
