use Rattle.std.proofs.Common.{◌≡◌, [], flat_map, map, take}
use Rattle.sql_statements.specs.Plain.{plain_chain}
use Rattle.statement_resolution.proofs.lemmas.query.ReferenceLists.{front_tables}
use Rattle.statement_resolution.proofs.lemmas.query.ScopeFaults.{faults_on}
use Rattle.statement_resolution.specs.Faults.{either, faults_among}
use Rattle.statement_resolution.specs.query.Places.{scoped_members}
use Rattle.statement_resolution.specs.query.Resolving.{conjunct_parts}
use Rattle.statement_resolution.specs.query.Scopes.{on_conditions, seen_columns}
use Rattle.statement_resolution.proofs.query.select_conversion.convert_conjuncts.Given as goal

abbrev pub invariant-loop-chain : goal.invariant-loop-chain
invariant-loop-chain l = record {
  seen : l.columns.items ≡ seen_columns l.catalog.tables (front_tables l.chain-items l.chain-index);
  placed : map conjunct_parts l.conjuncts.items ≡ flat_map (scoped_members l.catalog.tables) (on_conditions [] (map plain_chain (take l.chain-index l.chain-items)));
  faults : l.faults ≡ either l.fn.faults (faults_among (faults_on l.catalog.tables) (map plain_chain (take l.chain-index l.chain-items)));
}
