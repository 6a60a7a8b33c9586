use Rattle.std.proofs.Common.{◌≡◌, ◌++◌, ◌∷◌, List, [], flat_map, map, take}
use Rattle.sql_statements.specs.Plain.{plain_join}
use Rattle.sql_statements.specs.declared.statement.TableReference.{TableReference}
use Rattle.statement_resolution.proofs.lemmas.query.ReferenceLists.{join_tables}
use Rattle.statement_resolution.proofs.lemmas.query.ScopeFaults.{join_faults}
use Rattle.statement_resolution.specs.Faults.{either}
use Rattle.statement_resolution.specs.query.Places.{scoped_members}
use Rattle.statement_resolution.specs.query.Resolving.{conjunct_parts}
use Rattle.statement_resolution.specs.query.Scopes.{chain_conditions, seen_columns}
use Rattle.statement_resolution.proofs.query.select_conversion.push_chain.Given as goal

abbrev pub invariant-loop-join : goal.invariant-loop-join
invariant-loop-join l = record {
  seen : l.columns.items ≡ l.fn.columns.items ++ seen_columns l.catalog.tables (l.chain.first ∷ join_tables (take l.join-index l.join-items));
  placed : (before : List TableReference) → l.fn.columns.items ≡ seen_columns l.catalog.tables before
      → map conjunct_parts l.conjuncts.items ≡ map conjunct_parts l.fn.conjuncts.items
      ++ flat_map (scoped_members l.catalog.tables) (chain_conditions before (l.chain.first ∷ []) (map plain_join (take l.join-index l.join-items)));
  faults : l.faults ≡ either l.fn.faults (join_faults l.catalog.tables l.chain.first (take l.join-index l.join-items));
}
