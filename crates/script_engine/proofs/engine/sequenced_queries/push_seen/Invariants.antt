use Rattle.std.proofs.Common.{◌++◌, List, take}
use Rattle.catalog_core.specs.declared.query.resolved.QueryReference.{QueryReference}
use Rattle.history_model.specs.Histories.{History}
use Rattle.script_engine.specs.engine.Answering.{EachSees}
use Rattle.script_engine.specs.engine.Stored.{TablesRepresent}
use Rattle.script_engine.proofs.engine.sequenced_queries.push_seen.Given as goal

abbrev pub invariant-loop-reference : goal.invariant-loop-reference
invariant-loop-reference l =
    (history : History) → TablesRepresent history l.tables → (before : List QueryReference) → EachSees history before l.fn.lists.items →
    EachSees history (before ++ take l.reference-index l.references) l.lists.items
