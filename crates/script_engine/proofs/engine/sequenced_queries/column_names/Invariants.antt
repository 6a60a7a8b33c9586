use Rattle.std.proofs.Common.{◌≡◌, map, take}
use Rattle.catalog_core.specs.declared.query.AnswerColumn.{AnswerColumn}
use Rattle.script_engine.proofs.engine.sequenced_queries.column_names.Given as goal

abbrev pub invariant-loop-item : goal.invariant-loop-item
invariant-loop-item l = l.names.items ≡ map (λ (item : AnswerColumn). item.name) (take l.item-index l.items)
