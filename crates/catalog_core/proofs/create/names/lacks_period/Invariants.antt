use Rattle.std.specs.Prelude.{◌≡◌, take, false}
use Rattle.std.specs.List.{list_any}
use Rattle.sql_statements.specs.declared.create.KeyElement.{KeyElement}
use Rattle.sql_statements.specs.declared.create.ReferenceElement.{ReferenceElement}
use Rattle.catalog_core.specs.create.Creation.{names_other_period, period_matches}
use Rattle.catalog_core.specs.table.Matches.{is_matching}
use Rattle.catalog_core.specs.declared.table.match_counts.MatchCount.TheVariants.{Zero}
use Rattle.catalog_core.proofs.create.names.lacks_period.Given as goal

abbrev pub invariant-loop-key : goal.invariant-loop-key
invariant-loop-key l = list_any (λ (key : KeyElement). is_matching Zero (period_matches l.create key.period)) (take l.key-index l.key-items) ≡ false

abbrev pub invariant-loop-reference : goal.invariant-loop-reference
invariant-loop-reference l = list_any (λ (reference : ReferenceElement). is_matching Zero (period_matches l.create reference.period)) (take l.reference-index l.reference-items) ≡ false

abbrev pub invariant-loop-other : goal.invariant-loop-other
invariant-loop-other l = list_any (λ (other : ReferenceElement). names_other_period l.catalog.tables other) (take l.other-index l.other-items) ≡ false
