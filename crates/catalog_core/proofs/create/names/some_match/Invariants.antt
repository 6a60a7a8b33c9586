use Rattle.std.specs.Prelude.{◌≡◌, take, false, ◌∷◌, []}
use Rattle.std.specs.List.{list_any}
use Rattle.sql_statements.specs.declared.create.PeriodElement.{PeriodElement}
use Rattle.sql_statements.specs.declared.create.SystemElement.{SystemElement}
use Rattle.sql_statements.specs.declared.create.KeyElement.{KeyElement}
use Rattle.sql_statements.specs.declared.create.ReferenceElement.{ReferenceElement}
use Rattle.catalog_core.specs.create.Creation.{some_own_match, some_parent_match}
use Rattle.catalog_core.proofs.create.names.some_match.Given as goal

abbrev pub invariant-loop-period : goal.invariant-loop-period
invariant-loop-period l = list_any (λ (period : PeriodElement). some_own_match l.create l.wanted (period.start ∷ period.end ∷ [])) (take l.period-index l.period-items) ≡ false

abbrev pub invariant-loop-system : goal.invariant-loop-system
invariant-loop-system l = list_any (λ (system : SystemElement). some_own_match l.create l.wanted (system.start ∷ system.end ∷ [])) (take l.system-index l.system-items) ≡ false

abbrev pub invariant-loop-key : goal.invariant-loop-key
invariant-loop-key l = list_any (λ (key : KeyElement). some_own_match l.create l.wanted key.columns) (take l.key-index l.key-items) ≡ false

abbrev pub invariant-loop-reference : goal.invariant-loop-reference
invariant-loop-reference l = list_any (λ (reference : ReferenceElement). some_own_match l.create l.wanted reference.columns) (take l.reference-index l.reference-items) ≡ false

abbrev pub invariant-loop-other : goal.invariant-loop-other
invariant-loop-other l = list_any (λ (other : ReferenceElement). some_parent_match l.catalog.tables l.wanted other) (take l.other-index l.other-items) ≡ false
