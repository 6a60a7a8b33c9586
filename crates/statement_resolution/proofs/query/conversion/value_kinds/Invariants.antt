use Rattle.std.proofs.Common.{◌≡◌, ℕ}
use Rattle.catalog_core.proofs.lemmas.table.Numbered.{kept_before}
use Rattle.catalog_core.specs.table.Kinds.{kind_of_column}
use Rattle.catalog_core.specs.table.TableWords.{is_value_column}
use Rattle.catalog_core.specs.declared.table.Column.{Column}
use Rattle.statement_resolution.proofs.query.conversion.value_kinds.Given as goal

abbrev pub invariant-loop-i : goal.invariant-loop-i
invariant-loop-i l = l.kinds.items ≡ kept_before (is_value_column l.table) (λ (c : ℕ × Column). kind_of_column c.1.kind) l.columns l.i
