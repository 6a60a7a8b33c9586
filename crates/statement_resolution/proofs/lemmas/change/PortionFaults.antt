-- The faults of an UPDATE and a DELETE, as they are found part after part.
use Rattle.std.proofs.Common.{◌≡◌, ◌∙◌, List, Option, Some, ap, sym}
use Rattle.sql_statements.specs.Trees.{Condition, Delete, Update}
use Rattle.sql_statements.specs.declared.statement.Assignment.{Assignment}
use Rattle.sql_statements.specs.declared.statement.Compare.{Compare}
use Rattle.sql_statements.specs.declared.statement.Portion.{Portion}
use Rattle.catalog_core.specs.table.TableWords.{table_of_name}
use Rattle.statement_resolution.proofs.lemmas.judged.Refused.{against}
use Rattle.statement_resolution.specs.Faults.{either, faults_among, no_faults, where_faults}
use Rattle.statement_resolution.specs.TableFaults.{named_faults, own_compare_faults, portion_faults, rows_faults, set_faults, twice_fault}
use Rattle.statement_resolution.specs.change.PortionChanges.{delete_faults, update_faults}
use Rattle.statement_resolution.specs.declared.faults.Faults.{Faults}
use Rattle.catalog_core.specs.declared.table.TableDef.{TableDef}

module _ (tables : List TableDef) (t : TableDef) where
  rows_judged : (portion : Option Portion) (condition : Option (Condition Compare)) (none begun found : Faults) → none ≡ no_faults
      → begun ≡ either none (portion_faults t portion) → found ≡ either begun (where_faults (own_compare_faults t) condition) → found ≡ rows_faults t portion condition
  rows_judged portion condition none begun found clean of_portion of_where =
      of_where ∙ ap (λ (f : Faults). either f (where_faults (own_compare_faults t) condition)) (of_portion ∙ ap (λ (f : Faults). either f (portion_faults t portion)) clean)

  pub delete_judged : (d : Delete) (none begun found : Faults) → table_of_name tables d.table ≡ Some t → none ≡ no_faults
      → begun ≡ either none (portion_faults t d.portion) → found ≡ either begun (where_faults (own_compare_faults t) d.condition)
      → found ≡ named_faults (λ x. delete_faults x d) tables d.table
  delete_judged d none begun found there clean of_portion of_where =
      rows_judged d.portion d.condition none begun found clean of_portion of_where ∙ sym (against (λ x. delete_faults x d) tables d.table t there)

  pub update_judged : (u : Update) (sets : List Assignment) (none begun rows found twice whole : Faults) → table_of_name tables u.table ≡ Some t → sets ≡ u.assignments → none ≡ no_faults
      → begun ≡ either none (portion_faults t u.portion) → rows ≡ either begun (where_faults (own_compare_faults t) u.condition)
      → found ≡ either rows (faults_among (set_faults t) sets) → twice ≡ twice_fault sets → whole ≡ either found twice
      → whole ≡ either (named_faults (λ x. update_faults x u) tables u.table) (twice_fault u.assignments)
  unfolding update_faults
  update_judged u sets none begun rows found twice whole there same clean of_portion of_where of_sets of_twice next =
      let all : Faults = rows_faults t u.portion u.condition in
      let own : found ≡ update_faults t u =
      of_sets ∙ ap (λ (f : Faults). either f (faults_among (set_faults t) sets)) (rows_judged u.portion u.condition none begun rows clean of_portion of_where)
      ∙ ap (λ (ss : List Assignment). either all (faults_among (set_faults t) ss)) same in
      next ∙ ap (λ (f : Faults). either f twice) (own ∙ sym (against (λ x. update_faults x u) tables u.table t there))
      ∙ ap (either (named_faults (λ x. update_faults x u) tables u.table)) (of_twice ∙ ap twice_fault same)
