use Rattle.std.proofs.Common.{◌≡◌, ◌++◌, ◌∷◌, ◌∙◌, List, [], ap, arith, length, length-append}
use Rattle.period_core.specs.declared.version.VersionRow.{VersionRow}
use Rattle.version_store.specs.Contents.{rows_of_table}
use Rattle.version_store.proofs.ReadRows.{no_lists, none_more}
use Rattle.version_store.proofs.row_checks.no_rows.Goals as goal

pub lists-init : goal.lists-init
lists-init c = record {
  count = ap length c.new-lists.ensures.items;
  none = λ number. ap (λ (l : List (List VersionRow)). rows_of_table l number) c.new-lists.ensures.items ∙ no_lists number;
}

pub lists-preserved : goal.lists-preserved
lists-preserved c =
    let was : List (List VersionRow) = c.lists.lists.items in
    let more : c.push.new.self.items ≡ was ++ [] ∷ [] = c.in_ok-push.ensures.items ∙ ap (λ (l : List VersionRow). was ++ l ∷ []) c.empty.ensures in
    record {
      count = (let long = c.lists.invariant.count in let size : length c.push.new.self.items ≡ length (was ++ [] ∷ []) = ap length more in omega (arith, long, size, length-append was ([] ∷ [])));
      none = λ number. ap (λ (l : List (List VersionRow)). rows_of_table l number) more ∙ none_more was c.lists.invariant.none number;
    }
