use Rattle.std.proofs.Common.{◌++◌, ◌∙◌, List, append_assoc, subst}
use Rattle.std.specs.List.Sorted.{IsPermutation}
use Rattle.std.proofs.lemmas.List.Sorted.{IsPermutation-append_comm, IsPermutation-append_left, IsPermutation-append_right, IsPermutation-trans}
use Rattle.period_core.specs.declared.version.VersionRow.{VersionRow}
use Rattle.period_keys.proofs.current_rows.CurrentRows.add_each.Goals as goal

-- two lists that are added one after the other, and of which all are made
added_both : (first second given before between after : List VersionRow) → IsPermutation between (first ++ before) → IsPermutation after (second ++ between) → IsPermutation (first ++ second) given
    → IsPermutation after (given ++ before)
added_both first second given before between after one two made =
    IsPermutation-trans after (second ++ between) (given ++ before) two
    (IsPermutation-trans (second ++ between) (second ++ (first ++ before)) (given ++ before)
    (IsPermutation-append_right second between (first ++ before) one)
    (subst (λ (xs : List VersionRow). IsPermutation xs (given ++ before)) (append_assoc second first before)
    (IsPermutation-append_left before (second ++ first) given (IsPermutation-trans (second ++ first) (first ++ second) given (IsPermutation-append_comm second first) made))))

pub returns : goal.returns
returns c = record {
  positions = c.in_ok-add_list-2.ensures.positions ∙ c.in_ok-add_list.ensures.positions;
  rows = added_both c.in_ok-first.first.items c.in_ok-first.second.items c.args.rows.items c.args.self.now.rows c.add_list.new.self.rows c.add_list-2.new.self.rows
      c.in_ok-add_list.ensures.rows c.in_ok-add_list-2.ensures.rows c.in_ok-first.ensures;
}
