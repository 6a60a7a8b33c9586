use Rattle.std.proofs.Common.{◌≡◌, ◌∙◌, ap, subst, sym}
use Rattle.std.specs.Ordering.{is_lt}
use Rattle.std.proofs.lemmas.List.Sorted.{answers_always}
use Rattle.std.proofs.lemmas.Result.{IfOk-weaker}
use Rattle.coalesce_core.specs.Coalesced.{IsOrdered}
use Rattle.coalesce_core.proofs.Order.{answer_ranks, sorted_rows}
use Rattle.coalesce_core.proofs.sorting.in_order.Goals as goal

pub returns-in_default-clause-ordered : goal.returns-in_default-clause-ordered
returns-in_default-clause-ordered c =
    sorted_rows c.sort_by.new.self.items (c.in_ok-sort_by.ensures.sorted _ answer_ranks (answers_always _ _ _ (λ f a r f' k. ap is_lt k.met)))

pub returns-clause-ordered : goal.returns-clause-ordered
returns-clause-ordered c =
    let up : IsOrdered c.sort_by-2.new.self.items = sorted_rows c.sort_by-2.new.self.items (c.in_ok-sort_by-2.ensures.sorted _ answer_ranks (answers_always _ _ _ (λ f a r f' k. ap is_lt k.met))) in
    IfOk-weaker c.rows_of.result (λ rows. rows.items ≡ c.as_slice-2.result.now) (λ rows. IsOrdered rows.items)
    (λ rows same. subst IsOrdered (sym (same ∙ c.as_slice-2.ensures.value)) up) c.rows_of.ensures
