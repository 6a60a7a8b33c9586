use Rattle.std.proofs.Common.{◌≡◌, ◌+◌, ◌∙◌, ℕ, Bool, true, false, Option, Some, ap, arith, bytes_eq, cond, count_by, get_or, nat_cmp, refl, sym, take, take_all, unwrap_or}
use Rattle.std.specs.Borrow.{Bor}
use Rattle.std.specs.BTreeMap.{get_by}
use Rattle.std.specs.Cmp.Lexicographic.{slice_cmp}
use Rattle.std.proofs.lemmas.Bool.{false_from_ne_true, false≢true}
use Rattle.std.proofs.lemmas.Grind.{common_steps}
use Rattle.std.proofs.lemmas.List.Sums.{count_by-le-length, count_by_more_no, count_by_more_yes}
use Rattle.std.proofs.lemmas.Map.Text.{btree_map_updates_str}
use Rattle.std.proofs.lemmas.Slice.Eq.{bytes_eq-Decides}
use Rattle.sql_statements.specs.declared.create.PeriodElement.{PeriodElement}
use Rattle.catalog_core.specs.create.Creation.{period_matches}
use Rattle.catalog_core.specs.table.Naming.{Name}
use Rattle.catalog_core.specs.create.PeriodCounts.{count_of}
use Rattle.catalog_core.proofs.create.period_counts.period_counts.Goals as goal

abbrev named : Name → PeriodElement → Bool
named name x = bytes_eq name x.name

pub overflow_add-count : goal.overflow_add-count
overflow_add-count c = grind (arith, common_steps, count_by-le-length, c.loop-period.invariant c.period-item.result.name)

pub loop-period-preserved : goal.loop-period-preserved
loop-period-preserved c = λ name.
    let x = c.period-item.result in
    let items = c.as_slice-period-items.result.now in
    let i = c.loop-period.period-index in
    let old : Option ℕ = get_by (λ (k : Bor Name). slice_cmp nat_cmp name k.now) c.loop-period.counts in
    let count : ℕ = c.count_of-count.result in
    let text : c.as_str.result.now ≡ x.name = c.as_str.ensures ∙ c.as_text.ensures.value in
    let put = btree_map_updates_str c.as_str.result.now c.loop-period.counts c.insert.new.self (Some (count + 1)) c.in_ok-insert.ensures.updates name in
    let updated : count_of c.insert.new.self name ≡ unwrap_or (cond (bytes_eq x.name name) (Some (count + 1)) old) 0 = ap (λ (o : Option ℕ). unwrap_or o 0) (rw text at put) in
    updated ∙ (elim (bytes_eq x.name name) as (λ b. bytes_eq x.name name ≡ b → unwrap_or (cond b (Some (count + 1)) old) 0 ≡ count_by (named name) (take (i + 1) items)) [
      | true ↦ (λ e.
          let same : x.name ≡ name = (bytes_eq-Decides x.name name).0 e in
          let counted : count ≡ count_by (named name) (take i items) = c.count_of-count.ensures ∙ ap (count_of c.loop-period.counts) same ∙ c.loop-period.invariant name in
          let one : named name (get_or items i x) ≡ true = ap (named name) (sym c.period-item.is) ∙ ap (bytes_eq name) same ∙ (bytes_eq-Decides name name).1 refl in
          ap (λ n. n + 1) counted ∙ sym (count_by_more_yes (named name) items i x c.loop-period-test.true one))
      | false ↦ (λ e.
          let other : bytes_eq name x.name ≡ false = false_from_ne_true (bytes_eq name x.name) (λ is. false≢true (sym e ∙ (bytes_eq-Decides x.name name).1 (sym ((bytes_eq-Decides name x.name).0 is)))) in
          c.loop-period.invariant name ∙ sym (count_by_more_no (named name) items i x c.loop-period-test.true (ap (named name) (sym c.period-item.is) ∙ other)))
    ]) refl

pub returns : goal.returns
unfolding period_matches
returns c = λ name. c.loop-period.invariant name ∙ ap (count_by (named name)) (take_all c.loop-period.period-index c.as_slice-period-items.result.now c.loop-period-test.false ∙ c.as_slice-period-items.ensures)
