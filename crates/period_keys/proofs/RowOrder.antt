-- The order by which rows of keys are sorted: after the sort no row comes after a later one.
use Rattle.std.proofs.Common.{◌≡◌, List, Ordering, arith, false, get_or, refl}
use Rattle.std.specs.List.{AllPairs}
use Rattle.std.specs.List.Sorted.{IsSorted}
use Rattle.std.specs.Ordering.{int_cmp, is_lt, ordering_then}
use Rattle.std.specs.declared.cmp.Ordering.TheVariants.{Equal, Greater, Less}
use Rattle.std.proofs.lemmas.List.Sorted.{ranks_by, sorted_far}
use Rattle.period_core.specs.Order.{row_cmp, values_cmp}
use Rattle.period_core.specs.declared.row.PeriodRow.{PeriodRow}
use Rattle.coalesce_core.specs.Coalesced.{NotAfter}
use Rattle.period_keys.specs.Repeats.{row_cmp_total}

coarser :
    (v s e : Ordering) → is_lt (ordering_then v (ordering_then s e)) ≡ false
    → is_lt (ordering_then v s) ≡ false
coarser Less s e h = h
coarser Equal Less e h = h
coarser Equal Equal e h = refl
coarser Equal Greater e h = refl
coarser Greater s e h = refl

pub sorted_rows : (rows : List PeriodRow) → IsSorted row_cmp rows → AllPairs NotAfter rows
sorted_rows rows up = λ i j d lt below.
    let a : PeriodRow = get_or rows i d in
    let b : PeriodRow = get_or rows j d in
    coarser (values_cmp b.values a.values) (int_cmp b.period.start a.period.start) (int_cmp b.period.end a.period.end)
    (sorted_far (λ x y. is_lt (row_cmp x y)) (ranks_by row_cmp_total (λ (r : PeriodRow). r)) rows up i j d (omega arith) below)
