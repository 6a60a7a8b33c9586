use Rattle.std.proofs.Common.{refl, subst, sym}
use Rattle.period_keys.specs.Rows.{AreGroupsOf, RowsByKey, rows_of_groups}
use Rattle.period_keys.proofs.Grouped.{Entries}
use Rattle.period_keys.proofs.current_rows.CurrentRows.by_key.Goals as goal

pub returns : goal.returns
returns c =
    let groups : Entries = c.self.inside.groups.entries in
    subst (λ (t : RowsByKey). AreGroupsOf t c.iter.result) c.self.view_is
    (subst (AreGroupsOf (record { positions = c.self.inside.positions; rows = rows_of_groups groups })) (sym c.iter.ensures.rest)
    (record { ascending = c.self.invariant.ordered; keyed = c.self.invariant.keyed; rows = refl }))
