use Rattle.std.proofs.Common.{◌++◌, ◌∙◌, ℤ, Err, List, ap, map, subst, subst₂, sym}
use Rattle.std.proofs.lemmas.Result.{err_from_is_err_and}
use Rattle.std.specs.List.Sorted.{IsPermutation}
use Rattle.period_core.specs.declared.row.PeriodRow.{PeriodRow}
use Rattle.period_core.specs.declared.version.VersionRow.{VersionRow}
use Rattle.period_keys.specs.TableRows.{HasTableRows, TableRows}
use Rattle.period_keys.specs.Versions.{begun}
use Rattle.script_engine.proofs.Indexed.{parted_rows, taken_after}
use Rattle.script_engine.proofs.Unmade.{unmade}
use Rattle.script_engine.proofs.engine.changed.apply_plan.Goals as goal

pub returns-in_err-add_all-clause-stored : goal.returns-in_err-add_all-clause-stored
returns-in_err-add_all-clause-stored g c =
    let refused = c.from_residual-in_err-add_all.result in
    let p = err_from_is_err_and refused c.from_residual-in_err-add_all.ensures.1 in
    unmade g.S.Store c.args.store.now refused c.args.number c.args.plan.now (p.1 ∙ ap Err p.2)

pub take_all-requires-clause-there : goal.take_all-requires-clause-there
take_all-requires-clause-there g c =
    let begins : List VersionRow = map (begun c.clock-moment.result) c.as_slice-added.result.now in
    let (stay, split) = c.requires.split in (
      begins ++ stay,
      subst (λ (ended : List VersionRow). IsPermutation c.add_all.new.self.rows (ended ++ (begins ++ stay))) (sym c.as_slice-ended.ensures)
          (parted_rows c.args.table.now c.add_all.new.self begins c.args.plan.now.ended stay c.in_ok-add_all.ensures.ok split),
    )

pub returns-in-Ok-clause-made : goal.returns-in-Ok-clause-made
returns-in-Ok-clause-made g c = λ stay split.
    let old : TableRows = c.args.table.now in
    let new : TableRows = c.take_all.new.self in
    let begins : List VersionRow = map (begun c.clock-moment.result) c.as_slice-added.result.now in
    let has : HasTableRows (begins ++ stay) old new =
    taken_after old c.add_all.new.self new begins stay c.in_ok-add_all.ensures.ok
    (c.take_all.ensures (begins ++ stay)
    (subst (λ (ended : List VersionRow). IsPermutation c.add_all.new.self.rows (ended ++ (begins ++ stay))) (sym c.as_slice-ended.ensures)
    (parted_rows old c.add_all.new.self begins c.args.plan.now.ended stay c.in_ok-add_all.ensures.ok split))) in
    subst₂ (λ (m : ℤ) (added : List PeriodRow). HasTableRows (map (begun m) added ++ stay) old new) c.clock-moment.ensures c.as_slice-added.ensures has

pub returns-in-Ok-clause-indexed : goal.returns-in-Ok-clause-indexed
returns-in-Ok-clause-indexed g c =
    let begins : List VersionRow = map (begun c.clock-moment.result) c.as_slice-added.result.now in
    let (stay, split) = c.requires.split in
    (c.take_all.ensures (begins ++ stay)
    (subst (λ (ended : List VersionRow). IsPermutation c.add_all.new.self.rows (ended ++ (begins ++ stay))) (sym c.as_slice-ended.ensures)
    (parted_rows c.args.table.now c.add_all.new.self begins c.args.plan.now.ended stay c.in_ok-add_all.ensures.ok split))).indexed
    ∙ c.in_ok-add_all.ensures.ok.indexed
