use Rattle.std.proofs.Common.{◌≡◌, ◌++◌, [], ◌∙◌, List, append_assoc, append-nil, ap, subst, sym}
use Rattle.period_core.specs.declared.version.VersionRow.{VersionRow}
use Rattle.period_keys.specs.Rows.{rows_of_lists}
use Rattle.script_engine.specs.engine.Reading.{AddRead}
use Rattle.script_engine.proofs.Taken.{add_both, add_none}
use Rattle.script_engine.proofs.engine.reading.read_all.Goals as goal

pub loop-group-init : goal.loop-group-init
loop-group-init g c = (
  [],
  sym (ap rows_of_lists c.into_iter-group-iterator.ensures.into_iter_gives ∙ c.groups-group-items.ensures),
  add_none (g.S.Selection.IsTaken c.args.selection.now) (g.S.Selection.MayLack c.args.selection.now) g.S.Selection.made c.args.rows.now.items,
)

pub loop-group-preserved : goal.loop-group-preserved
loop-group-preserved g c =
    let Taken = g.S.Selection.IsTaken c.args.selection.now in
    let Lack = g.S.Selection.MayLack c.args.selection.now in
    let made = g.S.Selection.made in
    let (done, split, added) = c.loop-group.invariant in
    let group : List VersionRow = c.in-Some.group.now.rows.items in
    let rest : List VersionRow = rows_of_lists c.next.new.self in
    let left : rows_of_lists c.loop-group.group-iterator ≡ group ++ rest = ap rows_of_lists c.in-Some.ensures.steps in
    let middle = c.loop-group.rows.items in
    let new = c.read_versions.new.rows.items in (
      done ++ group,
      split ∙ ap (λ (xs : List VersionRow). done ++ xs) left ∙ sym (append_assoc done group rest),
      add_both Taken Lack made done group c.args.rows.now.items middle new added
          (subst (λ (xs : List VersionRow). AddRead Taken Lack made xs middle new) c.as_slice.ensures c.in_ok-read_versions.ensures),
    )

pub returns : goal.returns
returns g c =
    let (done, split, added) = c.loop-group.invariant in
    let all : done ≡ c.args.current.now.rows = sym (split ∙ ap (λ (xs : List VersionRow). done ++ xs) (ap rows_of_lists c.in-None.ensures.steps.0) ∙ append-nil done) in
    subst (λ (xs : List VersionRow). AddRead (g.S.Selection.IsTaken c.args.selection.now) (g.S.Selection.MayLack c.args.selection.now) g.S.Selection.made xs c.args.rows.now.items c.loop-group.rows.items) all added
