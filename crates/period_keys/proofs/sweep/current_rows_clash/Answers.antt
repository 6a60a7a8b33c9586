use Rattle.std.proofs.Common.{◌≡◌, ◌++◌, ◌∷◌, [], ◌∙◌, List, append-nil, append_assoc, ap, map, subst, sym}
use Rattle.std.specs.List.{Any}
use Rattle.period_core.specs.declared.value.Value.{Value}
use Rattle.period_core.specs.declared.version.VersionRow.{VersionRow}
use Rattle.history_model.specs.Versions.{row_of}
use Rattle.period_keys.specs.declared.key_rows.KeyRows.{KeyRows}
use Rattle.period_keys.specs.Keys.{IsKeyClash, IsLeastOf}
use Rattle.period_keys.specs.Rows.{AreGroupsOf, rows_of_groups}
use Rattle.period_keys.proofs.ByGroups.{IsSharedDay, clash_of_groups}
use Rattle.period_keys.proofs.Grouped.{Entries}
use Rattle.period_keys.proofs.Leasts.{IsLeastOf-same, least_none, least_one_more}
use Rattle.period_keys.proofs.sweep.current_rows_clash.Goals as goal

pub loop-group-init : goal.loop-group-init
loop-group-init c = ([], subst (AreGroupsOf c.args.current.now) (sym c.into_iter-group-iterator.ensures.into_iter_gives) c.by_key-group-items.ensures, least_none IsSharedDay)

pub loop-group-preserved : goal.loop-group-preserved
loop-group-preserved c =
    let (done, groups, least) = c.loop-group.invariant in
    let rest : Entries = c.next.new.self in
    let group : List Value × KeyRows = (c.in-Some.field-0-0.now, c.in-Some.group.now) in
    let left : c.loop-group.group-iterator ≡ group ∷ rest = c.in-Some.ensures.steps in
    let here : IsLeastOf (IsSharedDay group) c.in_ok-day_of_two.field-0 =
    subst (λ (rows : List VersionRow). IsLeastOf (IsKeyClash [] (map row_of rows)) c.in_ok-day_of_two.field-0) c.as_slice.ensures c.in_ok-day_of_two.ensures in (
      done ++ group ∷ [],
      subst (AreGroupsOf c.args.current.now) (ap (λ (l : Entries). done ++ l) left ∙ sym (append_assoc done (group ∷ []) rest)) groups,
      least_one_more IsSharedDay done group c.loop-group.found c.in_ok-day_of_two.field-0 c.earlier-found.result least here c.earlier-found.ensures,
    )

pub returns : goal.returns
returns c =
    let (done, groups, least) = c.loop-group.invariant in
    let positions = c.args.current.now.positions in
    let all : AreGroupsOf c.args.current.now done =
    subst (AreGroupsOf c.args.current.now) (ap (λ (l : Entries). done ++ l) c.in-None.ensures.steps.0 ∙ append-nil done) groups in
    subst (λ (rows : List VersionRow). IsLeastOf (IsKeyClash positions (map row_of rows)) c.loop-group.found) all.rows
    (IsLeastOf-same (λ day. Any (λ group. IsSharedDay group day) done) (IsKeyClash positions (map row_of (rows_of_groups done)))
    (clash_of_groups positions done all.ascending all.keyed) c.loop-group.found least)
