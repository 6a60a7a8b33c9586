use Rattle.std.proofs.Common.{◌≡◌, ◌++◌, ◌∷◌, [], ◌∙◌, List, append-nil, append_assoc, ap, map, subst, sym}
use Rattle.std.specs.List.{Any}
use Rattle.period_core.specs.declared.period.Period.{Period}
use Rattle.period_core.specs.declared.value.Value.{Value}
use Rattle.period_core.specs.declared.version.VersionRow.{VersionRow}
use Rattle.history_model.specs.Versions.{row_of}
use Rattle.period_keys.specs.declared.key_rows.KeyRows.{KeyRows}
use Rattle.period_keys.specs.Gaps.{IsGap, LacksKeyOf}
use Rattle.period_keys.specs.Keys.{IsLeastOf}
use Rattle.period_keys.specs.LookUps.{periods_by, periods_of}
use Rattle.period_keys.specs.Rows.{AreGroupsOf, rows_of_groups}
use Rattle.period_keys.specs.Versions.{period_of}
use Rattle.period_keys.proofs.ByGroups.{LosesParents, lack_of_groups}
use Rattle.period_keys.proofs.Grouped.{Entries, rows_in}
use Rattle.period_keys.proofs.Leasts.{IsLeastOf-same, least_none, least_one_more}
use Rattle.period_keys.proofs.references.least_lack_of_rows.Goals as goal

pub loop-key-init : goal.loop-key-init
loop-key-init c = (
  [],
  subst (AreGroupsOf c.args.children.now) (sym c.into_iter-key-iterator.ensures.into_iter_gives) c.by_key-key-items.ensures,
  least_none (LosesParents (periods_by c.args.parents.now)),
)

-- the gaps of the rows of a key
of_group : (children given there periods : List Period) (found : _) → children ≡ given → there ≡ periods → IsLeastOf (λ day. Any (λ child. IsGap there child day) children) found
    → IsLeastOf (λ day. Any (λ child. IsGap periods child day) given) found
of_group children given there periods found children_are there_is least =
    subst (λ (list : List Period). IsLeastOf (λ day. Any (λ child. IsGap list child day) given) found) there_is
    (subst (λ (list : List Period). IsLeastOf (λ day. Any (λ child. IsGap there child day) list) found) children_are least)

pub loop-key-preserved : goal.loop-key-preserved
loop-key-preserved c =
    let (done, groups, least) = c.loop-key.invariant in
    let parents : List Value → List Period = periods_by c.args.parents.now in
    let rest : Entries = c.next.new.self in
    let group : List Value × KeyRows = (c.in-Some.key.now, c.in-Some.group.now) in
    let left : c.loop-key.key-iterator ≡ group ∷ rest = c.in-Some.ensures.steps in (
      done ++ group ∷ [],
      subst (AreGroupsOf c.args.children.now) (ap (λ (l : Entries). done ++ l) left ∙ sym (append_assoc done (group ∷ []) rest)) groups,
      least_one_more (LosesParents parents) done group c.loop-key.found c.first_gap_of_some-gap.result c.earlier-found.result least
          (of_group c.as_slice.result.now (map period_of (rows_in group.1)) (periods_of c.of_key.result) (parents group.0) c.first_gap_of_some-gap.result
          (c.as_slice.ensures.value ∙ c.in_ok-periods.ensures) c.of_key.ensures c.first_gap_of_some-gap.ensures)
          c.earlier-found.ensures,
    )

pub returns : goal.returns
returns c =
    let (done, groups, least) = c.loop-key.invariant in
    let parents : List Value → List Period = periods_by c.args.parents.now in
    let positions = c.args.children.now.positions in
    let all : AreGroupsOf c.args.children.now done =
    subst (AreGroupsOf c.args.children.now) (ap (λ (l : Entries). done ++ l) c.in-None.ensures.steps.0 ∙ append-nil done) groups in
    subst (λ (rows : List VersionRow). IsLeastOf (LacksKeyOf positions (map row_of rows) parents) c.loop-key.found) all.rows
    (IsLeastOf-same (λ day. Any (λ group. LosesParents parents group day) done) (LacksKeyOf positions (map row_of (rows_of_groups done)) parents)
    (lack_of_groups positions parents done all.keyed) c.loop-key.found least)
