use Rattle.std.proofs.Common.{◌≡◌, ◌++◌, [], ◌∙◌, List, map, sym, ap, subst, append_assoc, append-nil}
use Rattle.std.specs.Prelude.{IsPermutation}
use Rattle.std.proofs.lemmas.List.{map-append}
use Rattle.std.proofs.lemmas.List.Sorted.{IsPermutation-refl}
use Rattle.period_core.specs.declared.period.Period.{Period}
use Rattle.period_core.specs.declared.row.PeriodRow.{PeriodRow}
use Rattle.period_core.specs.declared.version.VersionRow.{VersionRow}
use Rattle.history_model.specs.Versions.{row_of}
use Rattle.period_keys.specs.Index.{IsIndexOf}
use Rattle.period_keys.specs.Rows.{rows_of_lists}
use Rattle.period_keys.proofs.clashes.index_of_current.Goals as goal

pub loop-group-init : goal.loop-group-init
loop-group-init c = (
  [],
  sym (ap rows_of_lists c.into_iter-group-iterator.ensures.into_iter_gives ∙ c.groups-group-items.ensures),
  λ key. subst (λ (ps : List Period). IsPermutation ps []) (sym (c.new-index.ensures key)) (IsPermutation-refl {X = Period} []),
)

pub loop-group-preserved : goal.loop-group-preserved
loop-group-preserved c =
    let (done, split, indexed) = c.loop-group.invariant in
    let rows : List VersionRow = c.in-Some.group.now.rows.items in
    let left : rows_of_lists c.loop-group.group-iterator ≡ rows ++ rows_of_lists c.next.new.self = ap rows_of_lists c.in-Some.ensures.steps in
    let more : IsIndexOf c.args.positions.now (map row_of done ++ map row_of c.as_slice.result.now) c.add_versions.new.index = c.in_ok-add_versions.ensures (map row_of done) indexed in
    let same : map row_of done ++ map row_of c.as_slice.result.now ≡ map row_of (done ++ rows) =
    ap (λ (list : List VersionRow). map row_of done ++ map row_of list) c.as_slice.ensures ∙ sym (map-append row_of done rows) in (
      done ++ rows,
      split ∙ ap (λ (xs : List VersionRow). done ++ xs) left ∙ sym (append_assoc done rows (rows_of_lists c.next.new.self)),
      subst (λ (list : List PeriodRow). IsIndexOf c.args.positions.now list c.add_versions.new.index) same more,
    )

pub returns : goal.returns
returns c =
    let (done, split, indexed) = c.loop-group.invariant in
    let all : done ≡ c.args.current.now.rows = sym (split ∙ ap (λ (xs : List VersionRow). done ++ xs) (ap rows_of_lists c.in-None.ensures.steps.0) ∙ append-nil done) in
    subst (λ (list : List VersionRow). IsIndexOf c.args.positions.now (map row_of list) c.loop-group.index) all indexed
