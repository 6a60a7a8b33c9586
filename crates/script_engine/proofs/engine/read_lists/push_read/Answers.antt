use Rattle.std.proofs.Common.{◌≡◌, ◌++◌, ◌∷◌, ◌∙◌, [], List, Option, Some, ap, append-nil, append_assoc, arith, map, sym}
use Rattle.std.specs.Option.{is_some}
use Rattle.std.proofs.lemmas.List.{map-append, nil_from_length}
use Rattle.period_core.specs.declared.row.PeriodRow.{PeriodRow}
use Rattle.script_engine.proofs.Needed.{next_is_read}
use Rattle.script_engine.proofs.engine.read_lists.push_read.Goals as goal

pub loop-list-init : goal.loop-list-init
loop-list-init c = ([], sym c.into_iter-list-iterator.ensures.into_iter_gives.0, sym (append-nil c.args.lists.now.items))

pub unwrap-requires : goal.unwrap-requires
unwrap-requires c =
    let (added, split, is) = c.loop-list.invariant in
    let list : Option (List PeriodRow) = c.in-Some.list in
    let rest : List (Option (List PeriodRow)) = c.next.new.self.rest.items in
    let (rows, some) = next_is_read c.args.read.items added list rest c.requires (split ∙ ap (λ (l : List (Option (List PeriodRow))). map Some added ++ l) c.in-Some.ensures.steps.0) in
    ap is_some some

pub loop-list-preserved : goal.loop-list-preserved
loop-list-preserved c =
    let (added, split, is) = c.loop-list.invariant in
    let rows : List PeriodRow = c.unwrap.result in
    let rest : List (Option (List PeriodRow)) = c.next.new.self.rest.items in (
      added ++ rows ∷ [],
      split ∙ ap (λ (l : List (Option (List PeriodRow))). map Some added ++ l) (c.in-Some.ensures.steps.0 ∙ ap (λ (list : Option (List PeriodRow)). list ∷ rest) c.unwrap.ensures)
          ∙ sym (append_assoc (map Some added) (Some rows ∷ []) rest) ∙ ap (λ (l : List (Option (List PeriodRow))). l ++ rest) (sym (map-append Some added (rows ∷ []))),
      c.in_ok-push.ensures.items ∙ ap (λ (l : List (List PeriodRow)). l ++ rows ∷ []) is ∙ append_assoc c.args.lists.now.items added (rows ∷ []),
    )

pub returns : goal.returns
returns c =
    let (added, split, is) = c.loop-list.invariant in
    let over : c.loop-list.list-iterator.rest.items ≡ [] = nil_from_length c.loop-list.list-iterator.rest.items (grind (arith, c.loop-list.list-iterator.rest.ok, c.in-None.ensures.steps)) in
    (added, split ∙ ap (λ (l : List (Option (List PeriodRow))). map Some added ++ l) over ∙ append-nil (map Some added), is)
