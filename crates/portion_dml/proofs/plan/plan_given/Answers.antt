use Rattle.std.proofs.Common.{◌≡◌, ◌<◌, ◌++◌, ◌∷◌, [], ◌∙◌, List, append_assoc, append-nil, ap, arith, inl, length, length-append, map, sym}
use Rattle.std.proofs.lemmas.List.{length_push, map-append, nil_from_length}
use Rattle.std.proofs.lemmas.Result.{err_from_is_err_and}
use Rattle.catalog_core.specs.declared.change.InsertedRow.{InsertedRow}
use Rattle.history_model.specs.Portions.{PlainRow, plain_given, plain_row}
use Rattle.portion_dml.proofs.Planned.{gives_empty, insert_plans}
use Rattle.portion_dml.proofs.plan.plan_given.Goals as goal

pub loop-row-init : goal.loop-row-init
loop-row-init c = (
  [],
  sym (c.into_iter-row-iterator.ensures.into_iter_gives.0 ∙ c.into_vec-rows.ensures),
  ap (map plain_row) c.in_ok-added.ensures.items,
  omega (arith, ap length c.into_vec-rows.ensures, c.len.ensures, c.in_ok-added.ensures.capacity, c.into_vec-rows.result.ok),
  c.in_ok-added.ensures.len,
)

pub push_reserved-requires : goal.push_reserved-requires
push_reserved-requires c =
    let (done, split, made, room, count) = c.loop-row.invariant in
    let row : InsertedRow = c.in-Some.row in
    let left : List InsertedRow = c.next.new.self.rest.items in
    let whole = split ∙ ap (λ (l : List InsertedRow). done ++ l) c.in-Some.ensures.steps.0 in
    let longer : length done < length c.args.given = omega (arith, ap length whole, length-append done (row ∷ left)) in
    omega arith

pub loop-row-preserved : goal.loop-row-preserved
loop-row-preserved c =
    let (done, split, made, room, count) = c.loop-row.invariant in
    let row : InsertedRow = c.in-Some.row in
    let left : List InsertedRow = c.next.new.self.rest.items in (
      done ++ row ∷ [],
      split ∙ ap (λ (l : List InsertedRow). done ++ l) c.in-Some.ensures.steps.0 ∙ sym (append_assoc done (row ∷ []) left),
      ap (map plain_row) c.push_reserved.ensures.items
          ∙ map-append plain_row c.loop-row.added.items (c.in_ok-added_row.field-0 ∷ [])
          ∙ ap (λ (l : List PlainRow). l ++ plain_row c.in_ok-added_row.field-0 ∷ []) made
          ∙ ap (λ (r : PlainRow). map plain_given done ++ r ∷ []) c.in_ok-added_row.ensures.ok
          ∙ sym (map-append plain_given done (row ∷ [])),
      omega arith,
      omega (arith, length_push done row),
    )

pub returns-in_err-added_row-clause-refused : goal.returns-in_err-added_row-clause-refused
returns-in_err-added_row-clause-refused c =
    let (done, split, made, room, count) = c.loop-row.invariant in
    let row : InsertedRow = c.in-Some.row in
    let left : List InsertedRow = c.next.new.self.rest.items in
    let p = err_from_is_err_and c.from_residual-in_err-added_row.result c.from_residual-in_err-added_row.ensures.1 in
    let (e, none) = c.in_err-added_row.ensures.refused in
    rw (p.1, p.2) (inl (e, gives_empty done left row c.args.given (split ∙ ap (λ (l : List InsertedRow). done ++ l) c.in-Some.ensures.steps.0) none))

pub returns-clause-plan : goal.returns-clause-plan
returns-clause-plan c = λ current.
    let (done, split, made, room, count) = c.loop-row.invariant in
    let none : c.loop-row.row-iterator.rest.items ≡ [] = nil_from_length c.loop-row.row-iterator.rest.items (grind (arith, c.loop-row.row-iterator.rest.ok, c.in-None.ensures.steps)) in
    let all : c.args.given ≡ done = split ∙ ap (λ (l : List InsertedRow). done ++ l) none ∙ append-nil done in
    insert_plans c.args.given current c.empty.result c.from_vec.result c.empty.ensures
    (ap (map plain_row) c.from_vec.ensures ∙ made ∙ ap (map plain_given) (sym all))
