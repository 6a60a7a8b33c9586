use Rattle.std.proofs.Common.{Bool, ◌<◌, ◌≡◌, ◌∙◌, ℕ, arith, get_or, length, sym}
use Rattle.std.proofs.lemmas.Grind.{get_or_default_zero}
use Rattle.period_core.specs.declared.value.Value.{Value}
use Rattle.catalog_core.proofs.lemmas.lists.Finds.{any_zip_end, any_zip_found_by, any_zip_more_by}
use Rattle.statement_resolution.specs.change.InsertPlaces.{gives_faulty_value_at, is_faulty_at}
use Rattle.statement_resolution.proofs.change.insert_values.gives_faulty_value_at.Goals as goal

pub returns-then-is_at : goal.returns-then-is_at
unfolding gives_faulty_value_at
returns-then-is_at c =
    let p : ℕ × Value → Bool = λ given. is_faulty_at c.args.fault c.args.columns.now given in
    let place : ℕ = get_or c.args.places.now c.loop-i.i 0 in
    let left : c.loop-i.i < length c.args.places.now = omega arith in
    let right : c.loop-i.i < length c.args.row.now = omega arith in
    let item : place ≡ get_or c.args.places.now c.loop-i.i place = sym (get_or_default_zero c.args.places.now c.loop-i.i place left) in
    sym (any_zip_found_by p c.args.places.now c.args.row.now c.loop-i.i place c.index-row-i.result left right item c.index-row-i.is (sym c.is_at.ensures ∙ c.if-is_at.true))

pub loop-i-preserved : goal.loop-i-preserved
loop-i-preserved c =
    let p : ℕ × Value → Bool = λ given. is_faulty_at c.args.fault c.args.columns.now given in
    let place : ℕ = get_or c.args.places.now c.loop-i.i 0 in
    let left : c.loop-i.i < length c.args.places.now = omega arith in
    let right : c.loop-i.i < length c.args.row.now = omega arith in
    let item : place ≡ get_or c.args.places.now c.loop-i.i place = sym (get_or_default_zero c.args.places.now c.loop-i.i place left) in
    any_zip_more_by p c.args.places.now c.args.row.now c.loop-i.i place c.index-row-i.result left right item c.index-row-i.is c.loop-i.invariant (sym c.is_at.ensures ∙ c.if-is_at.false)

pub returns : goal.returns
unfolding gives_faulty_value_at
returns c =
    let p : ℕ × Value → Bool = λ given. is_faulty_at c.args.fault c.args.columns.now given in
    sym (any_zip_end p c.args.places.now c.args.row.now c.loop-i.i c.min-i-end.result c.min-i-end.ensures c.loop-i-test.false c.loop-i.invariant)
