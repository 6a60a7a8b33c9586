use Rattle.std.proofs.Common.{Bool, ℕ, ◌<◌, ◌≡◌, ◌∙◌, arith, get_or, length, sym}
use Rattle.catalog_core.proofs.lemmas.lists.Finds.{any_zip_end, any_zip_found, any_zip_more}
use Rattle.catalog_core.specs.create.Places.{have_two_kinds, kind_at}
use Rattle.catalog_core.specs.table.Kinds.{differ}
use Rattle.catalog_core.proofs.create.places.have_two_kinds.Goals as goal

pub returns-then-differ : goal.returns-then-differ
unfolding have_two_kinds
returns-then-differ c =
    let p : ℕ × ℕ → Bool = λ q. differ (kind_at c.args.columns.now q.0) (kind_at c.args.others.now q.1) in
    let value : p (get_or c.args.own.now c.loop-i.i 0, get_or c.args.keys.now c.loop-i.i 0) ≡ c.differ.result = cc in
    let left : c.loop-i.i < length c.args.own.now = omega arith in
    let right : c.loop-i.i < length c.args.keys.now = omega arith in
    sym (any_zip_found p c.args.own.now c.args.keys.now c.loop-i.i 0 0 left right (value ∙ c.if-differ.true))

pub loop-i-preserved : goal.loop-i-preserved
loop-i-preserved c =
    let p : ℕ × ℕ → Bool = λ q. differ (kind_at c.args.columns.now q.0) (kind_at c.args.others.now q.1) in
    let value : p (get_or c.args.own.now c.loop-i.i 0, get_or c.args.keys.now c.loop-i.i 0) ≡ c.differ.result = cc in
    let left : c.loop-i.i < length c.args.own.now = omega arith in
    let right : c.loop-i.i < length c.args.keys.now = omega arith in
    any_zip_more p c.args.own.now c.args.keys.now c.loop-i.i 0 0 left right c.loop-i.invariant (value ∙ c.if-differ.false)

pub returns : goal.returns
unfolding have_two_kinds
returns c =
    let p : ℕ × ℕ → Bool = λ q. differ (kind_at c.args.columns.now q.0) (kind_at c.args.others.now q.1) in
    sym (any_zip_end p c.args.own.now c.args.keys.now c.loop-i.i c.min-i-end.result c.min-i-end.ensures c.loop-i-test.false c.loop-i.invariant)
