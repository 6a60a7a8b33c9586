use Rattle.std.proofs.Common.{◌≡◌, ◌∙◌, ◌+◌, ◌-◌, ◌<◌, ℕ, [], List, ap, arith, length, refl, subst₂, sym, inl, inr}
use Rattle.std.specs.Prelude.{slice_index_or}
use Rattle.std.proofs.lemmas.Bool.{cases_lt}
use Rattle.std.proofs.lemmas.List.{get_or_default}
use Rattle.sqlite.specs.Order.{Row}
use Rattle.version_tables.proofs.ColumnFacts.{never}
use Rattle.version_tables.specs.Rows.{AreOneKey}
use Rattle.version_tables.proofs.repeats.repeat_key.Goals as goal

-- the row that a function has read, and the row of the place
read : (rows : List Row) (k : ℕ) (row : Row) → k < length rows → row ≡ slice_index_or rows k row → row ≡ slice_index_or rows k []
read rows k row low is = is ∙ get_or_default rows k row [] low

pub returns-then-are_one_key : goal.returns-then-are_one_key
returns-then-are_one_key c =
    let rows = c.args.rows.now in
    let next : c.loop-at.at - 1 + 1 ≡ c.loop-at.at = omega (arith, c.loop-at.auto.at) in
    let first = read rows (c.loop-at.at - 1) c.index-rows-at.result (omega (arith, c.loop-at.auto.at, c.loop-at-test.true)) c.index-rows-at.is in
    let second = read rows c.loop-at.at c.index-rows-at-in-loop-at.result c.loop-at-test.true c.index-rows-at-in-loop-at.is ∙ ap (λ k. slice_index_or rows k []) (sym next) in
    let key = subst₂ AreOneKey first second (c.are_one_key.ensures.0 c.if-are_one_key.true) in
    (λ _. (c.loop-at.at - 1, omega (arith, next, c.loop-at-test.true), key), λ _. refl)

pub loop-at-preserved : goal.loop-at-preserved
loop-at-preserved c = λ k low key.
    let rows = c.args.rows.now in
    let first = read rows (c.loop-at.at - 1) c.index-rows-at.result (omega (arith, c.loop-at.auto.at, c.loop-at-test.true)) c.index-rows-at.is in
    let second = read rows c.loop-at.at c.index-rows-at-in-loop-at.result c.loop-at-test.true c.index-rows-at-in-loop-at.is in
    elim (cases_lt (k + 1) c.loop-at.at) [
      | inl before ↦ c.loop-at.invariant k before key
      | inr after ↦ (
          let here : k ≡ c.loop-at.at - 1 = omega (arith, after, low) in
          let next : k + 1 ≡ c.loop-at.at = omega (arith, after, low) in
          let a = ap (λ k. slice_index_or rows k []) here ∙ sym first in
          let b = ap (λ k. slice_index_or rows k []) next ∙ sym second in
          never (sym c.if-are_one_key.false ∙ c.are_one_key.ensures.1 (subst₂ AreOneKey a b key))
          )
    ]

pub returns : goal.returns
returns c = (never, λ found. absurd (c.loop-at.invariant found.0 (omega (arith, found.1, c.loop-at.auto, c.loop-at-test.false)) found.2))
