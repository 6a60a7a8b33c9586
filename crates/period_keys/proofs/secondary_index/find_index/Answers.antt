use Rattle.std.proofs.Common.{◌≡◌, ◌∙◌, ℕ, List, map, refl, rules, sym, subst}
use Rattle.std.specs.Prelude.{Contains}
use Rattle.period_keys.specs.declared.secondary_index.SecondaryIndex.{SecondaryIndex}
use Rattle.period_keys.proofs.Members.{in_map, none_mapped}
use Rattle.period_keys.proofs.secondary_index.find_index.Goals as goal

abbrev positions_of : SecondaryIndex → List ℕ
positions_of index = index.positions

pub returns-then-eq-clause-found : goal.returns-then-eq-clause-found
returns-then-eq-clause-found c = ((c.loop-index.index-index, c.loop-index-test.true, sym c.index-item.is), sym c.as_slice.ensures ∙ search (rules, c.if-eq.true, c.eq.ensures))

pub returns-then-eq-clause-there : goal.returns-then-eq-clause-there
returns-then-eq-clause-there c = (
  λ some.
      let index : SecondaryIndex = c.index-item.result in
      let same : index.positions ≡ c.args.positions.now = sym c.as_slice.ensures ∙ search (rules, c.if-eq.true, c.eq.ensures) in
      subst (Contains (map positions_of c.args.indexes.now)) same (in_map positions_of c.args.indexes.now index (c.loop-index.index-index, c.loop-index-test.true, sym c.index-item.is)),
  λ there. refl,
)

pub returns-clause-there : goal.returns-clause-there
returns-clause-there c = (
  λ some. cc,
  λ there. absurd (none_mapped positions_of c.args.indexes.now c.args.positions.now c.loop-index.index-index c.loop-index-test.false c.loop-index.invariant there),
)
