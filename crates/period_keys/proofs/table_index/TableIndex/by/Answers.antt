use Rattle.std.proofs.Common.{◌≡◌, ◌∷◌, ◌∙◌, ℕ, List, inl, inr, map, refl, rules, sym, subst}
use Rattle.std.specs.Prelude.{Contains}
use Rattle.history_model.specs.Versions.{row_of}
use Rattle.temporal_model.proofs.Members.{Contains-cons_cases, Contains-here, Contains-there}
use Rattle.period_keys.specs.declared.period_indexes.PeriodIndex.{PeriodIndex}
use Rattle.period_keys.specs.Index.{AreAtKeys}
use Rattle.period_keys.specs.LookUps.{periods_of_rows}
use Rattle.period_keys.specs.PeriodIndexes.{positions_by}
use Rattle.period_keys.specs.Rows.{RowsByKey}
use Rattle.period_keys.specs.TableRows.{TableRows}
use Rattle.period_keys.proofs.Members.{in_map, none_mapped}
use Rattle.period_keys.proofs.VersionKeys.{at_keys}
use Rattle.period_keys.proofs.table_index.TableIndex.by.Goals as goal

pub returns-then-eq-clause-found : goal.returns-then-eq-clause-found
returns-then-eq-clause-found c =
    let table : RowsByKey = c.self.inside.rows in
    let same : table.positions ≡ c.args.positions.now = sym c.positions.ensures ∙ search (rules, c.if-eq.true, c.eq.ensures) in
    subst (λ (t : TableRows). AreAtKeys c.args.positions.now (map row_of t.rows) (periods_of_rows table)) c.self.view_is
    (subst (λ (ps : List ℕ). AreAtKeys ps (map row_of table.rows) (periods_of_rows table)) same (at_keys table))

pub returns-then-eq-clause-there : goal.returns-then-eq-clause-there
returns-then-eq-clause-there c = (
  λ some.
      let table : RowsByKey = c.self.inside.rows in
      let same : table.positions ≡ c.args.positions.now = sym c.positions.ensures ∙ search (rules, c.if-eq.true, c.eq.ensures) in
      let others : List (List ℕ) = map positions_by c.self.inside.indexes.items in
      subst (λ (t : TableRows). Contains t.indexed c.args.positions.now) c.self.view_is
      (subst (λ (ps : List ℕ). Contains (table.positions ∷ others) ps) same (Contains-here table.positions others)),
  λ there. refl,
)

pub returns-then-eq-2-clause-there : goal.returns-then-eq-2-clause-there
returns-then-eq-2-clause-there c = (
  λ some.
      let index : PeriodIndex = c.index-item.result in
      let items : List PeriodIndex = c.as_slice-index-items.result.now in
      let same : index.positions ≡ c.args.positions.now = sym c.as_slice.ensures ∙ search (rules, c.if-eq-2.true, c.eq-in-loop-index.ensures) in
      let there : Contains (map positions_by items) index.positions = in_map positions_by items index (c.loop-index.index-index, c.loop-index-test.true, sym c.index-item.is) in
      let of_all : Contains (c.self.inside.rows.positions ∷ map positions_by items) index.positions = Contains-there c.self.inside.rows.positions (map positions_by items) index.positions there in
      subst (Contains c.args.self.now.indexed) same
      (subst (λ (t : TableRows). Contains t.indexed index.positions) c.self.view_is
      (subst (λ (given : List PeriodIndex). Contains (c.self.inside.rows.positions ∷ map positions_by given) index.positions) c.as_slice-index-items.ensures.value of_all)),
  λ there. refl,
)

pub returns-clause-there : goal.returns-clause-there
returns-clause-there c = (
  λ some. cc,
  λ there.
      let key : List ℕ = c.self.inside.rows.positions in
      let items : List PeriodIndex = c.as_slice-index-items.result.now in
      let of_all : Contains (key ∷ map positions_by items) c.args.positions.now =
      subst (λ (given : List PeriodIndex). Contains (key ∷ map positions_by given) c.args.positions.now) (sym c.as_slice-index-items.ensures.value)
      (subst (λ (t : TableRows). Contains t.indexed c.args.positions.now) (sym c.self.view_is) there) in
      elim (Contains-cons_cases key (map positions_by items) c.args.positions.now of_all) [
        | inl same ↦ (let own : c.positions.result.now ≡ c.args.positions.now = c.positions.ensures ∙ same in absurd (search (rules, c.if-eq.false, c.eq.ensures, own)))
        | inr other ↦ absurd (none_mapped positions_by items c.args.positions.now c.loop-index.index-index c.loop-index-test.false c.loop-index.invariant other)
      ],
)
