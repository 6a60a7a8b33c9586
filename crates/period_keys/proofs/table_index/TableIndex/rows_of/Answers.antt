use Rattle.std.proofs.Common.{◌≡◌, ◌∷◌, ◌∙◌, ℕ, List, map, sym, subst}
use Rattle.std.specs.Prelude.{Contains}
use Rattle.temporal_model.proofs.Members.{Contains-there}
use Rattle.period_keys.specs.declared.period_indexes.PeriodIndex.{PeriodIndex}
use Rattle.period_keys.specs.PeriodIndexes.{positions_by}
use Rattle.period_keys.specs.TableRows.{TableRows}
use Rattle.period_keys.proofs.Members.{in_map}
use Rattle.period_keys.proofs.PlanParts.{if_ok}
use Rattle.period_keys.proofs.table_index.TableIndex.rows_of.Goals as goal

pub returns-then-is_some-clause-known : goal.returns-then-is_some-clause-known
returns-then-is_some-clause-known g c =
    let index : PeriodIndex = c.index-item.result in
    let items : List PeriodIndex = c.as_slice-index-items.result.now in
    let key : List ℕ = c.self.inside.rows.positions in
    let there : Contains (map positions_by items) index.positions = in_map positions_by items index (c.loop-index.index-index, c.loop-index-test.true, sym c.index-item.is) in
    let of_all : Contains (key ∷ map positions_by items) index.positions = Contains-there key (map positions_by items) index.positions there in
    let known : Contains c.args.self.now.indexed index.positions =
    subst (λ (t : TableRows). Contains t.indexed index.positions) c.self.view_is
    (subst (λ (given : List PeriodIndex). Contains (key ∷ map positions_by given) index.positions) c.as_slice-index-items.ensures.value of_all) in
    if_ok c.at.result _ _
    (λ rows same. subst (Contains c.args.self.now.indexed) (sym (same ∙ c.as_slice-positions.ensures)) known)
    c.at.ensures.positions
