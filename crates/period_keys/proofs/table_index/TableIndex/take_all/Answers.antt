use Rattle.std.proofs.Common.{◌≡◌, ◌++◌, ◌∷◌, [], ◌∙◌, ℕ, List, map, refl, sym, ap, subst}
use Rattle.std.specs.Prelude.{IsPermutation}
use Rattle.period_core.specs.declared.row.PeriodRow.{PeriodRow}
use Rattle.period_core.specs.declared.value.Value.{Value}
use Rattle.period_core.specs.declared.version.VersionRow.{VersionRow}
use Rattle.history_model.specs.Versions.{row_of}
use Rattle.period_keys.specs.declared.period_indexes.PeriodIndex.{PeriodIndex}
use Rattle.period_keys.specs.Keys.{key_values}
use Rattle.period_keys.specs.PeriodIndexes.{EachIndexes}
use Rattle.period_keys.specs.TableRows.{TableRows}
use Rattle.period_keys.specs.Versions.{version_key}
use Rattle.period_keys.proofs.Partly.{each_after_taken, written_back}
use Rattle.period_keys.proofs.RowsWithin.{entries_left}
use Rattle.period_keys.proofs.table_index.TableIndex.take_all.Goals as goal

-- the keys of the rows are the keys of their versions
keys_same : (positions : List ℕ) (versions : List VersionRow) → map (key_values positions) (map row_of versions) ≡ map (version_key positions) versions
keys_same positions [] = refl
keys_same positions (v ∷ versions) = ap (λ (more : List (List Value)). version_key positions v ∷ more) (keys_same positions versions)

pub take_all-requires : goal.take_all-requires
take_all-requires c =
    c.as_slice.ensures.value ∙ c.requires.keys.by_key ∙ ap (map (key_values c.args.self.now.positions)) c.requires.rows ∙ keys_same c.args.self.now.positions c.args.versions.now
    ∙ ap (λ (t : TableRows). map (version_key t.positions) c.args.versions.now) (sym c.self.view_is)

pub invariant_of-self : goal.invariant_of-self
invariant_of-self c =
    let rows : List PeriodRow = c.args.rows.now in
    let first : List VersionRow = c.args.versions.now in
    let old : List VersionRow = c.self.inside.rows.rows in
    let items : List PeriodIndex = c.self.inside.indexes.items in
    let given : List PeriodIndex = c.as_mut_slice.result.now in
    let new : List PeriodIndex = c.take_from_each.new.indexes in
    let (rest, there) = c.requires.there in
    let moved : IsPermutation old (first ++ rest) = subst (λ (t : TableRows). IsPermutation t.rows (first ++ rest)) (sym c.self.view_is) there in (
      subst (EachIndexes (map row_of c.take_all.new.self.rows)) (sym (written_back c.self.inside.indexes.len items given new c.as_mut_slice.ensures.value c.as_mut_slice.ensures.len c.take_from_each.ensures.same))
          (each_after_taken old c.take_all.new.self.rows first rest rows given new moved (c.take_all.ensures.rows rest moved) (sym c.requires.rows) c.take_from_each.ensures.rows
          (subst (EachIndexes (map row_of old)) (sym c.as_mut_slice.ensures.value) c.self.invariant.0)),
      entries_left c.self.inside.rows.positions c.take_all.new.self.positions old c.take_all.new.self.rows first rest c.self.inside.secondary.items c.take_all.ensures.same moved (c.take_all.ensures.rows rest moved) c.self.invariant.1,
    )
