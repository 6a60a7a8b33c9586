use Rattle.std.proofs.Common.{◌≡◌, ◌++◌, List, ℕ, ℤ, map, take, refl, sym, subst, arith}
use Rattle.std.specs.List.{Any}
use Rattle.std.proofs.lemmas.List.{take_all}
use Rattle.period_core.specs.declared.row.PeriodRow.{PeriodRow}
use Rattle.period_core.specs.declared.value.Value.{Value}
use Rattle.history_model.specs.Versions.{row_of}
use Rattle.period_keys.specs.Keys.{IsKeyClash, IsLeastOf, key_values}
use Rattle.period_keys.specs.Index.{AddsClash, IsIndexOf, MeetsKept, SharesDayOfKept, periods_at}
use Rattle.period_keys.specs.Repeats.{Repeats, key_row}
use Rattle.period_keys.specs.LookUps.{periods_of_rows}
use Rattle.period_keys.specs.Rows.{RowsByKey}
use Rattle.period_keys.proofs.Indexes.{key_at}
use Rattle.period_keys.proofs.Leasts.{least_more, IsLeastOf-either, IsLeastOf-same}
use Rattle.period_keys.proofs.Locality.{clashes_after}
use Rattle.period_keys.proofs.SweepSteps.{keys_repeat}
use Rattle.period_keys.proofs.Touched.{meets_kept}
use Rattle.period_keys.proofs.VersionKeys.{at_keys, rows_split}
use Rattle.period_keys.proofs.clashes.key_clash_after.Goals as goal

pub loop-i-preserved : goal.loop-i-preserved
loop-i-preserved c =
    let table : RowsByKey = c.args.current.now in
    let ended : List PeriodRow = map row_of c.args.ended.now in
    let row : PeriodRow = c.index-added-i.result in
    let key : List Value = c.index-keys-i.result in
    let gone : IsIndexOf table.positions ended c.in_ok-gone.gone = subst (λ (ps : List ℕ). IsIndexOf ps ended c.in_ok-gone.gone) c.positions.ensures c.in_ok-gone.ensures in
    let own : key ≡ key_values table.positions row = key_at table.positions c.args.keys.now c.args.added.now c.loop-i.i key row c.requires (omega arith) c.index-keys-i.is c.index-added-i.is in
    λ none. least_more (λ (row : PeriodRow) day. MeetsKept table.positions (periods_of_rows table) ended day row) c.args.added.now c.loop-i.i row c.loop-i.with_kept c.first_shared-kept.result c.earlier-with_kept.result
    (omega arith) c.index-added-i.is (c.loop-i.invariant none)
    (meets_kept table.positions (periods_of_rows table) c.in_ok-gone.gone ended row key (periods_of_rows table key) (periods_at c.in_ok-gone.gone key) c.first_shared-kept.result own refl refl gone
    (subst (λ (r : PeriodRow). IsLeastOf (SharesDayOfKept (periods_of_rows table key) (periods_at c.in_ok-gone.gone key) r.period) c.first_shared-kept.result) (sym c.index-added-i.is) c.first_shared-kept.ensures))
    c.earlier-with_kept.ensures

pub returns : goal.returns
returns c = λ stay none moved.
    let table : RowsByKey = c.args.current.now in
    let ended : List PeriodRow = map row_of c.args.ended.now in
    let added : List PeriodRow = c.args.added.now in
    let before : List PeriodRow = map row_of table.rows in
    let split = rows_split table.rows c.args.ended.now stay moved in
    let all : take c.loop-i.i added ≡ added = take_all _ _ (omega arith) in
    let Meets : List PeriodRow → ℤ → Type 0 = λ rows day. Any (MeetsKept table.positions (periods_of_rows table) ended day) rows in
    let kept : IsLeastOf (Meets added) c.loop-i.with_kept = subst (λ (rows : List PeriodRow). IsLeastOf (Meets rows) c.loop-i.with_kept) all (c.loop-i.invariant none) in
    let among : IsLeastOf (IsKeyClash table.positions added) c.in_ok-among.among =
    IsLeastOf-same (Repeats (map (key_row table.positions) added)) (IsKeyClash table.positions added) (keys_repeat table.positions added) c.in_ok-among.among
    (subst (λ (rows : List PeriodRow). IsLeastOf (Repeats rows) c.in_ok-among.among) (c.in_ok-row_keys.ensures table.positions c.requires) c.in_ok-among.ensures) in
    let by_touched : IsLeastOf (AddsClash table.positions (periods_of_rows table) ended added) c.earlier.result =
    subst (IsLeastOf (AddsClash table.positions (periods_of_rows table) ended added)) (sym c.earlier.ensures)
    (IsLeastOf-either (Meets added) (IsKeyClash table.positions added) c.loop-i.with_kept c.in_ok-among.among kept among) in
    IsLeastOf-same (AddsClash table.positions (periods_of_rows table) ended added) (IsKeyClash table.positions (map row_of stay ++ added))
    (clashes_after table.positions (periods_of_rows table) before ended (map row_of stay) added (at_keys table) none split) c.earlier.result by_touched
