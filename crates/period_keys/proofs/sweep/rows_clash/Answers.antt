use Rattle.std.proofs.Common.{◌∙◌, List, map, subst}
use Rattle.std.specs.Prelude.{IfOk}
use Rattle.period_core.specs.declared.row.PeriodRow.{PeriodRow}
use Rattle.period_keys.specs.Keys.{IsKeyClash, IsLeastOf, ShareKeyOn}
use Rattle.period_keys.specs.Repeats.{Repeats, key_row}
use Rattle.period_keys.proofs.Leasts.{least_if_same}
use Rattle.period_keys.proofs.Pairs.{SomePair-few}
use Rattle.period_keys.proofs.SweepSteps.{keys_repeat}
use Rattle.period_keys.proofs.sweep.rows_clash.Goals as goal

pub returns-then-rows-lt2 : goal.returns-then-rows-lt2
returns-then-rows-lt2 c = λ day. SomePair-few (ShareKeyOn c.args.positions.now day) c.args.rows.now c.if-rows-lt2.true

pub returns : goal.returns
returns c =
    let rows : List PeriodRow = c.args.rows.now in
    let positions = c.args.positions.now in
    least_if_same (Repeats (map (key_row positions) rows)) (IsKeyClash positions rows) (keys_repeat positions rows) c.least_repeat.result
    (subst (λ (xs : List PeriodRow). IfOk c.least_repeat.result (IsLeastOf (Repeats xs))) (c.in_ok-row_keys.ensures positions (c.as_slice.ensures.value ∙ c.in_ok-keys.ensures)) c.least_repeat.ensures)
