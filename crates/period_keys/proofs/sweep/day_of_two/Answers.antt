use Rattle.std.proofs.Common.{◌<◌, [], ℕ, List, map, subst, sym}
use Rattle.std.specs.Prelude.{IfOk}
use Rattle.std.proofs.lemmas.List.{length-map}
use Rattle.period_core.specs.declared.row.PeriodRow.{PeriodRow}
use Rattle.history_model.specs.Versions.{row_of}
use Rattle.period_keys.specs.Keys.{IsKeyClash, IsLeastOf, ShareKeyOn}
use Rattle.period_keys.specs.Repeats.{Repeats, key_row}
use Rattle.period_keys.proofs.Leasts.{least_if_same}
use Rattle.period_keys.proofs.Pairs.{SomePair-few}
use Rattle.period_keys.proofs.SweepSteps.{keys_repeat}
use Rattle.period_keys.proofs.sweep.day_of_two.Goals as goal

pub returns-then-versions-lt2 : goal.returns-then-versions-lt2
returns-then-versions-lt2 c = λ day.
    SomePair-few (ShareKeyOn [] day) (map row_of c.args.versions.now) (subst (λ (n : ℕ). n < 2) (sym (length-map c.args.versions.now row_of)) c.if-versions-lt2.true)

pub returns : goal.returns
returns c =
    let rows : List PeriodRow = map row_of c.args.versions.now in
    least_if_same (Repeats (map (key_row []) rows)) (IsKeyClash [] rows) (keys_repeat [] rows) c.least_repeat.result
    (subst (λ (xs : List PeriodRow). IfOk c.least_repeat.result (IsLeastOf (Repeats xs))) c.in_ok-keys_of_one.ensures c.least_repeat.ensures)
