use Rattle.std.proofs.Common.{◌≡◌, ◌<◌, ℕ, get_or}
use Rattle.period_core.specs.declared.version.VersionRow.{VersionRow}
use Rattle.period_keys.specs.Versions.{recorded}
use Rattle.period_keys.proofs.key_rows.place_among.Given as goal

abbrev pub invariant-loop-place : goal.invariant-loop-place
invariant-loop-place l = (k : ℕ) (d : VersionRow) → k < l.place → get_or l.rows k d ≡ recorded l.values l.period l.from l.to → ⊥
