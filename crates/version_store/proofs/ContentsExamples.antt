-- Worked contents, changes and rows, by computation.
use Rattle.std.proofs.Common.{◌≡◌, refl, pos, [], ◌∷◌, arith}
use Rattle.std.proofs.lemmas.Int.{ints}
use Rattle.period_core.specs.Moments.{forever}
use Rattle.period_core.specs.declared.value.Value.TheVariants.{Int}
use Rattle.period_core.specs.declared.period.Period.{Period}
use Rattle.period_core.specs.declared.row.PeriodRow.{PeriodRow}
use Rattle.period_core.specs.declared.version.VersionRow.{VersionRow}
use Rattle.sqlite.specs.declared.types.Value.TheVariants.{Int as Number, Blob}
use Rattle.version_tables.specs.Represents.{stored}
use Rattle.version_store.specs.Contents.{Contents, TableVersion}
use Rattle.version_store.specs.Changed.{planned}
use Rattle.version_store.specs.Written.{written_version}

-- worker 7 in January and February 1970, recorded at moment 5
abbrev january : TableVersion
january = record { table = 1; values = Int (pos 7) ∷ []; start = pos 0; end = pos 31; from = pos 5; to = forever }

abbrev february : TableVersion
february = record { table = 1; values = Int (pos 7) ∷ []; start = pos 31; end = pos 59; from = pos 9; to = forever }

abbrev filled : Contents
filled = record { tables = []; clock = pos 9; versions = january ∷ february ∷ [] }

-- January and February as periods
abbrev january_days : Period
january_days = record { start = pos 0; end = pos 31; ordered = omega (arith, ints); days = (omega (arith, ints), omega (arith, ints)) }

abbrev february_days : Period
february_days = record { start = pos 31; end = pos 59; ordered = omega (arith, ints); days = (omega (arith, ints), omega (arith, ints)) }

-- January as a row that a plan ends, and a row that it adds
abbrev old_january : VersionRow
old_january = record { values = Int (pos 7) ∷ []; period = january_days; from = pos 5; to = forever }

abbrev old_february : VersionRow
old_february = record { values = Int (pos 7) ∷ []; period = february_days; from = pos 9; to = forever }

abbrev new_january : PeriodRow
new_january = record { values = Int (pos 8) ∷ []; period = january_days }

-- at moment 9 the row of January is closed; the row of February is removed, since it began then
both-ended : (planned 1 (pos 9) (old_january ∷ old_february ∷ []) (new_january ∷ []) filled).versions
    ≡ record january { to = pos 9 } ∷ (record { table = 1; values = Int (pos 8) ∷ []; start = pos 0; end = pos 31; from = pos 9; to = forever }) ∷ []
both-ended = refl

january-written : stored (written_version january) ≡ Number (pos 1) ∷ Blob (1 ∷ 128 ∷ 0 ∷ 0 ∷ 0 ∷ 0 ∷ 0 ∷ 0 ∷ 7 ∷ []) ∷ Number (pos 0) ∷ Number (pos 31) ∷ Number (pos 5) ∷ Number forever ∷ []
january-written = refl
