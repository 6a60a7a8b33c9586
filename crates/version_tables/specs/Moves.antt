-- A store after its move from form 1 to form 2: its moments are counted in microseconds.
use Rattle.std.specs.Prelude.{◌≡◌, ℤ, map}
use Rattle.std.specs.List.{AllByRecursion}
use Rattle.period_core.specs.Seconds.{IsSecondNumber, moved_end, second_start}
use Rattle.sqlite.specs.Effect.{Database}
use Rattle.version_tables.specs.Forms.{form_number}
use Rattle.version_tables.specs.Represents.{Records, Represents, Version, with_form}
use Rattle.version_tables.specs.declared.form.Form.TheVariants.{Microseconds}

-- a version whose system time is one of seconds, in microseconds: if it has no end yet, it has
-- none
abbrev pub moved_version : Version → Version
moved_version v = record v { from = second_start v.from; to = moved_end v.to }

-- all versions are moved
abbrev pub with_moved_versions : Records → Records
with_moved_versions records =
    record records { versions = map moved_version records.versions }

-- all versions, the form and the clock are moved
abbrev pub moved : Records → Records
moved records =
    with_form (form_number Microseconds) (second_start records.clock)
    (with_moved_versions records)

-- the two moments of a version are seconds
abbrev pub HasSeconds : Version → Type 0
HasSeconds v = IsSecondNumber v.from × IsSecondNumber v.to

-- the moments of all versions are seconds
abbrev pub HaveSeconds : Records → Type 0
HaveSeconds records = AllByRecursion HasSeconds records.versions

-- the records are in seconds, and their clock is, in microseconds, this moment
abbrev pub AreInSeconds : ℤ → Records → Type 0
AreInSeconds clock records = (second_start records.clock ≡ clock) × HaveSeconds records

-- a database that represents records whose moments are in seconds
abbrev pub IsInSeconds : Database → Type 0
IsInSeconds db = (records : Records) × HaveSeconds records × Represents db records
