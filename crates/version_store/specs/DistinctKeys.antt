-- No version is recorded twice.
use Rattle.std.specs.Prelude.{◌≡◌, false, List}
use Rattle.sqlite.specs.Tree.{IsAscending}
use Rattle.version_store.specs.Contents.{TableVersion, same_version}

-- no two of the versions have one key: table, values, period start, system start
abbrev pub HaveDistinctKeys : List TableVersion → Type 0
HaveDistinctKeys = IsAscending (λ (a b : TableVersion). same_version a b ≡ false)
