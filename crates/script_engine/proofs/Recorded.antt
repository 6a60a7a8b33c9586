-- The versions of good contents are recorded up to the clock.
use Rattle.std.specs.List.{AllByRecursion}
use Rattle.sqlite_trees.proofs.ListLemmas.{all_weaker}
use Rattle.version_tables.specs.Good.{AreMoments}
use Rattle.version_store.specs.Contents.{Contents, TableVersion}
use Rattle.version_store.specs.GoodStore.{AreGood, IsGoodVersion, NoExtraCondition}
use Rattle.version_tables.specs.declared.form.Form.TheVariants.{Microseconds}

-- each version began by the clock, and it ended by then or not at all
abbrev pub AreRecorded : Contents → Type 0
AreRecorded c = AllByRecursion (λ (v : TableVersion). AreMoments Microseconds c.clock v.from v.to) c.versions

pub recorded_of : (c : Contents) → AreGood NoExtraCondition c → AreRecorded c
recorded_of c good = all_weaker (IsGoodVersion c.tables c.clock) (λ (v : TableVersion). AreMoments Microseconds c.clock v.from v.to) (λ v is. is.moments) c.versions good.versions
