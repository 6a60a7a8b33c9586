-- Versions have days and moments, before a change and after it.
use Rattle.std.proofs.Common.{◌∷◌, ℕ, ℤ, Bool, true, false, cond, List, [], arith, map}
use Rattle.std.specs.List.{flat_map}
use Rattle.std.specs.Ordering.{int_cmp, is_eq}
use Rattle.std.proofs.lemmas.Int.{ints}
use Rattle.sqlite_trees.proofs.ListLemmas.{all-append}
use Rattle.period_core.specs.Moments.{IsMomentNumber, forever}
use Rattle.period_core.specs.declared.row.PeriodRow.{PeriodRow}
use Rattle.period_core.specs.declared.version.VersionRow.{VersionRow}
use Rattle.catalog_core.specs.declared.table.TableDef.{TableDef}
use Rattle.version_store.specs.Changed.{closed_at, is_ended, remains_of, planned}
use Rattle.version_store.specs.Contents.{AreDated, Contents, IsDated, TableVersion, added_in}
use Rattle.version_tables.specs.declared.form.Form.{Form}
use Rattle.version_store.specs.GoodStore.{IsGoodVersionIn}
use Rattle.version_store.specs.Units.{version_of}
use Rattle.version_store.proofs.Units.{end_is, moment_is}

-- the period and the system time of a good version are dated
pub good_is_dated : (form : Form) (tables : List TableDef) (clock : ℤ) (v : TableVersion) → IsGoodVersionIn form tables clock v → IsDated (version_of form v)
good_is_dated form tables clock v good = record { days = good.days; from = moment_is form v.from good.moments.from_is; to = end_is form v.to good.moments.to_is }

module _ (table : ℕ) (moment : ℤ) (at : IsMomentNumber moment) where
  closed_dated : (v : TableVersion) → IsDated v → AreDated (closed_at moment v)
  closed_dated v dated = go (is_eq (int_cmp v.from moment))
    where
      go : (b : Bool) → AreDated (cond b [] (record v { to = moment } ∷ []))
      go true = tt
      go false = (record { days = dated.days; from = dated.from; to = at }, tt)

  left_dated : (ended : List VersionRow) (v : TableVersion) → IsDated v → AreDated (remains_of table moment ended v)
  left_dated ended v dated = go (is_ended table ended v)
    where
      go : (b : Bool) → AreDated (cond b (closed_at moment v) (v ∷ []))
      go true = closed_dated v dated
      go false = (dated, tt)

  all_left_dated : (ended : List VersionRow) (vs : List TableVersion) → AreDated vs → AreDated (flat_map (remains_of table moment ended) vs)
  all_left_dated ended [] dated = tt
  all_left_dated ended (v ∷ vs) dated =
      all-append IsDated (remains_of table moment ended v) (flat_map (remains_of table moment ended) vs) (left_dated ended v dated.0) (all_left_dated ended vs dated.1)

  all_added_dated : (added : List PeriodRow) → AreDated (map (added_in table moment forever) added)
  all_added_dated [] = tt
  all_added_dated (row ∷ added) = (
    record {
      days = record { start_is = row.period.days.0; end_is = row.period.days.1; rise = row.period.ordered };
      from = at;
      to = (omega (arith, ints), omega (arith, ints));
    },
    all_added_dated added,
  )

  -- a plan leaves versions dated, and adds dated ones
  pub planned_dated : (ended : List VersionRow) (added : List PeriodRow) (c : Contents) → AreDated c.versions → AreDated (planned table moment ended added c).versions
  planned_dated ended added c dated =
      all-append IsDated (flat_map (remains_of table moment ended) c.versions) (map (added_in table moment forever) added) (all_left_dated ended c.versions dated) (all_added_dated added)
