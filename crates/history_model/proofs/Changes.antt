-- The effect of a change on a table's versions, as of later and of earlier moments.
use Rattle.std.proofs.Common.{◌≡◌, ◌<ℤ◌, ◌≤ℤ◌, ℕ, ℤ, Bool, true, false, List, cond, length, map, nat_eq, append-nil, refl, sym, subst, ap, ◌∙◌}
use Rattle.std.specs.List.{All, flat_map}
use Rattle.std.specs.List.Sorted.{IsPermutation}
use Rattle.std.proofs.lemmas.Int.{by_lt_z}
use Rattle.std.proofs.lemmas.List.Sorted.{All-permutation, IsPermutation-sym, IsPermutation-trans}
use Rattle.period_core.specs.Moments.{forever}
use Rattle.period_core.specs.declared.version.VersionRow.{VersionRow}
use Rattle.catalog_core.specs.declared.change.Action.{Action}
use Rattle.catalog_core.specs.declared.change.Change.{Change}
use Rattle.history_model.specs.Effects.{rows_after}
use Rattle.history_model.specs.Histories.{Changed, Database, History, catalog_of, state_at, versions_in, with_event}
use Rattle.history_model.specs.HistoryVersions.{AppliesAction, AppliesActionIf, versions_after}
use Rattle.history_model.specs.Represents.{IsChangedBy, HasVersionsOf, IsRecord, Represents}
use Rattle.history_model.specs.Versions.{IsRecorded, plain_version, values_at}
use Rattle.history_model.proofs.HistoryLemmas.{catalog_of-event, clock_of-event, state_at-changed_earlier, state_at-changed_later}
use Rattle.history_model.proofs.HistoryVersionFacts.{left_more}
use Rattle.history_model.proofs.Lists.{flat_map-permutation}
use Rattle.history_model.proofs.Moments.{Sound, after_earlier, after_later, after_sound, plain_sound, rows_after-permutation, seen, sound_plain, values_at-seen}
use Rattle.history_model.proofs.VersionFacts.{values_at-permutation}

-- ---- versions that an action makes

module _ (clock : ℤ) (action : Action) (old new : List VersionRow) (makes : AppliesAction clock action old new) where
  new_seen : (moment day : ℤ) → IsPermutation (values_at new moment day) (flat_map (seen moment day) (versions_after clock action (map plain_version old)))
  new_seen moment day =
      subst (λ l. IsPermutation l (flat_map (seen moment day) (versions_after clock action (map plain_version old)))) (sym (values_at-seen new moment day))
      (flat_map-permutation (seen moment day) (map plain_version new) (versions_after clock action (map plain_version old)) makes)

  -- from the clock on the versions show on each day what the action makes of that day's rows
  pub makes_later : All (IsRecorded clock) old → (moment day : ℤ) → clock ≤ℤ moment → moment <ℤ forever → IsPermutation (values_at new moment day) (rows_after action day (values_at old moment day))
  makes_later sound moment day late before =
      subst (λ l. IsPermutation (values_at new moment day) (rows_after action day l)) (sym (values_at-seen old moment day))
      (IsPermutation-trans (values_at new moment day) (flat_map (seen moment day) (versions_after clock action (map plain_version old))) (rows_after action day (flat_map (seen moment day) (map plain_version old)))
      (new_seen moment day)
      (after_later clock moment day late before action (map plain_version old) (plain_sound clock old sound)))

  -- before the clock the versions show what they showed
  pub makes_earlier : (moment day : ℤ) → moment <ℤ clock → moment <ℤ forever → IsPermutation (values_at new moment day) (values_at old moment day)
  makes_earlier moment day early before =
      subst (IsPermutation (values_at new moment day)) (after_earlier clock moment day early before action (map plain_version old) ∙ sym (values_at-seen old moment day)) (new_seen moment day)

  -- the versions after a change are as a store may have them
  pub makes_sound : clock <ℤ forever → All (IsRecorded clock) old → All (IsRecorded clock) new
  makes_sound open_clock sound =
      sound_plain clock new
      (All-permutation (Sound clock) (versions_after clock action (map plain_version old)) (map plain_version new)
      (IsPermutation-sym (map plain_version new) (versions_after clock action (map plain_version old)) makes)
      (after_sound clock open_clock action (map plain_version old) (plain_sound clock old sound)))

-- ---- the versions after a change

module _ (history : History) (old new : Database) (change : Change) (changed : IsChangedBy change old new) where
  daily_at : IsRecord old → Represents history old → (table : ℕ) (moment day : ℤ) → moment <ℤ forever → (b : Bool) → nat_eq table change.table ≡ b
      → AppliesActionIf b old.clock change.action (versions_in old table) (versions_in new table)
      → IsPermutation (values_at (versions_in new table) moment day) (state_at (with_event history (Changed old.clock change)) moment table day)
  daily_at sound kept table moment day before b here makes = by_lt_z moment old.clock earlier later
    where
      held : IsPermutation (values_at (versions_in old table) moment day) (state_at history moment table day)
      held = kept.daily table moment day before

      go_earlier : (b : Bool) → AppliesActionIf b old.clock change.action (versions_in old table) (versions_in new table) → moment <ℤ old.clock
          → IsPermutation (values_at (versions_in new table) moment day) (state_at history moment table day)
      go_earlier true makes early =
          IsPermutation-trans (values_at (versions_in new table) moment day) (values_at (versions_in old table) moment day) (state_at history moment table day)
          (makes_earlier old.clock change.action (versions_in old table) (versions_in new table) makes moment day early before) held
      go_earlier false makes early =
          IsPermutation-trans (values_at (versions_in new table) moment day) (values_at (versions_in old table) moment day) (state_at history moment table day)
          (values_at-permutation (versions_in new table) (versions_in old table) moment day makes) held

      go_later : (b : Bool) → AppliesActionIf b old.clock change.action (versions_in old table) (versions_in new table) → old.clock ≤ℤ moment
          → IsPermutation (values_at (versions_in new table) moment day) (cond b (rows_after change.action day (state_at history moment table day)) (state_at history moment table day))
      go_later true makes late =
          IsPermutation-trans (values_at (versions_in new table) moment day) (rows_after change.action day (values_at (versions_in old table) moment day)) (rows_after change.action day (state_at history moment table day))
          (makes_later old.clock change.action (versions_in old table) (versions_in new table) makes (sound.recorded table) moment day late before)
          (rows_after-permutation change.action day (values_at (versions_in old table) moment day) (state_at history moment table day) held)
      go_later false makes late =
          IsPermutation-trans (values_at (versions_in new table) moment day) (values_at (versions_in old table) moment day) (state_at history moment table day)
          (values_at-permutation (versions_in new table) (versions_in old table) moment day makes) held

      earlier : moment <ℤ old.clock → IsPermutation (values_at (versions_in new table) moment day) (state_at (with_event history (Changed old.clock change)) moment table day)
      earlier early =
          subst (IsPermutation (values_at (versions_in new table) moment day)) (sym (state_at-changed_earlier history old.clock change moment table day early)) (go_earlier b makes early)

      later : old.clock ≤ℤ moment → IsPermutation (values_at (versions_in new table) moment day) (state_at (with_event history (Changed old.clock change)) moment table day)
      later late =
          subst (IsPermutation (values_at (versions_in new table) moment day))
          (sym (state_at-changed_later history old.clock change moment table day late
          ∙ ap (λ b. cond b (rows_after change.action day (state_at history moment table day)) (state_at history moment table day)) here)) (go_later b makes late)

  represented : IsRecord old → Represents history old → Represents (with_event history (Changed old.clock change)) new
  represented sound kept = record {
    clock = changed.clock ∙ kept.clock ∙ sym (clock_of-event history (Changed old.clock change));
    catalog = changed.catalog ∙ kept.catalog ∙ sym (catalog_of-event history (Changed old.clock change) ∙ append-nil (catalog_of history));
    daily = λ table moment day before. daily_at sound kept table moment day before (nat_eq table change.table) refl (changed.versions table);
  }

  recorded : IsRecord old → IsRecord new
  recorded sound = record {
    before = subst (λ (c : ℤ). c <ℤ forever) (sym changed.clock) sound.before;
    lists = changed.lists ∙ sound.lists ∙ ap (λ tables. length tables) (sym changed.catalog);
    recorded = λ table. subst (λ (c : ℤ). All (IsRecorded c) (versions_in new table)) (sym changed.clock) (go table (nat_eq table change.table) (changed.versions table));
  }
    where
      go : (table : ℕ) (b : Bool) → AppliesActionIf b old.clock change.action (versions_in old table) (versions_in new table) → All (IsRecorded old.clock) (versions_in new table)
      go table true makes = makes_sound old.clock change.action (versions_in old table) (versions_in new table) makes sound.before (sound.recorded table)
      go table false makes =
          All-permutation (IsRecorded old.clock) (versions_in old table) (versions_in new table) (IsPermutation-sym (versions_in new table) (versions_in old table) makes) (sound.recorded table)

  left : HasVersionsOf history old → HasVersionsOf (with_event history (Changed old.clock change)) new
  left was table = left_more history old.clock change table (versions_in old table) (versions_in new table) (was table) (changed.versions table)

  pub change_represented : (IsRecord old → Represents history old → Represents (with_event history (Changed old.clock change)) new × IsRecord new) × (HasVersionsOf history old → HasVersionsOf (with_event history (Changed old.clock change)) new)
  change_represented = (λ sound kept. (represented sound kept, recorded sound), left)
