-- No version of a good store ended after its clock.
use Rattle.std.proofs.Common.{◌≡◌, ◌⊎◌, ◌<ℤ◌, ◌≤ℤ◌, ℕ, ℤ, Bool, true, false, cond, List, [], ◌∷◌, map, refl, subst, inl, inr, arith}
use Rattle.std.specs.List.{AllByRecursion, filter}
use Rattle.std.specs.List.Sorted.{IsPermutation}
use Rattle.std.specs.Cmp.{int_ranks}
use Rattle.std.specs.Ordering.{MatchOrdering, int_cmp, int_eq, is_gt}
use Rattle.std.specs.Prelude.{not}
use Rattle.std.specs.declared.cmp.Ordering.{Ordering}
use Rattle.std.specs.declared.cmp.Ordering.TheVariants.{Equal, Greater, Less}
use Rattle.std.proofs.lemmas.Int.{ints}
use Rattle.std.proofs.lemmas.List.Elements.{All-contains, All-from_recursion, recursion_from_All}
use Rattle.period_core.specs.Moments.{forever}
use Rattle.period_core.specs.declared.version.VersionRow.{VersionRow}
use Rattle.history_model.specs.Versions.{IsRecorded}
use Rattle.version_store.specs.Contents.{Contents, of_table, version_in}
use Rattle.version_store.specs.GoodStore.{AreGood, NoExtraCondition}
use Rattle.script_engine.specs.engine.Ended.{SomeEndedAfter, has_ended}
use Rattle.script_engine.proofs.LastState.{recorded_rows}
use Rattle.script_engine.proofs.Recorded.{recorded_of}

-- a greater moment is later
pub later : (a b : ℤ) → true ≡ is_gt (int_cmp a b) → b <ℤ a
later a b on = go (int_cmp a b) on (int_ranks a b)
  where
    go : (o : Ordering) → true ≡ is_gt o → MatchOrdering o (a <ℤ b) (a ≡ b) (b <ℤ a) → b <ℤ a
    go Less off rank = absurd cc
    go Equal off rank = absurd cc
    go Greater greater rank = rank

-- versions recorded up to the clock ended by then, if they ended
all_in_time : (clock : ℤ) (rows : List VersionRow) → AllByRecursion (IsRecorded clock) rows → AllByRecursion (λ (v : VersionRow). v.to ≤ℤ clock) (filter has_ended rows)
all_in_time clock [] are = tt
all_in_time clock (v ∷ rows) are = go (int_eq v.to forever) refl (all_in_time clock rows are.1)
  where
    go : (b : Bool) → int_eq v.to forever ≡ b → AllByRecursion (λ (w : VersionRow). w.to ≤ℤ clock) (filter has_ended rows) → AllByRecursion (λ (w : VersionRow). w.to ≤ℤ clock) (cond (not b) (v ∷ filter has_ended rows) (filter has_ended rows))
    go true current more = more
    go false ended more = (by_end are.0.ended, more)
      where
        by_end : (v.to ≡ forever) ⊎ (v.to ≤ℤ clock) → v.to ≤ℤ clock
        by_end (inl never) = absurd (grind (arith, ints, ended, never))
        by_end (inr past) = past

-- no version of a table that is read of a good store ended later
pub none_late : (c : Contents) (clock : ℤ) (number : ℕ) (rows : List VersionRow) → AreGood NoExtraCondition c → c.clock ≡ clock → IsPermutation (of_table number c.versions) (map (version_in number) rows) → SomeEndedAfter clock (filter has_ended rows) → ⊥
none_late c clock number rows good is all (version, among, after) =
    let recorded = recursion_from_All (IsRecorded c.clock) rows (recorded_rows c number rows (recorded_of c good) all) in
    let past : version.to ≤ℤ c.clock = All-contains (λ (v : VersionRow). v.to ≤ℤ c.clock) (filter has_ended rows) version (All-from_recursion (λ (v : VersionRow). v.to ≤ℤ c.clock) (filter has_ended rows) (all_in_time c.clock rows recorded)) among in
    let upto : version.to ≤ℤ clock = subst (λ (m : ℤ). version.to ≤ℤ m) is past in
    absurd (omega (arith, ints, upto, after))
