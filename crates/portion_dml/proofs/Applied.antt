-- A plan that is applied at a moment makes of the versions what the change makes of them.
use Rattle.std.proofs.Common.{◌≡◌, ◌&&◌, ◌≤ℤ◌, ◌<ℤ◌, ℤ, Bool, true, false, cond, List, [], ◌∷◌, ◌++◌, map, refl, sym, ◌∙◌, ap, ap₂, subst, append_assoc, append-nil}
use Rattle.std.specs.List.{All, filter, flat_map}
use Rattle.std.specs.List.Sorted.{IsPermutation}
use Rattle.std.proofs.lemmas.List.{map-append}
use Rattle.std.proofs.lemmas.List.Concat.{flat_map-append}
use Rattle.std.proofs.lemmas.List.Elements.{All-head, All-tail, filter-append}
use Rattle.std.proofs.lemmas.List.Sorted.{All-permutation, IsPermutation-map, IsPermutation-sym, IsPermutation-trans}
use Rattle.temporal_model.proofs.Rearranged.{IsPermutation-cancel, IsPermutation-filter, from_permutation}
use Rattle.period_core.specs.Moments.{forever}
use Rattle.period_core.specs.Windows.{window_sees}
use Rattle.period_core.specs.declared.version.VersionRow.{VersionRow}
use Rattle.period_core.specs.declared.window.Window.TheVariants.{Now}
use Rattle.catalog_core.specs.declared.change.Action.{Action}
use Rattle.history_model.specs.Effects.{rows_after}
use Rattle.history_model.specs.HistoryVersions.{AppliesAction, begun_at, closed_at, is_touched, its_row, remains_of, touched_rows, versions_after}
use Rattle.history_model.specs.Portions.{PlainRow, added, plain_row, touches}
use Rattle.history_model.specs.Versions.{IsRecorded, PlainVersion, current, plain_version, values_at}
use Rattle.history_model.proofs.Changes.{makes_earlier, makes_later}
use Rattle.history_model.proofs.HistoryVersionFacts.{versions_after-permutation}
use Rattle.history_model.proofs.Lists.{All-passed, exchange, filter-whole}
use Rattle.portion_dml.specs.Laws.{IsApplied}
use Rattle.portion_dml.specs.Plans.{version_row}

abbrev is_current : VersionRow → Bool
is_current v = window_sees Now v.from v.to

-- the version is current, and the action touches it
abbrev is_hit : Action → VersionRow → Bool
is_hit action v = is_touched action (plain_version v)

-- ---- lists

-- two filters, one after the other, are one filter by both tests
filtered_twice : {X : Type 0} (p q : X → Bool) (xs : List X) → filter q (filter p xs) ≡ filter (λ x. p x && q x) xs
filtered_twice p q [] = refl
filtered_twice {X} p q (x ∷ xs) = go (p x) (filtered_twice p q xs)
  where
    go : (b : Bool) → filter q (filter p xs) ≡ filter (λ x. p x && q x) xs → filter q (cond b (x ∷ filter p xs) (filter p xs)) ≡ cond (b && q x) (x ∷ filter (λ x. p x && q x) xs) (filter (λ x. p x && q x) xs)
    go true e = ap (λ l. cond (q x) (x ∷ l) l) e
    go false e = e

-- a test of what is made of each element
filter-of_map : {X Y : Type 0} (f : X → Y) (p : Y → Bool) (xs : List X) → filter p (map f xs) ≡ map f (filter (λ x. p (f x)) xs)
filter-of_map f p [] = refl
filter-of_map f p (x ∷ xs) = go (p (f x)) (filter-of_map f p xs)
  where
    go : (b : Bool) → filter p (map f xs) ≡ map f (filter (λ x. p (f x)) xs) → cond b (f x ∷ filter p (map f xs)) (filter p (map f xs)) ≡ map f (cond b (x ∷ filter (λ x. p (f x)) xs) (filter (λ x. p (f x)) xs))
    go true e = ap (λ l. f x ∷ l) e
    go false e = e

nothing_left : {X : Type 0} (ys : List X) → IsPermutation [] ys → ys ≡ []
nothing_left ys p = from_permutation [] ys p

-- if no version is touched, each is left as it was
none_left : (moment : ℤ) (action : Action) (vs : List PlainVersion) → filter (is_touched action) vs ≡ [] → flat_map (remains_of moment action) vs ≡ vs
none_left moment action [] e = refl
none_left moment action (v ∷ vs) e = go (is_touched action v) e (none_left moment action vs)
  where
    go : (b : Bool) → cond b (v ∷ filter (is_touched action) vs) (filter (is_touched action) vs) ≡ [] → (filter (is_touched action) vs ≡ [] → flat_map (remains_of moment action) vs ≡ vs)
        → cond b (closed_at moment v) (v ∷ []) ++ flat_map (remains_of moment action) vs ≡ v ∷ vs
    go true e rest = cc
    go false e rest = ap (λ l. v ∷ l) (rest e)

-- if each version is touched, each is closed
all_closed : (moment : ℤ) (action : Action) (vs : List VersionRow) → All (λ (v : VersionRow). is_hit action v ≡ true) vs
    → flat_map (remains_of moment action) (map plain_version vs) ≡ flat_map (closed_at moment) (map plain_version vs)
all_closed moment action [] h = refl
all_closed moment action (v ∷ vs) h =
    ap₂ (λ (a b : List PlainVersion). a ++ b)
    (ap (λ b. cond b (closed_at moment (plain_version v)) (plain_version v ∷ [])) (All-head (λ (v : VersionRow). is_hit action v ≡ true) v vs h))
    (all_closed moment action vs (All-tail (λ (v : VersionRow). is_hit action v ≡ true) v vs h))

rows_of-plain : (vs : List VersionRow) → map its_row (map plain_version vs) ≡ map version_row vs
rows_of-plain [] = refl
rows_of-plain (v ∷ vs) = ap (λ l. version_row v ∷ l) (rows_of-plain vs)

-- ---- a plan that is applied

module _ (moment : ℤ) (action : Action) (old new : List VersionRow) (applied : IsApplied moment action old new) where
  -- the ended versions are the current ones that the action touches
  hit_are_ended : IsPermutation (filter (is_hit action) old) applied.plan.ended
  hit_are_ended =
      subst (IsPermutation (filter (is_hit action) old)) (sym applied.plans.ended)
      (subst (λ l. IsPermutation l (filter (λ (v : VersionRow). touches action (version_row v)) applied.listed)) (filtered_twice is_current (λ (v : VersionRow). touches action (version_row v)) old)
      (IsPermutation-filter (λ (v : VersionRow). touches action (version_row v)) (current old) applied.listed applied.are_current))

  all_hit : All (λ (v : VersionRow). is_hit action v ≡ true) applied.plan.ended
  all_hit =
      All-permutation (λ (v : VersionRow). is_hit action v ≡ true) (filter (is_hit action) old) applied.plan.ended hit_are_ended (All-passed (is_hit action) old)

  -- none of the staying versions is touched
  none_hit : filter (is_hit action) applied.applies.stay ≡ []
  none_hit =
      let E : List VersionRow = applied.plan.ended in
      let S : List VersionRow = filter (is_hit action) applied.applies.stay in
      let parts : filter (is_hit action) (E ++ applied.applies.stay) ≡ E ++ S =
      filter-append (is_hit action) E applied.applies.stay ∙ ap (λ l. l ++ S) (filter-whole (is_hit action) E all_hit) in
      let one : IsPermutation (filter (is_hit action) old) (E ++ S) =
      subst (IsPermutation (filter (is_hit action) old)) parts (IsPermutation-filter (is_hit action) old (E ++ applied.applies.stay) applied.applies.taken) in
      let two : IsPermutation E (E ++ S) =
      IsPermutation-trans E (filter (is_hit action) old) (E ++ S) (IsPermutation-sym (filter (is_hit action) old) E hit_are_ended) one in
      nothing_left S (IsPermutation-cancel E [] S (subst (λ l. IsPermutation l (E ++ S)) (sym (append-nil E)) two))

  -- the versions that the change makes of the ended versions and of the staying ones
  parts_after : versions_after moment action (map plain_version (applied.plan.ended ++ applied.applies.stay))
      ≡ (flat_map (closed_at moment) (map plain_version applied.plan.ended) ++ map plain_version applied.applies.stay) ++ map (begun_at moment) (map plain_row applied.plan.added)
  parts_after =
      let E : List VersionRow = applied.plan.ended in
      let S : List VersionRow = applied.applies.stay in
      let P : List PlainVersion = map plain_version E in
      let Q : List PlainVersion = map plain_version S in
      let whole : map plain_version (E ++ S) ≡ P ++ Q = map-append plain_version E S in
      let none : filter (is_touched action) Q ≡ [] = filter-of_map plain_version (is_touched action) S ∙ ap (map plain_version) none_hit in
      let each : filter (is_touched action) P ≡ P = filter-of_map plain_version (is_touched action) E ∙ ap (map plain_version) (filter-whole (is_hit action) E all_hit) in
      let left : flat_map (remains_of moment action) (P ++ Q) ≡ flat_map (closed_at moment) P ++ Q =
      flat_map-append (remains_of moment action) P Q
      ∙ ap₂ (λ (a b : List PlainVersion). a ++ b) (all_closed moment action E all_hit) (none_left moment action Q none) in
      let rows : touched_rows action (P ++ Q) ≡ map version_row E =
      ap (map its_row) (filter-append (is_touched action) P Q ∙ ap₂ (λ (a b : List PlainVersion). a ++ b) each none ∙ append-nil P)
      ∙ rows_of-plain E in
      ap (versions_after moment action) whole
      ∙ ap₂ (λ (a : List PlainVersion) (b : List PlainRow). a ++ map (begun_at moment) b) left (ap (added action) rows ∙ sym applied.plans.added)

  -- a plan, applied, makes of the versions what the change makes of them
  pub applied_makes : AppliesAction moment action old new
  applied_makes =
      let C : List PlainVersion = flat_map (closed_at moment) (map plain_version applied.plan.ended) in
      let Q : List PlainVersion = map plain_version applied.applies.stay in
      let B : List PlainVersion = map (begun_at moment) (map plain_row applied.plan.added) in
      let N : List PlainVersion = map plain_version new in
      let V : List PlainVersion = versions_after moment action (map plain_version old) in
      let W : List PlainVersion = versions_after moment action (map plain_version (applied.plan.ended ++ applied.applies.stay)) in
      let same : IsPermutation V W =
      versions_after-permutation moment action (map plain_version old) (map plain_version (applied.plan.ended ++ applied.applies.stay))
      (IsPermutation-map plain_version old (applied.plan.ended ++ applied.applies.stay) applied.applies.taken) in
      let turned : IsPermutation (Q ++ (C ++ B)) W =
      subst (IsPermutation (Q ++ (C ++ B))) (sym (append_assoc C Q B) ∙ sym parts_after) (exchange Q C B) in
      IsPermutation-trans N (Q ++ (C ++ B)) V applied.applies.made (IsPermutation-trans (Q ++ (C ++ B)) W V turned (IsPermutation-sym V W same))

  pub applied_later : All (IsRecorded moment) old → (at day : ℤ) → moment ≤ℤ at → at <ℤ forever → IsPermutation (values_at new at day) (rows_after action day (values_at old at day))
  applied_later sound at day late before = makes_later moment action old new applied_makes sound at day late before

  pub applied_earlier : (at day : ℤ) → at <ℤ moment → at <ℤ forever → IsPermutation (values_at new at day) (values_at old at day)
  applied_earlier at day early before = makes_earlier moment action old new applied_makes at day early before
