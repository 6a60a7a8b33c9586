-- Steps of the way back through the entries.
use Rattle.std.proofs.Common.{◌≡◌, ◌≤ℤ◌, ◌≤◌, ◌<◌, ◌+◌, ◌-◌, ◌++◌, ◌∷◌, [], ◌∙◌, ℕ, Bool, List, false, cond, zero, suc, length, get_or, take, sym, ap, subst, inl, inr, arith}
use Rattle.std.specs.List.{filter}
use Rattle.std.proofs.lemmas.Bool.{cases_lt}
use Rattle.std.proofs.lemmas.List.{append-nil}
use Rattle.std.proofs.lemmas.List.Elements.{filter_more}
use Rattle.period_core.specs.declared.window.Window.{Window}
use Rattle.ended_versions.specs.Bounds.{begins_early, ends_late}
use Rattle.ended_versions.specs.Entries.{AreInOrder, KnowLeast, Precedes, block_start, is_seen}
use Rattle.ended_versions.specs.declared.blocks.VersionEntry.{VersionEntry}
use Rattle.ended_versions.proofs.BoundFacts.{begins_late, ends_early}

-- one more element, which does not pass
one_fails : {X : Type 0} (test : X → Bool) (xs : List X) (d : X) (i : ℕ) → i < length xs → test (get_or xs i d) ≡ false → filter test (take (i + 1) xs) ≡ filter test (take i xs)
one_fails test xs d i inside fails =
    filter_more test xs i d inside
    ∙ (ap (λ b. filter test (take i xs) ++ cond b (get_or xs i d ∷ []) []) fails ∙ append-nil (filter test (take i xs)))

-- a number of elements after a place, none of which passes
some_fail :
    {X : Type 0} (test : X → Bool) (xs : List X) (d : X) (low n : ℕ) → low + n ≤ length xs
    → ((k : ℕ) → low ≤ k → k < low + n → test (get_or xs k d) ≡ false)
    → filter test (take (low + n) xs) ≡ filter test (take low xs)
some_fail test xs d low zero within none =
    let e : low + zero ≡ low = omega arith in ap (λ n. filter test (take n xs)) e
some_fail test xs d low (suc n) within none =
    let e : low + suc n ≡ (low + n) + 1 = omega arith in
    ap (λ m. filter test (take m xs)) e
    ∙ (one_fails test xs d (low + n) (omega arith) (none (low + n) (omega arith) (omega arith))
    ∙ some_fail test xs d low n (omega arith) (λ k from below. none k from (omega arith)))

-- no place between two, from none on and before
pub none_between :
    {X : Type 0} (test : X → Bool) (xs : List X) (d : X) (low high : ℕ) → low ≤ high → high ≤ length xs
    → ((k : ℕ) → low ≤ k → k < high → test (get_or xs k d) ≡ false)
    → filter test (take high xs) ≡ filter test (take low xs)
none_between test xs d low high order within none =
    let e : low + (high - low) ≡ high = omega arith in
    ap (λ m. filter test (take m xs)) (sym e)
    ∙ some_fail test xs d low (high - low) (omega arith) (λ k from below. none k from (omega arith))

-- if an entry ends too early to be seen, so do those before it
pub none_before :
    (window : Window) (entries : List VersionEntry) (entry : VersionEntry) (place : ℕ) → AreInOrder entries → place < length entries
    → entry ≡ get_or entries place entry → is_seen window entry ≡ false → ends_late window entry.to ≡ false
    → filter (is_seen window) (take (place + 1) entries) ≡ []
none_before window entries entry place order inside is unseen late =
    none_between (is_seen window) entries entry 0 (place + 1) (omega arith) (omega arith)
    (λ k from below. go k (omega arith))
  where
    by_entry : (e : VersionEntry) → entry ≡ e → (other : VersionEntry) → Precedes other e → is_seen window other ≡ false
    by_entry e same other p = ends_early window entry.to other.from other.to late (subst (λ (z : VersionEntry). other.to ≤ℤ z.to) (sym same) p.ended)

    here : (k : ℕ) → k ≡ place → is_seen window (get_or entries k entry) ≡ false
    here k e = ap (λ n. is_seen window (get_or entries n entry)) e ∙ (ap (is_seen window) (sym is) ∙ unseen)

    go : (k : ℕ) → k ≤ place → is_seen window (get_or entries k entry) ≡ false
    go k le = elim (cases_lt k place) [
      | inl lt ↦ by_entry (get_or entries place entry) is (get_or entries k entry) (order k place entry lt inside)
      | inr ge ↦ here k (omega arith)
    ]

-- if a block begins too late, none of it is seen
pub none_of_block :
    (window : Window) (entries : List VersionEntry) (entry : VersionEntry) (place : ℕ) → KnowLeast entries → place < length entries
    → entry ≡ get_or entries place entry → block_start place ≤ place → begins_early window entry.earliest_from ≡ false
    → filter (is_seen window) (take (place + 1) entries) ≡ filter (is_seen window) (take (block_start place) entries)
none_of_block window entries entry place earliest_from inside is start late =
    none_between (is_seen window) entries entry (block_start place) (place + 1) (omega arith) (omega arith)
    (λ k from below. begins_late window entry.earliest_from (get_or entries k entry).from (get_or entries k entry).to late
    (subst (λ (z : VersionEntry). z.earliest_from ≤ℤ (get_or entries k entry).from) (sym is) (earliest_from place k entry from (omega arith) inside)))
