-- The rows of a `Coalesce`, by the rows of its source.
use Rattle.std.specs.Prelude.{◌≡◌, ◌+◌, ◌∷◌, ◌++◌, List, Option, None, true}
use Rattle.std.specs.Prelude.{IsSomeAnd, MatchOption, OnSome, option_to_list}
use Rattle.std.specs.Option.{option_map_or}
use Rattle.std.specs.Iterator.{Count, IsFinite, Yields, at_most, count_map}
use Rattle.std.specs.Iterator.Runs.{Run}
use Rattle.period_core.specs.declared.row.PeriodRow.{PeriodRow}
use Rattle.coalesce_core.specs.declared.merging.Coalesce.{Coalesce}
use Rattle.coalesce_core.specs.Coalesced.{IsCoalescedOf, IsOrdered}

-- ---- the parts of a `Coalesce`

-- the source of a stream
abbrev pub coalesce_source : {S : Type 0} → Coalesce S → S
coalesce_source s = s.source

-- the row in hand: none once the source has ended
abbrev pub coalesce_ahead : {S : Type 0} → Coalesce S → Option PeriodRow
coalesce_ahead s = s.ahead

-- if a row is in hand, the source may be called, and ends
abbrev pub coalesce_can : {S : Type 0} → (S → Type 0) → (S → Count) → Coalesce S → Type 0
coalesce_can can left s =
    OnSome (coalesce_ahead s) (can (coalesce_source s) × IsFinite (left (coalesce_source s)))

-- no more rows come than the one in hand and those that the source has left
abbrev pub coalesce_left : {S : Type 0} → (S → Count) → Coalesce S → Count
coalesce_left left s =
    option_map_or (λ _. count_map (λ n. n + 1) (left (coalesce_source s))) (coalesce_ahead s)
    (at_most 0)

-- ---- a call

module _ {S : Type 0} (steps : S → Option PeriodRow → S → Type 0) where
  -- calls of the source led from s to t and gave the rows and then the one in hand, or, if
  -- there is none, its end
  abbrev pub Takes : S → List PeriodRow → Option PeriodRow → S → Type 0
  Takes s rows ahead t =
      (u : S) × Yields steps s (rows ++ option_to_list ahead) u
      × MatchOption ahead (steps u None t) (λ _. u ≡ t)

  -- with this row in hand a call takes more rows, up to the next one that is in hand, and gives a
  -- row: it and the next are the coalesced list of all of them, if they are in order
  pub record Merges (first : PeriodRow) (s : S) (given : PeriodRow) (ahead : Option PeriodRow)
      (t : S) : Type 0 where
    pub merged : List PeriodRow
    pub takes : Takes s merged ahead t
    pub gave : IsOrdered ((first ∷ merged) ++ option_to_list ahead)
        → IsCoalescedOf ((first ∷ merged) ++ option_to_list ahead) (given ∷ option_to_list ahead)

  -- a call gives None if no row is in hand, and none is afterwards; else it merges
  abbrev pub coalesce_steps : Coalesce S → Option PeriodRow → Coalesce S → Type 0
  coalesce_steps s r t =
      MatchOption (coalesce_ahead s)
      ((r ≡ None) × (coalesce_ahead t ≡ None))
      (λ first. IsSomeAnd r (λ given.
      Merges first (coalesce_source s) given (coalesce_ahead t) (coalesce_source t)))

-- ---- all calls

-- a run of a `Coalesce` and the underlying run of its source: what the one gave, with the row
-- that is in hand, if there is one, is the coalesced list of what the other gave. If the one
-- has ended, so has the other, and no row is in hand.
pub record IsCoalescedRun {S T : Type 0} {steps : S → Option PeriodRow → S → Type 0}
    {source : T → Option PeriodRow → T → Type 0} (p : Run steps) (q : Run source)
    : Type 0 where
  pub so_far : (ahead : Option PeriodRow)
      × IsCoalescedOf q.items (p.items ++ option_to_list ahead)
  pub ends : p.whole ≡ true → q.whole ≡ true
  pub all : p.whole ≡ true → IsCoalescedOf q.items p.items
