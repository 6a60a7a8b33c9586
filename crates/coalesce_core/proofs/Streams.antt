-- The runs of a `Coalesce`, and what a call of it keeps while it takes rows.
use Rattle.std.proofs.Common.{◌≡◌, ◌≤ℤ◌, ℕ, true, List, [], ◌∷◌, ◌++◌, length, Global, Option, None, Some, MatchOption, option_to_list, refl, sym, ◌∙◌, ap, subst, arith, append_assoc, append-nil, ◌⊎◌}
use Rattle.std.specs.Iterator.{DrainsIf, HoldsAlong, Yields}
use Rattle.std.specs.Iterator.Runs.{EachRunFrom, EveryRun, ItemsAre, SomeRun, WholeRun}
use Rattle.std.specs.Vec.Iter.{into_iter_items, into_iter_steps}
use Rattle.std.specs.declared.vec.IntoIter.{IntoIter}
use Rattle.std.proofs.iter.Next.{Yields-more}
use Rattle.std.proofs.iter.runs.Made.{run, took}
use Rattle.period_core.specs.declared.row.PeriodRow.{PeriodRow}
use Rattle.std.proofs.lemmas.List.Elements.{Contains-push}
use Rattle.temporal_model.specs.Snapshot.{Equivalent}
use Rattle.temporal_model.proofs.Members.{AllPairs-head}
use Rattle.temporal_model.proofs.Snapshots.{Equivalent-append, Equivalent-refl, Equivalent-trans}
use Rattle.coalesce_core.specs.declared.merging.Coalesce.{Coalesce}
use Rattle.coalesce_core.specs.Coalesced.{IsCoalescedOf, IsOrdered, NotAfter}
use Rattle.coalesce_core.specs.Streaming.{IsCoalescedRun, Merges, coalesce_ahead, coalesce_source, coalesce_steps}
use Rattle.coalesce_core.proofs.Lists.{AllPairs-begin, AllPairs-end}
use Rattle.coalesce_core.proofs.Order.{NotAfter-same_start, NotAfter-start}
use Rattle.coalesce_core.proofs.Steps.{Equivalent-nothing, IsCoalescedOf-nothing, IsCoalescedOf-one, IsCoalescedOf-step, IsCoalescedOf-two, apart, widened}

-- ---- inside a call

-- the call began with this row in hand and the source at s; now the source is at u, and the rows
-- that it gave are merged into a row
pub record IsMerging {S : Type 0} (steps : S → Option PeriodRow → S → Type 0) (first : PeriodRow)
    (s : S) (row : PeriodRow) (u : S) : Type 0 where
  pub merged : List PeriodRow
  pub yields : Yields steps s merged u
  pub values : first.values ≡ row.values
  pub start : first.period.start ≡ row.period.start
  pub holds : IsOrdered (first ∷ merged) → Equivalent (first ∷ merged) (row ∷ [])

-- the row that was in hand does not come after one that the source gives
before_last :
    (first : PeriodRow) (merged : List PeriodRow) (next : PeriodRow)
    → IsOrdered ((first ∷ merged) ++ next ∷ []) → NotAfter first next
before_last first merged next up = AllPairs-head NotAfter first (merged ++ next ∷ []) up next (Contains-push merged next)

module _ {S : Type 0} (steps : S → Option PeriodRow → S → Type 0) (first : PeriodRow) (s : S) where
  pub IsMerging-start : IsMerging steps first s first s
  IsMerging-start = record { merged = []; yields = refl; values = refl; start = refl; holds = λ up. Equivalent-refl (first ∷ []) }

  -- the source gave one more row, which the row joins
  pub IsMerging-more :
      (row next wide : PeriodRow) (u v : S) → IsMerging steps first s row u → steps u (Some next) v
      → row.values ≡ next.values → next.period.start ≤ℤ row.period.end
      → row.values ≡ wide.values → row.period.start ≡ wide.period.start
      → row.period.end ≤ℤ wide.period.end → next.period.end ≤ℤ wide.period.end
      → (wide.period.end ≡ row.period.end) ⊎ (wide.period.end ≡ next.period.end)
      → IsMerging steps first s wide v
  IsMerging-more row next wide u v m step values meets wide_values wide_start keeps reaches tight = record {
    merged = m.merged ++ next ∷ [];
    yields = Yields-more steps s m.merged u next v m.yields step;
    values = m.values ∙ wide_values;
    start = m.start ∙ wide_start;
    holds = λ up.
        let begins : first.period.start ≤ℤ next.period.start = NotAfter-start first next (m.values ∙ values) (before_last first m.merged next up) in
        let from : row.period.start ≤ℤ next.period.start = subst (λ day. day ≤ℤ next.period.start) m.start begins in
        Equivalent-trans ((first ∷ m.merged) ++ next ∷ []) (row ∷ next ∷ []) (wide ∷ [])
        (Equivalent-append (first ∷ m.merged) (row ∷ []) (next ∷ []) (m.holds (AllPairs-begin NotAfter (first ∷ m.merged) (next ∷ []) up)))
        (widened row next wide values from meets (sym wide_values) (sym wide_start) keeps reaches tight);
  }

  -- the source gave a row that the row does not join
  pub Merges-next :
      (row next : PeriodRow) (u v : S) → IsMerging steps first s row u → steps u (Some next) v
      → ((row.values ≡ next.values) × (next.period.start ≤ℤ row.period.end) → ⊥)
      → Merges steps first s row (Some next) v
  Merges-next row next u v m step alone = record {
    merged = m.merged;
    takes = (v, Yields-more steps s m.merged u next v m.yields step, refl);
    gave = λ up.
        let before : NotAfter row next = NotAfter-same_start first row next m.values m.start (before_last first m.merged next up) in
        IsCoalescedOf-two (first ∷ m.merged) row next (m.holds (AllPairs-begin NotAfter (first ∷ m.merged) (next ∷ []) up)) (apart row next before alone);
  }

  -- a call whose source has ended gives its last row
  pub Merges-end :
      (row : PeriodRow) (u v : S) → IsMerging steps first s row u → steps u None v
      → Merges steps first s row None v
  Merges-end row u v m step = record {
    merged = m.merged;
    takes = (u, subst (λ rows. Yields steps s rows u) (sym (append-nil m.merged)) m.yields, step);
    gave = λ up.
        let same = append-nil (first ∷ m.merged) in
        let one : Equivalent (first ∷ m.merged) (row ∷ []) = m.holds (subst IsOrdered same up) in
        record { equivalent = subst (λ rows. Equivalent rows (row ∷ [])) (sym same) one; coalesced = (IsCoalescedOf-one row).coalesced };
  }

-- ---- all calls of a coalescing stream

module _ {S : Type 0} (steps : S → Option PeriodRow → S → Type 0) where
  -- a call with a row in hand
  pub coalesce_steps-merges :
      (s t : Coalesce S) (first row : PeriodRow) → coalesce_ahead s ≡ Some first
      → Merges steps first (coalesce_source s) row (coalesce_ahead t) (coalesce_source t)
      → coalesce_steps steps s (Some row) t
  coalesce_steps-merges s t first row is m =
      subst (λ (held : Option PeriodRow). MatchOption held ((Some row ≡ None) × (coalesce_ahead t ≡ None)) (λ f. Merges steps f (coalesce_source s) row (coalesce_ahead t) (coalesce_source t)))
      (sym is) m

module _ {S : Type 0} (steps : S → Option PeriodRow → S → Type 0) where
  Yields-append : (s : S) (xs : List PeriodRow) (t : S) (ys : List PeriodRow) (u : S) → Yields steps s xs t → Yields steps t ys u → Yields steps s (xs ++ ys) u
  Yields-append s [] t ys u a b = subst (λ k. Yields steps k ys u) (sym a) b
  Yields-append s (x ∷ xs) t ys u a b = (a.0, a.1, Yields-append a.0 xs t ys u a.2 b)

  -- the source at s gave these rows after the one in hand, and then, if none is in hand
  -- afterwards, its end; if none was in hand it was not called
  abbrev Calls : Option PeriodRow → S → List PeriodRow → Option PeriodRow → Type 0
  Calls None s taken ahead = (taken ≡ []) × (ahead ≡ None)
  Calls (Some first) s taken ahead =
      (u : S) × Yields steps s taken u × MatchOption ahead ((v : S) × steps u None v) (λ _. Unit {0})

  -- the rows that calls gave, which led from one row in hand, with the source at s, to another
  record Streams (held : Option PeriodRow) (s : S) (given : List PeriodRow) (ahead : Option PeriodRow) : Type 0 where
    taken : List PeriodRow
    calls : Calls held s taken ahead
    gave : IsOrdered (option_to_list held ++ taken) → IsCoalescedOf (option_to_list held ++ taken) (given ++ option_to_list ahead)

  no_calls : (held : Option PeriodRow) (s : S) → Streams held s [] held
  no_calls None s = record { taken = []; calls = (refl, refl); gave = λ up. IsCoalescedOf-nothing }
  no_calls (Some first) s = record { taken = []; calls = (s, refl, tt); gave = λ up. IsCoalescedOf-one first }

  one_more :
      (held : Option PeriodRow) (s : S) (given : PeriodRow) (ahead : Option PeriodRow) (t : S) (more : List PeriodRow) (last : Option PeriodRow)
      → MatchOption held ((Some given ≡ None) × (ahead ≡ None)) (λ first. Merges steps first s given ahead t)
      → Streams ahead t more last → Streams held s (given ∷ more) last
  one_more None s given ahead t more last step b = absurd (let never = step.0 in cc)
  one_more (Some first) s given None t more last step b =
      let all : List PeriodRow = more ++ option_to_list last in
      let nothing : IsCoalescedOf b.taken all = b.gave (subst IsOrdered (sym b.calls.0) (λ i j d lt below. absurd (omega arith))) in
      let empty : all ≡ [] = Equivalent-nothing all (subst (λ l. Equivalent l all) b.calls.0 nothing.equivalent) in
      record {
        taken = step.merged ++ [];
        calls = (step.takes.0, step.takes.1, subst (λ o. MatchOption o ((v : S) × steps step.takes.0 None v) (λ _. Unit {0})) (sym b.calls.1) (t, step.takes.2));
        gave = λ up. subst (λ l. IsCoalescedOf ((first ∷ step.merged) ++ []) (given ∷ l)) (sym empty) (step.gave up);
      }
  one_more (Some first) s given (Some next) t more last step b =
      let front : List PeriodRow = first ∷ step.merged in
      let taken : List PeriodRow = step.merged ++ next ∷ [] in
      let same : (front ++ next ∷ []) ++ b.taken ≡ front ++ next ∷ b.taken = append_assoc front (next ∷ []) b.taken in
      record {
        taken = taken ++ b.taken;
        calls = (b.calls.0, Yields-append s taken t b.taken b.calls.0 (subst (Yields steps s taken) step.takes.2 step.takes.1) b.calls.1, b.calls.2);
        gave = λ up.
            let behind : IsOrdered (next ∷ b.taken) = AllPairs-end NotAfter front (next ∷ b.taken) (subst IsOrdered same up) in
            let before : IsOrdered (front ++ next ∷ []) = AllPairs-begin NotAfter (front ++ next ∷ []) b.taken up in
            subst (λ l. IsCoalescedOf l (given ∷ (more ++ option_to_list last))) (sym same)
            (IsCoalescedOf-step front given next b.taken (more ++ option_to_list last) (step.gave before) behind (b.gave behind));
      }

  streams : (a : Coalesce S) (given : List PeriodRow) (b : Coalesce S) → Yields (coalesce_steps steps) a given b → Streams (coalesce_ahead a) (coalesce_source a) given (coalesce_ahead b)
  streams a [] b e = subst (λ (o : Coalesce S). Streams (coalesce_ahead a) (coalesce_source a) [] (coalesce_ahead o)) e (no_calls (coalesce_ahead a) (coalesce_source a))
  streams a (row ∷ rows) b e =
      one_more (coalesce_ahead a) (coalesce_source a) row (coalesce_ahead e.0) (coalesce_source e.0) rows (coalesce_ahead b) e.1
      (streams e.0 rows b e.2)

  -- if a call gives None no row is in hand
  none_ahead : (P : Type 0) (held : Option PeriodRow) → MatchOption held P (λ first. ⊥) → held ≡ None
  none_ahead P None h = refl
  none_ahead P (Some first) h = absurd h

  -- the run of the source: its first row, and those after it
  source_calls :
      (held : Option PeriodRow) (source s : S) (taken : List PeriodRow) (ahead : Option PeriodRow)
      → steps source held s → Calls held s taken ahead
      → (u : S) × Yields steps source (option_to_list held ++ taken) u × (ahead ≡ None → (v : S) × steps u None v)
  source_calls None source s taken ahead step calls = (source, subst (λ rows. Yields steps source rows source) (sym calls.0) refl, λ _. (s, step))
  source_calls (Some first) source s taken ahead step calls = (
    calls.0,
    (s, step, calls.1),
    λ none. subst (λ o. MatchOption o ((v : S) × steps calls.0 None v) (λ _. Unit {0})) none calls.2,
  )

  pub IsCoalescedRun-new :
      (source s : S) (ahead : Option PeriodRow) → steps source ahead s
      → HoldsAlong steps source IsOrdered
      → EachRunFrom (coalesce_steps steps) (record { source = s; ahead = ahead }) (λ p. SomeRun steps source (λ q. IsCoalescedRun p q))
  IsCoalescedRun-new source s ahead step up p _ at =
      let it : Coalesce S = record { source = s; ahead = ahead } in
      let d : DrainsIf (coalesce_steps steps) (p.whole ≡ true) it p.items = subst (λ k. DrainsIf (coalesce_steps steps) (p.whole ≡ true) k p.items) at (took p) in
      let b : Streams ahead s p.items (coalesce_ahead d.0) = streams it p.items d.0 d.1 in
      let c = source_calls ahead source s b.taken (coalesce_ahead d.0) step b.calls in
      let items : List PeriodRow = option_to_list ahead ++ b.taken in
      let ended : p.whole ≡ true → coalesce_ahead d.0 ≡ None = λ w. none_ahead _ (coalesce_ahead d.0) (d.2 w).1 in
      let all : IsCoalescedOf items (p.items ++ option_to_list (coalesce_ahead d.0)) = b.gave (up items c.0 c.1) in (
        run steps source items p.whole (c.0, c.1, λ w. c.2 (ended w)),
        refl {a = source},
        record {
          so_far = (coalesce_ahead d.0, all);
          ends = λ w. w;
          all = λ w. subst (IsCoalescedOf items) (ap (λ o. p.items ++ option_to_list o) (ended w) ∙ append-nil p.items) all;
        },
      )

-- ---- the rows of a `Vec`

-- the rows that calls have given, and those that are left
into_iter_gave :
    (s : IntoIter PeriodRow Global) (rows : List PeriodRow) (t : IntoIter PeriodRow Global)
    → Yields into_iter_steps s rows t → into_iter_items s ≡ rows ++ into_iter_items t
into_iter_gave s [] t e = ap into_iter_items e
into_iter_gave s (row ∷ rows) t e = e.1.0 ∙ ap (λ l. row ∷ l) (into_iter_gave e.0 rows t e.2)

pub ordered_along :
    (s : IntoIter PeriodRow Global) (rows : List PeriodRow) → into_iter_items s ≡ rows
    → IsOrdered rows → HoldsAlong into_iter_steps s IsOrdered
ordered_along s rows is up given t e =
    AllPairs-begin NotAfter given (into_iter_items t) (subst IsOrdered (sym is ∙ into_iter_gave s given t e) up)

-- all that a `Coalesce` over given rows gives
pub coalesced_whole :
    (s : IntoIter PeriodRow Global) (rows answer : List PeriodRow) (count : ℕ)
    (it : Coalesce (IntoIter PeriodRow Global)) → into_iter_items s ≡ rows
    → EveryRun (into_iter_steps {X = PeriodRow} {Z = Global}) (λ q. ItemsAre q (into_iter_items q.from))
    → EachRunFrom (coalesce_steps into_iter_steps) it (λ p. SomeRun into_iter_steps s (λ q. IsCoalescedRun p q))
    → WholeRun (coalesce_steps into_iter_steps) it (λ p. (answer ≡ p.items) × (count ≡ length p.items))
    → IsCoalescedOf rows answer
coalesced_whole s rows answer count it is reads runs (p, at, whole, (same, _)) =
    let (q, from, run) = runs p p.seen at in
    let items : q.items ≡ into_iter_items q.from = (reads q q.seen).4 (run.ends whole) in
    let all : q.items ≡ rows = items ∙ ap into_iter_items from ∙ is in
    subst (λ l. IsCoalescedOf l answer) all (subst (IsCoalescedOf q.items) (sym same) (run.all whole))
