use Rattle.std.proofs.Common.{◌≡◌, ◌+◌, ◌++◌, ◌∷◌, [], Bool, true, false, List, ℕ, sym, ◌∙◌, ap, map, subst}
use Rattle.std.specs.Bool.{OnFalse, OnTrue}
use Rattle.std.specs.Borrow.{Bor}
use Rattle.std.specs.List.{Contains}
use Rattle.std.specs.List.Sorted.{IsPermutation}
use Rattle.std.proofs.lemmas.Bool.{false≢true}
use Rattle.std.proofs.lemmas.List.{take_all}
use Rattle.period_core.specs.declared.row.PeriodRow.{PeriodRow}
use Rattle.period_core.specs.declared.version.VersionRow.{VersionRow}
use Rattle.history_model.specs.Versions.{row_of}
use Rattle.portion_dml.proofs.Daily.{daily}
use Rattle.portion_dml.proofs.Ending.{Passed, at_first, left_in_the_end, passed_ended, passed_kept}
use Rattle.portion_dml.proofs.remaining.after.Goals as goal
use Rattle.portion_dml.proofs.remaining.after.Goals.{then-not-take_out+in_ok-period_row+in_ok-push, else-not-take_out}

abbrev now_of : Bor VersionRow → VersionRow
now_of r = r.now

on_true : (b : Bool) (P : Type 0) → OnTrue b P → b ≡ true → P
on_true true P h e = h
on_true false P h e = absurd (false≢true e)

on_false : (b : Bool) (P : Type 0) → OnFalse b P → b ≡ false → P
on_false true P h e = absurd (false≢true (sym e))
on_false false P h e = h

pub loop-version-init : goal.loop-version-init
loop-version-init c = λ stay taken.
    let left : List VersionRow = map now_of c.in_ok-left.left.items in
    subst (λ (r : List PeriodRow). Passed c.args.current.now 0 left r stay) (sym c.new-rows.ensures.items)
    (at_first c.args.current.now c.args.plan.now.ended left stay (c.in_ok-left.ensures ∙ c.as_slice.ensures) taken)

pub loop-version-preserved : goal.loop-version-preserved
loop-version-preserved c = λ stay taken.
    let current : List VersionRow = c.args.current.now in
    let index : ℕ = c.loop-version.version-index in
    let rows : List PeriodRow = c.loop-version.rows.items in
    let version : VersionRow = c.version-item.result in
    let old : List VersionRow = map now_of c.loop-version.left.items in
    let new : List VersionRow = map now_of c.take_out.new.left.items in
    let passed : Passed current index old rows stay = c.loop-version.invariant stay taken in
    elim c.if-not-take_out.branch [
      | then-not-take_out+in_ok-period_row+in_ok-push w ↦
          let absent = on_false c.take_out.result (Contains old version → ⊥) c.take_out.ensures.absent w.if-not-take_out.true in
          let kept = on_false c.take_out.result (c.take_out.new.left.items ≡ c.loop-version.left.items) c.take_out.ensures.kept w.if-not-take_out.true in
          subst (λ (r : List PeriodRow). Passed current (index + 1) new r stay)
          (sym (ap (λ r. r.items) w.rows-is ∙ w.in_ok-push.ensures.items ∙ ap (λ (p : PeriodRow). rows ++ p ∷ []) w.in_ok-period_row.ensures))
          (subst (λ (l : List VersionRow). Passed current (index + 1) l (rows ++ row_of version ∷ []) stay) (sym (ap (map now_of) kept))
          (passed_kept current index old rows stay version c.loop-version-test.true c.version-item.is passed absent))
      | else-not-take_out w ↦
          let gone = on_true c.take_out.result (IsPermutation old (version ∷ new)) c.take_out.ensures.taken w.if-not-take_out.false in
          subst (λ r. Passed current (index + 1) new r.items stay) (sym w.rows-is)
          (passed_ended current index old rows stay version c.loop-version-test.true c.version-item.is passed new gone)
    ]

pub returns-clause-left : goal.returns-clause-left
returns-clause-left c =
    left_in_the_end c.args.current.now c.args.plan.now c.loop-version.version-index (map now_of c.loop-version.left.items) c.loop-version.rows.items c.loop-row.rows.items c.requires.stay c.loop-version-test.false
    c.requires.taken (c.loop-version.invariant c.requires.stay c.requires.taken)
    (c.loop-row.invariant ∙ ap (λ l. c.loop-version.rows.items ++ l) (take_all c.loop-row.row-index c.as_slice-row-items.result.now c.loop-row-test.false ∙ c.as_slice-row-items.ensures))

pub returns-clause-effect : goal.returns-clause-effect
returns-clause-effect c action plans =
    daily action c.args.current.now c.args.plan.now c.loop-row.rows.items plans
    (left_in_the_end c.args.current.now c.args.plan.now c.loop-version.version-index (map now_of c.loop-version.left.items) c.loop-version.rows.items c.loop-row.rows.items c.requires.stay c.loop-version-test.false
    c.requires.taken (c.loop-version.invariant c.requires.stay c.requires.taken)
    (c.loop-row.invariant ∙ ap (λ l. c.loop-version.rows.items ++ l) (take_all c.loop-row.row-index c.as_slice-row-items.result.now c.loop-row-test.false ∙ c.as_slice-row-items.ensures)))
