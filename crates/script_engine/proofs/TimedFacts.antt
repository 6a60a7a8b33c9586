-- Runs at the system's time: the laws.
use Rattle.std.proofs.Common.{◌≡◌, ◌⊎◌, ◌∷◌, ◌≤ℤ◌, ◌∙◌, ℤ, List, [], Result, Ok, Err, ap, arith, false, inl, inr, refl, subst, sym, true}
use Rattle.std.specs.Prelude.{IsErr, int_lt}
use Rattle.std.proofs.lemmas.Int.{ints}
use Rattle.period_core.specs.Leasts.{NoneApplies}
use Rattle.period_core.specs.declared.refusal.Refusal.{Refusal}
use Rattle.period_core.specs.declared.refusal.Refusal.TheVariants.{MomentBack}
use Rattle.sql_front.specs.Grammar.{IsStatement}
use Rattle.sql_front.proofs.Spelling.{spells_one}
use Rattle.sql_statements.specs.Lexemes.{Lexeme}
use Rattle.sql_statements.specs.Trees.{Statement}
use Rattle.sql_statements.specs.Trees as statement
use Rattle.sqlite.specs.Store.{Ghosts}
use Rattle.history_model.specs.Histories.{Advanced, Changed, Created, History, Queried, clock_of, with_event}
use Rattle.history_model.proofs.HistoryLemmas.{clock_of-event}
use Rattle.script_engine.specs.engine.EngineState.{EngineState}
use Rattle.script_engine.specs.engine.Runs.{Accepts, StatementApplies, Step}
use Rattle.script_engine.specs.engine.Stored.{EngineRepresents}
use Rattle.script_engine.specs.script.Script.{PieceStep, RunPieces, StepPieces, TextApplies}
use Rattle.script_engine.specs.script.Timed.{AreWithAts, IsClockMoment, TimedClocksGoOn, TimedPieceStep, TimedRunsAreRuns, is_ahead}
use Rattle.script_engine.specs.declared.script.timed.Timed.{Timed}
use Rattle.statement_reports.specs.declared.outcome.Outcome.{Outcome}
use Rattle.statement_reports.specs.declared.outcome.Outcome.TheVariants.{Done}
use Rattle.statement_reports.specs.declared.outcome.Word.TheVariants as word

-- the engine has the clock of the history that it represents
pub same_clock : {S : Type 0} (g : Ghosts S) (history : History) (engine : EngineState S) → EngineRepresents g history engine → engine.clock ≡ clock_of history
same_clock g history engine represents = represents.stored.clock ∙ represents.said.clock

-- ---- a run with ATs

module _ (spelled : ℤ → List Lexeme) (spells : (moment : ℤ) → IsClockMoment moment → NoneApplies (TextApplies (spelled moment)) × IsStatement (spelled moment) (statement.at moment)) where
  module _ (new : History) (pieces : List (List Lexeme)) (kept : List (Timed (Result Outcome Refusal))) (all : List (List Lexeme)) (results : List (Result Outcome Refusal)) (withs : AreWithAts spelled pieces kept all results) where
    -- a run of timed pieces with one more piece in front
    first : (old middle : History) (piece : List Lexeme) (timed : Timed (Result Outcome Refusal)) → RunPieces middle all results new → TimedPieceStep PieceStep Err old piece timed middle →
        (more : List (List Lexeme)) × (told : List (Result Outcome Refusal)) × AreWithAts spelled (piece ∷ pieces) (timed ∷ kept) more told × RunPieces old more told new
    first old middle piece timed run (inl (refusal, may, is, same)) =
        (piece ∷ all, timed.kept ∷ results, (all, results, withs, inl (refl, refl)), (middle, inl (refusal, is, may, same), run))
    first old middle piece timed run (inr (s, none, spelt, time, inl (refusal, inl (ahead, bad, same), is))) =
        (all, results, (all, results, withs, inr (inr (inr (refl, refl, is ∙ ap Err bad, (s, spelt, ahead))))), subst (λ (h : History). RunPieces h all results new) same run)
    first old middle piece timed run (inr (s, none, spelt, time, inl (refusal, inr (on, moved, at), is))) =
        let spelt_at = spells timed.time time in
        let step : Step old (statement.at timed.time) timed.kept middle = subst (λ (r : Result Outcome Refusal). Step old (statement.at timed.time) r middle) (sym is) at in
        let refused : IsErr timed.kept = subst (λ (r : Result Outcome Refusal). IsErr r) (sym is) refl in
        (spelled timed.time ∷ all, timed.kept ∷ results, (all, results, withs, inr (inr (inl (refl, refl, refused)))), (middle, inr (statement.at timed.time, spelt_at.0, spelt_at.1, step), run))
    first old middle piece timed run (inr (s, none, spelt, time, inr (ready, (on, inl (moved, at)), step))) =
        let spelt_at = spells timed.time time in
        (spelled timed.time ∷ piece ∷ all, Ok (Done word.At 0) ∷ timed.kept ∷ results, (all, results, withs, inr (inl (refl, refl))), (ready, inr (statement.at timed.time, spelt_at.0, spelt_at.1, at), (middle, step, run)))
    first old middle piece timed run (inr (s, none, spelt, time, inr (ready, (on, inr (still, same)), step))) =
        (piece ∷ all, timed.kept ∷ results, (all, results, withs, inl (refl, refl)), (middle, subst (λ (h : History). PieceStep h piece timed.kept middle) same step, run))

  with_ats : (old new : History) (pieces : List (List Lexeme)) (kept : List (Timed (Result Outcome Refusal))) → StepPieces (TimedPieceStep PieceStep Err) old pieces kept new →
      (all : List (List Lexeme)) × (results : List (Result Outcome Refusal)) × AreWithAts spelled pieces kept all results × RunPieces old all results new
  with_ats old new [] [] same = ([], [], (refl, refl), same)
  with_ats old new [] (timed ∷ kept) none = absurd none
  with_ats old new (piece ∷ pieces) [] none = absurd none
  with_ats old new (piece ∷ pieces) (timed ∷ kept) (middle, step, rest) =
      let (all, results, withs, run) = with_ats middle new pieces kept rest in
      first new pieces kept all results withs old middle piece timed run step

pub timed_runs_are_runs : TimedRunsAreRuns
timed_runs_are_runs spelled spells old new pieces kept steps = with_ats spelled spells old new pieces kept steps

-- ---- the clock

-- from a clock on: it never moves back, and never to a moment that is later than a time
abbrev GoesOn : ℤ → ℤ → ℤ → Type 0
GoesOn time clock next = (clock ≤ℤ next) × ((next ≡ clock) ⊎ (next ≤ℤ time))

stays : (time clock next : ℤ) → next ≡ clock → GoesOn time clock next
stays time clock next same = (omega (arith, ints, same), inl same)

then_goes : (time a b c : ℤ) → GoesOn time a b → GoesOn time b c → GoesOn time a c
then_goes time a b c (first, inl same) (second, inl is) = (omega (arith, ints, first, second), inl (is ∙ same))
then_goes time a b c (first, inl same) (second, inr late) = (omega (arith, ints, first, second), inr late)
then_goes time a b c (first, inr late) (second, inl is) = (omega (arith, ints, first, second), inr (omega (arith, ints, late, is)))
then_goes time a b c (first, inr early) (second, inr late) = (omega (arith, ints, first, second), inr late)

at_goes : (time : ℤ) (old : History) (moment : ℤ) → moment ≤ℤ time → NoneApplies (StatementApplies old (statement.at moment)) → GoesOn time (clock_of old) (clock_of (with_event old (Advanced moment)))
at_goes time old moment late none =
    let is : clock_of (with_event old (Advanced moment)) ≡ moment = clock_of-event old (Advanced moment) in
    let forth : clock_of old ≤ℤ moment = go (int_lt moment (clock_of old)) refl in
    (omega (arith, ints, is, forth), inr (omega (arith, ints, is, late)))
  where
    go : (back : _) → int_lt moment (clock_of old) ≡ back → clock_of old ≤ℤ moment
    go true back = absurd (none MomentBack (inl (refl, back)))
    go false back = grind (arith, ints, back)

accepted_goes : (time : ℤ) (old : History) (s : Statement) (outcome : Outcome) (new : History) → is_ahead time s ≡ false → NoneApplies (StatementApplies old s) → Accepts old s outcome new → GoesOn time (clock_of old) (clock_of new)
accepted_goes time old (statement.at moment) outcome new on none accepts = let late : moment ≤ℤ time = grind (arith, ints, on) in rw accepts.after (at_goes time old moment late none)
accepted_goes time old (statement.create c) outcome new on none accepts = stays time _ _ (ap clock_of accepts.after ∙ clock_of-event old (Created accepts.definition))
accepted_goes time old (statement.insert i) outcome new on none accepts = stays time _ _ (ap clock_of accepts.after ∙ clock_of-event old (Changed (clock_of old) accepts.change))
accepted_goes time old (statement.update u) outcome new on none accepts = stays time _ _ (ap clock_of accepts.after ∙ clock_of-event old (Changed (clock_of old) accepts.change))
accepted_goes time old (statement.delete d) outcome new on none accepts = stays time _ _ (ap clock_of accepts.after ∙ clock_of-event old (Changed (clock_of old) accepts.change))
accepted_goes time old (statement.sequenced q) outcome new on none (answer, is, answers) = stays time _ _ (ap clock_of answers.after ∙ clock_of-event old Queried)
accepted_goes time old (statement.stored q) outcome new on none (list, is, shows) = stays time _ _ (ap clock_of shows.after ∙ clock_of-event old Queried)

step_goes : (time : ℤ) (old : History) (s : Statement) (result : Result Outcome Refusal) (new : History) → is_ahead time s ≡ false → Step old s result new → GoesOn time (clock_of old) (clock_of new)
step_goes time old s (Ok outcome) new on (none, accepts) = accepted_goes time old s outcome new on none accepts
step_goes time old s (Err refusal) new on (may, same) = stays time _ _ (ap clock_of same)

piece_goes : (time : ℤ) (old : History) (piece : List Lexeme) (s : Statement) (result : Result Outcome Refusal) (new : History) → IsStatement piece s → is_ahead time s ≡ false → PieceStep old piece result new → GoesOn time (clock_of old) (clock_of new)
piece_goes time old piece s result new spelt on (inl (refusal, is, may, same)) = stays time _ _ (ap clock_of same)
piece_goes time old piece s result new spelt on (inr (other, none, spells, step)) =
    step_goes time old other result new (subst (λ (one : Statement). is_ahead time one ≡ false) (spells_one piece s other spelt spells) on) step

not_later : (time : ℤ) → int_lt time time ≡ false
not_later time = grind (arith, ints)

pub timed_clocks_go_on : TimedClocksGoOn
timed_clocks_go_on old new piece timed (inl (refusal, may, is, same)) = stays timed.time _ _ (ap clock_of same)
timed_clocks_go_on old new piece timed (inr (s, none, spelt, time, inl (refusal, inl (ahead, bad, same), is))) = stays timed.time _ _ (ap clock_of same)
timed_clocks_go_on old new piece timed (inr (s, none, spelt, time, inl (refusal, inr (on, moved, at), is))) = stays timed.time _ _ (ap clock_of at.1)
timed_clocks_go_on old new piece timed (inr (s, none, spelt, time, inr (ready, (on, inl (moved, at)), step))) =
    then_goes timed.time _ (clock_of ready) _ (step_goes timed.time old (statement.at timed.time) (Ok (Done word.At 0)) ready (not_later timed.time) at)
    (piece_goes timed.time ready piece s timed.kept new spelt on step)
timed_clocks_go_on old new piece timed (inr (s, none, spelt, time, inr (ready, (on, inr (still, same)), step))) =
    subst (λ (h : History). GoesOn timed.time (clock_of h) (clock_of new)) same (piece_goes timed.time ready piece s timed.kept new spelt on step)
