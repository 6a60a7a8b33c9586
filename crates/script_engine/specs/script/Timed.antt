-- Runs at the system's time: before each statement but a query the clock is moved to that time, if
-- it is later.
use Rattle.std.specs.Prelude.{◌≡◌, ◌⊎◌, ◌∷◌, ◌<ℤ◌, ◌≤ℤ◌, ℕ, ℤ, Bool, [], List, Result, Ok}
use Rattle.std.specs.Prelude.{Err, IsErr, false, if◌then◌else◌, int_lt, pos, true}
use Rattle.period_core.specs.Leasts.{MayAnswer, NoneApplies}
use Rattle.period_core.specs.Moments.{IsMomentNumber, first_moment, forever}
use Rattle.period_core.specs.declared.refusal.Refusal.{Refusal}
use Rattle.period_core.specs.declared.refusal.Refusal.TheVariants.{BadMoment}
use Rattle.sql_front.specs.Grammar.{IsStatement}
use Rattle.sql_statements.specs.Lexemes.{Lexeme}
use Rattle.sql_statements.specs.Trees.{Statement}
use Rattle.sql_statements.specs.Trees as statement
use Rattle.history_model.specs.Histories.{History, clock_of}
use Rattle.sqlite.specs.Store.{Ghosts}
use Rattle.script_engine.specs.engine.EngineState.{EngineState}
use Rattle.script_engine.specs.engine.Over.{RunsOver}
use Rattle.script_engine.specs.engine.Runs.{IsQuery, Step}
use Rattle.script_engine.specs.script.Script.{PieceStep, RunPieces, StepPieces, TextApplies}
use Rattle.script_engine.specs.declared.script.timed.Timed.{Timed}
use Rattle.statement_reports.specs.declared.outcome.Outcome.{Outcome}
use Rattle.statement_reports.specs.declared.outcome.Outcome.TheVariants.{Done}
use Rattle.statement_reports.specs.declared.outcome.Word.TheVariants as word

-- the moment that is so many microseconds after 1970-01-01 00:00:00; the first moment in place of
-- FOREVER and of what follows it
abbrev pub system_moment : ℕ → ℤ
system_moment micros = if int_lt (pos micros) forever then pos micros else first_moment

-- a moment that the clock may have
abbrev pub IsClockMoment : ℤ → Type 0
IsClockMoment moment = IsMomentNumber moment × (moment <ℤ forever)

-- the statement is an AT that is later than the time
abbrev pub is_ahead : ℤ → Statement → Bool
is_ahead time (statement.at moment) = int_lt time moment
is_ahead time _ = false

-- the parameters: how an AT is run, from state to state, and the clock of a state
module _ {H : Type 0} (IsAt : H → ℤ → Result Outcome Refusal → H → Type 0) (clock : H → ℤ) where
  -- the clock is moved: the statement is no query, and the time is later than the clock
  abbrev pub IsMoved : H → ℤ → Statement → Type 0
  IsMoved old time s = (IsQuery s → ⊥) × (clock old <ℤ time)

  -- the statement may be run: in the state after an AT of the time, if that moves the clock, else
  -- in the state as it is
  abbrev pub IsReady : H → ℤ → Statement → H → Type 0
  IsReady old time s ready =
      (is_ahead time s ≡ false)
      × ((IsMoved old time s × IsAt old time (Ok (Done word.At 0)) ready)
      ⊎ ((IsMoved old time s → ⊥) × (ready ≡ old)))

  -- the statement is refused before it is run: as an AT that is later than the time; or with the
  -- refusal of the AT that is to move the clock
  abbrev pub IsUnready : H → ℤ → Statement → Refusal → H → Type 0
  IsUnready old time s refusal new =
      ((is_ahead time s ≡ true) × (refusal ≡ BadMoment) × (new ≡ old))
      ⊎ ((is_ahead time s ≡ false) × IsMoved old time s × IsAt old time (Err refusal) new)

  -- the step before a statement: it makes the statement ready, or is refused
  abbrev pub Readies : ℤ → Statement → H → Result (Unit {0}) Refusal → H → Type 0
  Readies time s old (Ok nothing) ready = IsReady old time s ready
  Readies time s old (Err refusal) new = IsUnready old time s refusal new

  -- the parameters: how a piece is run, and the result of one that is refused before that
  module _ {K : Type 0} (IsStep : H → List Lexeme → K → H → Type 0) (of_refusal : Refusal → K)
    where
      -- a piece that spells no sound statement is refused, and all stays; a statement is refused
      -- before it is run, or is run in the state in which it is ready
      abbrev pub TimedStep : H → List Lexeme → Timed K → H → Type 0
      TimedStep old piece timed new =
          ((refusal : Refusal) × MayAnswer (TextApplies piece) refusal
          × (timed.kept ≡ of_refusal refusal) × (new ≡ old))
          ⊎ ((s : Statement) × NoneApplies (TextApplies piece) × IsStatement piece s
          × IsClockMoment timed.time
          × (((refusal : Refusal) × IsUnready old timed.time s refusal new
          × (timed.kept ≡ of_refusal refusal))
          ⊎ ((ready : H) × IsReady old timed.time s ready × IsStep ready piece timed.kept new)))

-- an AT in a history
abbrev pub AtStep : History → ℤ → Result Outcome Refusal → History → Type 0
AtStep history moment = Step history (statement.at moment)

-- an AT over an engine, whatever its database holds, and of a healthy one
abbrev pub AtStepOver : {S : Type 0} → Ghosts S → EngineState S → ℤ → Result Outcome Refusal
    → EngineState S → Type 0
AtStepOver g engine moment = RunsOver g engine (statement.at moment)

-- a piece at the system's time in a history
abbrev pub TimedPieceStep : {K : Type 0} → (History → List Lexeme → K → History → Type 0)
    → (Refusal → K) → History → List Lexeme → Timed K → History → Type 0
TimedPieceStep = TimedStep AtStep clock_of

-- a piece at the system's time over an engine
abbrev pub TimedPieceStepOver : {S K : Type 0} → Ghosts S
    → (EngineState S → List Lexeme → K → EngineState S → Type 0)
    → (Refusal → K) → EngineState S → List Lexeme → Timed K → EngineState S → Type 0
TimedPieceStepOver g = TimedStep (AtStepOver g) (λ engine. engine.clock)

-- ---- laws, each the contract of a function of this crate

-- the piece spells an AT that is later than the time
abbrev pub SpellsAhead : ℤ → List Lexeme → Type 0
SpellsAhead time piece = (s : Statement) × IsStatement piece s × (is_ahead time s ≡ true)

-- the pieces and the results of a run at the system's time, and among them the ATs that
-- move the clock to that time, each spelled by the function; but for ATs of the pieces that are
-- refused since they are later
abbrev pub AreWithAts : (ℤ → List Lexeme) → List (List Lexeme)
    → List (Timed (Result Outcome Refusal)) → List (List Lexeme) → List (Result Outcome Refusal)
    → Type 0
AreWithAts spelled [] [] all results = (all ≡ []) × (results ≡ [])
AreWithAts spelled (piece ∷ pieces) (timed ∷ kept) all results =
    (rest : List (List Lexeme)) × (others : List (Result Outcome Refusal))
    × AreWithAts spelled pieces kept rest others
    -- the piece alone
    × (((all ≡ piece ∷ rest) × (results ≡ timed.kept ∷ others))
    -- after an AT
    ⊎ ((all ≡ spelled timed.time ∷ piece ∷ rest)
    × (results ≡ Ok (Done word.At 0) ∷ timed.kept ∷ others))
    -- an AT that was refused, in place of the piece
    ⊎ ((all ≡ spelled timed.time ∷ rest) × (results ≡ timed.kept ∷ others) × IsErr timed.kept)
    -- a later AT
    ⊎ ((all ≡ rest) × (results ≡ others) × (timed.kept ≡ Err BadMoment)
    × SpellsAhead timed.time piece))
AreWithAts spelled [] (timed ∷ kept) all results = ⊥
AreWithAts spelled (piece ∷ pieces) [] all results = ⊥

-- a run at the system's time is a run of the same pieces with ATs before them, however an AT is
-- spelled
abbrev pub TimedRunsAreRuns : Type 0
TimedRunsAreRuns =
    (spelled : ℤ → List Lexeme)
    → ((moment : ℤ) → IsClockMoment moment → NoneApplies (TextApplies (spelled moment))
    × IsStatement (spelled moment) (statement.at moment))
    → (old new : History) (pieces : List (List Lexeme))
    (kept : List (Timed (Result Outcome Refusal)))
    → StepPieces (TimedPieceStep PieceStep Err) old pieces kept new
    → (all : List (List Lexeme)) × (results : List (Result Outcome Refusal))
    × AreWithAts spelled pieces kept all results × RunPieces old all results new

-- at the system's time the clock never moves back, and never to a moment that is later than
-- the system's time
abbrev pub TimedClocksGoOn : Type 0
TimedClocksGoOn =
    (old new : History) (piece : List Lexeme) (timed : Timed (Result Outcome Refusal))
    → TimedPieceStep PieceStep Err old piece timed new
    → (clock_of old ≤ℤ clock_of new)
    × ((clock_of new ≡ clock_of old) ⊎ (clock_of new ≤ℤ timed.time))
