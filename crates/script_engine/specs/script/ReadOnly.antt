-- Runs over stores that are only read: queries are answered, and every other statement is refused.
use Rattle.std.specs.Prelude.{◌≡◌, ◌⊎◌, ℕ, ℤ, List, Result, Err, map}
use Rattle.period_core.specs.Leasts.{MayAnswer, NoneApplies}
use Rattle.period_core.specs.declared.refusal.Refusal.{Refusal}
use Rattle.sql_front.specs.Grammar.{IsStatement}
use Rattle.sql_statements.specs.Lexemes.{Lexeme}
use Rattle.sql_statements.specs.Trees.{Statement}
use Rattle.history_model.specs.Histories.{History, catalog_of, clock_of, state_at}
use Rattle.script_engine.specs.engine.EngineState.{EngineState}
use Rattle.script_engine.specs.engine.Runs.{IsQuery}
use Rattle.script_engine.specs.engine.Unwritten.{MayRefuseUnwritten, MayRefuseUnwrittenOver}
use Rattle.script_engine.specs.script.Script.{PieceStep, RunPieces, StepPieces, TextApplies}
use Rattle.script_engine.specs.declared.script.read_only.ReadOnly.{ReadOnly}
use Rattle.statement_reports.specs.declared.outcome.Outcome.{Outcome}

-- a piece is run over a store that is only read, by why a statement is refused that is no query, by
-- how a query is run, and by the result of a piece that is refused
module _ {H K : Type 0} (MayRefuse : H → Statement → Refusal → Type 0)
    (IsStep : H → List Lexeme → K → H → Type 0) (of_refusal : Refusal → K) where
  -- a piece that spells no sound statement is refused, and all stays; a query is run; every other
  -- statement is refused, and all stays
  abbrev pub ReadOnlyStep : H → List Lexeme → ReadOnly K → H → Type 0
  ReadOnlyStep old piece only new =
      ((refusal : Refusal) × MayAnswer (TextApplies piece) refusal
      × (only.kept ≡ of_refusal refusal) × (new ≡ old))
      ⊎ ((s : Statement) × NoneApplies (TextApplies piece) × IsStatement piece s
      × ((IsQuery s × IsStep old piece only.kept new)
      ⊎ ((IsQuery s → ⊥) × (new ≡ old)
      × ((refusal : Refusal) × MayRefuse old s refusal × (only.kept ≡ of_refusal refusal)))))

-- the step of a piece over a store that is only read, in a history
abbrev pub ReadOnlyPieceStep : {K : Type 0} → (History → List Lexeme → K → History → Type 0)
    → (Refusal → K) → History → List Lexeme → ReadOnly K → History → Type 0
ReadOnlyPieceStep = ReadOnlyStep MayRefuseUnwritten

-- the step of a piece over an engine that is only read, whatever its database holds
abbrev pub ReadOnlyPieceStepOver : {S K : Type 0}
    → (EngineState S → List Lexeme → K → EngineState S → Type 0)
    → (Refusal → K) → EngineState S → List Lexeme → ReadOnly K → EngineState S → Type 0
ReadOnlyPieceStepOver =
    ReadOnlyStep (λ engine. MayRefuseUnwrittenOver engine.catalog.tables engine.clock)

-- ---- laws, each the contract of a function of this crate

-- a run over a store that is only read is a run of the same pieces, with the recorded results
abbrev pub ReadOnlyRunsAreRuns : Type 0
ReadOnlyRunsAreRuns =
    (old new : History) (pieces : List (List Lexeme))
    (kept : List (ReadOnly (Result Outcome Refusal)))
    → StepPieces (ReadOnlyPieceStep PieceStep Err) old pieces kept new
    → RunPieces old pieces (map (λ (only : ReadOnly (Result Outcome Refusal)). only.kept) kept) new

-- a run over a store that is only read leaves the clock, the tables, and what they hold as of each
-- moment
abbrev pub ReadOnlyRunsChangeNothing : Type 0
ReadOnlyRunsChangeNothing =
    (old new : History) (pieces : List (List Lexeme))
    (kept : List (ReadOnly (Result Outcome Refusal)))
    → StepPieces (ReadOnlyPieceStep PieceStep Err) old pieces kept new
    → (clock_of new ≡ clock_of old) × (catalog_of new ≡ catalog_of old)
    × ((moment : ℤ) (table : ℕ) (day : ℤ)
    → state_at new moment table day ≡ state_at old moment table day)
