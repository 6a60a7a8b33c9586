-- Runs over stores that are only read: the laws.
use Rattle.std.proofs.Common.{◌≡◌, ◌∷◌, ◌∙◌, ℕ, ℤ, List, [], Result, Ok, Err, ap, append-nil, inl, inr, map, subst, sym}
use Rattle.period_core.specs.declared.refusal.Refusal.{Refusal}
use Rattle.sql_front.specs.Grammar.{IsStatement}
use Rattle.sql_front.proofs.Spelling.{spells_one}
use Rattle.sql_statements.specs.Lexemes.{Lexeme}
use Rattle.sql_statements.specs.Trees.{Statement}
use Rattle.sql_statements.specs.Trees as statement
use Rattle.history_model.specs.Histories.{History, Queried, catalog_of, clock_of, state_at, with_event}
use Rattle.history_model.proofs.HistoryLemmas.{catalog_of-event, clock_of-event, state_at-event}
use Rattle.script_engine.specs.engine.Runs.{Accepts, IsQuery, IsUnlawful, MayRefuseStatement, Step}
use Rattle.script_engine.specs.engine.Unwritten.{MayRefuseUnwritten}
use Rattle.script_engine.specs.script.ReadOnly.{ReadOnlyPieceStep, ReadOnlyRunsAreRuns, ReadOnlyRunsChangeNothing}
use Rattle.script_engine.specs.script.Script.{PieceStep, RunPieces, StepPieces}
use Rattle.script_engine.specs.declared.script.read_only.ReadOnly.{ReadOnly}
use Rattle.statement_reports.specs.declared.outcome.Outcome.{Outcome}
use Rattle.script_engine.proofs.Steps.{by_condition}

-- ---- a run

abbrev Kept : Type 0
Kept = ReadOnly (Result Outcome Refusal)

-- a fault of a change refuses it over a store that is written too
by_fault : (history : History) (s : Statement) (refusal : Refusal) → IsUnlawful history s refusal → MayRefuseStatement history s refusal
by_fault history (statement.insert i) refusal unlawful = inr unlawful
by_fault history (statement.update u) refusal unlawful = inr unlawful
by_fault history (statement.delete d) refusal unlawful = inr unlawful
by_fault history _ refusal unlawful = absurd unlawful.resolved

may_refuse : (history : History) (s : Statement) (refusal : Refusal) → MayRefuseUnwritten history s refusal → MayRefuseStatement history s refusal
may_refuse history s refusal (inl may) = by_condition history s refusal (inl may)
may_refuse history s refusal (inr (inl unlawful)) = by_fault history s refusal unlawful
may_refuse history s refusal (inr (inr (is, none, lawful))) = by_condition history s refusal (inr (is, λ other applies. absurd (none other applies)))

piece_step : (old new : History) (piece : List Lexeme) (only : Kept) → ReadOnlyPieceStep PieceStep Err old piece only new → PieceStep old piece only.kept new
piece_step old new piece only (inl (refusal, may, is, same)) = inl (refusal, is, may, same)
piece_step old new piece only (inr (s, none, spelt, inl (asks, step))) = step
piece_step old new piece only (inr (s, none, spelt, inr (other, same, (refusal, may, is)))) =
    inr (s, none, spelt, subst (λ (r : Result Outcome Refusal). Step old s r new) (sym is) (may_refuse old s refusal may, same))

all_steps : (old new : History) (pieces : List (List Lexeme)) (kept : List Kept) → StepPieces (ReadOnlyPieceStep PieceStep Err) old pieces kept new →
    RunPieces old pieces (map (λ (only : Kept). only.kept) kept) new
all_steps old new [] [] same = same
all_steps old new [] (only ∷ kept) none = absurd none
all_steps old new (piece ∷ pieces) [] none = absurd none
all_steps old new (piece ∷ pieces) (only ∷ kept) (middle, step, rest) = (middle, piece_step old middle piece only step, all_steps middle new pieces kept rest)

pub read_only_runs_are_runs : ReadOnlyRunsAreRuns
read_only_runs_are_runs old new pieces kept steps = all_steps old new pieces kept steps

-- ---- nothing is changed

-- the clock, the tables and what they hold are as they were
abbrev Stays : History → History → Type 0
Stays old new =
    (clock_of new ≡ clock_of old) × (catalog_of new ≡ catalog_of old)
    × ((moment : ℤ) (table : ℕ) (day : ℤ) → state_at new moment table day ≡ state_at old moment table day)

same : (old new : History) → new ≡ old → Stays old new
same old new is = (ap clock_of is, ap catalog_of is, λ moment table day. ap (λ (h : History). state_at h moment table day) is)

asked : (old new : History) → new ≡ with_event old Queried → Stays old new
asked old new is = (
  ap clock_of is ∙ clock_of-event old Queried,
  ap catalog_of is ∙ catalog_of-event old Queried ∙ append-nil (catalog_of old),
  λ moment table day. ap (λ (h : History). state_at h moment table day) is ∙ state_at-event old Queried moment table day,
)

query_stays : (old new : History) (s : Statement) (outcome : Outcome) → IsQuery s → Accepts old s outcome new → Stays old new
query_stays old new (statement.sequenced q) outcome asks (answer, is, answers) = asked old new answers.after
query_stays old new (statement.stored q) outcome asks (list, is, shows) = asked old new shows.after
query_stays old new _ outcome asks accepts = absurd asks

step_stays : (old new : History) (s : Statement) (result : Result Outcome Refusal) → IsQuery s → Step old s result new → Stays old new
step_stays old new s (Ok outcome) asks (none, accepts) = query_stays old new s outcome asks accepts
step_stays old new s (Err refusal) asks (may, is) = same old new is

query_piece_stays : (old new : History) (piece : List Lexeme) (s : Statement) (result : Result Outcome Refusal) → IsStatement piece s → IsQuery s → PieceStep old piece result new → Stays old new
query_piece_stays old new piece s result spelt asks (inl (refusal, is, may, kept)) = same old new kept
query_piece_stays old new piece s result spelt asks (inr (other, none, spells, step)) =
    step_stays old new other result (subst IsQuery (spells_one piece s other spelt spells) asks) step

piece_stays : (old new : History) (piece : List Lexeme) (only : Kept) → ReadOnlyPieceStep PieceStep Err old piece only new → Stays old new
piece_stays old new piece only (inl (refusal, may, is, kept)) = same old new kept
piece_stays old new piece only (inr (s, none, spelt, inl (asks, step))) = query_piece_stays old new piece s only.kept spelt asks step
piece_stays old new piece only (inr (s, none, spelt, inr (other, kept, refused))) = same old new kept

then_stays : (old middle new : History) → Stays old middle → Stays middle new → Stays old new
then_stays old middle new (clock, tables, state) (next_clock, next_tables, next_state) =
    (next_clock ∙ clock, next_tables ∙ tables, λ moment table day. next_state moment table day ∙ state moment table day)

all_stay : (old new : History) (pieces : List (List Lexeme)) (kept : List Kept) → StepPieces (ReadOnlyPieceStep PieceStep Err) old pieces kept new → Stays old new
all_stay old new [] [] is = same old new is
all_stay old new [] (only ∷ kept) none = absurd none
all_stay old new (piece ∷ pieces) [] none = absurd none
all_stay old new (piece ∷ pieces) (only ∷ kept) (middle, step, rest) =
    then_stays old middle new (piece_stays old middle piece only step) (all_stay middle new pieces kept rest)

pub read_only_runs_change_nothing : ReadOnlyRunsChangeNothing
read_only_runs_change_nothing old new pieces kept steps = all_stay old new pieces kept steps
