-- The results of pieces, one after the other, with audits or without.
use Rattle.std.proofs.Common.{◌≡◌, ◌<◌, ◌+◌, ◌-◌, ◌++◌, ◌∷◌, ℕ, List, [], get_or, length, map, take, drop, Result, refl, ap, subst, inl, inr}
use Rattle.period_core.specs.Leasts.{NoneApplies}
use Rattle.period_core.specs.declared.refusal.Refusal.{Refusal}
use Rattle.sql_front.specs.Grammar.{IsStatement}
use Rattle.sql_statements.specs.Lexemes.{Lexeme}
use Rattle.sql_front.specs.Pieces.{spanned}
use Rattle.sql_front.specs.TokenSpans.{lexemes_at}
use Rattle.sql_front.specs.declared.pieces.Span.{Span}
use Rattle.sql_front.specs.declared.token_spans.TokenSpan.{TokenSpan}
use Rattle.sql_statements.specs.Trees.{Statement}
use Rattle.history_model.specs.Histories.{History}
use Rattle.sqlite.specs.Store.{Ghosts}
use Rattle.script_engine.specs.engine.EngineState.{EngineState}
use Rattle.script_engine.specs.engine.Runs.{StepsTo}
use Rattle.script_engine.specs.engine.Audits.{AuditedStepsTo}
use Rattle.script_engine.specs.engine.Stored.{RepresentsSome}
use Rattle.script_engine.specs.script.AuditedRuns.{AuditedPieceStep, IsAuditedRunFrom, results_of}
use Rattle.script_engine.specs.script.Script.{IsRunBy, IsRunFrom, KeptStepOver, PieceStep, PieceStepOver, RunPieces, StepPieces, TextApplies}
use Rattle.statement_reports.specs.declared.entry.Entry.{Entry}
use Rattle.statement_reports.specs.declared.outcome.Outcome.{Outcome}
use Rattle.script_engine.proofs.PieceFacts.{pieces_next}

-- a piece that spells a statement steps as the statement does
pub stated_piece : {S : Type 0} (g : Ghosts S) (history : History) (piece : List Lexeme) (s : Statement) (result : Result Outcome Refusal) (engine : EngineState S) → NoneApplies (TextApplies piece) → IsStatement piece s → StepsTo g history s result engine →
    RepresentsSome g (PieceStep history piece result) engine
stated_piece g history piece s result engine none spelled (new, step, kept) = (new, inr (s, none, spelled, step), kept)

-- the step of a piece whose answer is audited
pub audited_piece : {S : Type 0} (g : Ghosts S) (history : History) (piece : List Lexeme) (s : Statement) (entry : Entry) (engine : EngineState S) → NoneApplies (TextApplies piece) → IsStatement piece s → AuditedStepsTo g history s entry engine →
    RepresentsSome g (AuditedPieceStep history piece entry) engine
audited_piece g history piece s entry engine none spelled (new, step, kept) = (new, inr (s, none, spelled, step), kept)

module _ {H R : Type 0} (IsStep : H → List Lexeme → R → H → Type 0) where
  -- one more piece, with its result
  pub run_more : (old : H) (pieces : List (List Lexeme)) (results : List R) (middle : H) (piece : List Lexeme) (result : R) (new : H) →
      StepPieces IsStep old pieces results middle → IsStep middle piece result new → StepPieces IsStep old (pieces ++ piece ∷ []) (results ++ result ∷ []) new
  run_more old [] [] middle piece result new same step = (new, subst (λ (h : H). IsStep h piece result new) same step, refl)
  run_more old [] (first ∷ results) middle piece result new none step = absurd none
  run_more old (first ∷ pieces) [] middle piece result new none step = absurd none
  run_more old (first ∷ pieces) (its ∷ results) middle piece result new (next, here, rest) step = (next, here, run_more next pieces results middle piece result new rest step)

  -- the step of the next of the spans of a list of tokens
  pub run_next : (old : H) (script : List ℕ) (tokens : List TokenSpan) (spans : List Span) (i : ℕ) (d : Span) (results more : List R) (middle : H) (result : R) (new : H) →
      i < length spans → more ≡ results ++ result ∷ [] → StepPieces IsStep old (map (spanned (lexemes_at script tokens)) (take i spans)) results middle →
      IsStep middle (lexemes_at script (take ((get_or spans i d).end - (get_or spans i d).start) (drop (get_or spans i d).start tokens))) result new →
      StepPieces IsStep old (map (spanned (lexemes_at script tokens)) (take (i + 1) spans)) more new
  run_next old script tokens spans i d results more middle result new inside added run step =
      rw (pieces_next script tokens spans i d inside, added)
      (run_more old (map (spanned (lexemes_at script tokens)) (take i spans)) results middle (lexemes_at script (take ((get_or spans i d).end - (get_or spans i d).start) (drop (get_or spans i d).start tokens))) result new run step)

-- over an engine, the results of recorded values step as these values do
kept_pieces : {S K : Type 0} (g : Ghosts S) (result_of : K → Result Outcome Refusal) (old : EngineState S) (pieces : List (List Lexeme)) (kept : List K) (new : EngineState S) → StepPieces (KeptStepOver g result_of) old pieces kept new →
    StepPieces (PieceStepOver g) old pieces (map result_of kept) new
kept_pieces g result_of old [] [] new same = same
kept_pieces g result_of old [] (one ∷ kept) new none = absurd none
kept_pieces g result_of old (piece ∷ pieces) [] new none = absurd none
kept_pieces g result_of old (piece ∷ pieces) (one ∷ kept) new (middle, here, rest) = (middle, here, kept_pieces g result_of middle pieces kept new rest)

pub kept_run : {S K : Type 0} (g : Ghosts S) (result_of : K → Result Outcome Refusal) (opening : EngineState S) (script : List ℕ) (kept : List K) → IsRunBy (KeptStepOver g result_of) opening script kept → IsRunBy (PieceStepOver g) opening script (map result_of kept)
kept_run g result_of opening script kept all = record {
  pieces = all.pieces;
  cut = all.cut;
  last = all.last;
  run = kept_pieces g result_of opening all.pieces kept all.last all.run;
}

-- the results of an audited run are the results of a run
pub unaudited_piece : (history : History) (piece : List Lexeme) (entry : Entry) (new : History) → AuditedPieceStep history piece entry new → PieceStep history piece entry.result new
unaudited_piece history piece entry new (inl (refusal, is, may, same)) = inl (refusal, ap (λ (e : Entry). e.result) is, may, same)
unaudited_piece history piece entry new (inr (s, none, spelled, audited)) = inr (s, none, spelled, audited.step)

unaudited_pieces : (history : History) (pieces : List (List Lexeme)) (entries : List Entry) (new : History) → StepPieces AuditedPieceStep history pieces entries new → RunPieces history pieces (results_of entries) new
unaudited_pieces history [] [] new same = same
unaudited_pieces history [] (entry ∷ entries) new none = absurd none
unaudited_pieces history (piece ∷ pieces) [] new none = absurd none
unaudited_pieces history (piece ∷ pieces) (entry ∷ entries) new (middle, here, rest) =
    (middle, unaudited_piece history piece entry middle here, unaudited_pieces middle pieces entries new rest)

pub unaudited_run : (opening : History) (script : List ℕ) (entries : List Entry) → IsAuditedRunFrom opening script entries → IsRunFrom opening script (results_of entries)
unaudited_run opening script entries all = record {
  pieces = all.pieces;
  cut = all.cut;
  last = all.last;
  run = unaudited_pieces opening all.pieces entries all.last all.run;
}
