-- The results of a script, piece after piece, from an opening on.
use Rattle.std.specs.Prelude.{◌≡◌, ◌<◌, ◌≤◌, ◌⊎◌, ◌∷◌, ℕ, List, [], Result, Err, length}
use Rattle.std.specs.Str.{IsUtf8}
use Rattle.period_core.specs.Leasts.{MayAnswer, NoneApplies}
use Rattle.period_core.specs.declared.refusal.Refusal.{Refusal}
use Rattle.period_core.specs.declared.refusal.Refusal.TheVariants.{BadToken, LimitReached, NotUtf8}
use Rattle.period_core.specs.declared.refusal.Refusal.TheVariants.{ScriptTooLarge}
use Rattle.sql_front.specs.Grammar.{IsStatement}
use Rattle.sql_front.specs.PieceRefusals.{PieceApplies}
use Rattle.sql_statements.specs.Lexemes.{Lexeme}
use Rattle.sql_statements.specs.Lexis.{StopsAt, TokensOf}
use Rattle.sql_front.specs.Pieces.{HasPieces}
use Rattle.sql_statements.specs.Trees.{Statement}
use Rattle.sqlite.specs.Store.{Ghosts}
use Rattle.history_model.specs.Histories.{History, new_database, opened}
use Rattle.version_store.specs.StoreState.{IsOpenRefusal, IsStoreRefusal}
use Rattle.script_engine.specs.engine.EngineState.{EngineState}
use Rattle.script_engine.specs.engine.Over.{RunsOver}
use Rattle.script_engine.specs.engine.Runs.{Step}
use Rattle.statement_reports.specs.declared.outcome.Outcome.{Outcome}

-- a piece of more than 10,000 tokens
abbrev pub IsOverlong : List Lexeme → Type 0
IsOverlong piece = 10_000 < length piece

-- the condition of each refusal over the tokens of a piece: of one that is overlong nothing else
-- is judged
abbrev pub TextApplies : List Lexeme → Refusal → Type 0
TextApplies piece refusal =
    (IsOverlong piece × (refusal ≡ LimitReached))
    ⊎ ((IsOverlong piece → ⊥) × PieceApplies piece refusal)

-- a piece that spells no sound statement is refused, and all stays; the result of another is that
-- of its statement
abbrev pub PieceStepBy : {H : Type 0} → (H → Statement → Result Outcome Refusal → H → Type 0)
    → H → List Lexeme → Result Outcome Refusal → H → Type 0
PieceStepBy IsStep old piece result new =
    ((refusal : Refusal) × (result ≡ Err refusal) × MayAnswer (TextApplies piece) refusal
    × (new ≡ old))
    ⊎ ((s : Statement) × NoneApplies (TextApplies piece) × IsStatement piece s
    × IsStep old s result new)

-- the step of a piece in a history
abbrev pub PieceStep : History → List Lexeme → Result Outcome Refusal → History → Type 0
PieceStep = PieceStepBy Step

-- the step of a piece over an engine, whatever its database holds, and of a healthy one
abbrev pub PieceStepOver : {S : Type 0} → Ghosts S → EngineState S → List Lexeme
    → Result Outcome Refusal → EngineState S → Type 0
PieceStepOver g = PieceStepBy (RunsOver g)

-- the step of a piece over an engine, with the piece's record: by the result that it has
abbrev pub KeptStepOver : {S K : Type 0} → Ghosts S → (K → Result Outcome Refusal)
    → EngineState S → List Lexeme → K → EngineState S → Type 0
KeptStepOver g result_of old piece kept = PieceStepOver g old piece (result_of kept)

-- the results of the pieces, one after the other, each by such a step
abbrev pub StepPieces : {H R : Type 0} → (H → List Lexeme → R → H → Type 0)
    → H → List (List Lexeme) → List R → H → Type 0
StepPieces IsStep old [] [] new = new ≡ old
StepPieces {H} IsStep old (piece ∷ pieces) (result ∷ results) new =
    (middle : H) × IsStep old piece result middle × StepPieces IsStep middle pieces results new
StepPieces IsStep old [] (result ∷ results) new = ⊥
StepPieces IsStep old (piece ∷ pieces) [] new = ⊥

-- the pieces of a run
abbrev pub RunPieces
    : History → List (List Lexeme) → List (Result Outcome Refusal) → History → Type 0
RunPieces = StepPieces PieceStep

-- the most bytes that a script may have
abbrev pub most_bytes : ℕ
most_bytes = 4_194_304

-- the condition of each refusal of a whole script: if it is too large nothing else is judged, and
-- if it isn't UTF-8 no token
abbrev pub ScriptApplies : List ℕ → Refusal → Type 0
ScriptApplies script NotUtf8 = (length script ≤ most_bytes) × (IsUtf8 script → ⊥)
ScriptApplies script ScriptTooLarge = most_bytes < length script
ScriptApplies script (BadToken offset) =
    (length script ≤ most_bytes) × IsUtf8 script × StopsAt script offset
ScriptApplies script other = ⊥

-- the refusals that a whole script may get
abbrev pub MayRefuseScript : List ℕ → Refusal → Type 0
MayRefuseScript script refusal = MayAnswer (ScriptApplies script) refusal

-- the refusals that a run of a whole script may get: its own, and, of a script that none of them
-- applies to, the refusals of the store that is opened
abbrev pub MayRefuseRun : List ℕ → Refusal → Type 0
MayRefuseRun script refusal =
    MayRefuseScript script refusal
    ⊎ (IsOpenRefusal refusal × NoneApplies (ScriptApplies script))

-- the refusals that it may get over a new store, which is never a bad one
abbrev pub MayRefuseNewRun : List ℕ → Refusal → Type 0
MayRefuseNewRun script refusal =
    MayRefuseScript script refusal
    ⊎ (IsStoreRefusal refusal × NoneApplies (ScriptApplies script))

-- the script has tokens, and these are its pieces
pub record IsCutInto (script : List ℕ) (pieces : List (List Lexeme)) : Type 0 where
  pub sound : NoneApplies (ScriptApplies script)
  pub tokens : List Lexeme
  pub lexed : TokensOf script tokens
  pub parted : HasPieces tokens pieces

-- the results are of the script's pieces, from the opening on, each by such a step
pub record IsRunBy {H R : Type 0} (IsStep : H → List Lexeme → R → H → Type 0)
    (opening : H) (script : List ℕ) (results : List R) : Type 0 where
  pub pieces : List (List Lexeme)
  pub cut : IsCutInto script pieces
  pub last : H
  pub run : StepPieces IsStep opening pieces results last

-- a run from a history
abbrev pub IsRunFrom : History → List ℕ → List (Result Outcome Refusal) → Type 0
IsRunFrom = IsRunBy PieceStep

-- a run of a script from a new store on
abbrev pub IsRunOf : List ℕ → List (Result Outcome Refusal) → Type 0
IsRunOf = IsRunFrom (opened new_database)
