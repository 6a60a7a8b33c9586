-- Audited runs: the results of a script, and with each answer its audit.
use Rattle.std.specs.Prelude.{◌≡◌, ◌⊎◌, ℕ, List, None, Result, Err, map}
use Rattle.period_core.specs.Leasts.{MayAnswer, NoneApplies}
use Rattle.period_core.specs.declared.refusal.Refusal.{Refusal}
use Rattle.sql_front.specs.Grammar.{IsStatement}
use Rattle.sql_statements.specs.Lexemes.{Lexeme}
use Rattle.sql_statements.specs.Trees.{Statement}
use Rattle.history_model.specs.Histories.{History, new_database, opened}
use Rattle.script_engine.specs.engine.Audits.{AuditedStep}
use Rattle.script_engine.specs.script.Script.{IsRunBy, TextApplies}
use Rattle.statement_reports.specs.declared.outcome.Outcome.{Outcome}
use Rattle.statement_reports.specs.declared.entry.Entry.{Entry}

-- a piece that spells no sound statement is refused, without an audit, and the history stays; the
-- entry of another piece is its statement's
abbrev pub AuditedPieceStep : History → List Lexeme → Entry → History → Type 0
AuditedPieceStep history piece entry new =
    ((refusal : Refusal) × (entry ≡ record { result = Err refusal; audit = None })
    × MayAnswer (TextApplies piece) refusal × (new ≡ history))
    ⊎ ((s : Statement) × NoneApplies (TextApplies piece) × IsStatement piece s
    × AuditedStep history s entry new)

-- the entries are of the script's pieces, from the opening on
abbrev pub IsAuditedRunFrom : History → List ℕ → List Entry → Type 0
IsAuditedRunFrom = IsRunBy AuditedPieceStep

-- the results of the entries
abbrev pub results_of : List Entry → List (Result Outcome Refusal)
results_of entries = map (λ (entry : Entry). entry.result) entries

-- an audited run from a new store on
abbrev pub IsAuditedRunOf : List ℕ → List Entry → Type 0
IsAuditedRunOf = IsAuditedRunFrom (opened new_database)
