-- Results with the number of versions that a change forgets.
use Rattle.std.specs.Prelude.{◌≡◌, ◌&&◌, ◌-◌, ◌+◌, ◌<ℤ◌, ℕ, ℤ, Bool, List, Result, Ok, OnErr}
use Rattle.std.specs.Prelude.{OnOk, filter, length, not, unwrap_or}
use Rattle.std.specs.Ordering.{int_eq}
use Rattle.period_core.specs.Moments.{forever}
use Rattle.period_core.specs.declared.refusal.Refusal.{Refusal}
use Rattle.sql_front.specs.Grammar.{IsStatement}
use Rattle.sql_statements.specs.Lexemes.{Lexeme}
use Rattle.sql_statements.specs.Trees.{Statement}
use Rattle.sql_statements.specs.Trees as statement
use Rattle.statement_resolution.specs.change.Resolution.{IsChange, ResolvesChange}
use Rattle.catalog_core.specs.declared.change.Action.{Action}
use Rattle.catalog_core.specs.declared.change.Change.{Change}
use Rattle.catalog_core.specs.declared.table.TableDef.{TableDef}
use Rattle.catalog_core.specs.table.TableWords.{number_of}
use Rattle.history_model.specs.Histories.{Changed, History, catalog_of, clock_of, with_event}
use Rattle.history_model.specs.HistoryVersions.{is_touched, touched_rows, versions_of}
use Rattle.history_model.specs.Versions.{PlainVersion}
use Rattle.script_engine.specs.engine.EngineState.{EngineState}
use Rattle.script_engine.specs.declared.script.noted.Noted.{Noted}
use Rattle.statement_reports.specs.declared.outcome.Outcome.{Outcome}
use Rattle.statement_reports.specs.declared.outcome.Outcome.TheVariants.{Done}
use Rattle.statement_reports.specs.declared.outcome.Word.TheVariants as word

-- ---- the versions that a change forgets

-- the action touches the version, which began at the very moment
abbrev pub is_forgotten : ℤ → Action → PlainVersion → Bool
is_forgotten moment action v = is_touched action v && int_eq v.from moment

-- the versions that a change forgets: of its table those that it touches, and that began at the
-- moment at which it is made. The history has them before it, and none has them after
abbrev pub forgotten_by : History → Change → List PlainVersion
forgotten_by history change =
    filter (is_forgotten (clock_of history) change.action) (versions_of history change.table)

-- an accepted statement forgets so many versions: only a change does
abbrev pub Forgets : History → Statement → ℕ → Type 0
Forgets history s count =
    (IsChange s
    → (change : Change) × ResolvesChange (catalog_of history) s change
    × (count ≡ length (forgotten_by history change)))
    × ((IsChange s → ⊥) → count ≡ 0)

-- ---- runs

-- the run of a piece, recorded with a number: the record without the number makes the step, and
-- has the result
module _ {K : Type 0} (IsStep : History → List Lexeme → K → History → Type 0)
    (result_of : K → Result Outcome Refusal) where
  pub record NotedStep (old : History) (piece : List Lexeme) (noted : Noted K) (new : History)
      : Type 0 where
    pub step : IsStep old piece noted.kept new
    -- a piece that is refused forgets none
    pub none : OnErr (result_of noted.kept) (noted.forgotten ≡ 0)
    -- the number is its statement's
    pub told : OnOk (result_of noted.kept)
        ((s : Statement) → IsStatement piece s → Forgets old s noted.forgotten)

-- steps over an engine, whatever its database holds
module _ {S K : Type 0} (IsStep : EngineState S → List Lexeme → K → EngineState S → Type 0)
    (result_of : K → Result Outcome Refusal) where
  abbrev pub NotedStepOver : EngineState S → List Lexeme → Noted K → EngineState S → Type 0
  NotedStepOver old piece noted new =
      IsStep old piece noted.kept new × OnErr (result_of noted.kept) (noted.forgotten ≡ 0)

-- ---- the number, from the lists of ended versions

-- the number of the table whose versions a statement may end, or 0
abbrev pub ending_table : List TableDef → Statement → ℕ
ending_table catalog (statement.update u) = unwrap_or (number_of catalog u.table) 0
ending_table catalog (statement.delete d) = unwrap_or (number_of catalog d.table) 0
ending_table catalog _ = 0

-- the number of versions that a result says were touched
abbrev pub touched_in : Result Outcome Refusal → ℕ
touched_in (Ok (Done word.Update count)) = count
touched_in (Ok (Done word.Delete count)) = count
touched_in _ = 0

-- the number of touched versions, less those that have ended since
abbrev pub lost_of : ℕ → ℕ → ℕ → ℕ
lost_of touched before after = touched - (after - before)

-- ---- a law, the contract of a function of this crate

-- a version has ended
abbrev pub is_past : PlainVersion → Bool
is_past v = not (int_eq v.to forever)

-- the versions of a table that have ended
abbrev pub past_of : History → ℕ → List PlainVersion
past_of history table = filter is_past (versions_of history table)

-- each version that a change touches has ended after it or is forgotten
abbrev pub ChangesEndOrForget : Type 0
ChangesEndOrForget =
    (history : History) (change : Change) → clock_of history <ℤ forever
    → let after = with_event history (Changed (clock_of history) change) in
    length (past_of history change.table)
    + length (touched_rows change.action (versions_of history change.table))
    ≡ length (past_of after change.table) + length (forgotten_by history change)
