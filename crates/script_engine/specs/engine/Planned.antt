-- Changes: what statements are resolved to, what is done by them, and what is counted.
use Rattle.std.specs.Prelude.{◌≡◌, ℕ, IfErr, IfOk, List, OnOk, Result, length}
use Rattle.period_core.specs.Leasts.{MayAnswer, NoneApplies}
use Rattle.period_core.specs.declared.refusal.Refusal.{Refusal}
use Rattle.sql_statements.specs.Trees.{Statement}
use Rattle.catalog_core.specs.RefusalConditions.{Holds}
use Rattle.statement_resolution.specs.change.Resolution.{IsChange, ResolvesChange}
use Rattle.statement_resolution.specs.change.Resolution.{change_conditions}
use Rattle.statement_resolution.specs.change.Resolution.{empty_period}
use Rattle.catalog_core.specs.change.EmptyRows.{has_empty_row}
use Rattle.catalog_core.specs.declared.change.Action.{Action}
use Rattle.catalog_core.specs.declared.change.Action.TheVariants.{Delete, Insert, Update}
use Rattle.catalog_core.specs.declared.change.Change.{Change}
use Rattle.catalog_core.specs.declared.change.Plan.{Plan}
use Rattle.catalog_core.specs.declared.table.TableDef.{TableDef}
use Rattle.history_model.specs.HistoryVersions.{touched_rows}
use Rattle.history_model.specs.Versions.{PlainVersion}
use Rattle.statement_reports.specs.declared.outcome.Word.{Word}
use Rattle.statement_reports.specs.declared.outcome.Word.TheVariants as word

-- the word of a change by an action
abbrev pub word_of : Action → Word
word_of (Insert given) = word.Insert
word_of (Update portion assignments condition) = word.Update
word_of (Delete portion condition) = word.Delete

-- the count of an action over a table's versions: the rows that INSERT gives; the current
-- versions that UPDATE or DELETE touches, also if the values that are set were there before
abbrev pub count_of : Action → List PlainVersion → ℕ
count_of (Insert given) versions = length given
count_of (Update portion assignments condition) versions =
    length (touched_rows (Update portion assignments condition) versions)
count_of (Delete portion condition) versions =
    length (touched_rows (Delete portion condition) versions)

-- the number of rows of a plan that are counted
abbrev pub planned_count : Action → Plan → ℕ
planned_count (Insert given) plan = length plan.added
planned_count (Update portion assignments condition) plan = length plan.ended
planned_count (Delete portion condition) plan = length plan.ended

-- the resolution of a statement of this word over a catalog: the change that it makes, if none
-- of its conditions holds (an empty row is refused by the rows that are given); or else a
-- refusal, the least whose condition holds, or out of memory
pub record IsResolved
    (catalog : List TableDef)
    (s : Statement)
    (verb : Word)
    (resolved : Result Change Refusal) : Type 0 where
  pub form : IsChange s
  pub told : IfOk resolved (λ change. verb ≡ word_of change.action)
  pub sound : OnOk resolved (NoneApplies (Holds (change_conditions catalog s)))
  pub change : IfOk resolved (λ change. ResolvesChange catalog s change)
  pub empty : IfOk resolved
      (λ change. (empty_period catalog s).1 ≡ has_empty_row change.action)
  pub refused : IfErr resolved (MayAnswer (Holds (change_conditions catalog s)))
