-- The plan of an INSERT ends nothing and adds the given rows.
use Rattle.std.proofs.Common.{◌≡◌, ◌||◌, Bool, true, false, List, [], ◌∷◌, ◌++◌, map, refl, sym, ◌∙◌, ap, append-nil}
use Rattle.std.specs.List.{filter, flat_map, list_any}
use Rattle.period_core.specs.declared.version.VersionRow.{VersionRow}
use Rattle.history_model.specs.Effects.{inserted_by}
use Rattle.history_model.specs.Portions.{plain_given, plain_row, replacements}
use Rattle.portion_dml.specs.Plans.{IsInsert, Plans, version_row}
use Rattle.catalog_core.specs.declared.change.Action.{Action}
use Rattle.catalog_core.specs.declared.change.Action.TheVariants.{Delete, Insert, Update}
use Rattle.catalog_core.specs.declared.change.InsertedRow.{InsertedRow}
use Rattle.portion_dml.proofs.Daily.{touched}
use Rattle.period_core.specs.declared.row.PeriodRow.{PeriodRow}
use Rattle.catalog_core.specs.change.EmptyRows.{has_empty_row, is_empty_row}
use Rattle.std.proofs.lemmas.List.Folds.{list_any-append}

-- INSERT touches no version
pub none_touched : (given : List InsertedRow) (current : List VersionRow) → filter (touched (Insert given)) current ≡ []
none_touched given [] = refl
none_touched given (v ∷ vs) = none_touched given vs

pub insert_plans : (given : List InsertedRow) (current ended : List VersionRow) (rows : List PeriodRow) → ended ≡ [] → map plain_row rows ≡ map plain_given given
    → Plans (Insert given) current (record { ended = ended; added = rows })
insert_plans given current ended rows none e = record {
  ended = none ∙ sym (none_touched given current);
  added = e ∙ sym (append-nil (map plain_given given)) ∙ ap (λ (l : List VersionRow). map plain_given given ++ flat_map (replacements (Insert given)) (map version_row l)) (sym none);
}

or_true : (b : Bool) → (b || true) ≡ true
or_true true = refl
or_true false = refl

-- an INSERT of rows one of which is empty has an empty row
pub gives_empty : (before after : List InsertedRow) (row : InsertedRow) (given : List InsertedRow) → given ≡ before ++ row ∷ after → is_empty_row row ≡ true → has_empty_row (Insert given) ≡ true
gives_empty before after row given split none =
    ap (list_any is_empty_row) split ∙ list_any-append is_empty_row before (row ∷ after)
    ∙ ap (λ b. list_any is_empty_row before || (b || list_any is_empty_row after)) none ∙ or_true (list_any is_empty_row before)

-- an INSERT gives its rows
pub insert_gives : (action : Action) → IsInsert action → Insert (inserted_by action) ≡ action
insert_gives (Insert given) is = refl
insert_gives (Update portion assignments condition) is = absurd is
insert_gives (Delete portion condition) is = absurd is
