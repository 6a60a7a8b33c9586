-- The rows of a resolved change: they have a value for each value column, and the empty ones decide
-- the refusal.
use Rattle.std.proofs.Common.{◌≡◌, ◌∷◌, ◌||◌, ◌∙◌, Bool, List, [], Option, map, refl, sym, ap}
use Rattle.std.specs.List.{list_any}
use Rattle.period_core.specs.declared.value.Value.{Value}
use Rattle.sql_statements.specs.declared.statement.InsertRows.{InsertRows}
use Rattle.statement_resolution.specs.change.Insertion.{gives_empty_row, gives_no_period, has_no_period, is_no_period}
use Rattle.catalog_core.proofs.lemmas.table.Named.{table_named}
use Rattle.catalog_core.specs.table.Naming.{Name, passes}
use Rattle.statement_resolution.specs.change.Resolution.{ResolvesAction, ResolvesInsert, RowParts, row_parts, written_row}
use Rattle.catalog_core.specs.change.EmptyRows.{has_empty_row, is_empty_row}
use Rattle.catalog_core.specs.declared.change.Action.{Action}
use Rattle.catalog_core.specs.declared.change.Action.TheVariants.{Delete, Insert, Update}
use Rattle.catalog_core.specs.declared.change.Change.{Change}
use Rattle.catalog_core.specs.declared.change.InsertedRow.{InsertedRow}
use Rattle.catalog_core.specs.declared.table.TableDef.{TableDef}

any_map : {X Y : Type 0} (p : Y → Bool) (f : X → Y) (xs : List X) → list_any p (map f xs) ≡ list_any (λ x. p (f x)) xs
any_map p f [] = refl
any_map p f (x ∷ xs) = ap (λ b. p (f x) || b) (any_map p f xs)

abbrev no_period : RowParts → Bool
no_period parts = is_no_period parts.start parts.end

-- the given rows say whether a row is empty
empty_rows : (t : TableDef) (list : Option (List Name)) (rows : List (List Value)) (given : List InsertedRow)
    → map (written_row t list) rows ≡ map row_parts given → list_any (λ row. gives_no_period t list row) rows ≡ list_any is_empty_row given
unfolding gives_no_period is_no_period
empty_rows t list rows given same =
    sym (any_map no_period (written_row t list) rows) ∙ ap (list_any no_period) same ∙ any_map no_period row_parts given

empty_action : (t : TableDef) (i : InsertRows) (action : Action) → ResolvesAction t i action → has_no_period t i ≡ has_empty_row action
unfolding has_no_period
empty_action t i (Insert given) same = empty_rows t i.columns i.rows given same
empty_action t i (Update portion assignments condition) same = absurd same
empty_action t i (Delete portion condition) same = absurd same

pub empty_change : (catalog : List TableDef) (i : InsertRows) (change : Change) → ResolvesInsert catalog i change → gives_empty_row catalog i ≡ has_empty_row change.action
empty_change catalog i change resolved =
    ap (passes (λ (t : TableDef). has_no_period t i)) (table_named catalog i.table change.table resolved.definition resolved.number resolved.table)
    ∙ empty_action resolved.definition i change.action resolved.action
