-- The rows of a day, by reference, and what table references see by them.
use Rattle.std.specs.Prelude.{◌≡◌, ◌↔◌, ◌≤ℤ◌, ◌<ℤ◌, ℤ, List, [], map, slice_index_or, Contains}
use Rattle.std.specs.Borrow.{Bor}
use Rattle.std.specs.Global.{Vec}
use Rattle.std.specs.List.{AllZip}
use Rattle.period_core.specs.declared.row.PeriodRow.{PeriodRow}
use Rattle.period_core.specs.declared.value.Value.{Value}
use Rattle.catalog_core.specs.declared.query.resolved.QueryReference.{QueryReference}
use Rattle.history_model.specs.OrdinaryQuery.{VisibleRows}

-- rows by reference
abbrev pub RowReferences : Type 0
RowReferences = List (Bor PeriodRow)

-- one of the references is to the row
abbrev pub ContainsRow : RowReferences → PeriodRow → Type 0
ContainsRow references row =
    (reference : Bor PeriodRow) × Contains references reference × (reference.now ≡ row)

-- the references are to those rows of the list that cover the day
abbrev pub AreActive : List PeriodRow → RowReferences → ℤ → Type 0
AreActive rows active day =
    (row : PeriodRow) → (ContainsRow active row
    ↔ (Contains rows row × (row.period.start ≤ℤ day) × (day <ℤ row.period.end)))

-- the values of the rows that are referred to
abbrev pub InActive : RowReferences → List Value → Type 0
InActive active values =
    (reference : Bor PeriodRow) × Contains active reference × (reference.now.values ≡ values)

-- ---- of each list

-- the active rows of each list, as the program has them
abbrev pub ActiveLists : Type 0
ActiveLists = List (Vec (Bor PeriodRow))

-- the active rows of each list
abbrev pub active_lists : ActiveLists → List RowReferences
active_lists seen = map (λ (active : Vec (Bor PeriodRow)). active.items) seen

-- the active rows of the list in a reference's place
abbrev pub active_for : ActiveLists → QueryReference → RowReferences
active_for seen reference = slice_index_or (active_lists seen) reference.place []

-- each reference sees the values of its active rows
abbrev pub VisibleInActive : ActiveLists → VisibleRows
VisibleInActive seen reference values = InActive (active_for seen reference) values

-- each has those rows of its list that cover the day
abbrev pub AllAreActive : List (List PeriodRow) → ActiveLists → ℤ → Type 0
AllAreActive tables seen day =
    AllZip (λ rows (active : Vec (Bor PeriodRow)). AreActive rows active.items day) tables seen
