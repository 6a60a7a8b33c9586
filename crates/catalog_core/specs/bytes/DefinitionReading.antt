-- Readers of the parts of a definition from the front of values.
use Rattle.std.specs.Prelude.{◌≡◌, ◌==◌, ◌&&◌, ◌++◌, ◌∷◌, ℕ, Bool, true, List, [], length, nat_lt}
use Rattle.std.specs.List.{list_all}
use Rattle.period_core.specs.declared.value.Value.{Value}
use Rattle.period_core.specs.declared.value.Value.TheVariants.{Text}
use Rattle.sql_statements.specs.Names.{is_name}
use Rattle.catalog_core.specs.Limits.{table_number_limit}
use Rattle.catalog_core.specs.table.IsDefinition.{is_kind, is_period, is_reference}
use Rattle.catalog_core.specs.declared.table.Column.{Column}
use Rattle.catalog_core.specs.declared.table.PeriodColumns.{PeriodColumns}
use Rattle.catalog_core.specs.declared.table.Reference.{Reference}

-- the part that was read is fit, and the values are the part's and then the rest
abbrev pub IsFront :
    {A : Type 0} → (A → Bool) → (A → List Value) → List Value → A → List Value → Type 0
IsFront fits written values part rest = (fits part ≡ true) × (values ≡ written part ++ rest)

-- no fit part's values begin these
abbrev pub HasNoFront : {A : Type 0} → (A → Bool) → (A → List Value) → List Value → Type 0
HasNoFront {A} fits written values =
    (part : A) (rest : List Value) → fits part ≡ true → values ≡ written part ++ rest → ⊥

-- any number
abbrev pub is_any : ℕ → Bool
is_any n = true

-- a number below the limit
abbrev pub is_below : ℕ → ℕ → Bool
is_below limit n = nat_lt n limit

-- `count` elements, each of which passes the test
abbrev pub are_so_many : {X : Type 0} → ℕ → (X → Bool) → List X → Bool
are_so_many count test xs = length xs == count && list_all test xs

-- a name as one value
abbrev pub name_values : List ℕ → List Value
name_values name = Text name ∷ []

-- the parts whose types keep their names and numbers
abbrev pub is_column : Column → Bool
is_column c = is_name c.name && is_kind c.kind

-- a period of a table with `count` columns, whose name is one
abbrev pub is_named_period : ℕ → PeriodColumns → Bool
is_named_period count p = is_name p.name && is_period count p

-- a reference of a table with `count` columns, whose parent's number is one of a table
abbrev pub is_small_reference : ℕ → Reference → Bool
is_small_reference count r = nat_lt r.parent table_number_limit && is_reference count r
