-- The columns of a list of versions, up to a place.
use Rattle.std.proofs.Common.{◌≡◌, ◌<◌, ◌≤◌, ◌+◌, ◌∷◌, ◌++◌, ◌∙◌, ℕ, Bool, cond, List, [], ap, get_or, length, length-append, map, sym, take, true, false, refl}
use Rattle.std.specs.List.{enumerate_from, filter}
use Rattle.std.proofs.lemmas.List.{map-append, take_more}
use Rattle.std.proofs.lemmas.List.Elements.{filter-append}
use Rattle.catalog_core.proofs.lemmas.table.Numbered.{numbered_all, numbered_at, numbered_within}
use Rattle.catalog_core.specs.table.TableWords.{is_value_column}
use Rattle.catalog_core.specs.declared.table.Column.{Column}
use Rattle.catalog_core.specs.declared.table.TableDef.{TableDef}
use Rattle.script_engine.specs.engine.VersionLists.{cell_at, version_column, version_columns}
use Rattle.statement_reports.specs.declared.outcome.Cell.{Cell}
use Rattle.statement_reports.specs.declared.outcome.VersionColumn.{VersionColumn}

-- the declared columns before a place, each with its place
abbrev pub before : List Column → ℕ → List (ℕ × Column)
before xs i = take i (enumerate_from 0 xs)

-- the position of a value that is declared at a place
abbrev pub position_in : TableDef → List Column → ℕ → ℕ
position_in t xs i = length (filter (is_value_column t) (before xs i))

before_more : (xs : List Column) (i : ℕ) (x : Column) → i < length xs → x ≡ get_or xs i x → before xs (i + 1) ≡ before xs i ++ (i, x) ∷ []
before_more xs i x inside its =
    take_more (enumerate_from 0 xs) i (i, x) (numbered_within xs i inside)
    ∙ ap (λ (y : ℕ × Column). before xs i ++ y ∷ []) (numbered_at xs i x inside its)

pub position_more : (t : TableDef) (xs : List Column) (i : ℕ) (x : Column) (b : Bool) → i < length xs → x ≡ get_or xs i x → is_value_column t (i, x) ≡ b → position_in t xs (i + 1) ≡ position_in t xs i + cond b 1 0
position_more t xs i x b inside its is =
    ap (λ (l : List (ℕ × Column)). length (filter (is_value_column t) l)) (before_more xs i x inside its)
    ∙ ap length (filter-append (is_value_column t) (before xs i) ((i, x) ∷ []))
    ∙ length-append (filter (is_value_column t) (before xs i)) (filter (is_value_column t) ((i, x) ∷ []))
    ∙ ap (λ (n : ℕ). position_in t xs i + n) (one (is_value_column t (i, x)) b is)
  where
    one : (a b : Bool) → a ≡ b → length {A = ℕ × Column} (cond a ((i, x) ∷ []) []) ≡ cond b 1 0
    one true true e = refl
    one true false e = cc
    one false true e = cc
    one false false e = refl

abbrev version_of : List ℕ → Cell → VersionColumn
version_of name cell = record { name = name; cell = cell }

pub columns_more : (t : TableDef) (xs : List Column) (i : ℕ) (x : Column) (made : List VersionColumn) (position : ℕ) (column : VersionColumn) → xs ≡ t.columns → i < length xs → x ≡ get_or xs i x →
    made ≡ map (version_column t) (before xs i) → position ≡ position_in t xs i → column ≡ record { name = x.name; cell = cell_at t i x.kind position } → made ++ column ∷ [] ≡ map (version_column t) (before xs (i + 1))
columns_more t xs i x made position column same inside its so_far counted is =
    ap (λ (l : List VersionColumn). l ++ column ∷ []) so_far
    ∙ ap (λ (c : VersionColumn). map (version_column t) (before xs i) ++ c ∷ []) (is ∙ ap (λ (n : ℕ). version_of x.name (cell_at t i x.kind n)) (counted ∙ ap (λ (ys : List Column). position_in t ys i) same))
    ∙ sym (ap (map (version_column t)) (before_more xs i x inside its) ∙ map-append (version_column t) (before xs i) ((i, x) ∷ []))

pub columns_end : (t : TableDef) (xs : List Column) (i : ℕ) (made : List VersionColumn) → xs ≡ t.columns → length xs ≤ i → made ≡ map (version_column t) (before xs i) → made ≡ version_columns t
columns_end t xs i made same over so_far = so_far ∙ ap (map (version_column t)) (numbered_all xs i over ∙ ap (λ (ys : List Column). enumerate_from 0 ys) same)
