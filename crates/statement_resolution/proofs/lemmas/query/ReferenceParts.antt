-- References by their tables' numbers, in a loop.
use Rattle.std.proofs.Common.{◌≡◌, ◌≤◌, ◌+◌, ◌++◌, ◌∷◌, ◌&&◌, ◌==◌, ◌∙◌, ℕ, Bool, true, false, List, [], Option, None, Some, arith, length, map, refl, sym, take, ap}
use Rattle.std.specs.Option.{is_none}
use Rattle.std.proofs.lemmas.Bool.{false≢true}
use Rattle.std.proofs.lemmas.Bool.Decides.{nat_tests}
use Rattle.std.proofs.lemmas.List.{length-map, length-take-le}
use Rattle.period_core.specs.declared.window.Window.{Window}
use Rattle.sql_statements.specs.declared.statement.TableReference.{TableReference}
use Rattle.statement_resolution.proofs.lemmas.query.ColumnLists.{not_there}
use Rattle.statement_resolution.proofs.lemmas.query.ReferenceLists.{Borrowed}
use Rattle.statement_resolution.specs.Faults.{either, faults_among, no_faults}
use Rattle.statement_resolution.specs.SystemWindows.{window_of}
use Rattle.catalog_core.specs.query.Fitting.{are_in_place}
use Rattle.statement_resolution.specs.query.Faults.{lacks_any, lacks_one, missing_fault}
use Rattle.statement_resolution.specs.query.Places.{placed_reference}
use Rattle.statement_resolution.specs.query.Resolving.{ReferenceParts, reference_parts, value_kinds, written_reference}
use Rattle.catalog_core.specs.table.TableWords.{number_of, table_of_name}
use Rattle.statement_resolution.specs.declared.faults.Faults.{Faults}
use Rattle.catalog_core.specs.declared.query.resolved.QueryReference.{QueryReference}
use Rattle.catalog_core.specs.declared.table.TableDef.{TableDef}
use Rattle.catalog_core.specs.declared.table.ValueKind.{ValueKind}

pub same_parts : (catalog : List TableDef) (r : TableReference) (number : ℕ) (t : TableDef) (seen : Window) (kinds : List ValueKind)
    → number_of catalog r.table ≡ Some number → table_of_name catalog r.table ≡ Some t → seen ≡ window_of r.window → kinds ≡ value_kinds t
    → placed_reference catalog r ≡ (Some number, seen, Some kinds)
same_parts catalog r number t seen kinds numbered there window of_table =
    rw (numbered, there, window, of_table) refl

-- a table that is missing
pub missing_parts : (catalog : List TableDef) (r : TableReference) (seen : Window) (kinds : List ValueKind) → number_of catalog r.table ≡ None → seen ≡ window_of r.window → kinds ≡ []
    → placed_reference catalog r ≡ (Some 0, seen, Some kinds)
missing_parts catalog r seen kinds lacking window none = rw (lacking, not_there catalog r.table lacking, window, none) refl

-- a table that exists has its number
pub found_parts : (catalog : List TableDef) (r : TableReference) → lacks_one catalog r ≡ false → written_reference catalog r ≡ placed_reference catalog r
found_parts catalog r there =
    by (number_of catalog r.table) (table_of_name catalog r.table) refl refl there
  where
    by : (n : Option ℕ) (o : Option TableDef) → number_of catalog r.table ≡ n → table_of_name catalog r.table ≡ o → is_none o ≡ false → written_reference catalog r ≡ placed_reference catalog r
    by (Some n) (Some t) numbered found h = rw (numbered, found) refl
    by None (Some t) numbered found h = absurd (false≢true (sym h ∙ ap is_none (sym found ∙ not_there catalog r.table numbered)))
    by n None numbered found h = absurd (false≢true (sym h))

-- ---- the fault of tables that are missing

pub missing_one : (catalog : List TableDef) (r : TableReference) (old none : Faults) (o : Option TableDef) → none ≡ no_faults → table_of_name catalog r.table ≡ o
    → either old (record none { table = is_none o }) ≡ either old (missing_fault (lacks_one catalog r))
missing_one catalog r old none o clean same = rw (clean, same) refl

pub missing_sum : (catalog : List TableDef) (rs : List Borrowed) → faults_among (λ (r : Borrowed). missing_fault (lacks_one catalog r.now)) rs ≡ missing_fault (lacks_any catalog (map (λ (r : Borrowed). r.now) rs))
missing_sum catalog [] = refl
missing_sum catalog (r ∷ rs) = ap (either (missing_fault (lacks_one catalog r.now))) (missing_sum catalog rs)

-- one more reference, after those that are in their places
pub placed_more : (place : ℕ) (rs : List QueryReference) (r : QueryReference) → are_in_place place rs ≡ true → r.place ≡ place + length rs → are_in_place place (rs ++ r ∷ []) ≡ true
placed_more place [] r placed here =
    let same : (r.place == place) ≡ true = grind (arith, nat_tests) in
    rw same refl
placed_more place (x ∷ rs) r placed here =
    let parts = and_parts (x.place == place) (are_in_place (place + 1) rs) placed in
    let sum : r.place ≡ (place + 1) + length rs = omega (arith, here) in
    rw (parts.0) (placed_more (place + 1) rs r parts.1 sum)
  where
    and_parts : (a b : Bool) → (a && b) ≡ true → (a ≡ true) × (b ≡ true)
    and_parts true b e = (refl, e)
    and_parts false b e = cc

-- the references so far are as many as the elements seen
pub parts_count : {X : Type 0} (f : X → ReferenceParts) (xs : List X) (i : ℕ) (rs : List QueryReference) → i ≤ length xs → map f (take i xs) ≡ map reference_parts rs → length rs ≡ i
parts_count f xs i rs within same =
    omega (arith, ap length same, length-map (take i xs) f, length-map rs reference_parts, length-take-le i xs within)
