-- The place of a name among a table's own columns is the position of its column by that name.
use Rattle.std.proofs.Common.{◌≡◌, ◌+◌, ◌∷◌, ◌∙◌, ℕ, suc, Bool, true, false, List, [], None, Some, ap, bytes_eq, cond, arith, filter, length, map, refl, sym}
use Rattle.std.specs.List.{enumerate_from, position, position_or_len}
use Rattle.std.specs.Option.{option_map}
use Rattle.std.proofs.lemmas.Bool.{false≢true}
use Rattle.sql_statements.specs.declared.statement.ColumnReference.{ColumnReference}
use Rattle.catalog_core.specs.query.Selection.{value_position}
use Rattle.catalog_core.specs.table.Matches.{is_matching}
use Rattle.catalog_core.specs.table.Naming.{Name}
use Rattle.catalog_core.specs.table.TableWords.{is_value_column}
use Rattle.catalog_core.specs.declared.table.match_counts.MatchCount.TheVariants.{Zero}
use Rattle.statement_resolution.proofs.lemmas.query.ColumnLists.{seen_as}
use Rattle.statement_resolution.proofs.lemmas.query.ValuePlaces.{some_value}
use Rattle.statement_resolution.specs.Faults.{no_faults}
use Rattle.statement_resolution.specs.Placing.{or_zero}
use Rattle.statement_resolution.specs.query.Faults.{are_matching, match_faults, matches_among}
use Rattle.statement_resolution.specs.query.Places.{place_among, values_among}
use Rattle.statement_resolution.specs.query.Scopes.{SeenColumn, has_value, is_qualified, names_column, own_columns}
use Rattle.statement_resolution.specs.declared.faults.Faults.{Faults}
use Rattle.catalog_core.specs.declared.table.Column.{Column}
use Rattle.catalog_core.specs.declared.table.TableDef.{TableDef}

-- the place of a name among the columns of a table
abbrev pub own_place : TableDef → ColumnReference → ℕ
own_place t r = place_among [] (own_columns t) r

module _ (t : TableDef) (r : ColumnReference) where
  abbrev values : List (ℕ × Column) → List SeenColumn
  values cs = values_among (map (seen_as t.name t) cs)

  abbrev names : List (ℕ × Column) → List Name
  names cs = map (λ (c : ℕ × Column). c.1.name) (filter (is_value_column t) cs)

  -- under another qualifier than the table's name, nothing matches
  none_named : (k : ℕ) (xs : List Column) → is_qualified r.qualifier t.name ≡ false → matches_among (map (seen_as t.name t) (enumerate_from k xs)) r ≡ []
  none_named k [] other = refl
  none_named k (x ∷ xs) other = rw other (none_named (k + 1) xs other)

  abbrev Same : List SeenColumn → List Name → Type 0
  Same seen names = (position_or_len (names_column r) seen ≡ position_or_len (bytes_eq r.name) names) × (length seen ≡ length names)

  by_name : is_qualified r.qualifier t.name ≡ true → (cs : List (ℕ × Column)) → Same (values cs) (names cs)
  by_name named [] = (refl, refl)
  by_name named (c ∷ cs) = by (is_value_column t c) (by_name named cs)
    where
      by : (b : Bool) → Same (values cs) (names cs)
          → Same (cond b (seen_as t.name t c ∷ values cs) (values cs)) (map (λ (d : ℕ × Column). d.1.name) (cond b (c ∷ filter (is_value_column t) cs) (filter (is_value_column t) cs)))
      by true h = (rw (named, h.0) refl, ap suc h.1)
      by false h = h

  same_place : is_qualified r.qualifier t.name ≡ true → value_position t r.name ≡ position (names_column r) (values_among (own_columns t))
  unfolding value_position
  same_place named = let same = by_name named (enumerate_from 0 t.columns) in rw (same.0, same.1) refl

  -- a name without a fault has a position
  pub own_there : match_faults (matches_among (own_columns t) r) ≡ no_faults → value_position t r.name ≡ Some (own_place t r)
  unfolding match_faults is_matching
  own_there clean =
      let unknown = ap (λ (f : Faults). f.unknown) clean in
      let period = ap (λ (f : Faults). f.period) clean in
      by (is_qualified r.qualifier t.name) refl unknown (λ none. some_value (names_column r) has_value (own_columns t) unknown period none)
    where
      by : (b : Bool) → is_qualified r.qualifier t.name ≡ b → are_matching Zero (matches_among (own_columns t) r) ≡ false → (position (names_column r) (values_among (own_columns t)) ≡ None → ⊥)
          → value_position t r.name ≡ Some (own_place t r)
      by false other some there = absurd (false≢true (sym some ∙ ap (are_matching Zero) (none_named 0 t.columns other)))
      by true named some there =
          same_place named
          ∙ (elim (position (names_column r) (values_among (own_columns t))) as (λ o. position (names_column r) (values_among (own_columns t)) ≡ o → o ≡ Some (or_zero (option_map (λ n. 0 + n) o))) [
            | None ↦ (λ e. absurd (there e))
            | Some n ↦ (λ e. let sum : n ≡ 0 + n = omega arith in ap (λ (k : ℕ). Some k) sum)
          ]) refl
