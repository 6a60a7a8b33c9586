-- Rows in memory that hold a lawful state: by the clashes and the uncovered children among them.
use Rattle.std.proofs.Common.{◌≡◌, ◌↔◌, ◌⊎◌, ◌<◌, ◌≤◌, ◌+◌, ◌∙◌, ℕ, zero, suc, ℤ, true, false, List, Option, None, Some, ap, arith, inl, inr, length, map, refl, subst, sym}
use Rattle.std.specs.Prelude.{IsTrue, is_none, is_some}
use Rattle.std.specs.List.{Contains, slice_get}
use Rattle.std.proofs.lemmas.List.Sorted.{IsPermutation-sym}
use Rattle.std.proofs.lemmas.Option.{slice_get_within}
use Rattle.period_core.specs.declared.row.PeriodRow.{PeriodRow}
use Rattle.period_core.specs.declared.value.Value.{Value}
use Rattle.temporal_model.specs.Snapshot.{values_on}
use Rattle.catalog_core.specs.table.TableWords.{table_of}
use Rattle.catalog_core.specs.declared.table.Reference.{Reference}
use Rattle.catalog_core.specs.declared.table.TableDef.{TableDef}
use Rattle.history_model.specs.Histories.{State}
use Rattle.history_model.specs.Versions.{row_of}
use Rattle.period_keys.specs.Current.{HoldCurrent, HoldsCurrent, rows_by_key}
use Rattle.period_keys.specs.Days.{ShareKey}
use Rattle.period_keys.specs.Keys.{IsKeyClash, IsLeastOf, IsUncovered, values_at}
use Rattle.period_keys.specs.Lawful.{HoldsTable, IsCoveredBy, IsLawfulState, IsLawfulTable, LacksParentBy, key_positions, own_positions, parent_positions}
use Rattle.period_keys.specs.TableRows.{TableRows}
use Rattle.period_keys.proofs.ByDays.{clashes_of_days}
use Rattle.period_keys.proofs.LawfulFacts.{definition_is, lacking_of_uncovered}
use Rattle.period_keys.proofs.Pairs.{SomePair-permutation}
use Rattle.period_keys.proofs.ReferenceFacts.{held_by}

-- no day was found exactly if there is none
pub none_found : (P : ℤ → Type 0) (found : Option ℤ) → IsLeastOf P found → (IsTrue (is_none found) ↔ ((day : ℤ) → P day → ⊥))
none_found P None least = (λ t. least, λ none. refl)
none_found P (Some day) least = (λ t. cc, λ none. absurd (none day least.faulty))

-- two rows that hold the table share its key exactly if the rows clash
pub clash_of_state : (positions : List ℕ) (rows : List PeriodRow) (state : State) (number : ℕ) → HoldsTable rows state number → (day : ℤ) → (IsKeyClash positions rows day ↔ ShareKey positions (state number day))
clash_of_state positions rows state number holds day =
    let Same : List Value → List Value → Type 0 = λ v w. values_at positions v ≡ values_at positions w in
    let law = clashes_of_days positions rows day in (
      λ h. SomePair-permutation Same (λ v w e. sym e) (values_on rows day) (state number day) (holds day) (law.0 h),
      λ h. law.1 (SomePair-permutation Same (λ v w e. sym e) (state number day) (values_on rows day) (IsPermutation-sym (values_on rows day) (state number day) (holds day)) h),
    )

-- a reference is covered if no child is found without its parent
pub covered_of_found : (catalog : List TableDef) (tables : List TableRows) (state : State) (number : ℕ) (child : TableDef) (reference : Reference) (parent : TableDef) (rows : List PeriodRow) (own keys : List ℕ) (found : Option ℤ)
    → HoldCurrent catalog state (map rows_by_key tables) → HoldsTable rows state number → table_of catalog reference.parent ≡ Some parent
    → own ≡ own_positions child reference → keys ≡ parent_positions parent reference
    → ((table : TableRows) → table_of tables reference.parent ≡ Some table → IsLeastOf (IsUncovered own rows keys (map row_of table.rows)) found)
    → (IsTrue (is_none found) ↔ IsCoveredBy catalog state number child reference)
covered_of_found catalog tables state number child reference parent rows own keys found hold holds is own_is keys_is least =
    let (table, there, above) = held_by catalog state tables reference.parent parent hold is in
    let parents : List PeriodRow = map row_of table.rows in
    let Alone : List ℕ → List ℕ → ℤ → Type 0 = λ own keys day. IsUncovered own rows keys parents day in
    let law = none_found (Alone own keys) found (least table there) in
    let by_state = lacking_of_uncovered state number child reference parent rows parents holds above.holds in (
      λ t other other_is day lacks.
          let same : other ≡ parent = definition_is other parent (sym other_is ∙ is) in
          let alone : Alone (own_positions child reference) (parent_positions parent reference) day = (by_state day).1 (subst (λ (p : TableDef). LacksParentBy state number child reference p day) same lacks) in
          law.0 t day (subst (λ (ps : List ℕ). Alone ps keys day) (sym own_is) (subst (λ (ps : List ℕ). Alone (own_positions child reference) ps day) (sym keys_is) alone)),
      λ covered.
          law.1 (λ day alone. covered parent is day ((by_state day).0 (subst (λ (ps : List ℕ). Alone ps (parent_positions parent reference) day) own_is (subst (λ (ps : List ℕ). Alone own ps day) keys_is alone)))),
    )

-- ---- a table

-- a table with a clash is not lawful
pub table_with_clash : (catalog : List TableDef) (state : State) (number : ℕ) (def : TableDef) (rows : List PeriodRow) (found : Option ℤ) → HoldsTable rows state number
    → IsLeastOf (IsKeyClash (key_positions def) rows) found → is_some found ≡ true → (IsTrue false ↔ IsLawfulTable catalog state number def)
table_with_clash catalog state number def rows None holds least some = cc
table_with_clash catalog state number def rows (Some day) holds least some = (
  λ t. cc,
  λ lawful. absurd (lawful.keys day ((clash_of_state (key_positions def) rows state number holds day).0 least.faulty)),
)

-- a table with a reference that is not covered is not lawful
pub table_uncovered : (catalog : List TableDef) (state : State) (number : ℕ) (def : TableDef) (reference : Reference) → Contains def.references reference
    → (IsTrue false ↔ IsCoveredBy catalog state number def reference) → (IsTrue false ↔ IsLawfulTable catalog state number def)
table_uncovered catalog state number def reference there law = (λ t. cc, λ lawful. law.1 (lawful.references reference there))

-- a table without a key clash, all of whose references are covered, is lawful
pub table_covered : (catalog : List TableDef) (state : State) (number : ℕ) (def : TableDef) (rows : List PeriodRow) (found : Option ℤ) → HoldsTable rows state number
    → IsLeastOf (IsKeyClash (key_positions def) rows) found → is_some found ≡ false → ((reference : Reference) → Contains def.references reference → IsCoveredBy catalog state number def reference)
    → (IsTrue true ↔ IsLawfulTable catalog state number def)
table_covered catalog state number def rows (Some day) holds least none each = cc
table_covered catalog state number def rows None holds least none each = (
  λ t. record {
    keys = λ day shared. least day ((clash_of_state (key_positions def) rows state number holds day).1 shared);
    references = each;
  },
  λ lawful. refl,
)

-- ---- all tables

-- the first tables of a state are lawful
abbrev pub AreLawfulBelow : List TableDef → State → ℕ → Type 0
AreLawfulBelow catalog state count = (place : ℕ) (def : TableDef) → place < count → slice_get catalog place ≡ Some def → IsLawfulTable catalog state (suc place) def

pub below_step : (catalog : List TableDef) (state : State) (place : ℕ) (def : TableDef) → slice_get catalog place ≡ Some def → AreLawfulBelow catalog state place → IsLawfulTable catalog state (suc place) def
    → AreLawfulBelow catalog state (place + 1)
below_step catalog state place def is below one k other inside other_is = by_place k other inside other_is (last k inside)
  where
    last : (k : ℕ) → k < place + 1 → (k < place) ⊎ (k ≡ place)
    last k inside = grind arith

    by_place : (k : ℕ) (other : TableDef) → k < place + 1 → slice_get catalog k ≡ Some other → (k < place) ⊎ (k ≡ place) → IsLawfulTable catalog state (suc k) other
    by_place k other inside other_is (inl before) = below k other before other_is
    by_place k other inside other_is (inr same) =
        let def_is : def ≡ other = definition_is def other (sym is ∙ ap (slice_get catalog) (sym same) ∙ other_is) in
        subst (λ n. IsLawfulTable catalog state (suc n) other) (sym same) (subst (λ d. IsLawfulTable catalog state (suc place) d) def_is one)

-- a lawful state is one of lawful tables
pub lawful_of_tables : (catalog : List TableDef) (state : State) (count : ℕ) → length catalog ≤ count → AreLawfulBelow catalog state count → IsLawfulState catalog state
lawful_of_tables catalog state count all below = record {
  keys = λ number def is. (of_number number def is).keys;
  references = λ day (number, child, reference, parent, refers, lacks). (of_number number child refers.is_child).references reference refers.is_reference parent refers.is_parent day lacks;
} where
  of_number : (number : ℕ) (def : TableDef) → table_of catalog number ≡ Some def → IsLawfulTable catalog state number def
  of_number zero def is = cc
  of_number (suc place) def is =
      let inside : place < length catalog = slice_get_within catalog place def is in
      below place def (omega (arith, inside, all)) is

pub table_of_lawful : (catalog : List TableDef) (state : State) (number : ℕ) (def : TableDef) → IsLawfulState catalog state → table_of catalog number ≡ Some def → IsLawfulTable catalog state number def
table_of_lawful catalog state number def lawful is = record {
  keys = lawful.keys number def is;
  references = λ reference there parent parent_is day lacks. lawful.references day (number, def, reference, parent, record { is_child = is; is_reference = there; is_parent = parent_is }, lacks);
}

pub state_unlawful : (catalog : List TableDef) (state : State) (number : ℕ) (def : TableDef) → table_of catalog number ≡ Some def → (IsTrue false ↔ IsLawfulTable catalog state number def)
    → (IsTrue false ↔ IsLawfulState catalog state)
state_unlawful catalog state number def is law = (λ t. cc, λ lawful. law.1 (table_of_lawful catalog state number def lawful is))

-- the rows of the table at a place hold it
pub held_at : (catalog : List TableDef) (state : State) (tables : List TableRows) (place : ℕ) (def : TableDef) (table : TableRows) → HoldCurrent catalog state (map rows_by_key tables)
    → table_of catalog (place + 1) ≡ Some def → table_of tables (place + 1) ≡ Some table → HoldsCurrent state (place + 1) def (rows_by_key table)
held_at catalog state tables place def table hold def_is table_is =
    let (there, there_is, holds) = held_by catalog state tables (place + 1) def hold def_is in
    subst (λ (t : TableRows). HoldsCurrent state (place + 1) def (rows_by_key t)) (same there table (sym there_is ∙ table_is)) holds
  where
    same : (x y : TableRows) → Some x ≡ Some y → x ≡ y
    same x y e = cc
