-- For worked rows: a change is lawful if its table has at most one row on a day, and no table has a reference.
use Rattle.std.proofs.Common.{◌≡◌, ◌∷◌, ◌+◌, ◌≤◌, ◌∙◌, ℕ, suc, ℤ, Bool, true, false, List, [], Some, cond, length, length-append, map, not, refl, sym, ap, subst, arith}
use Rattle.std.specs.List.{Contains, enumerate_from, filter}
use Rattle.std.proofs.lemmas.List.{length-map}
use Rattle.period_core.specs.declared.value.Value.{Value}
use Rattle.temporal_model.proofs.Members.{Contains-nil, Contains-one}
use Rattle.catalog_core.specs.table.TableWords.{table_of}
use Rattle.catalog_core.specs.declared.change.Action.{Action}
use Rattle.catalog_core.specs.declared.change.Action.TheVariants.{Delete, Insert, Update}
use Rattle.catalog_core.specs.declared.change.Change.{Change}
use Rattle.catalog_core.specs.declared.change.InsertedRow.{InsertedRow}
use Rattle.catalog_core.specs.declared.table.TableDef.{TableDef}
use Rattle.history_model.specs.Effects.{Traced, acts_on, inserted_covers, inserted_by, inserted_row, kept, traced, updated}
use Rattle.history_model.specs.Histories.{State}
use Rattle.period_keys.specs.Lawful.{IsLawfulChange, OriginsShareKey, key_positions}

-- ---- the number of traced rows

shorter : {X : Type 0} (p : X → Bool) (xs : List X) → length (filter p xs) ≤ length xs
shorter p [] = omega arith
shorter {X} p (x ∷ xs) = go (p x) (shorter p xs)
  where
    go : (b : Bool) → length (filter p xs) ≤ length xs → length (cond b (x ∷ filter p xs) (filter p xs)) ≤ length (x ∷ xs)
    go true h = omega (arith, h)
    go false h = omega (arith, h)

numbered : (from : ℕ) (given : List InsertedRow) → length (enumerate_from from given) ≡ length given
numbered from [] = refl
numbered from (g ∷ given) = ap suc (numbered (from + 1) given)

few_traced : (action : Action) (day : ℤ) (rows : List (List Value)) → length (traced action day rows) ≤ length rows + length (inserted_by action)
few_traced (Insert given) day rows =
    let ours : List (ℕ × InsertedRow) = filter (inserted_covers day) (enumerate_from 0 given) in
    omega (arith, length-append (map kept rows) (map inserted_row ours), length-map rows kept, length-map ours inserted_row, shorter (inserted_covers day) (enumerate_from 0 given), numbered 0 given)
few_traced (Update portion assignments condition) day rows = omega (arith, length-map rows (updated portion assignments condition day))
few_traced (Delete portion condition) day rows =
    let left : List (List Value) = filter (λ row. not (acts_on portion condition day row)) rows in
    omega (arith, length-map left kept, shorter (λ row. not (acts_on portion condition day row)) rows)

-- one row is of one origin
alone : (positions : List ℕ) (rows : List Traced) → length rows ≤ 1 → OriginsShareKey positions rows → ⊥
alone positions [] short (a, b, in_a, in_b, apart, same) = Contains-nil a in_a
alone positions (row ∷ []) short (a, b, in_a, in_b, apart, same) = apart (ap (λ (t : Traced). t.origin) (sym (Contains-one row a in_a) ∙ Contains-one row b in_b))
alone positions (row ∷ other ∷ rows) short shared = omega (arith, short)

-- ---- lawful changes

-- no table has a reference
abbrev pub HaveNoReferences : List TableDef → Type 0
HaveNoReferences catalog = (number : ℕ) (child : TableDef) → table_of catalog number ≡ Some child → child.references ≡ []

-- a change is lawful if it leaves no two rows of different origins with one key
pub lawful_by_key : (catalog : List TableDef) (before : State) (change : Change) → HaveNoReferences catalog →
    ((day : ℤ) (def : TableDef) → table_of catalog change.table ≡ Some def → OriginsShareKey (key_positions def) (traced change.action day (before change.table day)) → ⊥) → IsLawfulChange catalog before change
lawful_by_key catalog before change none apart = record {
  keys = λ day (def, is, shared). apart day def is shared;
  references = λ day (number, child, reference, parent, refers, lacks). Contains-nil reference (subst (λ l. Contains l reference) (none number child refers.is_child) refers.is_reference);
}

pub lawful_alone : (catalog : List TableDef) (before : State) (change : Change) → HaveNoReferences catalog →
    ((day : ℤ) → length (before change.table day) + length (inserted_by change.action) ≤ 1) → IsLawfulChange catalog before change
lawful_alone catalog before change none few =
    lawful_by_key catalog before change none
    (λ day def is shared. alone (key_positions def) (traced change.action day (before change.table day)) (let most = few day in omega (arith, few_traced change.action day (before change.table day), most)) shared)
