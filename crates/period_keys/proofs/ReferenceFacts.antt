-- The state of the tables as all references of a catalog are judged, and the days that one reference or one table gives.
use Rattle.std.proofs.Common.{◌≡◌, ◌⊎◌, ◌+◌, ◌<◌, ◌≤◌, ◌∙◌, ◌∷◌, [], ℕ, zero, suc, ℤ, List, Option, None, Some, ap, arith, get_or, inl, inr, length, map, refl, subst, sym}
use Rattle.std.specs.List.{Contains, slice_get}
use Rattle.std.proofs.lemmas.Option.{slice_get_read, slice_get_within}
use Rattle.period_core.specs.declared.period.Period.{Period}
use Rattle.period_core.specs.declared.value.Value.{Value}
use Rattle.catalog_core.specs.table.TableWords.{table_of}
use Rattle.catalog_core.specs.declared.change.Change.{Change}
use Rattle.catalog_core.specs.declared.change.Plan.{Plan}
use Rattle.catalog_core.specs.declared.table.Reference.{Reference}
use Rattle.catalog_core.specs.declared.table.TableDef.{TableDef}
use Rattle.history_model.specs.Histories.{State}
use Rattle.history_model.specs.Versions.{row_of}
use Rattle.period_keys.specs.Current.{HoldCurrent, HoldsCurrent, IsIndexedBy, rows_by_key}
use Rattle.period_keys.specs.Rows.{RowsByKey}
use Rattle.period_keys.specs.Faults.{IsFaultBy, IsFaultOf, IsPlanned, IsPlannedIn}
use Rattle.period_keys.specs.Index.{AreAtKeys, earlier}
use Rattle.period_keys.specs.Positions.{positions_of_places}
use Rattle.period_keys.specs.Keys.{IsLeastOf}
use Rattle.period_keys.specs.Lawful.{IsLawfulState, IsReferenceFault, LacksParentBy, Refers, state_after}
use Rattle.period_keys.specs.TableRows.{TableRows}
use Rattle.period_keys.proofs.LawfulFacts.{definition_is, own_references}
use Rattle.period_keys.proofs.Leasts.{IsLeastOf-either, IsLeastOf-same}
use Rattle.period_keys.proofs.Members.{member_of, some_member}

-- a table with its indexes, of which the rows by its key are known
pub with_indexes : (tables : List TableRows) (number : ℕ) (table : RowsByKey) → table_of (map rows_by_key tables) number ≡ Some table
    → (indexed : TableRows) × (table_of tables number ≡ Some indexed) × (rows_by_key indexed ≡ table)
with_indexes tables zero table is = cc
with_indexes [] (suc place) table is = cc
with_indexes (t ∷ ts) (suc zero) table is = (t, refl, rows_is (rows_by_key t) table is)
  where
    rows_is : (x y : RowsByKey) → Some x ≡ Some y → x ≡ y
    rows_is x y e = cc
with_indexes (t ∷ ts) (suc (suc place)) table is = with_indexes ts (suc place) table is

-- the rows of a table of the catalog hold its state
pub held_by : (catalog : List TableDef) (state : State) (tables : List TableRows) (number : ℕ) (def : TableDef) → HoldCurrent catalog state (map rows_by_key tables) → table_of catalog number ≡ Some def
    → (table : TableRows) × (table_of tables number ≡ Some table) × HoldsCurrent state number def (rows_by_key table)
held_by catalog state tables number def hold is =
    let (table, there, holds) = hold number def is in
    let (indexed, indexed_there, same) = with_indexes tables number table there in
    (indexed, indexed_there, subst (HoldsCurrent state number def) (sym same) holds)

-- the changed table's rows, over which the change is planned
pub planned_over : (catalog : List TableDef) (before : State) (tables : List TableRows) (change : Change) (plan : Plan) (def : TableDef) → IsPlannedIn catalog before tables change plan
    → table_of catalog change.table ≡ Some def → (table : TableRows) × (table_of tables change.table ≡ Some table) × IsPlanned catalog before change table.rows plan
planned_over catalog before tables change plan def known is =
    let (table, there, holds) = held_by catalog before tables change.table def known.holds is in (
      table,
      there,
      record { lawful = known.lawful; holds = holds.holds; planned = known.planned table there },
    )

-- the days of a reference are those on which a parent of its key lacks
pub fault_by_parent : (catalog : List TableDef) (before : State) (change : Change) (number : ℕ) (child : TableDef) (reference : Reference) (parent : TableDef) (found : Option ℤ)
    → table_of catalog reference.parent ≡ Some parent → IsLeastOf (LacksParentBy (state_after change before) number child reference parent) found
    → IsLeastOf (λ day. IsFaultBy catalog before change number child day reference) found
fault_by_parent catalog before change number child reference parent found is least =
    let Lacks : TableDef → ℤ → Type 0 = λ p day. LacksParentBy (state_after change before) number child reference p day in
    IsLeastOf-same (Lacks parent) (λ day. IsFaultBy catalog before change number child day reference)
    (λ day. (
      λ h. (parent, is, h),
      λ (other, other_is, h). subst (λ p. Lacks p day) (definition_is other parent (sym other_is ∙ is)) h,
    )) found least

-- a reference that neither is of the changed table nor refers to it has no fault
pub fault_elsewhere : (catalog : List TableDef) (before : State) (change : Change) (number : ℕ) (child : TableDef) (reference : Reference) → IsLawfulState catalog before
    → table_of catalog number ≡ Some child → Contains child.references reference → (number ≡ change.table → ⊥) → (reference.parent ≡ change.table → ⊥)
    → IsLeastOf (λ day. IsFaultBy catalog before change number child day reference) None
fault_elsewhere catalog before change number child reference lawful child_is there other apart day (parent, is, lacks) =
    let refers : Refers catalog number child reference parent = record { is_child = child_is; is_reference = there; is_parent = is } in
    elim (own_references catalog before change lawful number child reference parent day refers lacks) [ inl own ↦ other own | inr to ↦ apart to ]

-- ---- table by table

-- one of the first tables gives the day
abbrev pub IsFaultBelow : List TableDef → State → Change → ℕ → ℤ → Type 0
IsFaultBelow catalog before change count day =
    (place : ℕ) × (place < count) × (child : TableDef) × (slice_get catalog place ≡ Some child) × IsFaultOf catalog before change (suc place) child day

pub none_below : (catalog : List TableDef) (before : State) (change : Change) → IsLeastOf (IsFaultBelow catalog before change 0) None
none_below catalog before change day (place, below, child, is, h) = omega (arith, below)

-- the least gap of the children in the tables so far, with one table's more
pub below_more : (catalog : List TableDef) (before : State) (change : Change) (place : ℕ) (child : TableDef) (found here new : Option ℤ) → slice_get catalog place ≡ Some child
    → IsLeastOf (IsFaultBelow catalog before change place) found → IsLeastOf (IsFaultOf catalog before change (place + 1) child) here → new ≡ earlier found here
    → IsLeastOf (IsFaultBelow catalog before change (place + 1)) new
below_more catalog before change place child found here new is so_far one new_is =
    let Below : ℤ → Type 0 = IsFaultBelow catalog before change place in
    let Here : ℤ → Type 0 = IsFaultOf catalog before change (place + 1) child in
    let number : place + 1 ≡ suc place = omega arith in
    IsLeastOf-same (λ day. Below day ⊎ Here day) (IsFaultBelow catalog before change (place + 1))
    (λ day. (
      λ h. elim h [
        | inl (k, below, other, other_is, fault) ↦ (k, omega (arith, below), other, other_is, fault)
        | inr fault ↦ (place, omega arith, child, is, subst (λ n. IsFaultOf catalog before change n child day) number fault)
      ],
      λ (k, below, other, other_is, fault). by_place day k other other_is fault number (last k below),
    ))
    new (subst (IsLeastOf (λ day. Below day ⊎ Here day)) (sym new_is) (IsLeastOf-either Below Here found here so_far one))
  where
    last : (k : ℕ) → k < place + 1 → (k < place) ⊎ (k ≡ place)
    last k below = grind arith

    by_place : (day : ℤ) (k : ℕ) (other : TableDef) → slice_get catalog k ≡ Some other → IsFaultOf catalog before change (suc k) other day → place + 1 ≡ suc place → (k < place) ⊎ (k ≡ place)
        → IsFaultBelow catalog before change place day ⊎ IsFaultOf catalog before change (place + 1) child day
    by_place day k other other_is fault number (inl below) = inl (k, below, other, other_is, fault)
    by_place day k other other_is fault number (inr same) =
        let def : other ≡ child = definition_is other child (sym other_is ∙ ap (slice_get catalog) same ∙ is) in
        inr (subst (λ n. IsFaultOf catalog before change n child day) (sym number) (subst (λ n. IsFaultOf catalog before change (suc n) child day) same (subst (λ d. IsFaultOf catalog before change (suc k) d day) def fault)))

-- all tables give the days of the catalog
pub fault_of_all : (catalog : List TableDef) (before : State) (change : Change) (count : ℕ) (found : Option ℤ) → length catalog ≤ count → IsLeastOf (IsFaultBelow catalog before change count) found
    → IsLeastOf (IsReferenceFault catalog before change) found
fault_of_all catalog before change count found all least =
    IsLeastOf-same (IsFaultBelow catalog before change count) (IsReferenceFault catalog before change)
    (λ day. (
      λ (place, below, child, is, h).
          let (reference, there, (parent, parent_is, lacks)) = member_of (IsFaultBy catalog before change (suc place) child day) child.references h in
          (suc place, child, reference, parent, record { is_child = is; is_reference = there; is_parent = parent_is }, lacks),
      λ (number, child, reference, parent, refers, lacks). of_number day number child reference parent refers.is_child refers.is_reference refers.is_parent lacks,
    )) found least
  where
    of_number : (day : ℤ) (number : ℕ) (child : TableDef) (reference : Reference) (parent : TableDef) → table_of catalog number ≡ Some child → Contains child.references reference → table_of catalog reference.parent ≡ Some parent
        → LacksParentBy (state_after change before) number child reference parent day → IsFaultBelow catalog before change count day
    of_number day zero child reference parent is there parent_is lacks = cc
    of_number day (suc place) child reference parent is there parent_is lacks =
        let inside : place < length catalog = slice_get_within catalog place child is in
        (place, omega (arith, inside, all), child, is, some_member (IsFaultBy catalog before change (suc place) child day) child.references reference there (parent, parent_is, lacks))

-- the number of the table at a place
pub number_at : {T : Type 0} (tables : List T) (place : ℕ) (table : T) → place < length tables → table ≡ get_or tables place table → table_of tables (place + 1) ≡ Some table
number_at tables place table below is =
    let next : place + 1 ≡ suc place = omega arith in
    ap (table_of tables) next ∙ slice_get_read tables (length tables) place table refl below is

-- ---- positions and indexes as they are worked out

-- the positions that were worked out of places
pub worked_out : (def : TableDef) (places given made slice : List ℕ) → slice ≡ made → made ≡ positions_of_places def given → given ≡ places → slice ≡ positions_of_places def places
worked_out def places given made slice slice_is made_is given_is = slice_is ∙ made_is ∙ ap (positions_of_places def) given_is

pub indexed_as : (tables : List TableRows) (number other : ℕ) (positions worked : List ℕ) → IsIndexedBy tables number positions → other ≡ number → worked ≡ positions → IsIndexedBy tables other worked
indexed_as tables number other positions worked indexed same is =
    subst (λ (n : ℕ). IsIndexedBy tables n worked) (sym same) (subst (IsIndexedBy tables number) (sym is) indexed)

-- periods that were looked up by their positions
pub index_as : (tables : List TableRows) (number other : ℕ) (positions worked : List ℕ) (at : List Value → List Period) (table : TableRows) → other ≡ number → worked ≡ positions → table_of tables number ≡ Some table
    → ((t : TableRows) → table_of tables other ≡ Some t → AreAtKeys worked (map row_of t.rows) at) → AreAtKeys positions (map row_of table.rows) at
index_as tables number other positions worked at table same is there found =
    subst (λ (ps : List ℕ). AreAtKeys ps (map row_of table.rows) at) is (found table (ap (table_of tables) same ∙ there))
