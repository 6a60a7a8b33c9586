-- Versions that are taken of a list: of its parts, in steps, and by a test.
use Rattle.std.proofs.Common.{◌≡◌, ◌++◌, ◌∷◌, ◌∙◌, [], Bool, List, None, Some, ℕ, append_assoc, append-nil, ap, cond, false, inl, inr, length, map, not, refl, reverse, subst, sym, true}
use Rattle.std.specs.List.{Contains, filter}
use Rattle.std.proofs.lemmas.Bool.{eq-eqb, false≢true, not-false, or_parts}
use Rattle.std.proofs.lemmas.List.{map-append}
use Rattle.temporal_model.proofs.Members.{Contains-cons_cases, Contains-here, Contains-nil, Contains-there}
use Rattle.period_core.specs.Windows.{window_sees}
use Rattle.period_core.specs.declared.value.Value.{Value}
use Rattle.period_core.specs.declared.version.VersionRow.{VersionRow}
use Rattle.catalog_core.specs.table.TableWords.{table_of}
use Rattle.period_keys.specs.Current.{rows_by_key}
use Rattle.period_keys.specs.TableRows.{TableRows}
use Rattle.period_keys.specs.Versions.{version_key}
use Rattle.ended_versions.specs.Hashes.{has_each, hash_at, hash_of, may_have, shares_hash}
use Rattle.ended_versions.specs.Packed.{seen_through}
use Rattle.ended_versions.proofs.FoundFacts.{filter-reverse, has_as_many}
use Rattle.script_engine.specs.declared.engine.reading.Access.{Access}
use Rattle.script_engine.specs.engine.InMemory.{rows_in}
use Rattle.script_engine.specs.engine.Reading.{AddRead, AreTaken, IsSeen, MayBeUnread, is_within, left, none, taken}
use Rattle.script_engine.proofs.Indexed.{none_there, rows_of_table}

-- of two lists, one after the other
pub taken_both : {X : Type 0} (IsTaken MayLack : X → Type 0) {first second some others : List X} → AreTaken IsTaken MayLack first some → AreTaken IsTaken MayLack second others → AreTaken IsTaken MayLack (first ++ second) (some ++ others)
taken_both IsTaken MayLack none two = two
taken_both IsTaken MayLack (taken is one) two = taken is (taken_both IsTaken MayLack one two)
taken_both IsTaken MayLack (left may one) two = left may (taken_both IsTaken MayLack one two)

-- if more may be left out
pub taken_looser : {X : Type 0} (IsTaken MayLack MayMiss : X → Type 0) → ((x : X) → MayLack x → MayMiss x) → {all some : List X} → AreTaken IsTaken MayLack all some → AreTaken IsTaken MayMiss all some
taken_looser IsTaken MayLack MayMiss more none = none
taken_looser IsTaken MayLack MayMiss more (taken is rest) = taken is (taken_looser IsTaken MayLack MayMiss more rest)
taken_looser IsTaken MayLack MayMiss more (left {x = x} may rest) = left (more x may) (taken_looser IsTaken MayLack MayMiss more rest)

-- a selection by a test takes the elements that pass it
pub taken_by : {X : Type 0} (IsTaken MayLack : X → Type 0) (test : X → Bool) → ((x : X) → test x ≡ true → IsTaken x) → ((x : X) → test x ≡ false → MayLack x) → (xs : List X) → AreTaken IsTaken MayLack xs (filter test xs)
taken_by IsTaken MayLack test take lack [] = none
taken_by {X} IsTaken MayLack test take lack (x ∷ xs) = go (test x) refl (taken_by IsTaken MayLack test take lack xs)
  where
    go : (b : Bool) → test x ≡ b → AreTaken IsTaken MayLack xs (filter test xs) → AreTaken IsTaken MayLack (x ∷ xs) (cond b (x ∷ filter test xs) (filter test xs))
    go true is more = taken (take x is) more
    go false is more = left (lack x is) more

-- of those that are taken, some are taken again
module _ {X : Type 0} (First MayLack Second MayLose Both MayMiss : X → Type 0) (both : (x : X) → First x → Second x → Both x) (lack : (x : X) → MayLack x → MayMiss x) (lose : (x : X) → MayLose x → MayMiss x) where
  pub taken_twice : {all some few : List X} → AreTaken First MayLack all some → AreTaken Second MayLose some few → AreTaken Both MayMiss all few
  taken_twice none none = none
  taken_twice (taken {x = x} is one) (taken more two) = taken (both x is more) (taken_twice one two)
  taken_twice (taken {x = x} is one) (left may two) = left (lose x may) (taken_twice one two)
  taken_twice (left {x = x} may one) two = left (lack x may) (taken_twice one two)

module _ {X : Type 0} (IsTaken MayLack : X → Type 0) where
  -- if a test says what is taken, those that pass it
  pub exactly_taken : (test : X → Bool) → ((x : X) → IsTaken x → test x ≡ true) → ((x : X) → MayLack x → test x ≡ false) → {all some : List X} → AreTaken IsTaken MayLack all some → some ≡ filter test all
  exactly_taken test passes fails none = refl
  exactly_taken test passes fails (taken {x = x} is more) = rw (passes x is) (ap (λ (l : List X). x ∷ l) (exactly_taken test passes fails more))
  exactly_taken test passes fails (left {x = x} may more) = rw (fails x may) (exactly_taken test passes fails more)

  -- one that is taken is one of all
  pub taken_within : {all some : List X} (x : X) → AreTaken IsTaken MayLack all some → Contains some x → Contains all x × IsTaken x
  taken_within x none c = absurd (Contains-nil x c)
  taken_within x (taken {x = y} {all = all} {some = some} is more) c = elim (Contains-cons_cases y some x c) [
    | inl same ↦ (subst (Contains (y ∷ all)) same (Contains-here y all), subst IsTaken same is)
    | inr later ↦ (let (its, so) = taken_within x more later in (Contains-there y all x its, so))
  ]
  taken_within x (left {x = y} {all = all} may more) c = let (its, so) = taken_within x more c in (Contains-there y all x its, so)

  -- one of all is taken, unless it may be left out
  pub taken_whole : {all some : List X} (x : X) → (MayLack x → ⊥) → AreTaken IsTaken MayLack all some → Contains all x → Contains some x
  taken_whole x never none c = c
  taken_whole x never (taken {x = y} {all = all} {some = some} is more) c = elim (Contains-cons_cases y all x c) [
    | inl same ↦ subst (Contains (y ∷ some)) same (Contains-here y some)
    | inr later ↦ Contains-there y some x (taken_whole x never more later)
  ]
  taken_whole x never (left {x = y} {all = all} may more) c = elim (Contains-cons_cases y all x c) [
    | inl same ↦ absurd (never (subst MayLack same may))
    | inr later ↦ taken_whole x never more later
  ]

-- ---- the rows that are added

module _ {R : Type 0} (IsTaken MayLack : VersionRow → Type 0) (made : VersionRow → R) where
  abbrev Add : List VersionRow → List R → List R → Type 0
  Add = AddRead IsTaken MayLack made

  pub add_none : (rows : List R) → Add [] rows rows
  add_none rows = ([], none, sym (append-nil rows))

  pub add_both : (first second : List VersionRow) (rows middle new : List R) → Add first rows middle → Add second middle new → Add (first ++ second) rows new
  add_both first second rows middle new (some, one, is) (others, two, and) = (
    some ++ others,
    taken_both _ _ one two,
    and ∙ ap (λ (l : List R). l ++ map made others) is ∙ append_assoc rows (map made some) (map made others) ∙ ap (λ (l : List R). rows ++ l) (sym (map-append made some others)),
  )

  pub add_taken : (v : VersionRow) (rows new : List R) → IsTaken v → new ≡ rows ++ made v ∷ [] → Add (v ∷ []) rows new
  add_taken v rows new is same = (v ∷ [], taken is none, same)

  pub add_left : (v : VersionRow) (rows : List R) → MayLack v → Add (v ∷ []) rows rows
  add_left v rows may = ([], left may none, sym (append-nil rows))

  module _ (MayMiss : VersionRow → Type 0) (more : (v : VersionRow) → MayLack v → MayMiss v) where
    -- more may be left out
    pub add_looser : (all : List VersionRow) (rows new : List R) → Add all rows new → AddRead IsTaken MayMiss made all rows new
    add_looser all rows new (some, read, is) = (some, taken_looser IsTaken MayLack MayMiss more read, is)

    -- of those that pass a test, if each of the rest may be left out
    pub add_filtered : (test : VersionRow → Bool) → ((v : VersionRow) → test v ≡ false → MayMiss v) → (all : List VersionRow) (rows new : List R) → Add (filter test all) rows new → AddRead IsTaken MayMiss made all rows new
    add_filtered test lack all rows new (some, read, is) = (
      some,
      taken_twice (λ (v : VersionRow). Unit {0}) MayMiss IsTaken MayLack IsTaken MayMiss (λ v any so. so) (λ v may. may) more
          (taken_by (λ (v : VersionRow). Unit {0}) MayMiss test (λ v passes. tt) lack all) read,
      is,
    )

-- of the table of a number
pub add_of_table : {R : Type 0} (IsTaken MayLack : VersionRow → Type 0) (made : VersionRow → R) (tables : List TableRows) (number : ℕ) (t : TableRows) (rows new : List R) → table_of tables number ≡ Some t → AddRead IsTaken MayLack made t.rows rows new →
    AddRead IsTaken MayLack made (rows_in (map rows_by_key tables) number) rows new
add_of_table IsTaken MayLack made tables number t rows new there add = subst (λ (all : List VersionRow). AddRead IsTaken MayLack made all rows new) (sym (rows_of_table tables number t there)) add

-- of a number without a table
pub add_of_no_table : {R : Type 0} (IsTaken MayLack : VersionRow → Type 0) (made : VersionRow → R) (tables : List TableRows) (number : ℕ) (rows : List R) → table_of tables number ≡ None → AddRead IsTaken MayLack made (rows_in (map rows_by_key tables) number) rows rows
add_of_no_table IsTaken MayLack made tables number rows absent = rw (none_there tables number absent) ([], none, sym (append-nil rows))

-- ---- the ended versions

module _ (access : Access) (versions : List VersionRow) where
  abbrev pub AreSeen : List VersionRow → Type 0
  AreSeen = AreTaken (IsSeen access) (MayBeUnread access (λ (v : VersionRow). ⊥)) (reverse versions)

  -- all that the window sees
  pub all_seen : AreSeen (reverse (seen_through access.window versions))
  all_seen =
      subst AreSeen (filter-reverse (λ (v : VersionRow). window_sees access.window v.from v.to) versions)
      (taken_by (IsSeen access) (MayBeUnread access (λ (v : VersionRow). ⊥)) (λ (v : VersionRow). window_sees access.window v.from v.to)
      (λ v is. is) (λ v unseen. inl unseen) (reverse versions))

  -- versions that may have a key are read, if each in the range that has values there has this one
  pub key_seen : (positions : List ℕ) (key : List Value) → ((v : VersionRow) → is_within access v ≡ true → length (version_key positions v) ≡ length positions → version_key positions v ≡ key)
      → AreSeen (reverse (filter (may_have positions key) (seen_through access.window versions)))
  key_seen positions key whole =
      subst AreSeen (filter-reverse (may_have positions key) (seen_through access.window versions))
      (taken_twice (IsSeen access) (MayBeUnread access (λ (v : VersionRow). ⊥)) (λ (v : VersionRow). Unit {0}) (λ (v : VersionRow). is_within access v ≡ false)
      (IsSeen access) (MayBeUnread access (λ (v : VersionRow). ⊥)) (λ v is any. is) (λ v may. may) (λ v outside. inr (inl outside)) all_seen
      (taken_by (λ (v : VersionRow). Unit {0}) (λ (v : VersionRow). is_within access v ≡ false) (may_have positions key) (λ v may. tt) (λ v other. outside v other (is_within access v) refl)
      (reverse (seen_through access.window versions))))
    where
      outside : (v : VersionRow) → may_have positions key v ≡ false → (b : Bool) → is_within access v ≡ b → b ≡ false
      outside v other false is = refl
      outside v other true is =
          let (there, apart) = or_parts (not (has_each positions v.values)) (shares_hash positions key v) other in
          let count : length (version_key positions v) ≡ length positions = has_as_many positions v.values (not-false (has_each positions v.values) there) in
          absurd (false≢true (sym apart ∙ eq-eqb (hash_at positions v) (hash_of key) (ap hash_of (whole v is count))))

-- of the versions that a window sees, a selection takes some
pub selected_seen : {R : Type 0} (access : Access) (IsTaken MayLack : VersionRow → Type 0) (made : VersionRow → R) (versions seen some : List VersionRow) (rows new : List R) →
    AreSeen access versions seen → AreTaken IsTaken MayLack seen some → new ≡ rows ++ map made some → AddRead IsTaken (MayBeUnread access MayLack) made (reverse versions) rows new
selected_seen access IsTaken MayLack made versions seen some rows new are read is = (
  some,
  taken_twice (IsSeen access) (MayBeUnread access (λ (v : VersionRow). ⊥)) IsTaken MayLack IsTaken (MayBeUnread access MayLack)
      (λ v sees so. so)
      (λ v may. elim may [ inl unseen ↦ inl unseen | inr rest ↦ elim rest [ inl outside ↦ inr (inl outside) | inr never ↦ absurd never ] ])
      (λ v may. inr (inr may)) are read,
  is,
)
