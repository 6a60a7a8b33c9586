-- The versions that have ended as they are loaded, table by table.
use Rattle.std.proofs.Common.{◌≡◌, ◌≤ℤ◌, ◌<◌, ◌≤◌, ◌+◌, ◌++◌, ◌∷◌, ◌∙◌, ℕ, ℤ, zero, suc, Bool, true, false, List, [], None, get_or, length, map, nat_lt, take, refl, sym, ap, subst, length-append, arith}
use Rattle.std.specs.List.{filter}
use Rattle.std.specs.List.Sorted.{IsPermutation, IsSortedByKey}
use Rattle.std.specs.Cmp.{int_cmp_is}
use Rattle.std.specs.Ordering.{int_cmp, is_gt, is_lt}
use Rattle.std.specs.declared.cmp.Ordering.TheVariants.{Greater}
use Rattle.std.proofs.lemmas.Cmp.{int_cmp_total}
use Rattle.std.proofs.lemmas.Int.{by_lt_z}
use Rattle.temporal_model.proofs.AnswerOrder.{int_cmp-Less}
use Rattle.std.specs.Option.{option_map_or}
use Rattle.std.proofs.lemmas.Bool.Decides.{nat_tests}
use Rattle.std.proofs.lemmas.List.{get_or-map, get_or-take, length-map, length-take-le}
use Rattle.std.proofs.lemmas.List.Elements.{All-nil}
use Rattle.std.proofs.lemmas.List.Sorted.{IsPermutation-map, IsPermutation-refl, IsPermutation-trans, ranks_by, sorted_far}
use Rattle.std.proofs.lemmas.Option.{slice_get_past}
use Rattle.sqlite_trees.proofs.ListLemmas.{IsPermutation-filter, filter-map}
use Rattle.period_core.specs.declared.version.VersionRow.{VersionRow}
use Rattle.catalog_core.specs.table.TableWords.{table_of}
use Rattle.ended_versions.specs.Packed.{AreEndedBy, Hold, PackedVersion, packed}
use Rattle.ended_versions.proofs.PackedFacts.{OfColumns}
use Rattle.version_store.specs.Contents.{Contents, TableVersion, of_table, version_in}
use Rattle.version_store.specs.GoodStore.{HaveTables}
use Rattle.script_engine.specs.engine.Ended.{AreInOrderOfEnds, HasEnded, HaveEnded, ended_in, ended_of, has_ended, table_ended}
use Rattle.script_engine.proofs.Loaded.{none_there}

-- the rows of a table that have ended, in any order, in a list
pub table_loaded : (c : Contents) (number : ℕ) (rows ended : List VersionRow) (list : List PackedVersion) → IsPermutation (of_table number c.versions) (map (version_in number) rows) → Hold list ended → IsPermutation (filter has_ended rows) ended → HasEnded c number list
table_loaded c number rows ended list are held same = record {
  versions = ended;
  held = held;
  all =
      IsPermutation-trans (ended_of number c.versions) (map (version_in number) (filter has_ended rows)) (map (version_in number) ended)
      (subst (IsPermutation (ended_of number c.versions)) (filter-map table_ended (version_in number) rows) (IsPermutation-filter table_ended (of_table number c.versions) (map (version_in number) rows) are))
      (IsPermutation-map (version_in number) (filter has_ended rows) ended same);
}

-- the lists of the first tables are loaded
pub record AreLoaded (c : Contents) (count : ℕ) (lists : List (List PackedVersion)) : Type 0 where
  pub long : length lists ≡ count
  pub ended : (place : ℕ) → place < count → HasEnded c (suc place) (ended_in lists (suc place))

before_last : (ls : List (List PackedVersion)) (l : List PackedVersion) (place : ℕ) → place < length ls → ended_in (ls ++ l ∷ []) (suc place) ≡ ended_in ls (suc place)
before_last [] l place inside = absurd (omega arith)
before_last (x ∷ ls) l zero inside = refl
before_last (x ∷ ls) l (suc place) inside = before_last ls l place (omega arith)

the_last : (ls : List (List PackedVersion)) (l : List PackedVersion) → ended_in (ls ++ l ∷ []) (suc (length ls)) ≡ l
the_last [] l = refl
the_last (x ∷ ls) l = the_last ls l

pub one_loaded : (c : Contents) (count : ℕ) (ls : List (List PackedVersion)) (l : List PackedVersion) → AreLoaded c count ls → HasEnded c (count + 1) l → AreLoaded c (count + 1) (ls ++ l ∷ [])
one_loaded c count ls l was has = record {
  long = (let long = was.long in omega (arith, length-append ls (l ∷ [])));
  ended = at;
}
  where
    at : (place : ℕ) → place < count + 1 → HasEnded c (suc place) (ended_in (ls ++ l ∷ []) (suc place))
    at place below = by_test (nat_lt place count) refl
      where
        by_test : (b : Bool) → nat_lt place count ≡ b → HasEnded c (suc place) (ended_in (ls ++ l ∷ []) (suc place))
        by_test true e =
            let lower : place < count = grind (arith, nat_tests, e) in
            let long = was.long in
            subst (HasEnded c (suc place)) (sym (before_last ls l place (omega arith))) (was.ended place lower)
        by_test false e =
            let here : place ≡ count = (let off : place < count → ⊥ = (λ lower. grind (arith, nat_tests, e, lower)) in omega arith) in
            let long = was.long in
            let last : length ls ≡ place = omega arith in
            let number : count + 1 ≡ suc place = omega arith in
            let list : l ≡ ended_in (ls ++ l ∷ []) (suc place) = sym (the_last ls l) ∙ ap (λ (n : ℕ). ended_in (ls ++ l ∷ []) (suc n)) last in
            subst (λ (n : ℕ). HasEnded c n (ended_in (ls ++ l ∷ []) (suc place))) number (subst (HasEnded c (count + 1)) list has)

-- no version belongs to a table that does not exist
none_ended : (c : Contents) (number : ℕ) (list : List PackedVersion) → table_of c.tables number ≡ None → HaveTables c → list ≡ [] → HasEnded c number list
none_ended c number list none tabled empty =
    subst (HasEnded c number) (sym empty) (record {
      versions = [];
      held = record { same = refl; held = All-nil OfColumns };
      all = subst (λ (vs : List TableVersion). IsPermutation (filter table_ended vs) []) (sym (none_there c number none tabled)) (IsPermutation-refl []);
    })

abbrev itself : List PackedVersion → List PackedVersion
itself l = l

pub all_loaded : (c : Contents) (count : ℕ) (ls : List (List PackedVersion)) → length c.tables ≤ count → AreLoaded c count ls → HaveTables c → HaveEnded c ls
all_loaded c count ls all loaded tabled = at
  where
    at : (number : ℕ) → HasEnded c number (ended_in ls number)
    at zero = none_ended c zero [] refl tabled refl
    at (suc place) = by_test (nat_lt place count) refl
      where
        by_test : (b : Bool) → nat_lt place count ≡ b → HasEnded c (suc place) (ended_in ls (suc place))
        by_test true e = loaded.ended place (grind (arith, nat_tests, e))
        by_test false e =
            let off : count ≤ place = (let out : place < count → ⊥ = (λ lower. grind (arith, nat_tests, e, lower)) in omega arith) in
            let long = loaded.long in
            none_ended c (suc place) (ended_in ls (suc place)) (slice_get_past c.tables place (omega arith)) tabled
            (ap (λ o. option_map_or itself o []) (slice_get_past ls place (omega arith)))

-- ---- one list

-- the versions before a place of those in the order of their ends ended by the end of the one there
pub ended_so_far : (ended : List VersionRow) (i : ℕ) (version : VersionRow) → AreInOrderOfEnds ended → i < length ended → version ≡ get_or ended i version → AreEndedBy version.to (map packed (take i ended))
ended_so_far ended i version order inside is = λ k d below.
    let size : length (take i ended) ≡ i = length-take-le i ended (omega arith) in
    let fits : k < length (take i ended) = omega (arith, length-map (take i ended) packed) in
    let at : get_or (map packed (take i ended)) k d ≡ packed (get_or ended k version) =
    get_or-map packed (take i ended) k version d fits ∙ ap packed (get_or-take i ended k version (omega arith)) in
    let upto : (get_or ended k version).to ≤ℤ (get_or ended i version).to = order k i version (omega arith) inside in
    subst (λ (p : PackedVersion). p.to ≤ℤ version.to) (sym at) (subst (λ (v : VersionRow). (get_or ended k version).to ≤ℤ v.to) (sym is) upto)

-- versions that are sorted by their ends
pub in_order : (versions : List VersionRow) → IsSortedByKey (λ (v : VersionRow). v.to) int_cmp versions → AreInOrderOfEnds versions
in_order versions up = λ i j d lt below.
    let a : ℤ = (get_or versions i d).to in
    let b : ℤ = (get_or versions j d).to in
    let far : is_lt (int_cmp b a) ≡ false = sorted_far (λ (x y : VersionRow). is_lt (int_cmp x.to y.to)) (ranks_by int_cmp_total (λ (v : VersionRow). v.to)) versions up i j d (omega (arith, lt)) below in
    by_lt_z {P = a ≤ℤ b} b a (λ less. let wrong : is_lt (int_cmp b a) ≡ true = ap is_lt (int_cmp-Less b a less) in cc) (λ upto. upto)

-- a moment that is not later is no later
pub not_later : (a b : ℤ) → false ≡ is_gt (int_cmp a b) → a ≤ℤ b
not_later a b off =
    by_lt_z {P = a ≤ℤ b} b a
    (λ more. let greater : int_cmp a b ≡ Greater = sym (int_cmp_is a b Greater more) in let wrong : is_gt (int_cmp a b) ≡ true = ap is_gt greater in cc)
    (λ upto. upto)
