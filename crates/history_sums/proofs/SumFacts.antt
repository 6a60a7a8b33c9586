-- Histories that are alike spell the same, and so do versions in whatever order.
use Rattle.std.proofs.Common.{◌≡◌, ◌∙◌, ◌+◌, ◌<◌, ◌++◌, ◌∷◌, ℕ, zero, suc, List, [], ap, append_assoc, arith, false, get_or, length, map, refl, subst, sym, take}
use Rattle.std.specs.Prelude.{flat_map}
use Rattle.std.specs.Cmp.{IsTotalOrder}
use Rattle.std.specs.declared.cmp.Ordering.{Ordering}
use Rattle.std.specs.declared.cmp.Ordering.TheVariants.{Less, Equal, Greater}
use Rattle.std.specs.Ordering.{is_lt, ordering_then}
use Rattle.std.specs.FinMap.{IsAntisymmetric, int_cmp-IsAntisymmetric}
use Rattle.std.specs.List.Sorted.{IsPermutation, IsSorted}
use Rattle.std.proofs.lemmas.Cmp.{int_cmp_total, on_total, then_total}
use Rattle.std.proofs.lemmas.List.{flat_map_more, length-map, take_more}
use Rattle.std.proofs.lemmas.List.Sorted.{IsPermutation-map, length_permutation}
use Rattle.period_core.specs.Order.{version_cmp}
use Rattle.period_core.specs.OrderLaws.{values_cmp-same, values_cmp_total}
use Rattle.period_core.specs.declared.version.VersionRow.{VersionRow}
use Rattle.catalog_core.specs.declared.table.TableDef.{TableDef}
use Rattle.history_model.specs.Histories.{catalog_of, clock_of}
use Rattle.history_model.specs.HistoryVersions.{versions_of}
use Rattle.history_model.specs.Versions.{PlainVersion, plain_version}
use Rattle.history_sums.specs.Sorting.{plain_cmp, sorted_by}
use Rattle.history_sums.specs.Sums.{AlikeHaveOneSum, count_bytes, definitions_bytes, number_bytes, sum_text, tables_bytes, up_to, version_bytes, versions_bytes}
use Rattle.history_sums.proofs.SortFacts.{in_order-tail, in_order_already, same_in_order}

-- the order of versions is total, and versions that tie are the same
pub plain_cmp_total : IsTotalOrder plain_cmp
plain_cmp_total =
    then_total (on_total (λ (v : PlainVersion). v.values) values_cmp_total)
    (then_total (on_total (λ (v : PlainVersion). v.start) int_cmp_total)
    (then_total (on_total (λ (v : PlainVersion). v.from) int_cmp_total)
    (then_total (on_total (λ (v : PlainVersion). v.end) int_cmp_total)
    (on_total (λ (v : PlainVersion). v.to) int_cmp_total))))

then-Equal : (a b : Ordering) → ordering_then a b ≡ Equal → (a ≡ Equal) × (b ≡ Equal)
then-Equal Less b is = cc
then-Equal Equal b is = (refl, is)
then-Equal Greater b is = cc

pub plain_cmp-same : IsAntisymmetric plain_cmp
plain_cmp-same a b tie =
    let values = then-Equal _ _ tie in
    let starts = then-Equal _ _ values.1 in
    let froms = then-Equal _ _ starts.1 in
    let ends = then-Equal _ _ froms.1 in
    λ i. record {
      values = values_cmp-same a.values b.values values.0 i;
      start = int_cmp-IsAntisymmetric a.start b.start starts.0 i;
      end = int_cmp-IsAntisymmetric a.end b.end ends.0 i;
      from = int_cmp-IsAntisymmetric a.from b.from froms.0 i;
      to = int_cmp-IsAntisymmetric a.to b.to ends.1 i;
    }

-- the versions of a table spell the same in whatever order
pub versions-alike : (xs ys : List PlainVersion) → IsPermutation xs ys → versions_bytes xs ≡ versions_bytes ys
versions-alike xs ys same =
    ap (λ n. count_bytes n ++ flat_map version_bytes (sorted_by plain_cmp xs)) (sym (length_permutation xs ys same))
    ∙ ap (λ vs. count_bytes (length ys) ++ flat_map version_bytes vs) (same_in_order plain_cmp_total plain_cmp-same xs ys same)

-- lists that are made alike of each number
pub up_to-alike : {X : Type 0} (one other : ℕ → List X) → ((n : ℕ) → one n ≡ other n) → (count : ℕ) → up_to one count ≡ up_to other count
up_to-alike one other same zero = refl
up_to-alike one other same (suc n) = ap (λ xs. xs ++ one (suc n)) (up_to-alike one other same n) ∙ ap (λ xs. up_to other n ++ xs) (same (suc n))

-- histories that are alike have one sum
pub alike : AlikeHaveOneSum
alike one other are =
    let tables : tables_bytes one (length (catalog_of one)) ≡ tables_bytes other (length (catalog_of other)) =
    up_to-alike (λ table. versions_bytes (versions_of one table)) (λ table. versions_bytes (versions_of other table)) (λ table. versions-alike (versions_of one table) (versions_of other table) (are.versions table)) (length (catalog_of one))
    ∙ ap (λ (ts : List TableDef). tables_bytes other (length ts)) are.tables in
    ap sum_text
    (ap (λ clock. number_bytes clock ++ (definitions_bytes (catalog_of one) ++ tables_bytes one (length (catalog_of one)))) are.clock
    ∙ ap (λ (ts : List TableDef). number_bytes (clock_of other) ++ (definitions_bytes ts ++ tables_bytes one (length (catalog_of one)))) are.tables
    ∙ ap (λ bytes. number_bytes (clock_of other) ++ (definitions_bytes (catalog_of other) ++ bytes)) tables)

-- the versions of a table in order, one after the other
pub versions-in_order : (given sorted : List VersionRow) → IsPermutation given sorted → IsSorted version_cmp sorted → sorted_by plain_cmp (map plain_version given) ≡ map plain_version sorted
versions-in_order given sorted same up =
    same_in_order plain_cmp_total plain_cmp-same (map plain_version given) (map plain_version sorted) (IsPermutation-map plain_version given sorted same)
    ∙ in_order_already plain_cmp (map plain_version sorted) (plain_sorted sorted up)
  where
    plain_sorted : (rows : List VersionRow) → IsSorted version_cmp rows → IsSorted plain_cmp (map plain_version rows)
    plain_sorted [] up k d low high = absurd (omega (arith, high))
    plain_sorted (row ∷ []) up k d low high = absurd (omega (arith, high))
    plain_sorted (row ∷ next ∷ rows) up zero d low high = up zero row (omega arith) (omega arith)
    plain_sorted (row ∷ next ∷ rows) up (suc k) d low high =
        subst (λ n. is_lt (plain_cmp (get_or (map plain_version (row ∷ next ∷ rows)) n d) (get_or (map plain_version (next ∷ rows)) k d)) ≡ false) {x = suc (k + 1)} {y = suc k + 1} (omega arith)
        (plain_sorted (next ∷ rows) (in_order-tail version_cmp row (next ∷ rows) up) k d (omega arith) (omega arith))

-- the sorted versions spell the bytes that are added
pub versions-spelled : (given sorted : List VersionRow) → IsPermutation given sorted → IsSorted version_cmp sorted
    → count_bytes (length sorted) ++ flat_map version_bytes (map plain_version sorted) ≡ versions_bytes (map plain_version given)
versions-spelled given sorted same up =
    let count : length sorted ≡ length (map plain_version given) = length_permutation given sorted same ∙ sym (length-map given plain_version) in
    ap (λ n. count_bytes n ++ flat_map version_bytes (map plain_version sorted)) count
    ∙ ap (λ vs. count_bytes (length (map plain_version given)) ++ flat_map version_bytes vs) (sym (versions-in_order given sorted same up))

-- the bytes of one piece more are added to the sum's
pub piece-more : {X : Type 0} (spelled : X → List ℕ) (xs : List X) (i : ℕ) (x : X) (bytes head : List ℕ) → i < length xs → x ≡ get_or xs i x
    → (bytes ++ (head ++ flat_map spelled (take i xs))) ++ spelled x ≡ bytes ++ (head ++ flat_map spelled (take (i + 1) xs))
piece-more spelled xs i x bytes head within is =
    let front : take i xs ++ x ∷ [] ≡ take (i + 1) xs = ap (λ y. take i xs ++ y ∷ []) is ∙ sym (take_more xs i x within) in
    append_assoc bytes (head ++ flat_map spelled (take i xs)) (spelled x)
    ∙ ap (λ rest. bytes ++ rest) (flat_map_more spelled head (take i xs) x ∙ ap (λ ys. head ++ flat_map spelled ys) front)

-- the five parts of a version, added one after the other
pub version-joined : (bytes a b c d e : List ℕ) → ((((bytes ++ a) ++ b) ++ c) ++ d) ++ e ≡ bytes ++ (a ++ (b ++ (c ++ (d ++ e))))
version-joined bytes a b c d e =
    append_assoc (((bytes ++ a) ++ b) ++ c) d e ∙ append_assoc ((bytes ++ a) ++ b) c (d ++ e) ∙ append_assoc (bytes ++ a) b (c ++ (d ++ e)) ∙ append_assoc bytes a (b ++ (c ++ (d ++ e)))
