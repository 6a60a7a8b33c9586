-- UPDATE of the moments of all versions: it counts them in microseconds.
use Rattle.std.proofs.Common.{◌≡◌, ◌<◌, ◌^◌, ◌++◌, ◌∙◌, ◌&&◌, ◌==◌, inl, inr, ℕ, ℤ, pos, negsuc, ◌*ℤ◌, List, [], ◌∷◌, map, filter, append-nil, Bool, true, false, not, Ordering, Less, Equal, Greater, Some, Ok, Err, Result, OnOk, refl, sym, ap, ap₂, subst, arith, IsTrue}
use Rattle.std.specs.Prelude.{if◌then◌else◌, unsigned_abs}
use Rattle.std.specs.Cmp.Lexicographic.{slice_cmp}
use Rattle.std.specs.Ordering.{int_cmp, int_eq, is_eq, nat_cmp}
use Rattle.std.proofs.lemmas.Bool.Decides.{nat_tests}
use Rattle.std.proofs.lemmas.Cmp.{int_cmp_total, tied_itself}
use Rattle.std.proofs.lemmas.Int.{ints}
use Rattle.std.proofs.lemmas.Map.Lookups.{exact_signed}
use Rattle.sqlite_sql.specs.declared.ops.BinaryOp.TheVariants.{Arith, Compare}
use Rattle.sqlite_sql.specs.declared.ops.ArithOp.TheVariants.{Mul}
use Rattle.sqlite_sql.specs.declared.ops.CompareOp.TheVariants.{Eq}
use Rattle.sqlite_value.proofs.OrderLemmas.{value_cmp-Int}
use Rattle.sqlite_value.specs.Order.{column, value_cmp}
use Rattle.sqlite.specs.Collation.TheVariants.{Binary}
use Rattle.sqlite.specs.declared.types.Value.{Value}
use Rattle.sqlite.specs.declared.types.Value.TheVariants.{Int}
use Rattle.sqlite.specs.Order.{Row}
use Rattle.sqlite.specs.Ops.{binary, fits_i64, is_true, from_truth}
use Rattle.sqlite.specs.Kind.TheVariants.{Integer}
use Rattle.sqlite.specs.Cast.{cast}
use Rattle.sqlite.specs.declared.error.Error.{Error}
use Rattle.sqlite.specs.State.{State, Executes, ExecutesInside}
use Rattle.sqlite.specs.Listing.{understood}
use Rattle.sqlite_tied.specs.Compute.{everything}
use Rattle.sqlite_trees.proofs.ListLemmas.{all_both, ascending-map, ascending_weaker}
use Rattle.period_core.specs.Moments.{forever}
use Rattle.period_core.specs.Seconds.{IsSecondNumber, last_second, moved_end, second_start}
use Rattle.version_tables.specs.Texts.{microseconds_text}
use Rattle.version_tables.specs.Moves.{HasSeconds, HaveSeconds, moved_version, with_moved_versions}
use Rattle.version_tables.specs.Healthy.{AreShort, HaveOwnKeys, IsHealthy, IsShort}
use Rattle.version_tables.specs.Represents.{Version, Records, Represents, same_key, stored}
use Rattle.version_tables.specs.Steps.{HasReason}
use Rattle.version_tables.specs.Tables.{Others, schema_with}
use Rattle.version_tables.proofs.Clashes.{own_of}
use Rattle.version_tables.proofs.Reasons.{IsOne, NeverOverflows, none_of}
use Rattle.version_tables.proofs.Texts.{microseconds_columns, microseconds_is, updating}
use Rattle.version_tables.proofs.Rows.{cast_int}
use Rattle.version_tables.proofs.Updates.{tested_all, changes, updating_fails, updating_healthy}

-- ---- one moment

fits_if_small : (n : ℤ) → unsigned_abs n < 2 ^ 63 → fits_i64 n ≡ true
fits_if_small (pos n) h = grind (arith, nat_tests)
fits_if_small (negsuc n) h = grind (arith, nat_tests)

abbrev times : Value → Value
times x = binary (Arith Mul) x (Int (pos 1_000_000))

product : (n : ℤ) → fits_i64 (n *ℤ pos 1_000_000) ≡ true → times (Int n) ≡ Int (n *ℤ pos 1_000_000)
unfolding binary
product n h = rw h refl

-- a second begins at a moment that 64 bits hold
scaled : (s : ℤ) → IsSecondNumber s → times (Int s) ≡ Int (second_start s)
scaled s is =
    let turned : s *ℤ pos 1_000_000 ≡ second_start s = omega (arith, ints) in
    product s (fits_if_small (s *ℤ pos 1_000_000) (omega (arith, ints, is.0, is.1))) ∙ ap Int turned

-- the open end stays open
abbrev ended : Value → Value
ended x = if is_true (binary (Compare Eq Binary) x (Int last_second)) then Int forever else times x

test_is : (s : ℤ) → is_true (binary (Compare Eq Binary) (Int s) (Int last_second)) ≡ int_eq s last_second
unfolding binary
test_is s = go (is_eq (value_cmp (Int s) (Int last_second))) ∙ ap is_eq (value_cmp-Int s last_second)
  where
    go : (b : Bool) → is_true (from_truth (Some b)) ≡ b
    go true = refl
    go false = refl

ended_is : (s : ℤ) → IsSecondNumber s → ended (Int s) ≡ Int (moved_end s)
ended_is s is = ap (λ b. if b then Int forever else times (Int s)) (test_is s) ∙ go (int_eq s last_second)
  where
    go : (b : Bool) → (if b then Int forever else times (Int s)) ≡ Int (if b then forever else second_start s)
    go true = refl
    go false = scaled s is

-- ---- one version

-- the columns of the new row, from the old row's
abbrev with_moments : Row → Row
with_moments b = cast Integer (column b 0) ∷ column b 1 ∷ cast Integer (column b 2) ∷ cast Integer (column b 3) ∷ cast Integer (times (column b 4)) ∷ cast Integer (ended (column b 5)) ∷ []

with_moments-stored : (v : Version) → HasSeconds v → with_moments (stored v) ≡ stored (moved_version v)
with_moments-stored v is =
    rw (scaled v.from is.0, ended_is v.to is.1, cast_int (pos v.table), cast_int v.start, cast_int v.end, cast_int (second_start v.from), cast_int (moved_end v.to)) refl

-- ---- all versions

every : (vs : List Version) → filter (λ _. true) vs ≡ vs
every [] = refl
every (v ∷ vs) = ap (λ l. v ∷ l) (every vs)

none : (vs : List Version) → filter (λ _. not true) vs ≡ []
none [] = refl
none (v ∷ vs) = none vs

all_moved : (vs : List Version) → map moved_version (filter (λ _. true) vs) ++ filter (λ _. not true) vs ≡ map moved_version vs
all_moved vs = ap₂ (λ (a b : List Version). map moved_version a ++ b) (every vs) (none vs) ∙ append-nil (map moved_version vs)

pub moves_versions_inside : (old new : State) (r : Result ℕ Error) → ExecutesInside 0 microseconds_text (Int last_second ∷ Int forever ∷ []) old new r
    → OnOk r (IsTrue new.in_transaction × ((m : Records) → HaveSeconds m → Represents old.now m → Represents new.now (with_moved_versions m)))
moves_versions_inside old new (Err e) h = tt
moves_versions_inside old new (Ok count) h = (
  h.1.mode,
  λ m seconds was.
      let made = changes microseconds_text [] microseconds_columns (Int last_second ∷ Int forever ∷ []) (λ _. true) (λ _. true) HasSeconds moved_version with_moments microseconds_is (λ v. refl) (λ r. refl) with_moments-stored old new count m (tested_all [] (Int last_second ∷ Int forever ∷ []) (λ _. true) (λ r. refl) _) seconds was h.0 in
      subst (λ (vs : List Version). Represents new.now (record m { versions = vs })) (all_moved m.versions) made.0,
)

-- ---- why it fails, and that the database stays healthy

microseconds_one : (others : Others) → IsOne microseconds_text 2 (understood (schema_with others) microseconds_text)
unfolding understood everything
microseconds_one others = (refl, refl)

never_moves : (params : Row) → NeverOverflows params (updating [] microseconds_columns)
never_moves params db (inl group) = group
never_moves params db (inr some) = none_of _ some

-- two seconds begin at one moment exactly if they are one
same_second : (a b : ℤ) → is_eq (int_cmp (second_start a) (second_start b)) ≡ is_eq (int_cmp a b)
same_second a b = go (int_cmp (second_start a) (second_start b)) (int_cmp a b) back forth
  where
    back : int_cmp (second_start a) (second_start b) ≡ Equal → int_cmp a b ≡ Equal
    back e =
        let starts = exact_signed (second_start a) (second_start b) e in
        let one : a ≡ b = omega (arith, ints, starts) in
        subst (λ n. int_cmp a n ≡ Equal) one (tied_itself int_cmp_total a)

    forth : int_cmp a b ≡ Equal → int_cmp (second_start a) (second_start b) ≡ Equal
    forth e = subst (λ n. int_cmp (second_start a) (second_start n) ≡ Equal) (exact_signed a b e) (tied_itself int_cmp_total (second_start a))

    go : (p q : Ordering) → (p ≡ Equal → q ≡ Equal) → (q ≡ Equal → p ≡ Equal) → is_eq p ≡ is_eq q
    go Equal q to from = ap is_eq (sym (to refl))
    go Less Equal to from = ap is_eq (from refl)
    go Less Less to from = refl
    go Less Greater to from = refl
    go Greater Equal to from = ap is_eq (from refl)
    go Greater Less to from = refl
    go Greater Greater to from = refl

moved_same : (a b : Version) → same_key (moved_version a) (moved_version b) ≡ same_key a b
moved_same a b = ap (λ t. (b.table == a.table) && (is_eq (slice_cmp nat_cmp b.values a.values) && (is_eq (int_cmp b.start a.start) && t))) (same_second b.from a.from)

own_moved : (vs : List Version) → HaveOwnKeys vs → HaveOwnKeys (map moved_version vs)
own_moved vs own =
    ascending-map (λ (a b : Version). same_key a b ≡ false) moved_version vs
    (ascending_weaker (λ (a b : Version). same_key a b ≡ false) (λ (a b : Version). same_key (moved_version a) (moved_version b) ≡ false) (λ a b other. moved_same a b ∙ other) vs own)

module _ (old : State) (m : Records) (was : Represents old.now m) (count : ℕ) (healthy : IsHealthy count old.now) where
  abbrev ends_given : Row
  ends_given = Int last_second ∷ Int forever ∷ []

  pub versions_fail : HaveSeconds m → AreShort m.versions → (new : State) (e : Error) → ExecutesInside 0 microseconds_text ends_given old new (Err e) → HasReason old new e
  versions_fail seconds short =
      updating_fails microseconds_text [] microseconds_columns ends_given (λ _. true) with_moments microseconds_one microseconds_is (λ r. refl) old (tested_all [] ends_given (λ _. true) (λ r. refl) _) m was count healthy
      (λ _. true) (λ v. HasSeconds v × IsShort v.values) moved_version (λ v. refl) (λ r. refl) (λ v is. with_moments-stored v is.0) (λ others. refl) (never_moves ends_given)
      (all_both HasSeconds (λ v. IsShort v.values) (λ v. HasSeconds v × IsShort v.values) (λ v is few. (is, few)) m.versions seconds short) (λ r v is taken shows. is.1) (subst HaveOwnKeys (sym (all_moved m.versions)) (own_moved m.versions (own_of old.now m was healthy.sound)))

  pub versions_healthy : (new : State) (n : ℕ) → Executes microseconds_text ends_given old new (Ok n) → IsHealthy count new.now
  versions_healthy = updating_healthy microseconds_text [] microseconds_columns ends_given (λ _. true) with_moments microseconds_one microseconds_is (λ r. refl) old (tested_all [] ends_given (λ _. true) (λ r. refl) _) m was count healthy
