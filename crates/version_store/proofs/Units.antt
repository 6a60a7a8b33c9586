-- Contents with their moments in microseconds: facts of them in their own unit are facts in microseconds.
use Rattle.std.proofs.Common.{◌≡◌, ◌⊎◌, inl, inr, ◌∙◌, ◌≤ℤ◌, ◌<ℤ◌, ℤ, ℕ, List, [], ◌∷◌, map, Bool, true, false, refl, sym, ap, length, subst, subst₂, arith, Some, get_or, ◌+◌, ◌<◌}
use Rattle.std.specs.Prelude.{IsSorted, if◌then◌else◌}
use Rattle.std.specs.List.{AllByRecursion}
use Rattle.std.specs.Ordering.{int_cmp, int_eq, is_lt, ordering_then}
use Rattle.std.proofs.Math.ListN.{get_or-map}
use Rattle.std.proofs.lemmas.Bool.Decides.{nat_tests}
use Rattle.std.proofs.lemmas.Int.{ints}
use Rattle.std.proofs.lemmas.List.{get_or_default, length-map}
use Rattle.sqlite_trees.proofs.ListLemmas.{all-map, all_weaker}
use Rattle.period_core.specs.Moments.{IsMomentNumber, forever}
use Rattle.period_core.specs.Order.{values_cmp}
use Rattle.period_core.specs.Seconds.{last_second, moved_end, second_start}
use Rattle.period_core.specs.Windows.{window_sees}
use Rattle.period_core.specs.declared.window.Window.TheVariants.{Now}
use Rattle.catalog_core.specs.declared.table.TableDef.{TableDef}
use Rattle.catalog_core.specs.table.TableWords.{table_of}
use Rattle.version_tables.specs.Forms.{IsNumberIn, end_in, moment_in, open_end}
use Rattle.version_tables.specs.Good.{AreMoments, IsClock}
use Rattle.version_tables.specs.Healthy.{AreShort}
use Rattle.version_tables.specs.Moves.{AreInSeconds, HasSeconds, moved, moved_version}
use Rattle.version_tables.specs.Represents.{Version}
use Rattle.version_tables.specs.declared.form.Form.{Form}
use Rattle.version_tables.specs.declared.form.Form.TheVariants.{Seconds, Microseconds}
use Rattle.version_tables.specs.declared.selection.Selection.TheVariants.{EndingAt}
use Rattle.version_store.specs.Contents.{AreDated, Contents, HaveColumnValues, TableVersion, version_cmp}
use Rattle.version_store.specs.GoodStore.{AreGood, HaveTables, IsGoodStore, IsGoodVersion, IsGoodVersionIn, NoExtraCondition}
use Rattle.version_store.specs.Scans.{Selects}
use Rattle.version_store.specs.Units.{in_microseconds, version_of}
use Rattle.version_store.specs.Written.{HaveShortValues, written, written_in, written_version}

-- ---- microseconds are microseconds

all_same : (vs : List TableVersion) → map (version_of Microseconds) vs ≡ vs
all_same [] = refl
all_same (v ∷ vs) = ap (λ l. v ∷ l) (all_same vs)

-- contents in microseconds are the same in microseconds
pub same_units : (c : Contents) → in_microseconds Microseconds c ≡ c
same_units c = ap (λ (vs : List TableVersion). record c { versions = vs }) (all_same c.versions)

-- ---- one moment

-- the end of a second before the last is the beginning of the second
not_last : (s : ℤ) → s <ℤ last_second → moved_end s ≡ second_start s
not_last s less = go (int_eq s last_second) refl
  where
    go : (b : Bool) → int_eq s last_second ≡ b → (if b then forever else second_start s) ≡ second_start s
    go true e = absurd (grind (arith, nat_tests, ints, e, less))
    go false e = refl

-- a statement that is true of the open end and of every other end is true of each
end_cases : (P : ℤ → Type 0) (s : ℤ) → P forever → P (second_start s) → P (moved_end s)
end_cases P s at_forever other = go (int_eq s last_second)
  where
    go : (b : Bool) → P (if b then forever else second_start s)
    go true = at_forever
    go false = other

pub moment_is : (form : Form) (n : ℤ) → IsNumberIn form n → IsMomentNumber (moment_in form n)
moment_is Seconds n is = (omega (arith, ints, is.0), omega (arith, ints, is.1))
moment_is Microseconds n is = is

pub end_is : (form : Form) (n : ℤ) → IsNumberIn form n → IsMomentNumber (end_in form n)
end_is Seconds n is = end_cases IsMomentNumber n (omega (arith, ints), omega (arith, ints)) (moment_is Seconds n is)
end_is Microseconds n is = is

-- a moment in a form's unit is a moment's number there
pub number_of_moment : (form : Form) (n : ℤ) → IsMomentNumber (moment_in form n) → IsNumberIn form n
number_of_moment Seconds n is = (omega (arith, ints, is.0), omega (arith, ints, is.1))
number_of_moment Microseconds n is = is

pub number_of_end : (form : Form) (n : ℤ) → IsMomentNumber (end_in form n) → IsNumberIn form n
number_of_end Microseconds n is = is
number_of_end Seconds n is = go (int_eq n last_second) refl is
  where
    go : (b : Bool) → int_eq n last_second ≡ b → IsMomentNumber (if b then forever else second_start n) → IsNumberIn Seconds n
    go true e is = (grind (arith, nat_tests, ints, e), grind (arith, nat_tests, ints, e))
    go false e is = number_of_moment Seconds n is

pub clock_is : (form : Form) (n : ℤ) → IsClock form n → IsClock Microseconds (moment_in form n)
clock_is Seconds n is = (omega (arith, ints, is.0), omega (arith, ints, is.1))
clock_is Microseconds n is = is

-- ---- two moments

pub moments_are : (form : Form) (clock from to : ℤ) → IsClock form clock → AreMoments form clock from to → AreMoments Microseconds (moment_in form clock) (moment_in form from) (end_in form to)
moments_are Microseconds clock from to is are = are
moments_are Seconds clock from to is are = record {
  from_is = moment_is Seconds from are.from_is;
  to_is = end_is Seconds to are.to_is;
  rise = end_cases (λ (end : ℤ). second_start from <ℤ end) to (let rise = are.rise in let last = are.to_is.1 in omega (arith, ints, rise, last)) (let rise = are.rise in omega (arith, ints, rise));
  past = ((let past = are.past.0 in omega (arith, ints, past)), ended are.past.1);
}
  where
    ended : (to ≤ℤ clock) ⊎ (to ≡ last_second) → (moved_end to ≤ℤ second_start clock) ⊎ (moved_end to ≡ forever)
    ended (inl closed) =
        let before : to <ℤ last_second = (let low = is.1 in omega (arith, ints, closed, low)) in
        inl (subst (λ (end : ℤ). end ≤ℤ second_start clock) (sym (not_last to before)) (omega (arith, ints, closed)))
    ended (inr last) = inr (subst (λ (n : ℤ). moved_end n ≡ forever) (sym last) refl)

-- the current versions are the current versions
is_open : (n : ℤ) → int_eq (moved_end n) forever ≡ int_eq n last_second
is_open n = go (int_eq n last_second)
  where
    go : (b : Bool) → int_eq (if b then forever else second_start n) forever ≡ b
    go true = refl
    go false = grind (arith, nat_tests, ints)

pub current_are : (form : Form) → Selects form (EndingAt (open_end form)) (window_sees Now)
current_are Seconds from to = is_open to
current_are Microseconds from to = refl

-- ---- versions

pub good_version : (form : Form) (tables : List TableDef) (clock : ℤ) (v : TableVersion) → IsClock form clock → IsGoodVersionIn form tables clock v → IsGoodVersion tables (moment_in form clock) (version_of form v)
good_version form tables clock v is good = record {
  definition = good.definition;
  table = good.table;
  values = good.values;
  held = good.held;
  days = good.days;
  moments = moments_are form clock v.from v.to is good.moments;
}

pub all_good : (form : Form) (c : Contents) → IsClock form c.clock → AllByRecursion (IsGoodVersionIn form c.tables c.clock) c.versions → AllByRecursion (IsGoodVersion c.tables (moment_in form c.clock)) (in_microseconds form c).versions
all_good form c is good =
    all-map (IsGoodVersion c.tables (moment_in form c.clock)) (version_of form) c.versions
    (all_weaker (IsGoodVersionIn form c.tables c.clock) (λ (v : TableVersion). IsGoodVersion c.tables (moment_in form c.clock) (version_of form v)) (λ v one. good_version form c.tables c.clock v is one) c.versions good)

-- the order of versions is the order of their seconds
same_order : (a b : ℤ) → int_cmp (second_start a) (second_start b) ≡ int_cmp a b
same_order a b = grind (arith, nat_tests, ints)

cmp_in : (form : Form) (a b : TableVersion) → version_cmp (version_of form a) (version_of form b) ≡ version_cmp a b
cmp_in Seconds a b = ap (λ o. ordering_then (values_cmp a.values b.values) (ordering_then (int_cmp a.start b.start) o)) (same_order a.from b.from)
cmp_in Microseconds a b = refl

pub sorted_in : (form : Form) (vs : List TableVersion) → IsSorted version_cmp vs → IsSorted version_cmp (map (version_of form) vs)
sorted_in form vs up k d low high =
    let f = version_of form in
    let long = length-map vs f in
    let at = λ (n : ℕ) (inside : n < length (map f vs)). get_or_default (map f vs) n d (f d) inside ∙ get_or-map f vs n d in
    let ordered = up k d low (omega (arith, long, high)) in
    subst₂ (λ (a b : TableVersion). is_lt (version_cmp a b) ≡ false) (sym (at (k + 1) high)) (sym (at k (omega (arith, high))))
    (ap is_lt (cmp_in form (get_or vs (k + 1) d) (get_or vs k d)) ∙ ordered)

-- ---- the contents

-- the contents have the tables, and values of columns
pub tables_in : (form : Form) (c : Contents) → HaveTables c → HaveTables (in_microseconds form c)
tables_in form c tabled =
    all-map (λ (v : TableVersion). (d : TableDef) × (table_of c.tables v.table ≡ Some d)) (version_of form) c.versions tabled

-- a good store's contents are good
pub good_contents : {db : _} (good : IsGoodStore NoExtraCondition db) → AreGood NoExtraCondition (in_microseconds good.form good.contents)
good_contents good = record {
  clock = clock_is good.form good.contents.clock good.clock;
  few = good.few;
  lawful = good.lawful;
  versions = all_good good.form good.contents good.clock good.versions;
  constrained = tt;
}

-- ---- the move

fused : (vs : List TableVersion) → map written_version (map (version_of Seconds) vs) ≡ map moved_version (map written_version vs)
fused [] = refl
fused (v ∷ vs) = ap (λ l. moved_version (written_version v) ∷ l) (fused vs)

pub moved_is : (c : Contents) → moved (written_in Seconds c) ≡ written (in_microseconds Seconds c)
moved_is c = ap (λ (vs : List Version). record (written (in_microseconds Seconds c)) { versions = vs }) (sym (fused c.versions))

-- versions whose moments are moments had seconds
have_seconds : (vs : List TableVersion) → AreDated (map (version_of Seconds) vs) → AllByRecursion HasSeconds (map written_version vs)
have_seconds [] dated = tt
have_seconds (v ∷ vs) dated = ((number_of_moment Seconds v.from dated.0.from, number_of_end Seconds v.to dated.0.to), have_seconds vs dated.1)

pub are_in_seconds : (c : Contents) (clock : ℤ) → clock ≡ (in_microseconds Seconds c).clock → AreDated (in_microseconds Seconds c).versions → AreInSeconds clock (written_in Seconds c)
are_in_seconds c clock same dated = (sym same, have_seconds c.versions dated)

-- versions that are short in a form's unit are short
pub were_short : (form : Form) (vs : List TableVersion) → HaveShortValues (map (version_of form) vs) → AreShort (map written_version vs)
were_short form [] short = tt
were_short form (v ∷ vs) short = (short.0, were_short form vs short.1)

pub short_in : (form : Form) (vs : List TableVersion) → HaveShortValues vs → HaveShortValues (map (version_of form) vs)
short_in form [] short = tt
short_in form (v ∷ vs) short = (short.0, short_in form vs short.1)

-- values are the same in a form's unit
pub values_in : (form : Form) (vs : List TableVersion) → HaveColumnValues vs → HaveColumnValues (map (version_of form) vs)
values_in form [] held = tt
values_in form (v ∷ vs) held = (held.0, values_in form vs held.1)
