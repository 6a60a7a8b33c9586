-- Clashes and children without a parent among a table's rows, by the groups of its keys.
use Rattle.std.proofs.Common.{◌≡◌, ◌↔◌, ◌++◌, ◌∷◌, [], ◌∙◌, ◌<◌, ℕ, ℤ, List, length, map, get_or, refl, sym, ap, subst, inl, inr, arith}
use Rattle.std.specs.List.{AllByRecursion, Any, Contains}
use Rattle.std.specs.List.Sorted.{IsStrictlySortedBy}
use Rattle.std.specs.Map.{keys_of}
use Rattle.std.specs.Ordering.{is_eq}
use Rattle.std.specs.declared.cmp.Ordering.TheVariants.{Less}
use Rattle.std.proofs.lemmas.Bool.{false≢true}
use Rattle.std.proofs.lemmas.List.{get_or_default, map-append}
use Rattle.std.proofs.lemmas.List.Elements.{Contains-append_cases}
use Rattle.period_core.specs.Order.{values_cmp}
use Rattle.period_core.specs.OrderLaws.{values_eq}
use Rattle.period_core.specs.declared.period.Period.{Period}
use Rattle.period_core.specs.declared.row.PeriodRow.{PeriodRow}
use Rattle.period_core.specs.declared.value.Value.{Value}
use Rattle.period_core.specs.declared.version.VersionRow.{VersionRow}
use Rattle.history_model.specs.Versions.{row_of}
use Rattle.temporal_model.proofs.Members.{Contains-nil}
use Rattle.period_keys.specs.declared.key_rows.KeyRows.{KeyRows}
use Rattle.period_keys.specs.Gaps.{IsGap, LacksKeyOf}
use Rattle.period_keys.specs.Index.{AreAtKeys}
use Rattle.period_keys.specs.Keys.{IsKeyClash, ShareKeyOn, SomePair, key_values}
use Rattle.period_keys.specs.Rows.{HaveKey, rows_of_groups}
use Rattle.period_keys.specs.Versions.{period_of, version_key}
use Rattle.period_keys.proofs.Grouped.{Entries, rows_in}
use Rattle.period_keys.proofs.Locality.{at_has, from_key, in_key}
use Rattle.period_keys.proofs.Members.{Any-append, Any-nil, Any-one, from_map, in_map, member_of, some_member}
use Rattle.period_keys.proofs.Pairs.{SomeCross, SomePair-append, SomePair-left, SomePair-nil, SomePair-right}

-- ---- clashes

-- two rows of the group hold on the day
abbrev pub IsSharedDay : List Value × KeyRows → ℤ → Type 0
IsSharedDay group day = IsKeyClash [] (map row_of (rows_in group.1)) day

-- a relation of two entries that another one follows from, if both are in the list
other_pair : {X : Type 0} (R S : X → X → Type 0) (xs : List X) → ((x y : X) → Contains xs x → Contains xs y → R x y → S x y) → SomePair R xs → SomePair S xs
other_pair {X} R S xs follows (i, j, before, inside, both) =
    let first : i < length xs = omega (arith, before, inside) in
    let there : (k : ℕ) (d : X) → k < length xs → Contains xs (get_or xs k d) = λ k d below. (k, below, get_or_default xs k (get_or xs k d) d below) in
    (i, j, before, inside, λ d. follows (get_or xs i d) (get_or xs j d) (there i d first) (there j d inside) (both d))

-- the rows of a group have its key
key_is : (positions : List ℕ) (group : List Value × KeyRows) → HaveKey positions group → (row : PeriodRow) → Contains (map row_of (rows_in group.1)) row → group.0 ≡ key_values positions row
key_is positions group have row there =
    let (version, among, is) = from_map row_of (rows_in group.1) row there in
    have version among ∙ ap (key_values positions) is

-- two rows of a group clash if they hold on one day
clash_of_group : (positions : List ℕ) (group : List Value × KeyRows) → HaveKey positions group → (day : ℤ) → (IsSharedDay group day ↔ IsKeyClash positions (map row_of (rows_in group.1)) day)
clash_of_group positions group have day =
    let rows : List PeriodRow = map row_of (rows_in group.1) in
    let Any : PeriodRow → PeriodRow → Type 0 = ShareKeyOn [] day in
    let Own : PeriodRow → PeriodRow → Type 0 = ShareKeyOn positions day in (
      λ h. other_pair Any Own rows (λ x y at_x at_y both. (sym (key_is positions group have x at_x) ∙ key_is positions group have y at_y, both.1)) h,
      λ h. other_pair Own Any rows (λ x y at_x at_y both. (refl, both.1)) h,
    )

-- the rows of groups above a key have keys above it
rows_above : (positions : List ℕ) (key : List Value) (groups : Entries) → AllByRecursion (HaveKey positions) groups → AllByRecursion (λ other. values_cmp key other ≡ Less) (keys_of groups)
    → (version : VersionRow) → Contains (rows_of_groups groups) version → values_cmp key (version_key positions version) ≡ Less
rows_above positions key [] keyed above version there = absurd (Contains-nil version there)
rows_above positions key (group ∷ groups) keyed above version there =
    elim (Contains-append_cases (rows_in group.1) (rows_of_groups groups) version there) [
      | inl here ↦ subst (λ (other : List Value). values_cmp key other ≡ Less) (keyed.0 version here) above.0
      | inr later ↦ rows_above positions key groups keyed.1 above.1 version later
    ]

not_below_itself : (key other : List Value) → values_cmp key other ≡ Less → key ≡ other → ⊥
not_below_itself key other below same = false≢true (sym (ap is_eq below) ∙ (values_eq key other).1 same)

-- no row of a group clashes with one of a later group
no_cross : (positions : List ℕ) (group : List Value × KeyRows) (groups : Entries) → HaveKey positions group → AllByRecursion (HaveKey positions) groups
    → AllByRecursion (λ other. values_cmp group.0 other ≡ Less) (keys_of groups) → (day : ℤ) → SomeCross (ShareKeyOn positions day) (map row_of (rows_in group.1)) (map row_of (rows_of_groups groups)) → ⊥
no_cross positions group groups have keyed above day (x, y, at_x, at_y, both) =
    let (version, among, is) = from_map row_of (rows_of_groups groups) y at_y in
    not_below_itself group.0 (version_key positions version) (rows_above positions group.0 groups keyed above version among)
    (key_is positions group have x at_x ∙ both.0 ∙ sym (ap (key_values positions) is))

-- the rows of groups clash if two of one group hold on one day
pub clash_of_groups : (positions : List ℕ) (groups : Entries) → IsStrictlySortedBy values_cmp (keys_of groups) → AllByRecursion (HaveKey positions) groups
    → (day : ℤ) → (Any (λ group. IsSharedDay group day) groups ↔ IsKeyClash positions (map row_of (rows_of_groups groups)) day)
unfolding IsStrictlySortedBy
clash_of_groups positions [] sorted keyed day = (
  λ h. absurd (Any-nil (λ (group : List Value × KeyRows). IsSharedDay group day) h),
  λ h. absurd (SomePair-nil (ShareKeyOn positions day) h),
)
clash_of_groups positions (group ∷ groups) sorted keyed day =
    let Shares : List Value × KeyRows → Type 0 = λ g. IsSharedDay g day in
    let Clash : PeriodRow → PeriodRow → Type 0 = ShareKeyOn positions day in
    let own : List PeriodRow = map row_of (rows_in group.1) in
    let others : List PeriodRow = map row_of (rows_of_groups groups) in
    let split : map row_of (rows_in group.1 ++ rows_of_groups groups) ≡ own ++ others = map-append row_of (rows_in group.1) (rows_of_groups groups) in
    let here = clash_of_group positions group keyed.0 day in
    let later = clash_of_groups positions groups sorted.1 keyed.1 day in
    let either = Any-append Shares (group ∷ []) groups in
    let one = Any-one Shares group in (
      λ h. subst (SomePair Clash) (sym split) (elim (either.0 h) [
        | inl first ↦ SomePair-left Clash own others (here.0 (one.0 first))
        | inr rest ↦ SomePair-right Clash own others (later.0 rest)
      ]),
      λ h. elim (SomePair-append Clash own others (subst (SomePair Clash) split h)) [
        | inl first ↦ either.1 (inl (one.1 (here.1 first)))
        | inr (inl cross) ↦ absurd (no_cross positions group groups keyed.0 keyed.1 sorted.0 day cross)
        | inr (inr rest) ↦ either.1 (inr (later.1 rest))
      ],
    )

-- ---- children without a parent

-- some row of the group holds on the day, and none of the parents' periods at its key does
abbrev pub LosesParents : (List Value → List Period) → List Value × KeyRows → ℤ → Type 0
LosesParents parents group day = Any (λ child. IsGap (parents group.0) child day) (map period_of (rows_in group.1))

lack_of_group : (positions : List ℕ) (parents : List Value → List Period) (group : List Value × KeyRows) → HaveKey positions group → (day : ℤ)
    → (LosesParents parents group day ↔ LacksKeyOf positions (map row_of (rows_in group.1)) parents day)
lack_of_group positions parents group have day =
    let versions : List VersionRow = rows_in group.1 in
    let Gap : List Value → Period → Type 0 = λ key child. IsGap (parents key) child day in
    let Lacks : PeriodRow → Type 0 = λ (row : PeriodRow). Gap (key_values positions row) row.period in (
      λ h.
          let (period, at, gap) = member_of (Gap group.0) (map period_of versions) h in
          let (version, there, is) = from_map period_of versions period at in
          some_member Lacks (map row_of versions) (row_of version) (in_map row_of versions version there)
          (subst (λ (key : List Value). Gap key version.period) (have version there) (subst (Gap group.0) (sym is) gap)),
      λ h.
          let (row, at, gap) = member_of Lacks (map row_of versions) h in
          let (version, there, is) = from_map row_of versions row at in
          some_member (Gap group.0) (map period_of versions) version.period (in_map period_of versions version there)
          (subst (λ (key : List Value). Gap key version.period) (sym (have version there)) (subst Lacks (sym is) gap)),
    )

-- the children that lack a parent are those of one of the groups
pub lack_of_groups : (positions : List ℕ) (parents : List Value → List Period) (groups : Entries) → AllByRecursion (HaveKey positions) groups
    → (day : ℤ) → (Any (λ group. LosesParents parents group day) groups ↔ LacksKeyOf positions (map row_of (rows_of_groups groups)) parents day)
lack_of_groups positions parents [] keyed day = (
  λ h. absurd (Any-nil (λ (group : List Value × KeyRows). LosesParents parents group day) h),
  λ h. absurd (Any-nil (λ (row : PeriodRow). IsGap (parents (key_values positions row)) row.period day) h),
)
lack_of_groups positions parents (group ∷ groups) keyed day =
    let Loses : List Value × KeyRows → Type 0 = λ g. LosesParents parents g day in
    let Lacks : PeriodRow → Type 0 = λ (row : PeriodRow). IsGap (parents (key_values positions row)) row.period day in
    let own : List PeriodRow = map row_of (rows_in group.1) in
    let others : List PeriodRow = map row_of (rows_of_groups groups) in
    let split : map row_of (rows_in group.1 ++ rows_of_groups groups) ≡ own ++ others = map-append row_of (rows_in group.1) (rows_of_groups groups) in
    let here = lack_of_group positions parents group keyed.0 day in
    let later = lack_of_groups positions parents groups keyed.1 day in
    let either = Any-append Loses (group ∷ []) groups in
    let one = Any-one Loses group in
    let rows = Any-append Lacks own others in (
      λ h. subst (Any Lacks) (sym split) (elim (either.0 h) [
        | inl first ↦ rows.1 (inl (here.0 (one.0 first)))
        | inr rest ↦ rows.1 (inr (later.0 rest))
      ]),
      λ h. elim (rows.0 (subst (Any Lacks) split h)) [
        | inl first ↦ either.1 (inl (one.1 (here.1 first)))
        | inr rest ↦ either.1 (inr (later.1 rest))
      ],
    )

lack_of_other : (own positions : List ℕ) (rows others : List PeriodRow) (at parents : List Value → List Period) → AreAtKeys own rows at → AreAtKeys positions others at
    → (day : ℤ) → LacksKeyOf own rows parents day → LacksKeyOf positions others parents day
lack_of_other own positions rows others at parents is other_is day h =
    let Gap : List Value → Period → Type 0 = λ key child. IsGap (parents key) child day in
    let (row, there, gap) = member_of (λ (r : PeriodRow). Gap (key_values own r) r.period) rows h in
    let key : List Value = key_values own row in
    let at_key : Contains (at key) row.period = (at_has own rows at is key row.period).1 (in_key own rows key row there refl) in
    let (other, among, same, period_is) = from_key positions others key row.period ((at_has positions others at other_is key row.period).0 at_key) in
    some_member (λ (r : PeriodRow). Gap (key_values positions r) r.period) others other among
    (subst (λ (k : List Value). Gap k other.period) same (subst (Gap key) (sym period_is) gap))

-- rows with the same periods at each key lack parents on the same days
pub lack_of_same : (own positions : List ℕ) (rows others : List PeriodRow) (at parents : List Value → List Period) → AreAtKeys own rows at → AreAtKeys positions others at
    → (day : ℤ) → (LacksKeyOf own rows parents day ↔ LacksKeyOf positions others parents day)
lack_of_same own positions rows others at parents is other_is day = (
  lack_of_other own positions rows others at parents is other_is day,
  lack_of_other positions own others rows at parents other_is is day,
)
