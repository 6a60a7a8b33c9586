-- Entries in the order of their keys: what is read as a key, how they are made, and where they are found.
use Rattle.std.proofs.Common.{◌≡◌, ◌<◌, ◌≤◌, ◌+◌, ◌-◌, ◌≤ℤ◌, ◌<ℤ◌, ℕ, zero, suc, ℤ, Bool, true, false, int_lt, Ordering, List, [], ◌∷◌, ◌++◌, Option, Some, None, length, get_or, map, min, take, drop, refl, sym, ◌∙◌, ap, ap₂, subst, inl, inr, arith}
use Rattle.std.specs.Prelude.{slice_get}
use Rattle.std.specs.List.{All, Contains}
use Rattle.std.specs.List.Sorted.{IsSorted, IsPermutation, IsPartitionedBy, IsPartitionPoint}
use Rattle.std.specs.Ordering.{is_lt, int_cmp, ordering_then, ordering_reverse}
use Rattle.std.specs.declared.cmp.Ordering.TheVariants.{Less, Equal, Greater}
use Rattle.std.proofs.lemmas.Bool.{cases_lt}
use Rattle.std.proofs.lemmas.Int.{ints, by_lt_z}
use Rattle.std.proofs.lemmas.List.{get_or_default, get_or-drop, get_or-take, length-drop, length-take, map_more, map-append}
use Rattle.std.proofs.lemmas.List.Elements.{All-nil, All-push, Contains-append_left, Contains-push, Contains-push_cases}
use Rattle.std.proofs.lemmas.List.Sorted.{sorted_far, ranks_by, Contains-permutation, IsPermutation-sym}
use Rattle.period_core.specs.Order.{values_cmp}
use Rattle.period_core.specs.OrderLaws.{values_cmp_total, values_cmp-same}
use Rattle.period_core.specs.declared.value.Value.{Value}
use Rattle.period_core.specs.declared.row.PeriodRow.{PeriodRow}
use Rattle.temporal_model.proofs.AnswerOrder.{int_cmp-Less}
use Rattle.temporal_model.proofs.Members.{Contains-nil}
use Rattle.snapshot_audit.specs.declared.keys.KeyedEntry.{KeyedEntry}
use Rattle.snapshot_audit.specs.contracts.keys.KeyedEntryOrd.TheImpl as impl
use Rattle.snapshot_audit.specs.contracts.keys.KeyedEntryOrd.TheImpl.Laws.{total-law}
use Rattle.snapshot_audit.specs.Keys.{AreByKey, AreInOrder, BeginsWithin, HasPeriod, IsInOrder, Reads}
use Rattle.snapshot_audit.specs.Staggered.{comes_before}
use Rattle.snapshot_audit.proofs.SelectSteps.{same_values}
use Rattle.snapshot_audit.proofs.Staggering.{before_cases, before_less, before_same}

-- ---- keys

abbrev some : Value → Option Value
some v = Some v

-- the key of a row is unique
pub same_key : (columns : List ℕ) (values key other : List Value) → Reads columns values key → Reads columns values other → key ≡ other
same_key columns values key other p q = same_values key other (sym p ∙ q)

-- the key so far, with one position more
pub reads_more :
    (columns : List ℕ) (values key : List Value) (i column : ℕ) (value : Value) → i < length columns → column ≡ get_or columns i 0
    → slice_get values column ≡ Some value → Reads (take i columns) values key → Reads (take (i + 1) columns) values (key ++ value ∷ [])
reads_more columns values key i column value h is there old =
    map_more (slice_get values) columns i 0 h
    ∙ ap₂ (λ (a : List (Option Value)) (b : Option Value). a ++ b ∷ []) old (ap (slice_get values) (sym is) ∙ there)
    ∙ sym (map-append some key (value ∷ []))

-- a position without a value has no key
pub no_value :
    (columns : List ℕ) (values key : List Value) (i column : ℕ) → i < length columns → slice_get values (get_or columns i column) ≡ None
    → Reads columns values key → ⊥
no_value [] values key i column h none all = omega arith
no_value (first ∷ columns) values [] i column h none all = cc
no_value (first ∷ columns) values (v ∷ key) zero column h none all =
    let here : slice_get values first ≡ Some v = cc in
    cc
no_value (first ∷ columns) values (v ∷ key) (suc i) column h none all =
    let tail : map (slice_get values) columns ≡ map some key = cc in
    no_value columns values key i column (omega arith) none tail

-- a column more at the end
pub reads_push :
    (columns : List ℕ) (column : ℕ) (values key : List Value) (value : Value) → Reads columns values key
    → slice_get values column ≡ Some value → Reads (columns ++ column ∷ []) values (key ++ value ∷ [])
reads_push columns column values key value old there =
    map-append (slice_get values) columns (column ∷ [])
    ∙ ap₂ (λ (a : List (Option Value)) (b : Option Value). a ++ b ∷ []) old there
    ∙ sym (map-append some key (value ∷ []))

-- ---- the order of entries

abbrev entry_cmp : KeyedEntry → KeyedEntry → Ordering
entry_cmp = (impl.ghosts).cmp

tied_start :
    (k s e o : Ordering) → k ≡ Equal → is_lt (ordering_then k (ordering_then (ordering_then s e) o)) ≡ false → is_lt s ≡ false
tied_start Less s e o tie h = cc
tied_start Equal Less e o tie h = h
tied_start Equal Equal e o tie h = refl
tied_start Equal Greater e o tie h = refl
tied_start Greater s e o tie h = cc

not_less : (k o : Ordering) → is_lt (ordering_then k o) ≡ false → is_lt k ≡ false
not_less Less o h = h
not_less Equal o h = refl
not_less Greater o h = refl

order_from : (a b : KeyedEntry) → is_lt (entry_cmp b a) ≡ false → IsInOrder a b
order_from a b far = elim (values_cmp a.key b.key) as (λ o. values_cmp a.key b.key ≡ o → IsInOrder a b) [
  | Less ↦ λ e. inl e
  | Equal ↦ λ e.
      let tie : values_cmp b.key a.key ≡ Equal = values_cmp_total.antisymm b.key a.key ∙ ap ordering_reverse e in
      let starts : is_lt (int_cmp b.period.start a.period.start) ≡ false =
      tied_start (values_cmp b.key a.key) (int_cmp b.period.start a.period.start) (int_cmp b.period.end a.period.end) _ tie far in
      inr (
        values_cmp-same a.key b.key e,
        by_lt_z {P = a.period.start ≤ℤ b.period.start} b.period.start a.period.start
            (λ less. absurd (let wrong : is_lt (int_cmp b.period.start a.period.start) ≡ true = ap is_lt (int_cmp-Less b.period.start a.period.start less) in cc))
            (λ upto. upto),
      )
  | Greater ↦ λ e. absurd (
      let back : values_cmp b.key a.key ≡ Less = values_cmp_total.antisymm b.key a.key ∙ ap ordering_reverse e in
      let wrong : is_lt (values_cmp b.key a.key) ≡ true = ap is_lt back in
      let right : is_lt (values_cmp b.key a.key) ≡ false = not_less (values_cmp b.key a.key) _ far in cc)
] refl

pub sorted_entries : (entries : List KeyedEntry) → IsSorted entry_cmp entries → AreInOrder entries
sorted_entries entries up = λ i j d lt below.
    order_from (get_or entries i d) (get_or entries j d)
    (sorted_far (λ x y. is_lt (entry_cmp x y)) (ranks_by total-law (λ (r : KeyedEntry). r)) entries up i j d (omega arith) below)

-- ---- the entries of rows, before they are sorted

pub record AreEntries (columns : List ℕ) (rows : List PeriodRow) (entries : List KeyedEntry) : Type 0 where
  pub periods : All HasPeriod entries
  pub made : (entry : KeyedEntry) → Contains entries entry → Contains rows entry.row.now × Reads columns entry.row.now.values entry.key
  pub all : (row : PeriodRow) (key : List Value) → Contains rows row → Reads columns row.values key
      → (entry : KeyedEntry) × Contains entries entry × (entry.row.now ≡ row)

pub entries_none : (columns : List ℕ) → AreEntries columns [] []
entries_none columns = record {
  periods = All-nil HasPeriod;
  made = λ entry c. absurd (Contains-nil entry c);
  all = λ row key c reads. absurd (Contains-nil row c);
}

pub entries_more :
    (columns : List ℕ) (rows : List PeriodRow) (entries : List KeyedEntry) (row : PeriodRow) (entry : KeyedEntry) → entry.row.now ≡ row
    → HasPeriod entry → Reads columns row.values entry.key → AreEntries columns rows entries
    → AreEntries columns (rows ++ row ∷ []) (entries ++ entry ∷ [])
entries_more columns rows entries row entry is period reads old = record {
  periods = All-push HasPeriod entries entry old.periods period;
  made = λ e c. elim (Contains-push_cases entries entry e c) [
    | inl before ↦ let (there, its) = old.made e before in (Contains-append_left rows (row ∷ []) e.row.now there, its)
    | inr same ↦ subst (λ (x : KeyedEntry). Contains (rows ++ row ∷ []) x.row.now × Reads columns x.row.now.values x.key) same
        (subst (λ (r : PeriodRow). Contains (rows ++ row ∷ []) r × Reads columns r.values entry.key) (sym is) (Contains-push rows row, reads))
  ];
  all = λ r key c its. elim (Contains-push_cases rows row r c) [
    | inl before ↦ let (e, there, one) = old.all r key before its in (e, Contains-append_left entries (entry ∷ []) e there, one)
    | inr same ↦ (entry, Contains-push entries entry, is ∙ same)
  ];
}

pub entries_skip :
    (columns : List ℕ) (rows : List PeriodRow) (entries : List KeyedEntry) (row : PeriodRow)
    → ((key : List Value) → Reads columns row.values key → ⊥) → AreEntries columns rows entries → AreEntries columns (rows ++ row ∷ []) entries
entries_skip columns rows entries row none old = record {
  periods = old.periods;
  made = λ e c. let (there, its) = old.made e c in (Contains-append_left rows (row ∷ []) e.row.now there, its);
  all = λ r key c its. elim (Contains-push_cases rows row r c) [
    | inl before ↦ old.all r key before its
    | inr same ↦ absurd (none key (subst (λ (x : PeriodRow). Reads columns x.values key) (sym same) its))
  ];
}

pub by_key_from :
    (columns : List ℕ) (rows : List PeriodRow) (entries sorted : List KeyedEntry) → AreEntries columns rows entries
    → IsPermutation entries sorted → IsSorted entry_cmp sorted → AreByKey columns rows sorted
by_key_from columns rows entries sorted are moved up = record {
  ordered = sorted_entries sorted up;
  periods = λ k d inside.
      let e : KeyedEntry = get_or sorted k d in
      let c : Contains entries e = Contains-permutation sorted entries e (IsPermutation-sym entries sorted moved) (k, inside, get_or_default sorted k e d inside) in
      let (i, within, at) = c in subst HasPeriod at (are.periods i e within);
  made = λ e c. are.made e (Contains-permutation sorted entries e (IsPermutation-sym entries sorted moved) c);
  all = λ r key c reads. let (e, there, is) = are.all r key c reads in (e, Contains-permutation entries sorted e moved there, is);
}

-- ---- the place of an entry

-- whether the entry precedes the entries of this key that begin on the day or later
abbrev pub entry_before : List Value → ℤ → KeyedEntry → Bool
entry_before key day entry = comes_before entry.key entry.period.start key day

earlier_before : (key : List Value) (day : ℤ) (a b : KeyedEntry) → IsInOrder a b → entry_before key day b ≡ true → entry_before key day a ≡ true
earlier_before key day a b (inl less) by = elim (before_cases b.key key b.period.start day by) [
  | inl more ↦ before_less a.key key a.period.start day (values_cmp_total.trans a.key b.key key less more)
  | inr same ↦ before_less a.key key a.period.start day (subst (λ v. values_cmp a.key v ≡ Less) same.0 less)
]
earlier_before key day a b (inr (same, starts)) by = elim (before_cases b.key key b.period.start day by) [
  | inl more ↦ before_less a.key key a.period.start day (subst (λ v. values_cmp v key ≡ Less) (sym same) more)
  | inr (is, start) ↦
      let less : a.period.start <ℤ day = omega (arith, ints) in
      let begun : int_lt a.period.start day ≡ true = grind (arith, less) in
      before_same a.key key a.period.start day (same ∙ is) ∙ begun
]

pub before_in_order : (key : List Value) (day : ℤ) (entries : List KeyedEntry) → AreInOrder entries → IsPartitionedBy (entry_before key day) entries
before_in_order key day entries all i j d upto inside by = elim (cases_lt i j) [
  | inl less ↦ earlier_before key day (get_or entries i d) (get_or entries j d) (all i j d less inside) by
  | inr not_less ↦ let is : j ≡ i = omega arith in subst (λ k. entry_before key day (get_or entries k d) ≡ true) is by
]

-- an entry of the key that begins on a day from the start and before the end is between both points
pub entry_between :
    (entry : KeyedEntry) (entries : List KeyedEntry) (first last : ℕ)
    → IsPartitionPoint (λ e. entry_before entry.key entry.period.start e ≡ true) (λ e. entry_before entry.key entry.period.start e ≡ false) entries first
    → IsPartitionPoint (λ e. entry_before entry.key entry.period.end e ≡ true) (λ e. entry_before entry.key entry.period.end e ≡ false) entries last
    → (other : KeyedEntry) → BeginsWithin entry other → (k : ℕ) → k < length entries → get_or entries k other ≡ other → (first ≤ k) × (k < last)
entry_between entry entries first last from to other (key, starts, ends) k inside at = (
  elim (cases_lt k first) [
    | inl less ↦ absurd (
        let by : entry_before entry.key entry.period.start other ≡ true = subst (λ e. entry_before entry.key entry.period.start e ≡ true) at (from.0 k other (omega arith) less) in
        let is : int_lt other.period.start entry.period.start ≡ true = sym (before_same other.key entry.key other.period.start entry.period.start key) ∙ by in
        let wrong : other.period.start <ℤ entry.period.start = grind (arith, is) in
        let never : other.period.start <ℤ other.period.start = omega (arith, ints) in omega (arith, ints))
    | inr not_less ↦ not_less
  ],
  elim (cases_lt k last) [
    | inl less ↦ less
    | inr not_less ↦ absurd (
        let no : entry_before entry.key entry.period.end other ≡ false = subst (λ e. entry_before entry.key entry.period.end e ≡ false) at (to.1 k other not_less inside) in
        let is : int_lt other.period.start entry.period.end ≡ false = sym (before_same other.key entry.key other.period.start entry.period.end key) ∙ no in
        let yes : int_lt other.period.start entry.period.end ≡ true = grind (arith, ends) in cc)
  ],
)

-- an entry between the first and the last is in the list
pub contains_between :
    (entries : List KeyedEntry) (first last : ℕ) (other : KeyedEntry) (k : ℕ) → first ≤ k → k < last → k < length entries → get_or entries k other ≡ other
    → Contains (take (last - first) (drop first entries)) other
contains_between entries first last other k from to inside at =
    let rest : length (drop first entries) ≡ length entries - first = length-drop first entries in
    let back : first + (k - first) ≡ k = omega arith in
    let shown : get_or (drop first entries) (k - first) other ≡ get_or entries k other = get_or-drop first entries (k - first) other ∙ ap (λ m. get_or entries m other) back in
    let taken : length (take (last - first) (drop first entries)) ≡ min (last - first) (length (drop first entries)) = length-take (last - first) (drop first entries) in (
      k - first,
      omega arith,
      get_or-take (last - first) (drop first entries) (k - first) other (omega arith) ∙ shown ∙ at,
    )
