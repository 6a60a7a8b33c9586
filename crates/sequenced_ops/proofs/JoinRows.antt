-- The rows of a join: their order, and the pairs of both sides.
use Rattle.std.proofs.Common.{◌≡◌, ◌≤ℤ◌, ◌<ℤ◌, ℕ, ℤ, List, [], ◌∷◌, ◌++◌, length, get_or, Ordering, true, false, refl, sym, ◌∙◌, ap, ap₂, subst, inl, inr, ◌⊎◌, arith}
use Rattle.std.specs.List.{Contains, AllPairs}
use Rattle.std.specs.List.Sorted.{IsSorted, IsPermutation}
use Rattle.std.specs.declared.cmp.Ordering.TheVariants.{Less, Equal, Greater}
use Rattle.std.specs.Ordering.{is_lt, int_cmp, ordering_then}
use Rattle.std.proofs.lemmas.Int.{by_lt_z}
use Rattle.std.proofs.lemmas.List.Elements.{Contains-append_left, Contains-push, Contains-push_cases}
use Rattle.std.proofs.lemmas.List.Sorted.{sorted_far, ranks_by, Contains-permutation, IsPermutation-sym}
use Rattle.period_core.specs.DaySets.{InPeriod}
use Rattle.period_core.specs.declared.value.Value.{Value}
use Rattle.period_core.proofs.PeriodEnds.{days_from, days_to, day_in}
use Rattle.period_core.specs.declared.row.PeriodRow.{PeriodRow}
use Rattle.temporal_model.proofs.AnswerOrder.{int_cmp-Less}
use Rattle.temporal_model.proofs.Members.{Contains-nil}
use Rattle.temporal_model.proofs.Snapshots.{held, in_snapshot}
use Rattle.sequenced_ops.specs.declared.equalities.Equality.{Equality}
use Rattle.sequenced_ops.specs.declared.keyed.KeyedRow.{KeyedRow}
use Rattle.sequenced_ops.specs.declared.keyed.Side.{Side}
use Rattle.sequenced_ops.specs.declared.keyed.Side.TheVariants.{Left, Right}
use Rattle.sequenced_ops.specs.contracts.keyed.KeyedRowOrd.TheImpl as impl
use Rattle.sequenced_ops.specs.contracts.keyed.KeyedRowOrd.TheImpl.Laws.{total-law}
use Rattle.history_model.specs.OrdinaryQuery.{meets_all}
use Rattle.sequenced_ops.specs.Operations.{Cond, ReadsColumns}
use Rattle.sequenced_ops.specs.Joining.{Adds, columns_on, key_of, key_cmp, InEqualPairs, IsKeyed, InPairs, PairHolds, Follows}
use Rattle.sequenced_ops.specs.Planning.{IsPruned}
use Rattle.sequenced_ops.proofs.TwoRows.{holds-nil}
use Rattle.sequenced_ops.proofs.Keys.{equal_reads, reads_equal, same_keys, same_read, key_cmp-refl}

-- ---- the order of the rows

abbrev keyed_cmp : KeyedRow → KeyedRow → Ordering
keyed_cmp = (impl.ghosts).cmp

coarser_key : (k o : Ordering) → is_lt (ordering_then k o) ≡ false → is_lt k ≡ false
coarser_key Less o h = h
coarser_key Equal o h = refl
coarser_key Greater o h = refl

coarser_start :
    (k s e o : Ordering) → k ≡ Equal → is_lt (ordering_then k (ordering_then (ordering_then s e) o)) ≡ false → is_lt s ≡ false
coarser_start Less s e o tie h = cc
coarser_start Equal Less e o tie h = h
coarser_start Equal Equal e o tie h = refl
coarser_start Equal Greater e o tie h = refl
coarser_start Greater s e o tie h = cc

pub sorted_rows : (rows : List KeyedRow) → IsSorted keyed_cmp rows → AllPairs Follows rows
sorted_rows rows up = λ i j d lt below.
    let a : KeyedRow = get_or rows i d in
    let b : KeyedRow = get_or rows j d in
    let far : is_lt (keyed_cmp b a) ≡ false = sorted_far (λ x y. is_lt (keyed_cmp x y)) (ranks_by total-law (λ (r : KeyedRow). r)) rows up i j d (omega arith) below in (
      coarser_key (key_cmp b.key a.key) _ far,
      λ same.
          let tie : key_cmp b.key a.key ≡ Equal = subst (λ k. key_cmp k a.key ≡ Equal) same (key_cmp-refl a.key) in
          let starts : is_lt (int_cmp b.period.start a.period.start) ≡ false = coarser_start (key_cmp b.key a.key) (int_cmp b.period.start a.period.start) (int_cmp b.period.end a.period.end) _ tie far in
          by_lt_z {P = a.period.start ≤ℤ b.period.start} b.period.start a.period.start
          (λ less. let wrong : is_lt (int_cmp b.period.start a.period.start) ≡ true = ap is_lt (int_cmp-Less b.period.start a.period.start less) in cc)
          (λ upto. upto),
    )

-- ---- the rows of both sides

-- a row of a side with its key
abbrev pub KeyedFrom : Side → List ℕ → List PeriodRow → KeyedRow → Type 0
KeyedFrom side columns rows a = (row : PeriodRow) × Contains rows row × IsKeyed side columns row a

-- each row that has a key is in the list with it
abbrev pub AllKeyed : Side → List ℕ → List PeriodRow → List KeyedRow → Type 0
AllKeyed side columns rows keyed =
    (row : PeriodRow) (read : List Value) → Contains rows row → ReadsColumns columns row.values read
    → (a : KeyedRow) × Contains keyed a × IsKeyed side columns row a

-- the keyed rows are the earlier ones, and the rows of a side that have a key
pub record KeyedMore (side : Side) (columns : List ℕ) (old keyed : List KeyedRow) (done : List PeriodRow) : Type 0 where
  pub kept : (a : KeyedRow) → Contains old a → Contains keyed a
  pub added : AllKeyed side columns done keyed
  pub others : (a : KeyedRow) → Contains keyed a → (Contains old a ⊎ KeyedFrom side columns done a)

pub keyed_none : (side : Side) (columns : List ℕ) (old : List KeyedRow) → KeyedMore side columns old old []
keyed_none side columns old = record {
  kept = λ a c. c;
  added = λ row read c reads. absurd (Contains-nil row c);
  others = λ a c. inl c;
}

pub keyed_next :
    (side : Side) (columns : List ℕ) (old keyed : List KeyedRow) (done : List PeriodRow) (row : PeriodRow) (x : KeyedRow) → IsKeyed side columns row x
    → KeyedMore side columns old keyed done → KeyedMore side columns old (keyed ++ x ∷ []) (done ++ row ∷ [])
keyed_next side columns old keyed done row x is before = record {
  kept = λ a c. Contains-append_left keyed (x ∷ []) a (before.kept a c);
  added = λ r read c reads. elim (Contains-push_cases done row r c) [
    | inl k ↦ let (a, there, its) = before.added r read k reads in (a, Contains-append_left keyed (x ∷ []) a there, its)
    | inr e ↦ (x, Contains-push keyed x, subst (λ y. IsKeyed side columns y x) e is)
  ];
  others = λ a c. elim (Contains-push_cases keyed x a c) [
    | inl k ↦ elim (before.others a k) [
      | inl was ↦ inl was
      | inr (r, there, its) ↦ inr (r, Contains-append_left done (row ∷ []) r there, its)
    ]
    | inr e ↦ inr (row, Contains-push done row, subst (IsKeyed side columns row) e is)
  ];
}

pub keyed_skipped :
    (side : Side) (columns : List ℕ) (old keyed : List KeyedRow) (done : List PeriodRow) (row : PeriodRow)
    → ((read : List Value) → ReadsColumns columns row.values read → ⊥)
    → KeyedMore side columns old keyed done → KeyedMore side columns old keyed (done ++ row ∷ [])
keyed_skipped side columns old keyed done row none before = record {
  kept = before.kept;
  added = λ r read c reads. elim (Contains-push_cases done row r c) [
    | inl k ↦ before.added r read k reads
    | inr e ↦ absurd (none read (subst (λ (y : PeriodRow). ReadsColumns columns y.values read) (sym e) reads))
  ];
  others = λ a c. elim (before.others a c) [
    | inl was ↦ inl was
    | inr (r, there, its) ↦ inr (r, Contains-append_left done (row ∷ []) r there, its)
  ];
}

-- the rows of both sides that have a key, and no more
pub record AreBothSides (equalities : List Equality) (left right : List PeriodRow) (keyed : List KeyedRow) : Type 0 where
  pub lefts : AllKeyed Left (columns_on Left equalities) left keyed
  pub rights : AllKeyed Right (columns_on Right equalities) right keyed
  pub others : (a : KeyedRow) → Contains keyed a
      → (KeyedFrom Left (columns_on Left equalities) left a ⊎ KeyedFrom Right (columns_on Right equalities) right a)

-- the rows of both sides, one side after the other
pub both_keyed :
    (es : List Equality) (left right : List PeriodRow) (first keyed : List KeyedRow) → KeyedMore Left (columns_on Left es) [] first left
    → KeyedMore Right (columns_on Right es) first keyed right → AreBothSides es left right keyed
both_keyed es left right first keyed one two = record {
  lefts = λ row read c reads. let (a, there, is) = one.added row read c reads in (a, two.kept a there, is);
  rights = two.added;
  others = λ a c. elim (two.others a c) [
    | inl was ↦ elim (one.others a was) [ inl there ↦ absurd (Contains-nil a there) | inr mine ↦ inl mine ]
    | inr its ↦ inr its
  ];
}

from_left :
    (es : List Equality) (left right : List PeriodRow) (keyed : List KeyedRow) → AreBothSides es left right keyed → (a : KeyedRow) → Contains keyed a
    → a.side ≡ Left → KeyedFrom Left (columns_on Left es) left a
from_left es left right keyed both a c side = elim (both.others a c) [
  | inl mine ↦ mine
  | inr (row, there, is) ↦ absurd (let wrong : Right ≡ Left = sym is.side ∙ side in cc)
]

from_right :
    (es : List Equality) (left right : List PeriodRow) (keyed : List KeyedRow) → AreBothSides es left right keyed → (a : KeyedRow) → Contains keyed a
    → a.side ≡ Right → KeyedFrom Right (columns_on Right es) right a
from_right es left right keyed both a c side = elim (both.others a c) [
  | inl (row, there, is) ↦ absurd (let wrong : Left ≡ Right = sym is.side ∙ side in cc)
  | inr mine ↦ mine
]

-- a row with its key has its row's days
days_back : (side : Side) (columns : List ℕ) (row : PeriodRow) (a : KeyedRow) → IsKeyed side columns row a → (day : ℤ) → InPeriod a.period day
    → (row.period.start ≤ℤ day) × (day <ℤ row.period.end)
days_back side columns row a is day inside =
    let mine : InPeriod row.period day = subst (λ p. InPeriod p day) (sym is.period) inside in
    (days_from row.period day mine, days_to row.period day mine)

days_on : (side : Side) (columns : List ℕ) (row : PeriodRow) (a : KeyedRow) → IsKeyed side columns row a → (day : ℤ)
    → (row.period.start ≤ℤ day) × (day <ℤ row.period.end) → InPeriod a.period day
days_on side columns row a is day (from, to) = subst (λ p. InPeriod p day) is.period (day_in row.period day from to)

pair_joined :
    (es : List Equality) (left right : List PeriodRow) (a b : KeyedRow) → KeyedFrom Left (columns_on Left es) left a
    → KeyedFrom Right (columns_on Right es) right b → (day : ℤ) (vs : List Value) → PairHolds a b day vs → InEqualPairs es left right day vs
pair_joined es left right a b (r, in_r, is_a) (s, in_s, is_b) day vs pair =
    let (read, reads, key_a) = is_a.key in
    let (other, others, key_b) = is_b.key in
    let same : read ≡ other = same_keys es r.values s.values read other reads others (key_a ∙ pair.0 ∙ sym key_b) in
    let right_read : ReadsColumns (columns_on Right es) s.values read = subst (ReadsColumns (columns_on Right es) s.values) (sym same) others in
    let values : r.values ++ s.values ≡ vs = ap₂ (λ (x y : List Value). x ++ y) is_a.values is_b.values ∙ pair.3 in (
      r.values,
      s.values,
      in_snapshot left day r.values (r, in_r, refl, days_back Left (columns_on Left es) r a is_a day pair.1),
      in_snapshot right day s.values (s, in_s, refl, days_back Right (columns_on Right es) s b is_b day pair.2),
      reads_equal es r.values s.values read reads right_read,
      values,
    )

joined_pair :
    (es : List Equality) (left right : List PeriodRow) (keyed : List KeyedRow) → AreBothSides es left right keyed → (day : ℤ) (vs : List Value)
    → InEqualPairs es left right day vs → InPairs keyed day vs
joined_pair es left right keyed both day vs (first, second, in_left, in_right, all, values) =
    let (r, in_r, is_r, days_r) = held left day first in_left in
    let (s, in_s, is_s, days_s) = held right day second in_right in
    let (read, lefts, rights) = equal_reads es first second all in
    let reads_r : ReadsColumns (columns_on Left es) r.values read = subst (λ v. ReadsColumns (columns_on Left es) v read) (sym is_r) lefts in
    let reads_s : ReadsColumns (columns_on Right es) s.values read = subst (λ v. ReadsColumns (columns_on Right es) v read) (sym is_s) rights in
    let (a, in_a, is_a) = both.lefts r read in_r reads_r in
    let (b, in_b, is_b) = both.rights s read in_s reads_s in
    let (read_a, reads_a, key_a) = is_a.key in
    let (read_b, reads_b, key_b) = is_b.key in
    let same : read_a ≡ read_b =
    same_read (columns_on Left es) r.values read_a read reads_a reads_r ∙ same_read (columns_on Right es) s.values read read_b reads_s reads_b in
    let key : a.key ≡ b.key = sym key_a ∙ ap key_of same ∙ key_b in
    let both_values : a.values.now ++ b.values.now ≡ vs =
    ap₂ (λ (x y : List Value). x ++ y) (sym is_a.values ∙ is_r) (sym is_b.values ∙ is_s) ∙ values in (
      a,
      b,
      in_a,
      in_b,
      is_a.side,
      is_b.side,
      (
        key,
        days_on Left (columns_on Left es) r a is_a day days_r,
        days_on Right (columns_on Right es) s b is_b day days_s,
        both_values,
      ),
    )

nothing_before :
    (conjuncts : List Cond) (first values rest : List Value) → length first ≡ 0
    → meets_all conjuncts (first ++ (values ++ rest)) ≡ true → meets_all conjuncts (values ++ rest) ≡ true
nothing_before conjuncts [] values rest e met = met
nothing_before conjuncts (x ∷ first) values rest e met = absurd (omega arith)

-- the pairs of both sides are the join
pub joined_rows :
    (conjuncts : List Cond) (es : List Equality) (left right rows : List PeriodRow) (keyed sorted : List KeyedRow) → AreBothSides es left right keyed → IsPermutation keyed sorted
    → Adds conjuncts (InPairs sorted) [] rows → IsPruned conjuncts 0 (InEqualPairs es left right) rows
joined_rows conjuncts es left right rows keyed sorted both moved all =
    let back : IsPermutation sorted keyed = IsPermutation-sym keyed sorted moved in
    record {
      sound = λ day vs h. elim (all.sound day vs h) [
        | inl none ↦ absurd (holds-nil day vs none)
        | inr (a, b, in_a, in_b, side_a, side_b, pair) ↦
            pair_joined es left right a b
            (from_left es left right keyed both a (Contains-permutation sorted keyed a back in_a) side_a)
            (from_right es left right keyed both b (Contains-permutation sorted keyed b back in_b) side_b) day vs pair
      ];
      complete = λ day first vs rest e h met.
          let (a, b, in_a, in_b, side_a, side_b, pair) = joined_pair es left right keyed both day vs h in
          all.complete day vs
          (a, b, Contains-permutation keyed sorted a moved in_a, Contains-permutation keyed sorted b moved in_b, side_a, side_b, pair)
          (rest, nothing_before conjuncts first vs rest e met);
    }
