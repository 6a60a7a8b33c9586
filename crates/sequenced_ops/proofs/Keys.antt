-- The values at given positions, and the keys that are made of them.
use Rattle.std.proofs.Common.{◌≡◌, ◌<◌, ◌+◌, Ordering, ◌++◌, ℕ, zero, suc, ℤ, List, [], ◌∷◌, Option, Some, None, length, get_or, map, take, refl, sym, ◌∙◌, ap, ap₂, subst, arith}
use Rattle.std.specs.Prelude.{slice_get, MatchOption}
use Rattle.std.specs.List.{All}
use Rattle.std.specs.declared.cmp.Ordering.TheVariants.{Less, Equal, Greater}
use Rattle.std.specs.Cmp.{IsTotalOrder}
use Rattle.std.specs.FinMap.{int_cmp-IsAntisymmetric}
use Rattle.std.specs.Ordering.{int_cmp, ordering_then}
use Rattle.std.proofs.lemmas.Cmp.{int_cmp_total, on_total, then_total, tied_itself}
use Rattle.std.proofs.lemmas.List.{length-map, map-append, map_more}
use Rattle.std.proofs.lemmas.List.Elements.{All-nil, All-head, All-tail, All-cons}
use Rattle.period_core.specs.Order.{values_cmp}
use Rattle.period_core.specs.OrderLaws.{values_cmp_total, values_cmp-same}
use Rattle.period_core.specs.declared.value.Value.{Value}
use Rattle.period_core.specs.declared.value.Value.TheVariants.{Int, Text, Date}
use Rattle.sequenced_ops.specs.declared.equalities.Equality.{Equality}
use Rattle.sequenced_ops.specs.declared.keyed.JoinKey.{JoinKey}
use Rattle.sequenced_ops.specs.declared.keyed.Side.TheVariants.{Left, Right}
use Rattle.sequenced_ops.specs.Operations.{ReadsColumns}
use Rattle.sequenced_ops.specs.Joining.{IsEqual}
use Rattle.sequenced_ops.specs.Joining.{columns_on, key_cmp, key_of}

-- ---- the values at positions

abbrev some : Value → Option Value
some v = Some v

-- the values at the columns, with one position more
pub reads_more :
    (columns : List ℕ) (values read : List Value) (i column : ℕ) (value : Value) → i < length columns → column ≡ get_or columns i 0
    → slice_get values column ≡ Some value → ReadsColumns (take i columns) values read → ReadsColumns (take (i + 1) columns) values (read ++ value ∷ [])
reads_more columns values read i column value h is there old =
    map_more (slice_get values) columns i 0 h
    ∙ ap₂ (λ (a : List (Option Value)) (b : Option Value). a ++ b ∷ []) old (ap (slice_get values) (sym is) ∙ there)
    ∙ sym (map-append some read (value ∷ []))

-- a position without a value has no key
pub no_value :
    (columns : List ℕ) (values read : List Value) (i : ℕ) → i < length columns → slice_get values (get_or columns i 0) ≡ None
    → ReadsColumns columns values read → ⊥
no_value [] values read i h none all = omega arith
no_value (first ∷ columns) values [] i h none all = cc
no_value (first ∷ columns) values (v ∷ read) zero h none all =
    let here : slice_get values first ≡ Some v = cc in
    cc
no_value (first ∷ columns) values (v ∷ read) (suc i) h none all =
    let tail : map (slice_get values) columns ≡ map some read = cc in
    no_value columns values read i (omega arith) none tail

pub same_values : (values others : List Value) → map some values ≡ map some others → values ≡ others
same_values [] [] e = refl
same_values [] (other ∷ others) e = cc
same_values (value ∷ values) [] e = cc
same_values (value ∷ values) (other ∷ others) e =
    let head : value ≡ other = cc in
    let tail : map some values ≡ map some others = cc in
    ap₂ (λ (v : Value) (vs : List Value). v ∷ vs) head (same_values values others tail)

-- the values at given columns are unique
pub same_read :
    (columns : List ℕ) (values read other : List Value) → ReadsColumns columns values read → ReadsColumns columns values other → read ≡ other
same_read columns values read other p q = same_values read other (sym p ∙ q)

read_length : (columns : List ℕ) (values read : List Value) → ReadsColumns columns values read → length read ≡ length columns
read_length columns values read p =
    sym (length-map read some) ∙ ap length (sym p) ∙ length-map columns (slice_get values)

-- ---- equalities

-- if all equalities are met, both sides have the same values at their columns
pub equal_reads :
    (equalities : List Equality) (first second : List Value) → All (IsEqual first second) equalities
    → (read : List Value) × ReadsColumns (columns_on Left equalities) first read × ReadsColumns (columns_on Right equalities) second read
equal_reads [] first second all = ([], refl, refl)
equal_reads (equality ∷ equalities) first second all =
    let (value, left, right) = All-head (IsEqual first second) equality equalities all in
    let (read, lefts, rights) = equal_reads equalities first second (All-tail (IsEqual first second) equality equalities all) in (
      value ∷ read,
      ap₂ (λ (o : Option Value) (os : List (Option Value)). o ∷ os) left lefts,
      ap₂ (λ (o : Option Value) (os : List (Option Value)). o ∷ os) right rights,
    )

pub reads_equal :
    (equalities : List Equality) (first second read : List Value)
    → ReadsColumns (columns_on Left equalities) first read → ReadsColumns (columns_on Right equalities) second read
    → All (IsEqual first second) equalities
reads_equal [] first second read lefts rights = All-nil (IsEqual first second)
reads_equal (equality ∷ equalities) first second [] lefts rights = cc
reads_equal (equality ∷ equalities) first second (value ∷ read) lefts rights =
    let left : slice_get first equality.left ≡ Some value = cc in
    let right : slice_get second equality.right ≡ Some value = cc in
    let more_left : map (slice_get first) (columns_on Left equalities) ≡ map some read = cc in
    let more_right : map (slice_get second) (columns_on Right equalities) ≡ map some read = cc in
    All-cons (IsEqual first second) equality equalities (value, left, right) (reads_equal equalities first second read more_left more_right)

-- ---- keys

-- keys of the same parts are the same
pub key_from : (a b : JoinKey) → a.lead ≡ b.lead → a.rest ≡ b.rest → a ≡ b
key_from a b lead rest = λ i. record { lead = lead i; rest = rest i }

-- values of one length with the same key are the same
key_same : (a b : List Value) → length a ≡ length b → key_of a ≡ key_of b → a ≡ b
key_same [] [] long e = refl
key_same [] (v ∷ b) long e = cc
key_same (v ∷ a) [] long e = cc
key_same (Int n ∷ a) (Int m ∷ b) long e =
    ap₂ (λ (v : Value) (vs : List Value). v ∷ vs) (ap (λ i. Int i) (ap (λ (k : JoinKey). k.lead) e)) (ap (λ (k : JoinKey). k.rest) e)
key_same (Int n ∷ a) (Text t ∷ b) long e = absurd (let more : length a ≡ length (Text t ∷ b) = ap length (ap (λ (k : JoinKey). k.rest) e) in omega arith)
key_same (Int n ∷ a) (Date d ∷ b) long e = absurd (let more : length a ≡ length (Date d ∷ b) = ap length (ap (λ (k : JoinKey). k.rest) e) in omega arith)
key_same (Text t ∷ a) (Int m ∷ b) long e = absurd (let more : length (Text t ∷ a) ≡ length b = ap length (ap (λ (k : JoinKey). k.rest) e) in omega arith)
key_same (Date d ∷ a) (Int m ∷ b) long e = absurd (let more : length (Date d ∷ a) ≡ length b = ap length (ap (λ (k : JoinKey). k.rest) e) in omega arith)
key_same (Text t ∷ a) (Text u ∷ b) long e = ap (λ (k : JoinKey). k.rest) e
key_same (Text t ∷ a) (Date d ∷ b) long e = ap (λ (k : JoinKey). k.rest) e
key_same (Date d ∷ a) (Text u ∷ b) long e = ap (λ (k : JoinKey). k.rest) e
key_same (Date d ∷ a) (Date c ∷ b) long e = ap (λ (k : JoinKey). k.rest) e

pub key_cmp_total : IsTotalOrder key_cmp
key_cmp_total =
    then_total (on_total (λ (k : JoinKey). k.lead) int_cmp_total) (on_total (λ (k : JoinKey). k.rest) values_cmp_total)

pub key_cmp-refl : (k : JoinKey) → key_cmp k k ≡ Equal
key_cmp-refl = tied_itself key_cmp_total

tied_parts : (o p : Ordering) → ordering_then o p ≡ Equal → (o ≡ Equal) × (p ≡ Equal)
tied_parts Less p e = cc
tied_parts Equal p e = (refl, e)
tied_parts Greater p e = cc

-- keys that tie are the same
pub key_cmp-same : (a b : JoinKey) → key_cmp a b ≡ Equal → a ≡ b
key_cmp-same a b e =
    let (lead, rest) = tied_parts (int_cmp a.lead b.lead) (values_cmp a.rest b.rest) e in
    key_from a b (int_cmp-IsAntisymmetric a.lead b.lead lead) (values_cmp-same a.rest b.rest rest)

-- the values of a left and a right row with the same key are the same
pub same_keys :
    (equalities : List Equality) (first second read other : List Value)
    → ReadsColumns (columns_on Left equalities) first read → ReadsColumns (columns_on Right equalities) second other
    → key_of read ≡ key_of other → read ≡ other
same_keys equalities first second read other lefts rights same =
    key_same read other
    (read_length (columns_on Left equalities) first read lefts ∙ length-map equalities _
    ∙ sym (length-map equalities _) ∙ sym (read_length (columns_on Right equalities) second other rights)) same

-- ---- a key that is read

-- the columns have no values, or the values are the key's
abbrev pub RestRead : List ℕ → List Value → ℤ → Option JoinKey → Type 0
RestRead columns values lead found =
    MatchOption found ((read : List Value) → ReadsColumns columns values read → ⊥)
    (λ (key : JoinKey). (key.lead ≡ lead) × ReadsColumns columns values key.rest)

abbrev pub KeyRead : List ℕ → List Value → Option JoinKey → Type 0
KeyRead columns values found =
    MatchOption found ((read : List Value) → ReadsColumns columns values read → ⊥)
    (λ (key : JoinKey). (read : List Value) × ReadsColumns columns values read × (key_of read ≡ key))

-- the first value is an integer
pub integer_first :
    (first : ℕ) (others : List ℕ) (values : List Value) (n : ℤ) → slice_get values first ≡ Some (Int n) → (found : Option JoinKey)
    → RestRead others values n found → KeyRead (first ∷ others) values found
integer_first first others values n there None none = λ read. elim read as (λ r. ReadsColumns (first ∷ others) values r → ⊥) [
  | [] ↦ λ all. cc
  | v ∷ more ↦ λ all. none more (let tail : map (slice_get values) others ≡ map some more = cc in tail)
]
integer_first first others values n there (Some key) (lead, reads) = (
  Int n ∷ key.rest,
  ap₂ (λ (o : Option Value) (os : List (Option Value)). o ∷ os) there reads,
  key_from (key_of (Int n ∷ key.rest)) key (sym lead) refl,
)

-- the lead of a key whose rest has all values
abbrev pub HasLead : Value → ℤ → Type 0
HasLead value lead = (values : List Value) → key_of (value ∷ values) ≡ record { lead = lead; rest = value ∷ values }

whole :
    (first : ℕ) (others : List ℕ) (values : List Value) (v : Value) (lead : ℤ) → HasLead v lead → slice_get values first ≡ Some v
    → (rest : List Value) → ReadsColumns (first ∷ others) values rest → key_of rest ≡ record { lead = lead; rest = rest }
whole first others values v lead has there [] reads = cc
whole first others values v lead has there (w ∷ rest) reads =
    let head : slice_get values first ≡ Some w = cc in
    let same : v ≡ w = cc in
    subst (λ (x : Value). key_of (x ∷ rest) ≡ record { lead = lead; rest = x ∷ rest }) same (has rest)

pub other_first :
    (first : ℕ) (others : List ℕ) (values : List Value) (v : Value) (lead : ℤ) → HasLead v lead → slice_get values first ≡ Some v
    → (found : Option JoinKey) → RestRead (first ∷ others) values lead found → KeyRead (first ∷ others) values found
other_first first others values v lead has there None none = none
other_first first others values v lead has there (Some key) (is, reads) =
    (key.rest, reads, whole first others values v lead has there key.rest reads ∙ key_from (record { lead = lead; rest = key.rest }) key (sym is) refl)
