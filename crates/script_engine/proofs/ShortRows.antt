-- The rows of a table are short as they are written: it has few columns, and each takes few code points.
use Rattle.std.proofs.Common.{◌≡◌, ◌≤◌, ◌+◌, ◌-◌, ◌*◌, ◌∷◌, ◌∙◌, ℕ, zero, suc, Bool, true, false, List, [], Option, Some, None, ap, arith, cond, length, length-append, map, nat_le, nat_lt, refl, subst, sym, inl, inr}
use Rattle.std.specs.Prelude.{◌||◌, is_some}
use Rattle.std.specs.List.{AllByRecursion, enumerate_from, filter, flat_map, list_any}
use Rattle.std.specs.Str.{chars, chars_after, continuation_len, lead_bits}
use Rattle.std.proofs.lemmas.Bool.{and_parts, false≢true, or_parts}
use Rattle.std.proofs.lemmas.Bool.Decides.{nat_tests}
use Rattle.std.proofs.lemmas.List.{length-map}
use Rattle.std.proofs.lemmas.Option.{none-some, same_Some}
use Rattle.sqlite_trees.proofs.ListLemmas.{all-filter}
use Rattle.period_core.specs.Encoding.{encoded, encoded_value, escaped_byte}
use Rattle.period_core.specs.declared.refusal.Refusal.TheVariants.{BadDefinition, LimitReached}
use Rattle.period_core.specs.declared.value.Value.{Value}
use Rattle.period_core.specs.declared.value.Value.TheVariants as value
use Rattle.sql_statements.specs.declared.create.ColumnElement.{ColumnElement}
use Rattle.sql_statements.specs.declared.create.CreateTable.{CreateTable}
use Rattle.sql_statements.specs.declared.create.Generated.{Generated}
use Rattle.sql_statements.specs.declared.create.Generated.TheVariants.{Start, End}
use Rattle.sql_statements.specs.declared.create.TypeName.{TypeName}
use Rattle.sql_statements.specs.declared.create.TypeName.TheVariants as type
use Rattle.catalog_core.specs.create.Creation.{exceeds_limits, has_bad_column, has_bad_period, has_bad_system_period, has_other_period, is_bad_definition, is_bad_type, lacks_one_of_each, references_no_key}
use Rattle.catalog_core.specs.create.Definition.{column_parts, declared_column, declared_kind}
use Rattle.catalog_core.specs.create.Lawful.{IsLawful}
use Rattle.catalog_core.specs.table.TableWords.{is_value_column, value_columns}
use Rattle.catalog_core.specs.declared.table.Column.{Column}
use Rattle.catalog_core.specs.declared.table.ColumnKind.{ColumnKind}
use Rattle.catalog_core.specs.declared.table.ColumnKind.TheVariants as kind
use Rattle.catalog_core.specs.declared.table.TableDef.{TableDef}
use Rattle.version_tables.specs.Healthy.{IsShort}
use Rattle.version_store.specs.RowValues.{are_of_columns, are_row_values, is_of_column}

-- ---- the bytes of a text, by its code points

few_follow : (b : ℕ) → continuation_len b ≤ 3
few_follow b = go (nat_lt b 128) (nat_lt b 224) (nat_lt b 240)
  where
    go : (p q r : Bool) → cond p 0 (cond q 1 (cond r 2 3)) ≤ 3
    go true q r = omega arith
    go false true r = omega arith
    go false false true = omega arith
    go false false false = omega arith

bytes_after : (n c : ℕ) (bs : List ℕ) → length bs ≤ 4 * length (chars_after n c bs) + n
bytes_after zero c [] = omega arith
bytes_after zero c (b ∷ bs) = omega (arith, bytes_after (continuation_len b) (lead_bits b) bs, few_follow b)
bytes_after (suc n) c [] = omega arith
bytes_after (suc n) c (b ∷ bs) = omega (arith, bytes_after n (c * 64 + (b - 128)) bs)

text_bytes : (bs : List ℕ) → length bs ≤ 4 * length (chars bs) + 4
unfolding chars
text_bytes [] = omega arith
text_bytes (b ∷ bs) = omega (arith, bytes_after (continuation_len b) (lead_bits b) bs, few_follow b)

-- ---- the bytes of a value

escaped_bytes : (bs : List ℕ) → length (flat_map escaped_byte bs) ≤ 2 * length bs
escaped_bytes [] = omega arith
escaped_bytes (zero ∷ bs) = omega (arith, escaped_bytes bs)
escaped_bytes (suc b ∷ bs) = omega (arith, escaped_bytes bs)

-- a column of texts takes at most a thousand code points
abbrev IsNarrow : ColumnKind → Type 0
IsNarrow (kind.Varchar most) = most ≤ 1000
IsNarrow _ = Unit {0}

value_bytes : (k : ColumnKind) (v : Value) → IsNarrow k → is_of_column k v ≡ true → length (encoded_value v) ≤ 8011
value_bytes kind.Integer (value.Int n) narrow is = omega arith
value_bytes kind.Integer (value.Text text) narrow is = absurd (false≢true is)
value_bytes kind.Integer (value.Date day) narrow is = absurd (false≢true is)
value_bytes (kind.Varchar most) (value.Int n) narrow is = absurd (false≢true is)
value_bytes (kind.Varchar most) (value.Text text) narrow is =
    let few : length (chars text) ≤ most = grind (arith, nat_tests, is) in
    omega (arith, length-append (flat_map escaped_byte text) (0 ∷ 0 ∷ []), escaped_bytes text, text_bytes text, few, narrow)
value_bytes (kind.Varchar most) (value.Date day) narrow is = absurd (false≢true is)
value_bytes kind.Date (value.Int n) narrow is = absurd (false≢true is)
value_bytes kind.Date (value.Text text) narrow is = absurd (false≢true is)
value_bytes kind.Date (value.Date day) narrow is = omega arith
value_bytes (kind.RowStart p) (value.Int n) narrow is = absurd (false≢true is)
value_bytes (kind.RowStart p) (value.Text text) narrow is = absurd (false≢true is)
value_bytes (kind.RowStart p) (value.Date day) narrow is = absurd (false≢true is)
value_bytes (kind.RowEnd p) (value.Int n) narrow is = absurd (false≢true is)
value_bytes (kind.RowEnd p) (value.Text text) narrow is = absurd (false≢true is)
value_bytes (kind.RowEnd p) (value.Date day) narrow is = absurd (false≢true is)

-- ---- the bytes of a row

row_bytes : (columns : List (ℕ × Column)) (values : List Value) → AllByRecursion (λ (c : ℕ × Column). IsNarrow c.1.kind) columns → are_of_columns columns values ≡ true → length (encoded values) ≤ 8011 * length columns
row_bytes [] [] narrow are = omega arith
row_bytes [] (v ∷ values) narrow are = absurd (false≢true are)
row_bytes (column ∷ columns) [] narrow are = absurd (false≢true are)
row_bytes (column ∷ columns) (v ∷ values) narrow are =
    let parts = and_parts (is_of_column column.1.kind v) (are_of_columns columns values) are in
    omega (arith, length-append (encoded_value v) (encoded values), value_bytes column.1.kind v narrow.0 parts.0, row_bytes columns values narrow.1 parts.1)

-- ---- the columns of a lawful definition

narrow_kind : (t : TypeName) (g : Option Generated) (k : ColumnKind) → is_bad_type t (is_some g) ≡ false → declared_kind t g ≡ Some k → IsNarrow k
unfolding is_bad_type declared_kind
narrow_kind type.Integer None k sound is = subst IsNarrow (same_Some kind.Integer k is) tt
narrow_kind type.Integer (Some side) k sound is = absurd (none-some k is)
narrow_kind type.Date None k sound is = subst IsNarrow (same_Some kind.Date k is) tt
narrow_kind type.Date (Some side) k sound is = absurd (none-some k is)
narrow_kind (type.Varchar n) None k sound is =
    let below : nat_lt 1000 n ≡ false = (or_parts (nat_lt n 1) (nat_lt 1000 n) sound).1 in
    let most : n ≤ 1000 = grind (arith, nat_tests, below) in
    subst IsNarrow (same_Some (kind.Varchar n) k is) most
narrow_kind (type.Varchar n) (Some side) k sound is = absurd (none-some k is)
narrow_kind (type.Timestamp p) None k sound is = absurd (none-some k is)
narrow_kind (type.Timestamp p) (Some Start) k sound is = subst IsNarrow (same_Some (kind.RowStart p) k is) tt
narrow_kind (type.Timestamp p) (Some End) k sound is = subst IsNarrow (same_Some (kind.RowEnd p) k is) tt

narrow_columns : (xs : List ColumnElement) (ys : List Column) → list_any (λ (x : ColumnElement). is_bad_type x.kind (is_some x.generated)) xs ≡ false → map declared_column xs ≡ map column_parts ys →
    AllByRecursion (λ (y : Column). IsNarrow y.kind) ys
narrow_columns [] [] sound same = tt
narrow_columns [] (y ∷ ys) sound same = cc
narrow_columns (x ∷ xs) [] sound same = tt
narrow_columns (x ∷ xs) (y ∷ ys) sound same =
    let parts = or_parts (is_bad_type x.kind (is_some x.generated)) (list_any (λ (z : ColumnElement). is_bad_type z.kind (is_some z.generated)) xs) sound in
    let first : declared_column x ≡ column_parts y = cc in
    let later : map declared_column xs ≡ map column_parts ys = cc in
    (narrow_kind x.kind x.generated y.kind parts.0 (ap (λ (p : List ℕ × Option ColumnKind). p.1) first), narrow_columns xs ys parts.1 later)

numbered : (from : ℕ) (ys : List Column) → AllByRecursion (λ (y : Column). IsNarrow y.kind) ys → AllByRecursion (λ (c : ℕ × Column). IsNarrow c.1.kind) (enumerate_from from ys)
numbered from [] narrow = tt
numbered from (y ∷ ys) narrow = (narrow.0, numbered (from + 1) ys narrow.1)

numbered_count : (from : ℕ) (ys : List Column) → length (enumerate_from from ys) ≡ length ys
numbered_count from [] = refl
numbered_count from (y ∷ ys) = ap suc (numbered_count (from + 1) ys)

no_more : {X : Type 0} (p : X → Bool) (xs : List X) → length (filter p xs) ≤ length xs
no_more p [] = omega arith
no_more {X} p (x ∷ xs) = go (p x) (no_more p xs)
  where
    go : (b : Bool) → length (filter p xs) ≤ length xs → length (cond b (x ∷ filter p xs) (filter p xs)) ≤ length (x ∷ xs)
    go true h = omega (arith, h)
    go false h = omega (arith, h)

-- no limit is exceeded, and no column is bad
few_columns : (tables : List TableDef) (c : CreateTable) → (exceeds_limits tables c ≡ true → ⊥) → length c.columns ≤ 32
unfolding exceeds_limits
few_columns tables c never = go (nat_le 64 (length tables)) (nat_lt 32 (length c.columns)) refl (nat_lt 8 (length c.references)) never
  where
    go : (a b : Bool) → nat_lt 32 (length c.columns) ≡ b → (d : Bool) → ((a || b || d) ≡ true → ⊥) → length c.columns ≤ 32
    go true b is d none = absurd (none refl)
    go false true is d none = absurd (none refl)
    go false false is d none = grind (arith, nat_tests, is)

no_bad_column : (tables : List TableDef) (c : CreateTable) → (is_bad_definition tables c ≡ true → ⊥) → has_bad_column c ≡ false
unfolding is_bad_definition
no_bad_column tables c never = go (lacks_one_of_each c || has_bad_period c || has_bad_system_period c) (has_bad_column c) (has_other_period tables c) (references_no_key tables c) never
  where
    go : (a b d e : Bool) → ((a || b || d || e) ≡ true → ⊥) → b ≡ false
    go true b d e none = absurd (none refl)
    go false true d e none = absurd (none refl)
    go false false d e none = refl

all_columns : (c : CreateTable) (ys : List Column) → has_bad_column c ≡ false → map declared_column c.columns ≡ map column_parts ys → AllByRecursion (λ (y : Column). IsNarrow y.kind) ys
unfolding has_bad_column
all_columns c ys sound same = narrow_columns c.columns ys sound same

-- the values of a row of a lawful table are few bytes
pub short_row : (tables : List TableDef) (d : TableDef) (values : List Value) → IsLawful tables d → are_row_values d values ≡ true → IsShort (encoded values)
short_row tables d values (c, sound, defined) are =
    let few = few_columns tables c (λ is. sound LimitReached (inl (refl, is))) in
    let good = no_bad_column tables c (λ is. sound BadDefinition (inr (inr (inr (inr (inr (inr (inr (inl (refl, is)))))))))) in
    let narrow = all-filter (λ (x : ℕ × Column). IsNarrow x.1.kind) (is_value_column d) (enumerate_from 0 d.columns) (numbered 0 d.columns (all_columns c d.columns good defined.columns)) in
    let as_many : length c.columns ≡ length d.columns = sym (length-map c.columns declared_column) ∙ ap length defined.columns ∙ length-map d.columns column_parts in
    omega (arith, row_bytes (value_columns d) values narrow are, no_more (is_value_column d) (enumerate_from 0 d.columns), numbered_count 0 d.columns, as_many, few)
