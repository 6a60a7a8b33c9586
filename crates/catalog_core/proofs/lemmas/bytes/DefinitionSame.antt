-- A definition is the one of its values: definitions with the same values, and with the same bytes, are the same.
use Rattle.std.proofs.Common.{◌≡◌, ◌∷◌, ◌++◌, ◌∙◌, ℕ, Bool, true, List, [], Option, None, Some, append_assoc, arith, ap, drop, length, nat_lt, refl, subst, sym}
use Rattle.std.specs.Coded.{Coded-set, coded_bool}
use Rattle.std.specs.List.{flat_map, list_all}
use Rattle.std.proofs.lemmas.Bool.{and_parts}
use Rattle.std.proofs.lemmas.List.{append-nil}
use Rattle.period_core.proofs.EncodingOrder as encoding
use Rattle.period_core.specs.declared.value.Value.{Value}
use Rattle.catalog_core.proofs.lemmas.bytes.DefinitionFronts.{fit, split, values_after_columns, values_after_name, values_after_period}
use Rattle.catalog_core.proofs.lemmas.bytes.DefinitionParts.{reference_parts}
use Rattle.catalog_core.proofs.lemmas.bytes.Fronts.{IsPrefixCode, any_all, column_code, counted_code, counted_length, parent_first, period_rest, place_code, places_rest, reference_code, same_length}
use Rattle.catalog_core.specs.bytes.DefinitionEncoding.{is_writable}
use Rattle.catalog_core.specs.bytes.DefinitionLaws.{DefinitionReadsBack}
use Rattle.catalog_core.specs.bytes.DefinitionReading.{is_any, is_column, is_small_reference}
use Rattle.catalog_core.specs.bytes.DefinitionValues.{column_values, counted, definition_values, kind_values, number, period_values, place_values, reference_values, written_precision}
use Rattle.catalog_core.specs.table.IsDefinition.{IsDefinition, is_definition, is_reference}
use Rattle.catalog_core.specs.declared.table.Column.{Column}
use Rattle.catalog_core.specs.declared.table.ColumnKind.{ColumnKind}
use Rattle.catalog_core.specs.declared.table.ColumnKind.TheVariants.{Integer, Varchar, Date, RowStart, RowEnd}
use Rattle.catalog_core.specs.declared.table.PeriodColumns.{PeriodColumns}
use Rattle.catalog_core.specs.declared.table.Reference.{Reference}
use Rattle.catalog_core.specs.declared.table.TableDef.{TableDef}

-- if two fit parts begin the same values, they are the same part
abbrev IsExact : {A : Type 0} → (A → Bool) → (A → List Value) → Type 0
IsExact {A} fits written = (x y : A) (a b : List Value) → fits x ≡ true → fits y ≡ true → written x ++ a ≡ written y ++ b → x ≡ y

place_exact : (fits : ℕ → Bool) → IsExact fits place_values
place_exact fits x y a b left right same = cc

precision_exact : (p q : Option ℕ) → written_precision p ≡ written_precision q → p ≡ q
precision_exact None None same = refl
precision_exact None (Some q) same = cc
precision_exact (Some p) None same = cc
precision_exact (Some p) (Some q) same = cc

kind_exact : (x y : ColumnKind) (a b : List Value) → kind_values x ++ a ≡ kind_values y ++ b → x ≡ y
kind_exact Integer Integer a b same = refl
kind_exact Integer (Varchar m) a b same = cc
kind_exact Integer Date a b same = cc
kind_exact Integer (RowStart q) a b same = cc
kind_exact Integer (RowEnd q) a b same = cc
kind_exact (Varchar n) Integer a b same = cc
kind_exact (Varchar n) (Varchar m) a b same = cc
kind_exact (Varchar n) Date a b same = cc
kind_exact (Varchar n) (RowStart q) a b same = cc
kind_exact (Varchar n) (RowEnd q) a b same = cc
kind_exact Date Integer a b same = cc
kind_exact Date (Varchar m) a b same = cc
kind_exact Date Date a b same = refl
kind_exact Date (RowStart q) a b same = cc
kind_exact Date (RowEnd q) a b same = cc
kind_exact (RowStart p) Integer a b same = cc
kind_exact (RowStart p) (Varchar m) a b same = cc
kind_exact (RowStart p) Date a b same = cc
kind_exact (RowStart p) (RowStart q) a b same = let precision : written_precision p ≡ written_precision q = cc in ap RowStart (precision_exact p q precision)
kind_exact (RowStart p) (RowEnd q) a b same = cc
kind_exact (RowEnd p) Integer a b same = cc
kind_exact (RowEnd p) (Varchar m) a b same = cc
kind_exact (RowEnd p) Date a b same = cc
kind_exact (RowEnd p) (RowStart q) a b same = cc
kind_exact (RowEnd p) (RowEnd q) a b same = let precision : written_precision p ≡ written_precision q = cc in ap RowEnd (precision_exact p q precision)

column_of : List ℕ → ColumnKind → Column
column_of name kind = record { name = name; kind = kind }

column_exact : IsExact is_column column_values
unfolding column_of
column_exact x y a b left right same =
    let name : x.name ≡ y.name = cc in
    let kind : x.kind ≡ y.kind = kind_exact x.kind y.kind a b (ap (drop 1) same) in
    ap (λ (n : List ℕ). column_of n x.kind) name ∙ ap (column_of y.name) kind

-- a list of parts, with their number before them, is read exactly
list_exact : {A : Type 0} (fits : A → Bool) (written : A → List Value) → IsPrefixCode fits written → IsExact fits written
    → (xs ys : List A) (a b : List Value) → length xs ≡ length ys → list_all fits xs ≡ true → list_all fits ys ≡ true
    → flat_map written xs ++ a ≡ flat_map written ys ++ b → xs ≡ ys
list_exact fits written code exact [] [] a b long left right same = refl
list_exact fits written code exact [] (y ∷ ys) a b long left right same = absurd (omega (arith, long))
list_exact fits written code exact (x ∷ xs) [] a b long left right same = absurd (omega (arith, long))
list_exact {A} fits written code exact (x ∷ xs) (y ∷ ys) a b long left right same =
    let first = and_parts (fits x) (list_all fits xs) left in
    let second = and_parts (fits y) (list_all fits ys) right in
    let apart : written x ++ (flat_map written xs ++ a) ≡ written y ++ (flat_map written ys ++ b) =
    sym (append_assoc (written x) (flat_map written xs) a) ∙ same ∙ append_assoc (written y) (flat_map written ys) b in
    let head : x ≡ y = exact x y (flat_map written xs ++ a) (flat_map written ys ++ b) first.0 second.0 apart in
    let tail : xs ≡ ys = list_exact fits written code exact xs ys a b (omega (arith, long)) first.1 second.1
    (code x y (flat_map written xs ++ a) (flat_map written ys ++ b) first.0 second.0 apart) in
    ap (λ (z : A). z ∷ xs) head ∙ ap (λ (zs : List A). y ∷ zs) tail

counted_exact : {A : Type 0} (fits : A → Bool) (written : A → List Value) → IsPrefixCode fits written → IsExact fits written → IsExact (list_all fits) (counted written)
counted_exact fits written code exact xs ys a b left right same =
    list_exact fits written code exact xs ys a b (counted_length written xs ys a b same) left right (ap (drop 1) same)

places_exact : (xs ys : List ℕ) (a b : List Value) → counted place_values xs ++ a ≡ counted place_values ys ++ b → xs ≡ ys
places_exact xs ys a b same = counted_exact is_any place_values (place_code is_any) (place_exact is_any) xs ys a b (any_all xs) (any_all ys) same

period_of : List ℕ → ℕ → ℕ → PeriodColumns
period_of name start end = record { name = name; start = start; end = end }

period_exact : (x y : PeriodColumns) (a b : List Value) → period_values x ++ a ≡ period_values y ++ b → x ≡ y
unfolding period_of
period_exact x y a b same =
    let name : x.name ≡ y.name = cc in
    let start : x.start ≡ y.start = cc in
    let end : x.end ≡ y.end = cc in
    ap (λ (n : List ℕ). period_of n x.start x.end) name ∙ ap (λ (s : ℕ). period_of y.name s x.end) start ∙ ap (period_of y.name y.start) end

reference_of : ℕ → List ℕ → List ℕ → Reference
reference_of parent own keys = record { parent = parent; own = own; keys = keys }

reference_exact : (count : ℕ) → IsExact (is_small_reference count) reference_values
unfolding reference_of
reference_exact count x y a b left right same =
    let first = reference_parts count x ((and_parts (nat_lt x.parent 256) (is_reference count x) left).1) in
    let second = reference_parts count y ((and_parts (nat_lt y.parent 256) (is_reference count y) right).1) in
    let apart : number x.parent ∷ (counted place_values x.own ++ (flat_map place_values x.keys ++ a)) ≡ number y.parent ∷ (counted place_values y.own ++ (flat_map place_values y.keys ++ b)) =
    sym (parent_first x a) ∙ same ∙ parent_first y b in
    let parent : x.parent ≡ y.parent = cc in
    let lists : counted place_values x.own ++ (flat_map place_values x.keys ++ a) ≡ counted place_values y.own ++ (flat_map place_values y.keys ++ b) = ap (drop 1) apart in
    let own : x.own ≡ y.own = places_exact x.own y.own (flat_map place_values x.keys ++ a) (flat_map place_values y.keys ++ b) lists in
    let long : length x.own ≡ length y.own = ap length own in
    let as_long : length x.keys ≡ length y.keys = omega (arith, long, same_length (length x.own) (length x.keys) first.lengths, same_length (length y.own) (length y.keys) second.lengths) in
    let keys : x.keys ≡ y.keys = list_exact is_any place_values (place_code is_any) (place_exact is_any) x.keys y.keys a b as_long (any_all x.keys) (any_all y.keys)
    (places_rest x.own y.own (flat_map place_values x.keys ++ a) (flat_map place_values y.keys ++ b) lists) in
    ap (λ (p : ℕ). reference_of p x.own x.keys) parent ∙ ap (λ (o : List ℕ). reference_of y.parent o x.keys) own ∙ ap (reference_of y.parent y.own) keys

-- ==== the whole ====

record Parts : Type 0 where
  columns : List Column
  period : PeriodColumns
  key : List ℕ
  references : List Reference

parts_of : TableDef → Parts
parts_of d = record { columns = d.columns; period = d.period; key = d.key; references = d.references }

parts_with : List Column → PeriodColumns → List ℕ → List Reference → Parts
parts_with columns period key references = record { columns = columns; period = period; key = key; references = references }

abbrev AreSound : Parts → Type 0
AreSound p = IsDefinition p.columns p.period p.key p.references

definition_of : List ℕ → (p : Parts) → AreSound p → TableDef
definition_of name p sound = record { name = name; columns = p.columns; period = p.period; key = p.key; references = p.references; sound = sound }

-- a definition is its name and its parts
same_definition : (d e : TableDef) → d.name ≡ e.name → parts_of d ≡ parts_of e → d ≡ e
unfolding definition_of parts_of
same_definition d e name parts =
    let Same : Parts → Type 0 = λ p. (sound : AreSound p) → d ≡ definition_of d.name p sound in
    let first : Same (parts_of d) = λ sound. ap (definition_of d.name (parts_of d)) (Coded-set coded_bool (is_definition d.columns d.period d.key d.references) true d.sound sound) in
    subst Same parts first e.sound ∙ ap (λ (n : List ℕ). definition_of n (parts_of e) e.sound) name

pub same_values : (d e : TableDef) → is_writable d ≡ true → is_writable e ≡ true → definition_values d ≡ definition_values e → d ≡ e
unfolding parts_of parts_with
same_values d e left right same =
    let first = fit d left in
    let second = fit e right in
    let named = sym (split d) ∙ same ∙ split e in
    let name : d.name ≡ e.name = cc in
    let one : values_after_name d ≡ values_after_name e = ap (drop 1) named in
    let columns : d.columns ≡ e.columns = counted_exact is_column column_values column_code column_exact d.columns e.columns (values_after_columns d) (values_after_columns e) first.columned second.columned one in
    let two : values_after_columns d ≡ values_after_columns e = counted_code is_column column_values column_code d.columns e.columns (values_after_columns d) (values_after_columns e) first.columned second.columned one in
    let period : d.period ≡ e.period = period_exact d.period e.period (values_after_period d) (values_after_period e) two in
    let three : values_after_period d ≡ values_after_period e = period_rest d.period e.period (values_after_period d) (values_after_period e) two in
    let key : d.key ≡ e.key = places_exact d.key e.key (counted reference_values d.references) (counted reference_values e.references) three in
    let four : counted reference_values d.references ≡ counted reference_values e.references =
    places_rest d.key e.key (counted reference_values d.references) (counted reference_values e.references) three in
    let count : ℕ = length d.columns in
    let Fits : List Column → Type 0 = λ cs. list_all (is_small_reference (length cs)) e.references ≡ true in
    let references : d.references ≡ e.references =
    counted_exact (is_small_reference count) reference_values (reference_code count) (reference_exact count) d.references e.references [] []
    first.referring (subst Fits (sym columns) second.referring)
    (append-nil (counted reference_values d.references) ∙ four ∙ sym (append-nil (counted reference_values e.references))) in
    let parts : parts_of d ≡ parts_of e =
    ap (λ (cs : List Column). parts_with cs d.period d.key d.references) columns
    ∙ ap (λ (p : PeriodColumns). parts_with e.columns p d.key d.references) period
    ∙ ap (λ (k : List ℕ). parts_with e.columns e.period k d.references) key
    ∙ ap (parts_with e.columns e.period e.key) references in
    same_definition d e name parts

-- definitions with the same bytes are one definition
pub reads_back : DefinitionReadsBack
reads_back a b bytes (left, held, same) (right, kept, alike) =
    same_values a b left right (encoding.reads_back (definition_values a) (definition_values b) held kept (same ∙ sym alike))
