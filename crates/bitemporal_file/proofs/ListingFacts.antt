-- Texts of the elements of a list, appended one after the other, as `--tables` writes them.
use Rattle.std.proofs.Common.{◌≡◌, ◌+◌, ◌-◌, ◌<◌, ◌⊎◌, ◌++◌, ◌∷◌, ◌∙◌, ℕ, List, [], suc, add-one, ap, append_assoc, arith, drop, drop-cons, get_or, inl, inr, length, map, refl, sym, take}
use Rattle.std.specs.Prelude.{OnOk, Result, Ok, Err, codes, flat_map, if◌then◌else◌, is_ok}
use Rattle.std.specs.Fmt.{decimal}
use Rattle.std.specs.List.{zip}
use Rattle.std.proofs.lemmas.List.{append-nil, flat_map_more, take_more}
use Rattle.catalog_core.specs.declared.table.TableDef.{TableDef}
use Rattle.bitemporal_file.specs.Listing.{key_line, name_at, next_field, pair_names, table_lines, tables_lines}

-- a list's text, with one element's more
pub text-more : {X : Type 0} (f : X → List ℕ) (xs : List X) (i : ℕ) (x : X) (old text new : List ℕ) → i < length xs → x ≡ get_or xs i x → text ≡ old ++ flat_map f (take i xs) → new ≡ text ++ f x → new ≡ old ++ flat_map f (take (i + 1) xs)
text-more f xs i x old text new within is so_far more =
    let front : take i xs ++ x ∷ [] ≡ take (i + 1) xs = ap (λ y. take i xs ++ y ∷ []) is ∙ sym (take_more xs i x within) in
    more ∙ ap (λ t. t ++ f x) so_far ∙ flat_map_more f old (take i xs) x ∙ ap (λ ys. old ++ flat_map f ys) front

-- a reference's text, with one pair of names more
pub pair-more : (child parent : TableDef) (own keys owns others : List ℕ) (place key : ℕ) (text first second whole : List ℕ) → own ≡ place ∷ owns → keys ≡ key ∷ others →
    first ≡ text ++ next_field (name_at child place) → second ≡ first ++ next_field (name_at parent key) →
    text ++ flat_map next_field (flat_map (pair_names child parent) (zip own keys)) ≡ whole →
    second ++ flat_map next_field (flat_map (pair_names child parent) (zip owns others)) ≡ whole
pair-more child parent own keys owns others place key text first second whole is its one two so_far =
    let here = rw (is, its) at so_far in
    let rest = flat_map next_field (flat_map (pair_names child parent) (zip owns others)) in
    ap (λ t. t ++ rest) (two ∙ ap (λ t. t ++ next_field (name_at parent key)) one)
    ∙ append_assoc (text ++ next_field (name_at child place)) (next_field (name_at parent key)) rest
    ∙ append_assoc text (next_field (name_at child place)) (next_field (name_at parent key) ++ rest)
    ∙ here

-- a reference's text is whole if no pair is left
pub pairs-end : (child parent : TableDef) (own keys text whole : List ℕ) → (own ≡ []) ⊎ (keys ≡ []) →
    text ++ flat_map next_field (flat_map (pair_names child parent) (zip own keys)) ≡ whole → text ≡ whole
pairs-end child parent own keys text whole none so_far =
    let all : text ++ flat_map next_field (flat_map (pair_names child parent) []) ≡ whole = ap (λ pairs. text ++ flat_map next_field (flat_map (pair_names child parent) pairs)) (sym (no_pairs own keys none)) ∙ so_far in
    sym (append-nil text) ∙ all
  where
    no_pairs : (own keys : List ℕ) → (own ≡ []) ⊎ (keys ≡ []) → zip own keys ≡ []
    no_pairs [] keys none = refl
    no_pairs (place ∷ own) [] none = refl
    no_pairs (place ∷ own) (key ∷ keys) (inl is) = let no : ⊥ = cc in absurd no
    no_pairs (place ∷ own) (key ∷ keys) (inr is) = let no : ⊥ = cc in absurd no

drop_first : (tables : List TableDef) (i : ℕ) (table : TableDef) → i < length tables → table ≡ get_or tables i table → table ∷ drop (i + 1) tables ≡ drop i tables
drop_first tables i table within is =
    let here : drop i tables ≡ get_or tables i table ∷ drop (suc i) tables = drop-cons tables i table within in
    let next : i + 1 ≡ suc i = add-one i in
    let same : table ∷ drop (i + 1) tables ≡ table ∷ drop (suc i) tables = ap (λ n. table ∷ drop n tables) next in
    same ∙ ap (λ (t : TableDef). t ∷ drop (suc i) tables) is ∙ sym here

-- the list's text, with one table's more
pub table-more : (tables : List TableDef) (versions : ℕ → ℕ) (i : ℕ) (table : TableDef) (text new whole : List ℕ) → i < length tables → table ≡ get_or tables i table →
    new ≡ text ++ table_lines tables (i + 1) table (versions (i + 1)) →
    text ++ tables_lines tables versions (i + 1) (drop i tables) ≡ whole →
    new ++ tables_lines tables versions ((i + 1) + 1) (drop (i + 1) tables) ≡ whole
table-more tables versions i table text new whole within is more so_far =
    let rest = tables_lines tables versions ((i + 1) + 1) (drop (i + 1) tables) in
    let cut : drop i tables ≡ table ∷ drop (i + 1) tables = sym (drop_first tables i table within is) in
    let here = rw cut at so_far in
    ap (λ t. t ++ rest) more ∙ append_assoc text (table_lines tables (i + 1) table (versions (i + 1))) rest ∙ here

-- the names of columns, as fields
pub names-joined : (table : TableDef) (places : List ℕ) → flat_map (λ (place : ℕ). next_field (name_at table place)) places ≡ flat_map next_field (map (name_at table) places)
names-joined table [] = refl
names-joined table (place ∷ places) = ap (λ rest. next_field (name_at table place) ++ rest) (names-joined table places)

-- the text that a push writes if there is memory
pub where-ok : {T E A : Type 0} (result : Result T E) (new pushed old : A) → new ≡ (if is_ok result then pushed else old) → OnOk result (new ≡ pushed)
where-ok (Ok x) new pushed old is = is
where-ok (Err e) new pushed old is = tt

-- the record of a table's key
pub key-text : (n : ℕ) (table : TableDef) (old begun named new : List ℕ) → begun ≡ old ++ (codes "key," ++ decimal n) →
    named ≡ begun ++ flat_map (λ (place : ℕ). next_field (name_at table place)) table.key → new ≡ named ++ codes "\n" → new ≡ old ++ key_line n table
key-text n table old begun named new first second third =
    let all = flat_map next_field (map (name_at table) table.key) in
    let names : named ≡ begun ++ all = second ∙ ap (λ fields. begun ++ fields) (names-joined table table.key) in
    rw (third, names, first) (simp append_assoc)

-- the count of the table at a place
pub count-at : (counts : List ℕ) (place versions : ℕ) → versions ≡ get_or counts place 0 → versions ≡ get_or counts ((place + 1) - 1) 0
count-at counts place versions is =
    let same : (place + 1) - 1 ≡ place = omega arith in
    is ∙ sym (ap (λ k. get_or counts k 0) same)
