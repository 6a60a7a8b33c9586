-- Lists of words, and the reserved words.
use Rattle.std.proofs.Common.{◌≡◌, ℕ, ◌<◌, ◌≤◌, List, [], ◌∷◌, Bool, cond, true, false, ◌&&◌, ◌||◌, Bor, length, leb, map, refl, sym, ap, arith, ◌∙◌}
use Rattle.std.specs.Char.{to_ascii_lowercase}
use Rattle.std.specs.List.{filter, list_any}
use Rattle.std.specs.Str.{bytes_eq}
use Rattle.std.proofs.lemmas.Bool.{false≢true, le-leb}
use Rattle.std.proofs.lemmas.List.{length-map}
use Rattle.std.proofs.lemmas.Slice.Eq.{bytes_eq-Decides}
use Rattle.sql_statements.specs.Words.{folded, is_among, reserved, is_reserved}

-- a text is one of the words that the program has in memory
pub among_texts : (text : List ℕ) (words : List (Bor (List ℕ))) → list_any (λ (word : Bor (List ℕ)). bytes_eq (folded text) (folded word.now)) words ≡ is_among text (map (λ (word : Bor (List ℕ)). word.now) words)
among_texts text [] = refl
among_texts text (word ∷ words) = ap (λ (b : Bool). bytes_eq (folded text) (folded word.now) || b) (among_texts text words)

-- a word of the list is reserved
pub listed : (w : List ℕ) → is_among w reserved ≡ true → is_reserved w ≡ true
unfolding is_reserved
listed w e = e

among_same : (a b : List ℕ) (ws : List (List ℕ)) → folded a ≡ folded b → is_among a ws ≡ is_among b ws
among_same a b [] e = refl
among_same a b (w ∷ ws) e = ap (λ (t : List ℕ). bytes_eq t (folded w) || is_among a ws) e ∙ ap (λ (c : Bool). bytes_eq (folded b) (folded w) || c) (among_same a b ws e)

-- words that differ in case alone are both reserved or not
pub reserved_same : (a b : List ℕ) → folded a ≡ folded b → is_reserved a ≡ is_reserved b
unfolding is_reserved
reserved_same a b e = among_same a b reserved e

-- ---- of the reserved words, the words of about a length suffice

same_length : (a b : List ℕ) → folded a ≡ folded b → length a ≡ length b
same_length a b e = sym (length-map a to_ascii_lowercase) ∙ ap length e ∙ length-map b to_ascii_lowercase

differ : (p : ℕ → Bool) (text w : List ℕ) → p (length text) ≡ true → p (length w) ≡ false → bytes_eq (folded text) (folded w) ≡ false
differ p text w within without = go (bytes_eq (folded text) (folded w)) refl
  where
    go : (b : Bool) → bytes_eq (folded text) (folded w) ≡ b → b ≡ false
    go false e = refl
    go true e =
        let same : length text ≡ length w = same_length text w ((bytes_eq-Decides (folded text) (folded w)).0 e) in
        absurd (false≢true (sym without ∙ ap p (sym same) ∙ within))

narrowed : (p : ℕ → Bool) (text : List ℕ) → p (length text) ≡ true → (words : List (List ℕ)) → is_among text (filter (λ w. p (length w)) words) ≡ is_among text words
narrowed p text within [] = refl
narrowed p text within (w ∷ words) = go (p (length w)) refl (narrowed p text within words)
  where
    go : (b : Bool) → p (length w) ≡ b → is_among text (filter (λ v. p (length v)) words) ≡ is_among text words →
        is_among text (cond b (w ∷ filter (λ v. p (length v)) words) (filter (λ v. p (length v)) words)) ≡ is_among text (w ∷ words)
    go true e rest = ap (λ (b : Bool). bytes_eq (folded text) (folded w) || b) rest
    go false e rest = rest ∙ sym (ap (λ (b : Bool). b || is_among text words) (differ p text w within e))

abbrev pub from_to : ℕ → ℕ → ℕ → Bool
from_to least most n = leb least n && leb n most

-- the reserved words of some lengths alone
abbrev pub of_length : ℕ → ℕ → List (List ℕ)
of_length least most = filter (λ w. from_to least most (length w)) reserved

within : (least most n : ℕ) → least ≤ n → n ≤ most → from_to least most n ≡ true
within least most n from to = ap (λ (b : Bool). b && leb n most) (le-leb least n from) ∙ le-leb n most to

pub by_length : (least most : ℕ) (text : List ℕ) → least ≤ length text → length text ≤ most → is_among text (of_length least most) ≡ is_reserved text
unfolding is_reserved
by_length least most text from to = narrowed (from_to least most) text (within least most (length text) from to) reserved

pub too_short : (text : List ℕ) → length text < 2 → false ≡ is_reserved text
too_short text short = by_length 0 1 text (omega arith) (omega (arith, short))

pub too_long : (text : List ℕ) → 11 < length text → false ≡ is_reserved text
unfolding is_reserved
too_long text long = narrowed (λ n. leb 12 n) text (le-leb 12 (length text) (omega (arith, long))) reserved
