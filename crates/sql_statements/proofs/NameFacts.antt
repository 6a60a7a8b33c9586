-- A word in upper case is a name if the word is not reserved.
use Rattle.std.proofs.Common.{◌≡◌, ℕ, Bool, true, false, not, List, [], ◌∷◌, refl, sym, ap, rules, ◌∙◌, ◌&&◌, ◌==◌}
use Rattle.std.specs.Char.{to_ascii_uppercase, to_ascii_lowercase}
use Rattle.std.specs.List.{list_all}
use Rattle.std.specs.Str.{bytes_eq}
use Rattle.std.proofs.lemmas.Str.Ascii.{lowercase-uppercase, uppercase-uppercase}
use Rattle.std.proofs.lemmas.Slice.Eq.{bytes_eq-Decides}
use Rattle.sql_statements.specs.Lexis.{is_letter, is_word_byte}
use Rattle.sql_statements.specs.Words.{folded, is_reserved}
use Rattle.sql_statements.specs.Names.{is_word_text, is_plain_word, upper, is_name}
use Rattle.sql_statements.proofs.WordsFacts.{reserved_same}

upper_letter : (b : ℕ) → is_letter (to_ascii_uppercase b) ≡ is_letter b
upper_letter b = search rules

upper_word_byte : (b : ℕ) → is_word_byte (to_ascii_uppercase b) ≡ is_word_byte b
upper_word_byte b = search rules

upper_all : (text : List ℕ) → list_all is_word_byte (upper text) ≡ list_all is_word_byte text
upper_all [] = refl
upper_all (b ∷ text) = ap (λ c. c && list_all is_word_byte (upper text)) (upper_word_byte b) ∙ ap (λ c. is_word_byte b && c) (upper_all text)

upper_text : (text : List ℕ) → is_word_text (upper text) ≡ is_word_text text
upper_text [] = refl
upper_text (b ∷ text) = ap (λ c. c && list_all is_word_byte (upper text)) (upper_letter b) ∙ ap (λ c. is_letter b && c) (upper_all text)

folded_upper : (text : List ℕ) → folded (upper text) ≡ folded text
folded_upper [] = refl
folded_upper (b ∷ text) = ap (λ c. c ∷ folded (upper text)) (lowercase-uppercase b) ∙ ap (λ t. to_ascii_lowercase b ∷ t) (folded_upper text)

upper_upper : (text : List ℕ) → upper (upper text) ≡ upper text
upper_upper [] = refl
upper_upper (b ∷ text) = ap (λ c. c ∷ upper (upper text)) (uppercase-uppercase b) ∙ ap (λ t. to_ascii_uppercase b ∷ t) (upper_upper text)

pub upper_plain : (text : List ℕ) → is_plain_word (upper text) ≡ is_plain_word text
unfolding is_plain_word
upper_plain text =
    ap (λ c. c && not (is_reserved (upper text))) (upper_text text)
    ∙ ap (λ c. is_word_text text && not c) (reserved_same (upper text) text (folded_upper text))

both : (a b : Bool) → a ≡ true → b ≡ true → (a && b) ≡ true
both true b e f = f
both false b e f = absurd cc

pub upper_is_name : (text : List ℕ) → is_plain_word text ≡ true → is_name (upper text) ≡ true
unfolding is_name
upper_is_name text e =
    both (is_plain_word (upper text)) (bytes_eq (upper text) (upper (upper text))) (upper_plain text ∙ e)
    ((bytes_eq-Decides (upper text) (upper (upper text))).1 (sym (upper_upper text)))

-- each byte is its own upper case
pub upper_by_bytes : (text : List ℕ) → list_all (λ b. b == to_ascii_uppercase b) text ≡ bytes_eq text (upper text)
upper_by_bytes [] = refl
upper_by_bytes (b ∷ text) = ap (λ c. b == to_ascii_uppercase b && c) (upper_by_bytes text)
