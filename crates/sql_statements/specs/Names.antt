-- Names: words that are not reserved, in upper case.
use Rattle.std.specs.Prelude.{ℕ, List, [], ◌∷◌, Bool, false, not, ◌&&◌, map}
use Rattle.std.specs.Char.{to_ascii_uppercase}
use Rattle.std.specs.List.{list_all}
use Rattle.std.specs.Str.{bytes_eq}
use Rattle.sql_statements.specs.Lexis.{is_letter, is_word_byte}
use Rattle.sql_statements.specs.Words.{is_reserved}

-- a letter, then letters and digits
abbrev pub is_word_text : List ℕ → Bool
is_word_text [] = false
is_word_text (first ∷ rest) = is_letter first && list_all is_word_byte rest

-- a word that is not reserved
unfoldable pub is_plain_word : List ℕ → Bool
is_plain_word text = is_word_text text && not (is_reserved text)

-- the text in upper case
abbrev pub upper : List ℕ → List ℕ
upper text = map to_ascii_uppercase text

-- a word that is not reserved, in upper case
unfoldable pub is_name : List ℕ → Bool
is_name text = is_plain_word text && bytes_eq text (upper text)
