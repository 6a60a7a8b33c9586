-- The tokens of a script: from left to right, at each place the first case that fits applies.
use Rattle.std.specs.Prelude.{◌≡◌, ℕ, ◌+◌, ◌-◌, ◌^◌, ◌<◌, ◌≤◌, Bool, false, ◌||◌, ◌==◌, nat_eq}
use Rattle.std.specs.Prelude.{codes, if◌then◌else◌, List, [], ◌∷◌, length, take, drop, Option, Some}
use Rattle.std.specs.Prelude.{None}
use Rattle.std.specs.Char.{is_ascii_alphabetic, is_ascii_digit}
use Rattle.std.specs.Int.{is_in_range}
use Rattle.std.specs.List.{prefix_len, slice_range, starts_with}
use Rattle.std.specs.Str.{IsCharBoundary}
use Rattle.std.specs.Io.BufRead.{take_through}
use Prim.Native.String.{String}
use Rattle.sql_statements.specs.declared.token.TokenKind.{TokenKind}
use Rattle.sql_statements.specs.declared.token.TokenKind.TheVariants.{Word, Number, Text, Symbol}
use Rattle.sql_statements.specs.declared.lexeme.Front.{Front}
use Rattle.sql_statements.specs.declared.lexeme.Front.TheVariants as front
use Rattle.sql_statements.specs.Lexemes.{Lexeme}

-- ---- bytes

-- each text in memory has fewer bytes than this
abbrev pub text_limit : ℕ
text_limit = 2 ^ 63

-- the byte that ends a line
abbrev pub line_feed : ℕ
line_feed = 10

-- the byte '
abbrev pub quote : ℕ
quote = 39

-- the byte is among the bytes
abbrev pub is_one_of : List ℕ → ℕ → Bool
is_one_of [] b = false
is_one_of (c ∷ []) b = b == c
is_one_of (c ∷ d ∷ rest) b = b == c || is_one_of (d ∷ rest) b

-- the byte is among the ASCII characters
infix 60 ◌∈◌
abbrev pub ◌∈◌ : ℕ → String → Bool
b ∈ characters = is_one_of (codes characters) b

-- the bytes begin with these ASCII characters
abbrev pub begins_with : String → List ℕ → Bool
begins_with characters bytes = starts_with nat_eq bytes (codes characters)

-- tab, line feed, vertical tab, form feed, carriage return; a space
abbrev pub is_blank : ℕ → Bool
is_blank b = is_in_range 9 13 b || b ∈ " "

-- an ASCII letter, or an underscore
abbrev pub is_letter : ℕ → Bool
is_letter b = is_ascii_alphabetic b || b ∈ "_"

-- an ASCII digit
abbrev pub is_digit : ℕ → Bool
is_digit b = is_ascii_digit b

-- a byte that a word may have after its first letter
abbrev pub is_word_byte : ℕ → Bool
is_word_byte b = is_letter b || is_digit b

-- a symbol of one byte
abbrev pub is_symbol_byte : ℕ → Bool
is_symbol_byte b = b ∈ "(),;.*=<>+-"

-- a symbol of one byte with which neither a longer one nor a comment begins
abbrev pub is_lone_symbol : ℕ → Bool
is_lone_symbol b = b ∈ "(),;.*=+"

-- a symbol of two bytes is first
abbrev pub begins_pair : List ℕ → Bool
begins_pair bytes = begins_with "<>" bytes || begins_with "<=" bytes || begins_with ">=" bytes

-- ---- the first lexeme

-- a size, if there is one, and n more
abbrev pub longer : ℕ → Option ℕ → Option ℕ
longer n None = None
longer n (Some m) = Some (n + m)

-- after an opening quote: characters other than quotes, pairs of quotes, and then the quote that
-- ends the text, which no quote follows; how many bytes these take, if the text ends
unfoldable pub quoted_size : List ℕ → Option ℕ
quoted_size [] = None
quoted_size (b ∷ []) = if b == quote then Some 1 else None
quoted_size (b ∷ c ∷ rest) =
    if b == quote then (if c == quote then longer 2 (quoted_size rest) else Some 1)
    else longer 1 (quoted_size (c ∷ rest))

-- a text of this size, if there is one
abbrev pub text_of_size : Option ℕ → Front
text_of_size None = front.Bad
text_of_size (Some n) = front.Lexeme Text n

-- the first lexeme, and the number of its bytes
unfoldable pub first_lexeme : List ℕ → Front
first_lexeme [] = front.Bad
first_lexeme (b ∷ rest) =
    if is_blank b then front.Blank 1
    else if begins_with "--" (b ∷ rest) then front.Blank (1 + length (take_through line_feed rest))
    else if is_letter b then front.Lexeme Word (1 + prefix_len is_word_byte rest)
    else if is_digit b then front.Lexeme Number (1 + prefix_len is_digit rest)
    else if b == quote then text_of_size (longer 1 (quoted_size rest))
    else if begins_pair (b ∷ rest) then front.Lexeme Symbol 2
    else if is_symbol_byte b then front.Lexeme Symbol 1
    else front.Bad

-- the first lexeme is not empty, and ends between characters
abbrev pub EndsBetween : Front → List ℕ → Type 0
EndsBetween (front.Blank n) bytes = (0 < n) × IsCharBoundary bytes n
EndsBetween (front.Lexeme kind n) bytes = (0 < n) × IsCharBoundary bytes n
EndsBetween front.Bad bytes = Unit {0}

-- ---- tokens

-- from this offset on, these bytes have these tokens
pub data TokensFrom : ℕ → List ℕ → List Lexeme → Type 0 where
  ended : {at : ℕ} → TokensFrom at [] []
  blank : {at : ℕ} {bytes : List ℕ} {more : List Lexeme} (n : ℕ)
      → first_lexeme bytes ≡ front.Blank n → TokensFrom (at + n) (drop n bytes) more
      → TokensFrom at bytes more
  token : {at : ℕ} {bytes : List ℕ} {more : List Lexeme} (k : TokenKind) (n : ℕ)
      → first_lexeme bytes ≡ front.Lexeme k n → TokensFrom (at + n) (drop n bytes) more
      → TokensFrom at bytes
      (record { kind = k; text = take n bytes; start = at; end = at + n } ∷ more)

-- from this offset on, the first place where none of the cases fits is at that offset
pub data StopsFrom : ℕ → List ℕ → ℕ → Type 0 where
  here : {at b : ℕ} {rest : List ℕ}
      → first_lexeme (b ∷ rest) ≡ front.Bad → StopsFrom at (b ∷ rest) at
  blank : {at bad : ℕ} {bytes : List ℕ} (n : ℕ)
      → first_lexeme bytes ≡ front.Blank n → StopsFrom (at + n) (drop n bytes) bad
      → StopsFrom at bytes bad
  token : {at bad : ℕ} {bytes : List ℕ} (k : TokenKind) (n : ℕ)
      → first_lexeme bytes ≡ front.Lexeme k n → StopsFrom (at + n) (drop n bytes) bad
      → StopsFrom at bytes bad

-- the byte order mark: U+FEFF in UTF-8
abbrev pub byte_order_mark : List ℕ
byte_order_mark = 239 ∷ 187 ∷ 191 ∷ []

-- a byte order mark at the start of a script is passed over: how many bytes it takes
abbrev pub byte_order_mark_size : List ℕ → ℕ
byte_order_mark_size script = if starts_with nat_eq script byte_order_mark then 3 else 0

-- the tokens of a script
abbrev pub TokensOf : List ℕ → List Lexeme → Type 0
TokensOf script tokens =
    TokensFrom (byte_order_mark_size script) (drop (byte_order_mark_size script) script) tokens

-- the first offset of a script at which none of the cases fits
abbrev pub StopsAt : List ℕ → ℕ → Type 0
StopsAt script bad =
    StopsFrom (byte_order_mark_size script) (drop (byte_order_mark_size script) script) bad

-- a token is first at its place, and is the slice of the script at its span
pub record IsTokenAt (script : List ℕ) (token : Lexeme) : Type 0 where
  pub first : first_lexeme (drop token.start script)
      ≡ front.Lexeme token.kind (token.end - token.start)
  pub slice : token.text ≡ slice_range script token.start token.end
  pub some : token.start < token.end
  pub within : token.end ≤ length script
