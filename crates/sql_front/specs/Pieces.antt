-- Pieces: what is between the semicolons of a script.
use Rattle.std.specs.Prelude.{◌≡◌, ℕ, ◌+◌, ◌<◌, ◌≤◌, Bool, true, false, List, [], ◌∷◌, ◌++◌}
use Rattle.std.specs.Prelude.{codes, filter, length, nat_lt}
use Rattle.std.specs.List.{list_any, slice_range}
use Rattle.std.specs.Str.{bytes_eq}
use Rattle.sql_front.specs.declared.pieces.Span.{Span}
use Rattle.sql_statements.specs.Lexemes.{Lexeme}

-- a semicolon: no other token has this text
abbrev pub is_semicolon : Lexeme → Bool
is_semicolon token = bytes_eq token.text (codes ";")

-- none of the tokens is a semicolon
abbrev pub HasNoSemicolon : List Lexeme → Type 0
HasNoSemicolon tokens = list_any is_semicolon tokens ≡ false

-- parts without semicolons make these tokens, joined with one semicolon between each two
pub data Joined : List (List Lexeme) → List Lexeme → Type 0 where
  one : (part : List Lexeme) → HasNoSemicolon part → Joined (part ∷ []) part
  more : (part : List Lexeme) (semicolon : Lexeme) {parts : List (List Lexeme)} {rest : List Lexeme}
      → HasNoSemicolon part → is_semicolon semicolon ≡ true → Joined parts rest
      → Joined (part ∷ parts) (part ++ semicolon ∷ rest)

-- a list of one token or more
abbrev pub is_nonempty : List Lexeme → Bool
is_nonempty [] = false
is_nonempty (token ∷ tokens) = true

-- the pieces of the tokens: the parts that are not empty, in order
abbrev pub HasPieces : List Lexeme → List (List Lexeme) → Type 0
HasPieces tokens pieces =
    (parts : List (List Lexeme)) × Joined parts tokens × (pieces ≡ filter is_nonempty parts)

-- the spans of parts that are joined with one token between each two, if the first begins at a
-- place
abbrev pub spans_from : ℕ → List (List Lexeme) → List Span
spans_from start [] = []
spans_from start (part ∷ parts) =
    record { start = start; end = start + length part }
    ∷ spans_from (start + length part + 1) parts

-- a span of one token or more
abbrev pub is_filled : Span → Bool
is_filled span = nat_lt span.start span.end

-- the spans of the pieces of some tokens, in order, if the first token is at a place:
-- of each two equal pieces each has its own
abbrev pub HasSpans : ℕ → List Lexeme → List Span → Type 0
HasSpans start tokens spans =
    (parts : List (List Lexeme))
    × Joined parts tokens
    × (spans ≡ filter is_filled (spans_from start parts))

-- the tokens of a span
abbrev pub spanned : List Lexeme → Span → List Lexeme
spanned tokens span = slice_range tokens span.start span.end

-- a span of one token or more, out of this many
abbrev pub IsWithin : ℕ → Span → Type 0
IsWithin count span = (span.start < span.end) × (span.end ≤ count)
