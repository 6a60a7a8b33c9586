-- Reserved words: words that are no names. Case does not matter.
use Rattle.std.specs.Prelude.{ℕ, List, [], ◌∷◌, Bool, false, ◌||◌, codes, map}
use Rattle.std.specs.Char.{to_ascii_lowercase}
use Rattle.std.specs.Str.{bytes_eq}

-- a text in one case, so that its case does not matter
abbrev pub folded : List ℕ → List ℕ
folded text = map to_ascii_lowercase text

-- the text is one of the words, in any case
abbrev pub is_among : List ℕ → List (List ℕ) → Bool
is_among text [] = false
is_among text (w ∷ ws) = bytes_eq (folded text) (folded w) || is_among text ws

-- the words that are no names
abbrev pub reserved : List (List ℕ)
reserved =
    codes "ALWAYS" ∷ codes "AND" ∷ codes "AS" ∷ codes "AT" ∷ codes "BETWEEN" ∷ codes "CHARACTER" ∷
    codes "CONTAINS" ∷ codes "CREATE" ∷ codes "DATE" ∷ codes "DELETE" ∷ codes "DISTINCT" ∷
    codes "END" ∷ codes "EQUALS" ∷ codes "EXCEPT" ∷ codes "FOR" ∷ codes "FOREIGN" ∷ codes "FROM" ∷
    codes "GENERATED" ∷ codes "IMMEDIATELY" ∷ codes "INNER" ∷ codes "INSERT" ∷ codes "INTEGER" ∷
    codes "INTERSECT" ∷ codes "INTO" ∷ codes "JOIN" ∷ codes "KEY" ∷ codes "NOT" ∷ codes "NULL" ∷
    codes "OF" ∷ codes "ON" ∷ codes "OR" ∷ codes "OVERLAPS" ∷ codes "PERIOD" ∷ codes "PORTION" ∷
    codes "PRECEDES" ∷ codes "PRIMARY" ∷ codes "REFERENCES" ∷ codes "ROW" ∷ codes "SELECT" ∷
    codes "SET" ∷ codes "START" ∷ codes "SUCCEEDS" ∷ codes "SYSTEM" ∷ codes "SYSTEM_TIME" ∷
    codes "TABLE" ∷ codes "TIMESTAMP" ∷ codes "TO" ∷ codes "UNION" ∷ codes "UPDATE" ∷
    codes "VALIDTIME" ∷ codes "VALUES" ∷ codes "VARCHAR" ∷ codes "VARYING" ∷ codes "VERSIONING" ∷
    codes "WHERE" ∷ codes "WITH" ∷ codes "WITHOUT" ∷
    []

-- the word, in any case, is no name
unfoldable pub is_reserved : List ℕ → Bool
is_reserved text = is_among text reserved
