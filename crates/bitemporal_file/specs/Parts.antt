-- The parts into which semicolons and the lines of commands cut a session.
use Rattle.std.specs.Prelude.{◌≡◌, ◌≢◌, ◌<◌, ◌≤◌, ◌++◌, ◌∷◌, ℕ, Bool, List, [], length}
use Rattle.std.specs.Prelude.{◌==◌, ◌||◌, ◌+◌, ◌⊎◌, All, Option, if◌then◌else◌, false, true}
use Rattle.std.specs.Io.KnownBytes.{Consumes, IsAtEnd}
use Rattle.sql_statements.specs.Lexis.{TokensOf, ◌∈◌, is_blank, line_feed, quote}
use Rattle.command_line.specs.declared.fault.RunFault.{RunFault}
use Rattle.command_line.specs.declared.fault.RunFault.TheVariants.{Read}
use Rattle.script_engine.specs.script.Script.{most_bytes}
use Rattle.bitemporal_file.specs.declared.parts.Place.{Place}
use Rattle.bitemporal_file.specs.declared.parts.Place.TheVariants.{Outside, AfterDash, InComment}
use Rattle.bitemporal_file.specs.declared.parts.Place.TheVariants.{InText, Ended}
use Rattle.bitemporal_file.specs.declared.parts.Part.{Part}
use Rattle.bitemporal_file.specs.declared.parts.Part.TheVariants.{Whole, TooLarge, Command}
use Rattle.bitemporal_file.specs.declared.parts.CommandLine.{CommandLine}

-- the place after a byte that is outside of texts and comments, if a dash leads to this place
abbrev pub outside_after : Place → ℕ → Place
outside_after dash byte =
    if byte == quote then InText
    else (if byte ∈ ";" then Ended else (if byte ∈ "-" then dash else Outside))

-- the place after a byte that is at a place: two dashes begin a comment, which ends with its line;
-- a quote begins a text and ends it
abbrev pub place_after : Place → ℕ → Place
place_after Outside byte = outside_after AfterDash byte
place_after AfterDash byte = outside_after InComment byte
place_after InComment byte = if byte == line_feed then Outside else InComment
place_after InText byte = if byte == quote then Outside else InText
place_after Ended byte = Ended

-- the place after bytes, the first of which is at this place
abbrev pub place_after_all : Place → List ℕ → Place
place_after_all place [] = place
place_after_all place (byte ∷ bytes) = place_after_all (place_after place byte) bytes

-- no semicolon of the bytes is outside of texts and comments
abbrev pub IsOpen : List ℕ → Type 0
IsOpen bytes = place_after_all Outside bytes ≢ Ended

-- the last byte is a semicolon outside of texts and comments, and no other is
abbrev pub EndsAtSemicolon : List ℕ → Type 0
EndsAtSemicolon bytes =
    (front : List ℕ) × (byte : ℕ) × (bytes ≡ front ++ byte ∷ []) × IsOpen front
    × (place_after_all Outside bytes ≡ Ended)

-- blanks and comments alone
abbrev pub HasNoToken : List ℕ → Type 0
HasNoToken bytes = TokensOf bytes []

-- the bytes are more than blanks and comments, and no semicolon ends them
abbrev pub IsUnfinished : List ℕ → Type 0
IsUnfinished bytes = IsOpen bytes × ¬ HasNoToken bytes

-- the part as it is held: its bytes, or that it has more than a script may have, and how many; of
-- the line of a command how many bytes it has, with the blanks and comments before it
abbrev pub IsPartOf : List ℕ → Part → Type 0
IsPartOf bytes (Whole kept) = (kept.items ≡ bytes) × (length bytes ≤ most_bytes)
IsPartOf bytes (TooLarge count) = (count ≡ length bytes) × (most_bytes < length bytes)
IsPartOf bytes (Command line) = line.count ≡ length bytes

-- a byte at a place is of a blank or a comment, or a dash that may begin one
abbrev pub is_blank_at : Place → ℕ → Bool
is_blank_at Outside byte = is_blank byte || byte ∈ "-"
is_blank_at AfterDash byte = byte ∈ "-"
is_blank_at InComment byte = true
is_blank_at InText byte = false
is_blank_at Ended byte = false

-- why no byte was read: the reader failed
abbrev pub IsUnread : Bool → RunFault → Type 0
IsUnread failed fault = (fault ≡ Read) × (failed ≡ true)

-- ---- the lines of commands

-- the byte with which the line of a command begins
abbrev pub dot : ℕ
dot = 46

-- a line begins after these bytes, the first of which begins one or does not
abbrev pub begins_line : Bool → List ℕ → Bool
begins_line starts [] = starts
begins_line starts (byte ∷ bytes) = begins_line (byte == line_feed) bytes

-- a dot after these bytes is a command's: it begins a line, and a statement could begin there
abbrev pub CommandBegins : Bool → List ℕ → Type 0
CommandBegins starts front = HasNoToken front × (begins_line starts front ≡ true)

-- none of the bytes begins a command
abbrev pub HasNoCommand : Bool → List ℕ → Type 0
HasNoCommand starts bytes =
    (front rest : List ℕ) → bytes ≡ front ++ dot ∷ rest → ¬ CommandBegins starts front

-- the held line of a command: of one that has more bytes than a script may have, nothing
pub record IsKeptOf (line kept : List ℕ) : Type 0 where
  pub whole : length line ≤ most_bytes → kept ≡ line
  pub none : most_bytes < length line → kept ≡ []

-- the line of a command after its dot, which its line feed ends or the input
pub record IsLineUpTo (line end : List ℕ) (left : Option (List ℕ)) : Type 0 where
  pub one : All (λ byte. byte ≢ line_feed) line
  pub ends : (end ≡ line_feed ∷ []) ⊎ ((end ≡ []) × IsAtEnd left)

-- the bytes are blanks and comments, and then the line of a command, which is held as these bytes
pub record IsCommandLine (starts : Bool) (bytes kept : List ℕ) (left : Option (List ℕ)) : Type 0
  where
    pub front : List ℕ
    pub line : List ℕ
    pub end : List ℕ
    pub whole : bytes ≡ front ++ dot ∷ (line ++ end)
    pub begins : CommandBegins starts front
    pub ended : IsLineUpTo line end left
    pub kept_of : IsKeptOf line kept

-- the rest of the line of a command was read, after so many bytes
pub record IsRestOfLine (before : ℕ) (known left : Option (List ℕ)) (read : CommandLine) : Type 0
  where
    pub line : List ℕ
    pub end : List ℕ
    pub taken : Consumes known left (line ++ end)
    pub ended : IsLineUpTo line end left
    pub kept_of : IsKeptOf line read.bytes.items
    pub count : read.count ≡ before + length (line ++ end)

-- a part that is begun: its bytes so far, which no semicolon ends and of which none begins a
-- command; or a command's, up to within its line
abbrev pub IsBegun : Bool → List ℕ → Type 0
IsBegun starts bytes =
    (IsOpen bytes × HasNoCommand starts bytes)
    ⊎ ((front : List ℕ) × (line : List ℕ) × (bytes ≡ front ++ dot ∷ line)
    × CommandBegins starts front × All (λ byte. byte ≢ line_feed) line)

-- a part of a session: up to its semicolon, if none of its bytes begins a command; or the line
-- of a command, after which this is left
abbrev pub IsPart : Bool → List ℕ → Option (List ℕ) → Part → Type 0
IsPart starts bytes left (Command line) =
    IsCommandLine starts bytes line.bytes.items left × (line.count ≡ length bytes)
IsPart starts bytes left part =
    EndsAtSemicolon bytes × HasNoCommand starts bytes × IsPartOf bytes part

-- a part that is the line of a command
abbrev pub is_command : Part → Bool
is_command (Command line) = true
is_command part = false
