-- The place at which the line of a command begins.
use Rattle.std.proofs.Common.{◌≡◌, ◌≢◌, ◌+◌, ◌++◌, ◌∷◌, ◌∙◌, ◌==◌, ◌⊎◌, ℕ, All, Bool, List, [], Option, true, false, ap, arith, inl, inr, length, length-append, refl, subst, sym}
use Rattle.std.specs.Prelude.{◌&&◌}
use Rattle.std.specs.Io.KnownBytes.{Consumes}
use Rattle.std.proofs.KnownBytes.{Consumes-trans}
use Rattle.std.proofs.lemmas.Bool.{and_from, and_parts, eq-eqb, eqb-true}
use Rattle.sql_statements.specs.Lexis.{line_feed}
use Rattle.bitemporal_file.specs.declared.parts.Place.{Place}
use Rattle.bitemporal_file.specs.declared.parts.Place.TheVariants.{Outside, AfterDash, InComment, InText, Ended}
use Rattle.bitemporal_file.specs.declared.parts.CommandLine.{CommandLine}
use Rattle.bitemporal_file.specs.Parts.{CommandBegins, HasNoCommand, IsBegun, IsCommandLine, IsRestOfLine, begins_line, dot, place_after, place_after_all}
use Rattle.bitemporal_file.proofs.BlankFacts.{blank-none, is_blank_so_far, none-blank}

-- after one more byte a line begins if the byte is a line feed
pub line-more : (starts : Bool) (bytes : List ℕ) (byte : ℕ) → begins_line starts (bytes ++ byte ∷ []) ≡ (byte == line_feed)
line-more starts [] byte = refl
line-more starts (first ∷ bytes) byte = line-more (first == line_feed) bytes byte

-- no dash is left alone at the beginning of a line
undashed : (place : Place) (starts : Bool) (bytes : List ℕ) → begins_line starts bytes ≡ true → (starts ≡ true → place ≢ AfterDash) → place_after_all place bytes ≢ AfterDash
undashed place starts [] begins first = first begins
undashed place starts (byte ∷ bytes) begins first = undashed (place_after place byte) (byte == line_feed) bytes begins (λ is. after_line place byte (eqb-true byte 10 is))
  where
    fed : (place : Place) → place_after place 10 ≢ AfterDash
    fed Outside is = cc
    fed AfterDash is = cc
    fed InComment is = cc
    fed InText is = cc
    fed Ended is = cc

    after_line : (place : Place) (byte : ℕ) → byte ≡ 10 → place_after place byte ≢ AfterDash
    after_line place byte is = subst (λ b. place_after place b ≢ AfterDash) (sym is) (fed place)

-- blanks up to the beginning of a line are blanks and comments alone
pub command-begins : (starts : Bool) (front : List ℕ) → is_blank_so_far front ≡ true → begins_line starts front ≡ true → CommandBegins starts front
command-begins starts front blank begins = (blank-none front blank (undashed Outside starts front begins (λ on is. cc)), begins)

-- a dot in a text is its last byte, or is in the text without that byte
last-dot : (all : List ℕ) (byte : ℕ) (front rest : List ℕ) → all ++ byte ∷ [] ≡ front ++ dot ∷ rest → ((all ≡ front) × (byte ≡ dot)) ⊎ ((more : List ℕ) × (all ≡ front ++ dot ∷ more))
last-dot [] byte [] rest is = let same : byte ≡ dot = cc in inl (refl, same)
last-dot [] byte (first ∷ front) rest is = absurd (omega (arith, ap length is, length-append front (dot ∷ rest)))
last-dot (first ∷ all) byte [] rest is =
    let same : first ≡ dot = cc in
    inr (all, ap (λ b. b ∷ all) same)
last-dot (first ∷ all) byte (other ∷ front) rest is =
    let same : first ≡ other = cc in
    let tail : all ++ byte ∷ [] ≡ front ++ dot ∷ rest = cc in
    elim (last-dot all byte front rest tail) [
      | inl found ↦
          let alike : first ∷ all ≡ other ∷ front = ap (λ b. b ∷ all) same ∙ ap (λ bs. other ∷ bs) found.0 in
          inl (alike, found.1)
      | inr found ↦
          let alike : first ∷ all ≡ other ∷ (front ++ dot ∷ found.0) = ap (λ b. b ∷ all) same ∙ ap (λ bs. other ∷ bs) found.1 in
          inr (found.0, alike)
    ]

-- before the first byte there is no command
pub no_command-nil : (starts : Bool) → HasNoCommand starts []
no_command-nil starts front rest is begins = omega (arith, ap length is, length-append front (dot ∷ rest))

-- one byte more begins no command
pub no_command-more : (starts : Bool) (all : List ℕ) (byte : ℕ) → HasNoCommand starts all → (is_blank_so_far all && (begins_line starts all && (byte == dot))) ≡ false → HasNoCommand starts (all ++ byte ∷ [])
no_command-more starts all byte none off front rest is begins = elim (last-dot all byte front rest is) [
  | inl found ↦
      let here : CommandBegins starts all = subst (CommandBegins starts) (sym found.0) begins in
      let blank : is_blank_so_far all ≡ true = (none-blank all here.0).0 in
      let dotted : (byte == dot) ≡ true = eq-eqb byte dot found.1 in
      let on : (is_blank_so_far all && (begins_line starts all && (byte == dot))) ≡ true = and_from (is_blank_so_far all) (begins_line starts all && (byte == dot)) blank (and_from (begins_line starts all) (byte == dot) here.1 dotted) in
      let no : ⊥ = cc in no
  | inr found ↦ none front found.0 found.1 begins
]

-- no command so far, by the two tests as they are known
pub no_command-read : (starts : Bool) (all : List ℕ) (byte : ℕ) (is_blank is_start : Bool) → is_blank ≡ is_blank_so_far all → is_start ≡ begins_line starts all → (is_blank && (is_start && (byte == dot))) ≡ false → HasNoCommand starts all → HasNoCommand starts (all ++ byte ∷ [])
no_command-read starts all byte is_blank is_start blank begins off none =
    no_command-more starts all byte none (sym (ap (λ b. b && (is_start && (byte == dot))) blank ∙ ap (λ s. is_blank_so_far all && (s && (byte == dot))) begins) ∙ off)

-- a part of the line of a command was read
pub command-begun : (starts : Bool) (known mid next left : Option (List ℕ)) (all : List ℕ) (byte : ℕ) (is_blank is_start : Bool) (line : List ℕ) → Consumes known mid all → is_blank ≡ is_blank_so_far all → is_start ≡ begins_line starts all → Consumes mid next (byte ∷ []) → (is_blank && (is_start && (byte == dot))) ≡ true → Consumes next left line → All (λ b. b ≢ line_feed) line →
    (bytes : List ℕ) × Consumes known left bytes × IsBegun starts bytes
command-begun starts known mid next left all byte is_blank is_start line taken blank begins took on rest one =
    let (is, more) = and_parts is_blank (is_start && (byte == dot)) on in
    let (start, dotted) = and_parts is_start (byte == dot) more in
    let dot_is : byte ≡ dot = eqb-true byte 46 dotted in
    let took_dot : Consumes mid next (dot ∷ []) = subst (λ (b : ℕ). Consumes mid next (b ∷ [])) dot_is took in (
      all ++ dot ∷ line,
      Consumes-trans known mid left all (dot ∷ line) taken (Consumes-trans mid next left (dot ∷ []) line took_dot rest),
      inr (all, line, refl, command-begins starts all (sym blank ∙ is) (sym begins ∙ start), one),
    )

-- the line of a command was read
pub command-read : (starts : Bool) (known mid next left : Option (List ℕ)) (all : List ℕ) (byte before : ℕ) (is_blank is_start : Bool) (read : CommandLine) → Consumes known mid all → before ≡ length all → is_blank ≡ is_blank_so_far all → is_start ≡ begins_line starts all → Consumes mid next (byte ∷ []) → (is_blank && (is_start && (byte == dot))) ≡ true → IsRestOfLine (before + 1) next left read →
    (bytes : List ℕ) × Consumes known left bytes × (IsCommandLine starts bytes read.bytes.items left × (read.count ≡ length bytes))
command-read starts known mid next left all byte before is_blank is_start read taken count blank begins took on rest =
    let (is, more) = and_parts is_blank (is_start && (byte == dot)) on in
    let (start, dotted) = and_parts is_start (byte == dot) more in
    let dot_is : byte ≡ dot = eqb-true byte 46 dotted in
    let took_dot : Consumes mid next (dot ∷ []) = subst (λ (b : ℕ). Consumes mid next (b ∷ [])) dot_is took in
    let line : List ℕ = rest.line ++ rest.end in
    let whole : List ℕ = all ++ dot ∷ line in
    let size : read.count ≡ length whole = omega (arith, rest.count, count, length-append all (dot ∷ line)) in (
      whole,
      Consumes-trans known mid left all (dot ∷ line) taken (Consumes-trans mid next left (dot ∷ []) line took_dot rest.taken),
      (
        record {
          front = all;
          line = rest.line;
          end = rest.end;
          whole = refl;
          begins = command-begins starts all (sym blank ∙ is) (sym begins ∙ start);
          ended = rest.ended;
          kept_of = rest.kept_of;
        },
        size,
      ),
    )
