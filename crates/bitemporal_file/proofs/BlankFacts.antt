-- Bytes that are blanks and comments alone.
use Rattle.std.proofs.Common.{◌≡◌, ◌≢◌, ◌<◌, ◌+◌, ◌++◌, ◌∷◌, ◌∙◌, ◌==◌, ℕ, suc, Bool, List, [], Option, None, Some, true, false, ap, arith, drop, inl, inr, length, refl, subst, sym}
use Rattle.std.specs.Prelude.{◌&&◌, ◌||◌, if◌then◌else◌, codes, nat_eq}
use Rattle.std.specs.List.{starts_with}
use Rattle.std.proofs.lemmas.List.{length-append}
use Rattle.std.proofs.lemmas.Bool.Decides.{Decides-eqb}
use Rattle.std.proofs.lemmas.Slice.Eq.{starts_is}
use Rattle.std.specs.Io.BufRead.{take_through}
use Rattle.std.proofs.lemmas.Bool.{and_from, and_parts, cases_Bool, eqb-true, false_from_ne_true, ne_eqb}
use Rattle.sql_statements.specs.declared.lexeme.Front.TheVariants as front
use Rattle.sql_statements.specs.Lexemes.{Lexeme}
use Rattle.sql_statements.specs.Lexis as lexis
use Rattle.sql_statements.specs.Lexis.{◌∈◌, TokensFrom, byte_order_mark, byte_order_mark_size, begins_pair, begins_with, first_lexeme, is_blank, is_digit, is_letter, is_symbol_byte, line_feed, quote, text_of_size}
use Rattle.sql_statements.specs.declared.token.TokenKind.TheVariants.{Word, Number, Symbol}
use Rattle.bitemporal_file.specs.declared.parts.Place.{Place}
use Rattle.bitemporal_file.specs.declared.parts.Place.TheVariants.{Outside, AfterDash, InComment, InText, Ended}
use Rattle.bitemporal_file.specs.Parts.{HasNoToken, is_blank_at, place_after, place_after_all}

-- each byte is blank at its place
abbrev pub are_blank_from : Place → List ℕ → Bool
are_blank_from place [] = true
are_blank_from place (byte ∷ bytes) = is_blank_at place byte && are_blank_from (place_after place byte) bytes

-- no dash is left alone at the end
abbrev pub is_rest : Place → Bool
is_rest Outside = true
is_rest AfterDash = false
is_rest InComment = true
is_rest InText = true
is_rest Ended = true

-- the bytes are blanks and comments, from a place inside or outside a comment on
abbrev pub is_all_blank : Place → List ℕ → Bool
is_all_blank place [] = is_rest place
is_all_blank place (byte ∷ bytes) = is_blank_at place byte && is_all_blank (place_after place byte) bytes

and_assoc : (x y z : Bool) → (x && (y && z)) ≡ ((x && y) && z)
and_assoc true y z = refl
and_assoc false y z = refl

all_blank-parts : (place : Place) (bytes : List ℕ) → is_all_blank place bytes ≡ (are_blank_from place bytes && is_rest (place_after_all place bytes))
all_blank-parts place [] = refl
all_blank-parts place (byte ∷ bytes) =
    ap (λ b. is_blank_at place byte && b) (all_blank-parts (place_after place byte) bytes)
    ∙ and_assoc (is_blank_at place byte) (are_blank_from (place_after place byte) bytes) (is_rest (place_after_all (place_after place byte) bytes))

-- a comment ends with its line
comment-ends : (bytes : List ℕ) → is_all_blank InComment bytes ≡ is_all_blank Outside (drop (length (take_through line_feed bytes)) bytes)
comment-ends [] = refl
comment-ends (byte ∷ bytes) = elim (cases_Bool (byte == line_feed)) [
  | inl is ↦ rw is refl
  | inr is ↦ rw is (comment-ends bytes)
]

-- bytes are no blanks if their first lexeme is neither blank nor a comment
not-blank : (word digit text pair symbol : Bool) (w d n : ℕ) (size : Option ℕ) →
    (if word then front.Lexeme Word w else if digit then front.Lexeme Number d else if text then text_of_size size else if pair then front.Lexeme Symbol 2 else if symbol then front.Lexeme Symbol 1 else front.Bad) ≡ front.Blank n → ⊥
not-blank true digit text pair symbol w d n size is = cc
not-blank false true text pair symbol w d n size is = cc
not-blank false false true pair symbol w d n None is = cc
not-blank false false true pair symbol w d n (Some m) is = cc
not-blank false false false true symbol w d n size is = cc
not-blank false false false false true w d n size is = cc
not-blank false false false false false w d n size is = cc

same_size : (m n : ℕ) → front.Blank m ≡ front.Blank n → m ≡ n
same_size m n is = cc

-- white space is outside of texts and comments
blank-outside : (byte : ℕ) → is_blank byte ≡ true → place_after Outside byte ≡ Outside
blank-outside byte blank =
    let quote : (byte == 39) ≡ false = not_this byte 39 blank refl in
    let semicolon : (byte == 59) ≡ false = not_this byte 59 blank refl in
    let dash : (byte == 45) ≡ false = not_this byte 45 blank refl in
    rw (quote, semicolon, dash) refl
  where
    not_this : (byte other : ℕ) → is_blank byte ≡ true → is_blank other ≡ false → (byte == other) ≡ false
    not_this byte other blank none = elim (cases_Bool (byte == other)) [
      | inl is ↦
          let same : byte ≡ other = eqb-true byte other is in
          let other_blank : is_blank other ≡ true = subst (λ b. is_blank b ≡ true) same blank in
          let no : ⊥ = cc in absurd no
      | inr is ↦ is
    ]

-- two dashes begin a comment
dashes : (byte : ℕ) (rest : List ℕ) → begins_with "--" (byte ∷ rest) ≡ true → (more : List ℕ) × (byte ≡ 45) × (rest ≡ 45 ∷ more)
dashes byte rest is =
    let same : byte ∷ rest ≡ 45 ∷ 45 ∷ drop 2 (byte ∷ rest) = (starts_is Decides-eqb (byte ∷ rest) (codes "--") (begins_with "--" (byte ∷ rest)) refl).0 is in
    let first : byte ≡ 45 = cc in
    let next : rest ≡ 45 ∷ drop 2 (byte ∷ rest) = cc in
    (drop 2 (byte ∷ rest), first, next)

-- bytes that begin with a comment are blank if the rest is
first-comment : (more : List ℕ) (n : ℕ) → front.Blank (1 + length (take_through line_feed (45 ∷ more))) ≡ front.Blank n → is_all_blank Outside (45 ∷ 45 ∷ more) ≡ is_all_blank Outside (drop n (45 ∷ 45 ∷ more))
first-comment more n is =
    let size : 1 + length (take_through line_feed (45 ∷ more)) ≡ n = same_size (1 + length (take_through line_feed (45 ∷ more))) n is in
    let line : suc (suc (length (take_through line_feed more))) ≡ n = omega (arith, size) in
    subst (λ m. is_all_blank Outside (45 ∷ 45 ∷ more) ≡ is_all_blank Outside (drop m (45 ∷ 45 ∷ more))) line (comment-ends more)

-- bytes that begin with a blank are blank if the rest is
first-blank : (bytes : List ℕ) (n : ℕ) → first_lexeme bytes ≡ front.Blank n → is_all_blank Outside bytes ≡ is_all_blank Outside (drop n bytes)
unfolding first_lexeme
first-blank [] n is = let no : ⊥ = cc in absurd no
first-blank (byte ∷ rest) n is = elim (cases_Bool (is_blank byte)) [
  | inl blank ↦
      let one : front.Blank 1 ≡ front.Blank n = rw blank at is in
      let size : 1 ≡ n = same_size 1 n one in
      let same = blank-outside byte blank in
      subst (λ m. is_all_blank Outside (byte ∷ rest) ≡ is_all_blank Outside (drop m (byte ∷ rest))) size (rw (blank, same) refl)
  | inr blank ↦ elim (cases_Bool (begins_with "--" (byte ∷ rest))) [
    | inl two ↦
        let (more, first, next) = dashes byte rest two in
        let comment : front.Blank (1 + length (take_through line_feed rest)) ≡ front.Blank n = rw (blank, two) at is in
        let commented : front.Blank (1 + length (take_through line_feed (45 ∷ more))) ≡ front.Blank n = subst (λ (bytes : List ℕ). front.Blank (1 + length (take_through line_feed bytes)) ≡ front.Blank n) next comment in
        rw (first, next) (first-comment more n commented)
    | inr two ↦ absurd (not-blank (is_letter byte) (is_digit byte) (byte == quote) (begins_pair (byte ∷ rest)) (is_symbol_byte byte) _ _ n _ (rw (blank, two) at is))
  ]
]

-- bytes whose tokens are none are blanks and comments
no_token-blank : {at : ℕ} {bytes : List ℕ} {tokens : List Lexeme} → TokensFrom at bytes tokens → tokens ≡ [] → is_all_blank Outside bytes ≡ true
no_token-blank lexis.TokensFrom.ended none = refl
no_token-blank (lexis.TokensFrom.blank {bytes = bytes} n first rest) none = first-blank bytes n first ∙ no_token-blank rest none
no_token-blank (lexis.TokensFrom.token k n first rest) none = let no : ⊥ = cc in absurd no

-- no token follows if white space is first, and none follows it
space-no_token : (at byte : ℕ) (rest : List ℕ) → is_blank byte ≡ true → TokensFrom (at + 1) rest [] → TokensFrom at (byte ∷ rest) []
unfolding first_lexeme
space-no_token at byte rest blank after = lexis.TokensFrom.blank 1 (rw blank refl) after

-- no token follows if a comment is first, and none follows it
line-no_token : (at : ℕ) (more : List ℕ) → TokensFrom ((at + 2) + length (take_through line_feed more)) (drop (length (take_through line_feed more)) more) [] → TokensFrom at (45 ∷ 45 ∷ more) []
unfolding first_lexeme
line-no_token at more after =
    let line : suc (suc (length (take_through line_feed more))) ≡ 1 + length (take_through line_feed (45 ∷ more)) = omega arith in
    let place : (at + 2) + length (take_through line_feed more) ≡ at + (1 + length (take_through line_feed (45 ∷ more))) = omega arith in
    let moved : TokensFrom (at + (1 + length (take_through line_feed (45 ∷ more)))) (drop (length (take_through line_feed more)) more) [] =
    subst (λ place. TokensFrom place (drop (length (take_through line_feed more)) more) []) place after in
    lexis.TokensFrom.blank (1 + length (take_through line_feed (45 ∷ more))) refl
    (subst (λ n. TokensFrom (at + (1 + length (take_through line_feed (45 ∷ more)))) (drop n (45 ∷ 45 ∷ more)) []) line moved)

mutual
  blank-no_token : (at : ℕ) (bytes : List ℕ) → is_all_blank Outside bytes ≡ true → TokensFrom at bytes []
  blank-no_token at [] blank = lexis.TokensFrom.ended
  blank-no_token at (byte ∷ rest) blank =
      let (here, after) = and_parts (is_blank byte || byte ∈ "-") (is_all_blank (place_after Outside byte) rest) blank in
      elim (cases_Bool (is_blank byte)) [
        | inl space ↦
            let outside : is_all_blank Outside rest ≡ true = rw (← blank-outside byte space) after in
            space-no_token at byte rest space (blank-no_token (at + 1) rest outside)
        | inr space ↦
            let dash : (byte == 45) ≡ true = rw space at here in
            let is : byte ≡ 45 = eqb-true byte 45 dash in
            let behind : is_all_blank AfterDash rest ≡ true = rw is at after in
            rw is (dash-no_token at rest behind)
      ]

  dash-no_token : (at : ℕ) (rest : List ℕ) → is_all_blank AfterDash rest ≡ true → TokensFrom at (45 ∷ rest) []
  dash-no_token at [] blank = let no : ⊥ = cc in absurd no
  dash-no_token at (next ∷ more) blank =
      let (here, after) = and_parts (next ∈ "-") (is_all_blank (place_after AfterDash next) more) blank in
      let is : next ≡ 45 = eqb-true next 45 here in
      let within : is_all_blank InComment more ≡ true = rw is at after in
      rw is (line-no_token at more (comment-no_token (at + 2) more within))

  comment-no_token : (at : ℕ) (bytes : List ℕ) → is_all_blank InComment bytes ≡ true → TokensFrom (at + length (take_through line_feed bytes)) (drop (length (take_through line_feed bytes)) bytes) []
  comment-no_token at [] blank = lexis.TokensFrom.ended
  comment-no_token at (byte ∷ rest) blank = elim (cases_Bool (byte == line_feed)) [
    | inl is ↦
        let outside : is_all_blank Outside rest ≡ true = rw is at blank in
        rw is (blank-no_token (at + 1) rest outside)
    | inr is ↦
        let within : is_all_blank InComment rest ≡ true = rw is at blank in
        let place : (at + 1) + length (take_through line_feed rest) ≡ at + length (byte ∷ take_through line_feed rest) = omega arith in
        rw is (subst (λ place. TokensFrom place (drop (length (take_through line_feed rest)) rest) []) place (comment-no_token (at + 1) rest within))
  ]

-- ---- a byte order mark first

-- the bytes so far, but for a byte order mark, are each blank
abbrev pub is_blank_so_far : List ℕ → Bool
is_blank_so_far bytes = are_blank_from Outside (drop (byte_order_mark_size bytes) bytes)

-- fewer than three bytes do not begin with the mark
unmarked : (bytes : List ℕ) → length bytes < 3 → byte_order_mark_size bytes ≡ 0
unmarked bytes few = rw (false_from_ne_true (starts_with nat_eq bytes byte_order_mark) (λ is. too_few (begins bytes is))) refl
  where
    begins : (bytes : List ℕ) → starts_with nat_eq bytes byte_order_mark ≡ true → bytes ≡ byte_order_mark ++ drop 3 bytes
    begins bytes is = (starts_is Decides-eqb bytes byte_order_mark (starts_with nat_eq bytes byte_order_mark) refl).0 is

    too_few : bytes ≡ byte_order_mark ++ drop 3 bytes → ⊥
    too_few is = omega (arith, few, ap length is, length-append byte_order_mark (drop 3 bytes))

-- the mark is no text and no comment
place-marked : (bytes : List ℕ) → place_after_all Outside (drop (byte_order_mark_size bytes) bytes) ≡ place_after_all Outside bytes
place-marked bytes = elim (cases_Bool (starts_with nat_eq bytes byte_order_mark)) [
  | inl is ↦
      let begins : bytes ≡ byte_order_mark ++ drop 3 bytes = (starts_is Decides-eqb bytes byte_order_mark (starts_with nat_eq bytes byte_order_mark) refl).0 is in
      rw is (sym (ap (place_after_all Outside) begins))
  | inr is ↦ rw is refl
]

-- bytes that are blank up to their end have no token
pub blank-none : (bytes : List ℕ) → is_blank_so_far bytes ≡ true → place_after_all Outside bytes ≢ AfterDash → HasNoToken bytes
blank-none bytes blank end =
    let after = drop (byte_order_mark_size bytes) bytes in
    blank-no_token (byte_order_mark_size bytes) after (all_blank-parts Outside after ∙ and_from (are_blank_from Outside after) (is_rest (place_after_all Outside after)) blank (rest-end (place_after_all Outside after) (λ is. end (sym (place-marked bytes) ∙ is))))
  where
    rest-end : (place : Place) → place ≢ AfterDash → is_rest place ≡ true
    rest-end Outside end = refl
    rest-end AfterDash end = absurd (end refl)
    rest-end InComment end = refl
    rest-end InText end = refl
    rest-end Ended end = refl

pub none-blank : (bytes : List ℕ) → HasNoToken bytes → (is_blank_so_far bytes ≡ true) × (place_after_all Outside bytes ≢ AfterDash)
none-blank bytes none =
    let after = drop (byte_order_mark_size bytes) bytes in
    let all : (are_blank_from Outside after && is_rest (place_after_all Outside after)) ≡ true = sym (all_blank-parts Outside after) ∙ no_token-blank none refl in
    let (blank, rest) = and_parts (are_blank_from Outside after) (is_rest (place_after_all Outside after)) all in
    (blank, λ is. no_rest (place_after_all Outside after) rest (place-marked bytes ∙ is))
  where
    no_rest : (place : Place) → is_rest place ≡ true → place ≡ AfterDash → ⊥
    no_rest place rest is = let no : is_rest AfterDash ≡ true = subst (λ p. is_rest p ≡ true) is rest in cc

-- bytes with one more byte are blank if the bytes are, and the byte is
are_blank-more : (place : Place) (bytes : List ℕ) (byte : ℕ) → are_blank_from place (bytes ++ byte ∷ []) ≡ (are_blank_from place bytes && is_blank_at (place_after_all place bytes) byte)
are_blank-more place [] byte = and_true (is_blank_at place byte)
  where
    and_true : (b : Bool) → (b && true) ≡ (true && b)
    and_true true = refl
    and_true false = refl
are_blank-more place (first ∷ bytes) byte =
    ap (λ b. is_blank_at place first && b) (are_blank-more (place_after place first) bytes byte)
    ∙ and_assoc (is_blank_at place first) (are_blank_from (place_after place first) bytes) (is_blank_at (place_after_all (place_after place first) bytes) byte)

plain-more : (bytes : List ℕ) (byte size : ℕ) → byte_order_mark_size bytes ≡ size → byte_order_mark_size (bytes ++ byte ∷ []) ≡ size → drop size (bytes ++ byte ∷ []) ≡ drop size bytes ++ byte ∷ [] →
    is_blank_so_far (bytes ++ byte ∷ []) ≡ (is_blank_so_far bytes && is_blank_at (place_after_all Outside bytes) byte)
plain-more bytes byte size old new apart =
    let place : place_after_all Outside (drop size bytes) ≡ place_after_all Outside bytes = subst (λ n. place_after_all Outside (drop n bytes) ≡ place_after_all Outside bytes) old (place-marked bytes) in
    rw (old, new, apart, ← place) (are_blank-more Outside (drop size bytes) byte)

pub blank-next : (bytes kept : List ℕ) (before byte : ℕ) → before ≡ length bytes → (before ≡ 2 → kept ≡ bytes ++ byte ∷ []) →
    (((before == 2) && (byte_order_mark_size kept == 3)) || (is_blank_so_far bytes && is_blank_at (place_after_all Outside bytes) byte)) ≡ is_blank_so_far (bytes ++ byte ∷ [])
blank-next [] kept before byte count same = rw count (sym (plain-more [] byte 0 (unmarked [] (omega arith)) (unmarked (byte ∷ []) (omega arith)) refl))
blank-next (a ∷ []) kept before byte count same = rw count (sym (plain-more (a ∷ []) byte 0 (unmarked (a ∷ []) (omega arith)) (unmarked (a ∷ byte ∷ []) (omega arith)) refl))
blank-next (a ∷ b ∷ []) kept before byte count same = elim (cases_Bool (starts_with nat_eq (a ∷ b ∷ byte ∷ []) byte_order_mark)) [
  | inl is ↦ rw (count, same count, is) refl
  | inr is ↦
      let none : byte_order_mark_size (a ∷ b ∷ byte ∷ []) ≡ 0 = rw is refl in
      rw (count, same count) (ap (λ size. (size == 3) || (is_blank_so_far (a ∷ b ∷ []) && is_blank_at (place_after_all Outside (a ∷ b ∷ [])) byte)) none
      ∙ sym (plain-more (a ∷ b ∷ []) byte 0 (unmarked (a ∷ b ∷ []) (omega arith)) none refl))
]
blank-next (a ∷ b ∷ c ∷ rest) kept before byte count same =
    let more : (before == 2) ≡ false = ne_eqb before 2 (λ is. omega (arith, is, count)) in
    elim (cases_Bool (starts_with nat_eq (a ∷ b ∷ c ∷ rest) byte_order_mark)) [
      | inl is ↦ rw more (sym (plain-more (a ∷ b ∷ c ∷ rest) byte 3 (rw is refl) (rw is refl) refl))
      | inr is ↦ rw more (sym (plain-more (a ∷ b ∷ c ∷ rest) byte 0 (rw is refl) (rw is refl) refl))
    ]
