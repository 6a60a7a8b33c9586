-- Cutting tokens into pieces, as far as some place.
use Rattle.std.proofs.Common.{◌≡◌, ℕ, suc, ◌+◌, ◌-◌, ◌≤◌, ◌<◌, Bool, true, false, ◌||◌, List, [], ◌∷◌, ◌++◌, length, get_or, drop, map, nat_lt, refl, sym, ap, subst, ◌∙◌, append_assoc, arith, drop-cons, length-append}
use Rattle.std.specs.List.{list_any, slice_range, filter, All}
use Rattle.std.proofs.lemmas.Bool.Decides.{nat_tests}
use Rattle.std.proofs.lemmas.List.{drop-map, drop_all, append-nil, map_push, length-map}
use Rattle.std.proofs.lemmas.List.Elements.{All-push, All-nil}
use Rattle.std.proofs.lemmas.List.Folds.{list_any-append}
use Rattle.std.proofs.Math.Seq.{take-append_seam}
use Rattle.sql_front.specs.declared.pieces.Span.{Span}
use Rattle.sql_statements.specs.Lexemes.{Lexeme}
use Rattle.sql_front.specs.Pieces as pieces
use Rattle.sql_front.specs.Pieces.{is_semicolon, is_nonempty, is_filled, spans_from, HasNoSemicolon, HasPieces, HasSpans, spanned, IsWithin}

-- the tokens are images of some things
module _ {A : Type 0} (f : A → Lexeme) where
  -- the pieces before one place are cut, and up to another there is no semicolon
  pub record Cut (tokens : List A) (start i : ℕ) (spans : List Span) : Type 0 where
    pub part : List Lexeme
    pub joined : drop start (map f tokens) ≡ part ++ drop i (map f tokens)
    pub plain : HasNoSemicolon part
    pub size : start + length part ≡ i
    pub completes : (more : List (List Lexeme)) → HasPieces (drop start (map f tokens)) more → HasPieces (map f tokens) (map (spanned (map f tokens)) spans ++ more)
    pub places : (more : List Span) → HasSpans start (drop start (map f tokens)) more → HasSpans 0 (map f tokens) (spans ++ more)
    pub within : All (IsWithin (length tokens)) spans

  pub cut_start : (tokens : List A) → Cut tokens 0 0 []
  cut_start tokens = record {
    part = [];
    joined = refl;
    plain = refl;
    size = refl;
    completes = λ more h. h;
    places = λ more h. h;
    within = All-nil (IsWithin (length tokens));
  }

  -- the token at a place
  at_place : (tokens : List A) (i : ℕ) (d : A) → i < length tokens → drop i (map f tokens) ≡ f (get_or tokens i d) ∷ drop (i + 1) (map f tokens)
  at_place tokens i d h =
      let next : suc i ≡ i + 1 = omega arith in
      drop-map f i tokens ∙ ap (map f) (drop-cons tokens i d h) ∙ ap (λ (rest : List Lexeme). f (get_or tokens i d) ∷ rest) (sym (drop-map f (suc i) tokens))
      ∙ ap (λ (k : ℕ). f (get_or tokens i d) ∷ drop k (map f tokens)) next

  or_false : (a b : Bool) → a ≡ false → b ≡ false → (a || b) ≡ false
  or_false a b e f = rw (e, f) refl

  -- a token that is no semicolon lengthens the piece
  pub cut_token : (tokens : List A) (start i : ℕ) (spans : List Span) (d : A) → Cut tokens start i spans → i < length tokens
      → is_semicolon (f (get_or tokens i d)) ≡ false → Cut tokens start (i + 1) spans
  cut_token tokens start i spans d so_far h plain =
      let one = f (get_or tokens i d) in
      record {
        part = so_far.part ++ one ∷ [];
        joined = so_far.joined ∙ ap (λ (rest : List Lexeme). so_far.part ++ rest) (at_place tokens i d h) ∙ sym (append_assoc so_far.part (one ∷ []) (drop (i + 1) (map f tokens)));
        plain = list_any-append is_semicolon so_far.part (one ∷ []) ∙ or_false (list_any is_semicolon so_far.part) (is_semicolon one || false) so_far.plain (or_false (is_semicolon one) false plain refl);
        size = omega (arith, so_far.size, length-append so_far.part (one ∷ []));
        completes = so_far.completes;
        places = so_far.places;
        within = so_far.within;
      }

  -- the part is what the span spans
  part_is : (tokens : List A) (start i : ℕ) (spans : List Span) → (c : Cut tokens start i spans) → slice_range (map f tokens) start i ≡ c.part
  part_is tokens start i spans c =
      let size : i - start ≡ length c.part = omega (arith, c.size) in
      rw (size, c.joined) (take-append_seam c.part (drop i (map f tokens)))

  filled : (part : List Lexeme) (parts : List (List Lexeme)) → 0 < length part → part ∷ filter is_nonempty parts ≡ filter is_nonempty (part ∷ parts)
  filled [] parts h = absurd (omega arith)
  filled (t ∷ part) parts h = refl

  empty : (part : List Lexeme) (parts : List (List Lexeme)) → length part ≡ 0 → filter is_nonempty parts ≡ filter is_nonempty (part ∷ parts)
  empty [] parts h = refl
  empty (t ∷ part) parts h = absurd (omega arith)

  -- the span of a part is first, if it is not empty
  filled_span : (start i : ℕ) (part : List Lexeme) (parts : List (List Lexeme)) (more : List Span) → start + length part ≡ i → start < i
      → more ≡ filter is_filled (spans_from (i + 1) parts) → record { start = start; end = i } ∷ more ≡ filter is_filled (spans_from start (part ∷ parts))
  filled_span start i part parts more size some rest =
      let is : nat_lt start i ≡ true = grind (arith, nat_tests) in
      rw (size, rest, is) refl

  empty_span : (start i : ℕ) (part : List Lexeme) (parts : List (List Lexeme)) (more : List Span) → start + length part ≡ i → i ≤ start
      → more ≡ filter is_filled (spans_from (i + 1) parts) → more ≡ filter is_filled (spans_from start (part ∷ parts))
  empty_span start i part parts more size none rest =
      let is : nat_lt start i ≡ false = grind (arith, nat_tests) in
      rw (size, rest, is) refl

  -- a span at the end
  span_after : (ts : List Lexeme) (spans after : List Span) (span : Span) (more : List Span) → after ≡ spans ++ span ∷ [] → HasSpans 0 ts (spans ++ span ∷ more) → HasSpans 0 ts (after ++ more)
  span_after ts spans after span more pushed has =
      subst (HasSpans 0 ts) (sym (ap (λ (x : List Span). x ++ more) pushed ∙ append_assoc spans (span ∷ []) more)) has

  -- the pieces of the spans so far, and one more
  pushed_pieces : (ts : List Lexeme) (spans after : List Span) (span : Span) (part : List Lexeme) (more : List (List Lexeme)) → after ≡ spans ++ span ∷ []
      → spanned ts span ≡ part → map (spanned ts) after ++ more ≡ map (spanned ts) spans ++ part ∷ more
  pushed_pieces ts spans after span part more pushed is =
      ap (λ (x : List Span). map (spanned ts) x ++ more) pushed ∙ ap (λ (x : List (List Lexeme)). x ++ more) (map_push (spanned ts) spans span)
      ∙ append_assoc (map (spanned ts) spans) (spanned ts span ∷ []) more ∙ ap (λ (x : List Lexeme). map (spanned ts) spans ++ x ∷ more) is

  pushed_within : (n : ℕ) (spans after : List Span) (span : Span) → after ≡ spans ++ span ∷ [] → All (IsWithin n) spans → IsWithin n span → All (IsWithin n) after
  pushed_within n spans after span pushed h one = subst (All (IsWithin n)) (sym pushed) (All-push (IsWithin n) spans span h one)

  -- a part before more parts
  part_first : (tokens : List A) (start i : ℕ) (spans : List Span) (d : A) → (c : Cut tokens start i spans) → i < length tokens
      → is_semicolon (f (get_or tokens i d)) ≡ true → (parts : List (List Lexeme)) → pieces.Joined parts (drop (i + 1) (map f tokens))
      → pieces.Joined (c.part ∷ parts) (drop start (map f tokens))
  part_first tokens start i spans d c h semicolon parts rest =
      let joined : pieces.Joined (c.part ∷ parts) (c.part ++ f (get_or tokens i d) ∷ drop (i + 1) (map f tokens)) =
      pieces.Joined.more c.part (f (get_or tokens i d)) c.plain semicolon rest in
      let whole : drop start (map f tokens) ≡ c.part ++ f (get_or tokens i d) ∷ drop (i + 1) (map f tokens) =
      c.joined ∙ ap (λ (rest : List Lexeme). c.part ++ rest) (at_place tokens i d h) in
      subst (pieces.Joined (c.part ∷ parts)) (sym whole) joined

  -- a semicolon after a piece adds the piece
  pub cut_piece : (tokens : List A) (start i : ℕ) (spans after : List Span) (d : A) → Cut tokens start i spans → i < length tokens
      → is_semicolon (f (get_or tokens i d)) ≡ true → start < i → after ≡ spans ++ record { start = start; end = i } ∷ [] → Cut tokens (i + 1) (i + 1) after
  cut_piece tokens start i spans after d c h semicolon some pushed =
      let span : Span = record { start = start; end = i } in
      record {
        part = [];
        joined = refl;
        plain = refl;
        size = omega arith;
        completes = λ more rest.
            let first : c.part ∷ more ≡ filter is_nonempty (c.part ∷ rest.0) =
            ap (λ (x : List (List Lexeme)). c.part ∷ x) rest.2 ∙ filled c.part rest.0 (omega (arith, c.size)) in
            subst (HasPieces (map f tokens)) (sym (pushed_pieces (map f tokens) spans after span c.part more pushed (part_is tokens start i spans c)))
            (c.completes (c.part ∷ more) (c.part ∷ rest.0, part_first tokens start i spans d c h semicolon rest.0 rest.1, first));
        places = λ more rest.
            span_after (map f tokens) spans after span more pushed
            (c.places (span ∷ more) (c.part ∷ rest.0, part_first tokens start i spans d c h semicolon rest.0 rest.1, filled_span start i c.part rest.0 more c.size some rest.2));
        within = pushed_within (length tokens) spans after span pushed c.within (some, omega arith);
      }

  -- a semicolon after no token adds no piece
  pub cut_empty : (tokens : List A) (start i : ℕ) (spans : List Span) (d : A) → Cut tokens start i spans → i < length tokens
      → is_semicolon (f (get_or tokens i d)) ≡ true → i ≤ start → Cut tokens (i + 1) (i + 1) spans
  cut_empty tokens start i spans d c h semicolon none = record {
    part = [];
    joined = refl;
    plain = refl;
    size = omega arith;
    completes = λ more rest.
        c.completes more (c.part ∷ rest.0, part_first tokens start i spans d c h semicolon rest.0 rest.1, rest.2 ∙ empty c.part rest.0 (omega (arith, c.size)));
    places = λ more rest.
        c.places more (c.part ∷ rest.0, part_first tokens start i spans d c h semicolon rest.0 rest.1, empty_span start i c.part rest.0 more c.size none rest.2);
    within = c.within;
  }

  -- the tokens after the last semicolon are one part
  last_part : (tokens : List A) (start : ℕ) (spans : List Span) → (c : Cut tokens start (length tokens) spans) → pieces.Joined (c.part ∷ []) (drop start (map f tokens))
  last_part tokens start spans c =
      let none : drop (length tokens) (map f tokens) ≡ [] = drop_all (length tokens) (map f tokens) (omega (arith, length-map tokens f)) in
      let whole : drop start (map f tokens) ≡ c.part = c.joined ∙ ap (λ (rest : List Lexeme). c.part ++ rest) none ∙ append-nil c.part in
      subst (pieces.Joined (c.part ∷ [])) (sym whole) (pieces.Joined.one c.part c.plain)

  to_end : (tokens : List A) (start i : ℕ) (spans : List Span) → Cut tokens start i spans → length tokens ≤ i → i ≤ length tokens → Cut tokens start (length tokens) spans
  to_end tokens start i spans c le ge = let e : i ≡ length tokens = omega arith in subst (λ (k : ℕ). Cut tokens start k spans) e c

  -- the spans are the cut of all tokens
  pub record AreCut (tokens : List A) (spans : List Span) : Type 0 where
    pub whole : HasPieces (map f tokens) (map (spanned (map f tokens)) spans)
    pub places : HasSpans 0 (map f tokens) spans
    pub within : All (IsWithin (length tokens)) spans

  -- all is cut, with a last piece
  pub cut_last : (tokens : List A) (start i : ℕ) (spans after : List Span) → Cut tokens start i spans → length tokens ≤ i → i ≤ length tokens → start < length tokens
      → after ≡ spans ++ record { start = start; end = length tokens } ∷ [] → AreCut tokens after
  cut_last tokens start i spans after so_far le ge some pushed =
      let c = to_end tokens start i spans so_far le ge in
      let span : Span = record { start = start; end = length tokens } in
      let same : map (spanned (map f tokens)) after ≡ map (spanned (map f tokens)) spans ++ c.part ∷ [] =
      sym (append-nil (map (spanned (map f tokens)) after)) ∙ pushed_pieces (map f tokens) spans after span c.part [] pushed (part_is tokens start (length tokens) spans c) in
      record {
        whole = subst (HasPieces (map f tokens)) (sym same) (c.completes (c.part ∷ []) (c.part ∷ [], last_part tokens start spans c, filled c.part [] (omega (arith, c.size))));
        places = subst (HasSpans 0 (map f tokens)) (sym pushed)
            (c.places (span ∷ []) (c.part ∷ [], last_part tokens start spans c, filled_span start (length tokens) c.part [] [] c.size some refl));
        within = pushed_within (length tokens) spans after span pushed c.within (some, omega arith);
      }

  -- all is cut, and the last token is a semicolon
  pub cut_all : (tokens : List A) (start i : ℕ) (spans : List Span) → Cut tokens start i spans → length tokens ≤ i → i ≤ length tokens → length tokens ≤ start
      → AreCut tokens spans
  cut_all tokens start i spans so_far le ge none =
      let c = to_end tokens start i spans so_far le ge in
      record {
        whole = subst (HasPieces (map f tokens)) (append-nil (map (spanned (map f tokens)) spans)) (c.completes [] (c.part ∷ [], last_part tokens start spans c, empty c.part [] (omega (arith, c.size))));
        places = subst (HasSpans 0 (map f tokens)) (append-nil spans) (c.places [] (c.part ∷ [], last_part tokens start spans c, empty_span start (length tokens) c.part [] [] c.size none refl));
        within = c.within;
      }
