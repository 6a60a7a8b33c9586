-- The tokens of a script, at their places.
use Rattle.std.proofs.Common.{◌≡◌, ℕ, ◌+◌, ◌-◌, ◌≤◌, List, [], ◌∷◌, length, map, take, drop, refl, sym, ap, subst, subst₂, ◌∙◌, arith, length-drop}
use Rattle.std.specs.List.{All}
use Rattle.std.specs.Str.{IsUtf8, IsCharBoundary}
use Rattle.std.proofs.lemmas.List.Elements.{All-nil, All-cons, All-head, All-tail, All-map}
use Rattle.std.proofs.lemmas.Str.{IsCharBoundary-from_drop, IsCharBoundary-from_rest, IsUtf8-drop}
use Rattle.sql_statements.specs.declared.lexeme.Front.TheVariants as front
use Rattle.sql_front.specs.declared.token_spans.TokenSpan.{TokenSpan}
use Rattle.sql_statements.specs.Lexemes.{Lexeme}
use Rattle.sql_statements.specs.Lexis as lexis
use Rattle.sql_statements.specs.Lexis.{first_lexeme, byte_order_mark_size, TokensFrom, TokensOf, EndsBetween, IsTokenAt}
use Rattle.sql_front.specs.TokenSpans.{IsInScript, lexeme_at, lexemes_at, span_of}
use Rattle.sql_front.proofs.ByteOrderMark.{mark_boundary}
use Rattle.sql_front.proofs.TokenLists.{behind, ends_of, tokens_at}

-- ---- each place begins and ends between characters

places_from : (script : List ℕ) (at : ℕ) (bytes : List ℕ) (ts : List Lexeme) → IsUtf8 bytes → at ≤ length script → bytes ≡ drop at script
    → TokensFrom at bytes ts → All (λ t. IsInScript script (span_of t)) ts
places_from script at bytes ts utf8 le e lexis.TokensFrom.ended = All-nil (λ t. IsInScript script (span_of t))
places_from script at bytes ts utf8 le e (lexis.TokensFrom.blank n f rest) =
    let ends : EndsBetween (front.Blank n) bytes = ends_of bytes (front.Blank n) utf8 f in
    let left : length bytes ≡ length script - at = ap length e ∙ length-drop at script in
    places_from script (at + n) (drop n bytes) ts (IsUtf8-drop bytes n utf8 ends.1) (omega (arith, ends.1.0)) (behind script at n bytes e) rest
places_from script at bytes ts utf8 le e (lexis.TokensFrom.token {more = more} k n f rest) =
    let ends : EndsBetween (front.Lexeme k n) bytes = ends_of bytes (front.Lexeme k n) utf8 f in
    let left : length bytes ≡ length script - at = ap length e ∙ length-drop at script in
    let token : Lexeme = record { kind = k; text = take n bytes; start = at; end = at + n } in
    let one : IsInScript script (span_of token) = record {
      ordered = omega arith;
      begins = IsCharBoundary-from_drop script at le (subst IsUtf8 e utf8);
      ends = IsCharBoundary-from_rest script at n le (subst (λ (bs : List ℕ). IsCharBoundary bs n) e ends.1);
    } in
    All-cons (λ t. IsInScript script (span_of t)) token more one
    (places_from script (at + n) (drop n bytes) more (IsUtf8-drop bytes n utf8 ends.1) (omega (arith, ends.1.0)) (behind script at n bytes e) rest)

spans_within : (script : List ℕ) (ts : List Lexeme) → IsUtf8 script → TokensOf script ts → All (IsInScript script) (map span_of ts)
spans_within script ts utf8 tokens =
    let boundary : IsCharBoundary script (byte_order_mark_size script) = mark_boundary script utf8 in
    All-map (IsInScript script) span_of ts
    (places_from script (byte_order_mark_size script) (drop (byte_order_mark_size script) script) ts (IsUtf8-drop script (byte_order_mark_size script) utf8 boundary) boundary.0 refl tokens)

-- ---- the tokens at their places are these tokens

at_place : (script : List ℕ) (t : Lexeme) → IsTokenAt script t → lexeme_at script (span_of t) ≡ t
at_place script t it = ap (λ (text : List ℕ). record { kind = t.kind; text = text; start = t.start; end = t.end }) (sym it.slice)

at_places : (script : List ℕ) (ts : List Lexeme) → All (IsTokenAt script) ts → lexemes_at script (map span_of ts) ≡ ts
at_places script [] all = refl
at_places script (t ∷ ts) all =
    rw (at_place script t (All-head (IsTokenAt script) t ts all), at_places script ts (All-tail (IsTokenAt script) t ts all)) refl

-- ---- the places that a script's text gives

-- the places are its tokens' places
abbrev pub ArePlaces : ℕ → List ℕ → List TokenSpan → Type 0
ArePlaces start text places = (ts : List Lexeme) × (places ≡ map span_of ts) × TokensFrom start text ts

lexed_by : (script : List ℕ) (start : ℕ) (text : List ℕ) (ts : List Lexeme) → start ≡ byte_order_mark_size script → text ≡ drop start script → TokensFrom start text ts → TokensOf script ts
lexed_by script start text ts begins rest tokens =
    subst₂ (λ (n : ℕ) (bytes : List ℕ). TokensFrom n bytes ts) begins (rest ∙ ap (λ (n : ℕ). drop n script) begins) tokens

pub places_lexed : (script : List ℕ) (start : ℕ) (text : List ℕ) (places : List TokenSpan) → IsUtf8 script → start ≡ byte_order_mark_size script → text ≡ drop start script
    → ArePlaces start text places → TokensOf script (lexemes_at script places)
places_lexed script start text places utf8 begins rest (ts, same, tokens) =
    let lexed : TokensOf script ts = lexed_by script start text ts begins rest tokens in
    subst (TokensOf script) (sym (ap (lexemes_at script) same ∙ at_places script ts (tokens_at script ts utf8 lexed))) lexed

pub places_within : (script : List ℕ) (start : ℕ) (text : List ℕ) (places : List TokenSpan) → IsUtf8 script → start ≡ byte_order_mark_size script → text ≡ drop start script
    → ArePlaces start text places → All (IsInScript script) places
places_within script start text places utf8 begins rest (ts, same, tokens) =
    subst (All (IsInScript script)) (sym same) (spans_within script ts utf8 (lexed_by script start text ts begins rest tokens))
