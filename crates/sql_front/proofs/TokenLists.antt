-- Facts of the tokens of a script, and of any run of them.
use Rattle.std.proofs.Common.{◌≡◌, ℕ, ◌+◌, ◌-◌, ◌≤◌, List, ◌∷◌, length, take, drop, refl, sym, ap, subst, ◌∙◌, arith, length-drop, Result, Ok, Err, Vec, Global}
use Rattle.std.specs.Prelude.{IfOk}
use Rattle.std.specs.List.{All}
use Rattle.std.specs.Str.{IsUtf8, IsCharBoundary}
use Rattle.std.proofs.lemmas.List.{drop-drop}
use Rattle.std.proofs.lemmas.List.Elements.{All-nil, All-cons}
use Rattle.std.proofs.lemmas.Str.{IsUtf8-drop}
use Rattle.sql_statements.specs.declared.token.TokenKind.{TokenKind}
use Rattle.sql_statements.specs.declared.lexeme.Front.{Front}
use Rattle.sql_statements.specs.declared.lexeme.Front.TheVariants as front
use Rattle.sql_statements.specs.declared.token.Token.{Token}
use Rattle.sql_front.specs.declared.lexer.LexFault.{LexFault}
use Rattle.sql_statements.specs.Lexemes.{Lexeme, lexemes}
use Rattle.sql_statements.specs.Lexis as lexis
use Rattle.sql_statements.specs.Lexis.{first_lexeme, byte_order_mark_size, TokensFrom, StopsFrom, TokensOf, StopsAt, EndsBetween, IsTokenAt}
use Rattle.sql_statements.proofs.FrontEnds.{front_ends}
use Rattle.sql_front.proofs.ByteOrderMark.{mark_boundary}

-- ---- a script has one list of tokens, or a first bad offset

after_blank : (at : ℕ) (bytes : List ℕ) (ts : List Lexeme) (n : ℕ) → first_lexeme bytes ≡ front.Blank n → TokensFrom at bytes ts → TokensFrom (at + n) (drop n bytes) ts
unfolding first_lexeme
after_blank at bytes ts n e lexis.TokensFrom.ended = absurd cc
after_blank at bytes ts n e (lexis.TokensFrom.blank m f rest) =
    let same : m ≡ n = cc in
    subst (λ (k : ℕ). TokensFrom (at + k) (drop k bytes) ts) same rest
after_blank at bytes ts n e (lexis.TokensFrom.token k m f rest) = absurd cc

after_token : (at : ℕ) (bytes : List ℕ) (ts : List Lexeme) (k : TokenKind) (n : ℕ) → first_lexeme bytes ≡ front.Lexeme k n → TokensFrom at bytes ts
    → (more : List Lexeme) × (ts ≡ record { kind = k; text = take n bytes; start = at; end = at + n } ∷ more) × TokensFrom (at + n) (drop n bytes) more
unfolding first_lexeme
after_token at bytes ts k n e lexis.TokensFrom.ended = absurd cc
after_token at bytes ts k n e (lexis.TokensFrom.blank m f rest) = absurd cc
after_token at bytes ts k n e (lexis.TokensFrom.token {more = more} j m f rest) =
    let kinds : j ≡ k = cc in
    let sizes : m ≡ n = cc in
    (more, cc, subst (λ (i : ℕ). TokensFrom (at + i) (drop i bytes) more) sizes rest)

none_fits : (at b : ℕ) (rest bytes : List ℕ) (ts : List Lexeme) → bytes ≡ b ∷ rest → first_lexeme bytes ≡ front.Bad → TokensFrom at bytes ts → ⊥
none_fits at b rest bytes ts is e lexis.TokensFrom.ended = cc
none_fits at b rest bytes ts is e (lexis.TokensFrom.blank n f more) = cc
none_fits at b rest bytes ts is e (lexis.TokensFrom.token k n f more) = cc

pub never_both : (at : ℕ) (bytes : List ℕ) (ts : List Lexeme) (bad : ℕ) → TokensFrom at bytes ts → StopsFrom at bytes bad → ⊥
never_both at bytes ts bad tokens (lexis.StopsFrom.here {b = b} {rest = rest} e) = none_fits at b rest (b ∷ rest) ts refl e tokens
never_both at bytes ts bad tokens (lexis.StopsFrom.blank n e rest) = never_both (at + n) (drop n bytes) ts bad (after_blank at bytes ts n e tokens) rest
never_both at bytes ts bad tokens (lexis.StopsFrom.token k n e rest) =
    let t = after_token at bytes ts k n e tokens in
    never_both (at + n) (drop n bytes) t.0 bad t.2 rest

-- a script with tokens has no bad offset
pub never_both_of : (script : List ℕ) (ts : List Lexeme) (bad : ℕ) → TokensOf script ts → StopsAt script bad → ⊥
never_both_of script ts bad = never_both (byte_order_mark_size script) (drop (byte_order_mark_size script) script) ts bad

-- ---- each token of a script

pub ends_of : (bytes : List ℕ) (f : Front) → IsUtf8 bytes → first_lexeme bytes ≡ f → EndsBetween f bytes
ends_of bytes f utf8 e = subst (λ (x : Front). EndsBetween x bytes) e (front_ends bytes utf8)

pub behind : (script : List ℕ) (at n : ℕ) (bytes : List ℕ) → bytes ≡ drop at script → drop n bytes ≡ drop (at + n) script
behind script at n bytes e = ap (drop n) e ∙ drop-drop n at script

tokens_from : (script : List ℕ) (at : ℕ) (bytes : List ℕ) (ts : List Lexeme) → IsUtf8 bytes → at ≤ length script → bytes ≡ drop at script
    → TokensFrom at bytes ts → All (IsTokenAt script) ts
tokens_from script at bytes ts utf8 le e lexis.TokensFrom.ended = All-nil (IsTokenAt script)
tokens_from script at bytes ts utf8 le e (lexis.TokensFrom.blank n f rest) =
    let ends : EndsBetween (front.Blank n) bytes = ends_of bytes (front.Blank n) utf8 f in
    let left : length bytes ≡ length script - at = ap length e ∙ length-drop at script in
    tokens_from script (at + n) (drop n bytes) ts (IsUtf8-drop bytes n utf8 ends.1) (omega (arith, ends.1.0)) (behind script at n bytes e) rest
tokens_from script at bytes ts utf8 le e (lexis.TokensFrom.token {more = more} k n f rest) =
    let ends : EndsBetween (front.Lexeme k n) bytes = ends_of bytes (front.Lexeme k n) utf8 f in
    let left : length bytes ≡ length script - at = ap length e ∙ length-drop at script in
    let size : n ≡ at + n - at = omega arith in
    let one : IsTokenAt script (record { kind = k; text = take n bytes; start = at; end = at + n }) = record {
      first = ap first_lexeme (sym e) ∙ f ∙ ap (λ (m : ℕ). front.Lexeme k m) size;
      slice = ap (take n) e ∙ ap (λ (m : ℕ). take m (drop at script)) size;
      some = omega (arith, ends.0);
      within = omega (arith, ends.1.0);
    } in
    All-cons (IsTokenAt script) (record { kind = k; text = take n bytes; start = at; end = at + n }) more one
    (tokens_from script (at + n) (drop n bytes) more (IsUtf8-drop bytes n utf8 ends.1) (omega (arith, ends.1.0)) (behind script at n bytes e) rest)

pub tokens_at : (script : List ℕ) (ts : List Lexeme) → IsUtf8 script → TokensOf script ts → All (IsTokenAt script) ts
tokens_at script ts utf8 tokens =
    let boundary : IsCharBoundary script (byte_order_mark_size script) = mark_boundary script utf8 in
    tokens_from script (byte_order_mark_size script) (drop (byte_order_mark_size script) script) ts (IsUtf8-drop script (byte_order_mark_size script) utf8 boundary) boundary.0 refl tokens

pub ok_tokens_at : (script : List ℕ) (r : Result (Vec Token Global) LexFault) → IsUtf8 script → IfOk r (λ v. TokensOf script (lexemes v.items))
    → IfOk r (λ v. All (IsTokenAt script) (lexemes v.items))
ok_tokens_at script (Ok v) utf8 h = tokens_at script (lexemes v.items) utf8 h
ok_tokens_at script (Err e) utf8 h = h
