-- Pieces as runs of a script's tokens, and what their tokens alone are refused for.
use Rattle.std.proofs.Common.{◌≡◌, ◌≤◌, ◌<◌, ◌+◌, ◌-◌, ◌++◌, ◌∷◌, ℕ, List, [], get_or, length, map, take, drop, sym, ap, ◌∙◌, inl, inr}
use Rattle.std.proofs.lemmas.List.{drop-map, map-append, take-map, take_more}
use Rattle.period_core.specs.Codes.{code_of}
use Rattle.period_core.specs.Leasts.{IsLeast, MayAnswer, NoneApplies}
use Rattle.period_core.specs.declared.refusal.Refusal.{Refusal}
use Rattle.sql_front.specs.PieceRefusals.{PieceApplies}
use Rattle.sql_statements.specs.Lexemes.{Lexeme}
use Rattle.sql_front.specs.Pieces.{spanned}
use Rattle.sql_front.specs.TokenSpans.{lexeme_at, lexemes_at}
use Rattle.sql_front.specs.declared.pieces.Span.{Span}
use Rattle.sql_front.specs.declared.token_spans.TokenSpan.{TokenSpan}
use Rattle.script_engine.specs.script.Script.{IsOverlong, TextApplies}

-- no refusal applies to a piece that is not overlong, if none applies to its parse
pub none_of_text : (piece : List Lexeme) → (IsOverlong piece → ⊥) → NoneApplies (PieceApplies piece) → NoneApplies (TextApplies piece)
none_of_text piece short none refusal (inl h) = short h.0
none_of_text piece short none refusal (inr h) = none refusal h.1

-- of a piece that is not overlong, what may be answered of its parse may be answered of the piece
least_of_text : (piece : List Lexeme) → (IsOverlong piece → ⊥) → (refusal : Refusal) → IsLeast (PieceApplies piece) refusal → (other : Refusal) → TextApplies piece other → code_of refusal ≤ code_of other
least_of_text piece short refusal least other (inl h) = absurd (short h.0)
least_of_text piece short refusal least other (inr h) = least.least other h.1

pub may_of_text : (piece : List Lexeme) → (IsOverlong piece → ⊥) → (refusal : Refusal) → MayAnswer (PieceApplies piece) refusal → MayAnswer (TextApplies piece) refusal
may_of_text piece short refusal (inl least) = inl (record { applies = inr (short, least.applies); least = least_of_text piece short refusal least })
may_of_text piece short refusal (inr memory) = inr memory

-- the tokens that a span spans, as the definitions see them
lexemes-spanned : (script : List ℕ) (tokens : List TokenSpan) (span : Span) → lexemes_at script (take (span.end - span.start) (drop span.start tokens)) ≡ spanned (lexemes_at script tokens) span
lexemes-spanned script tokens span =
    sym (take-map (lexeme_at script) (span.end - span.start) (drop span.start tokens))
    ∙ ap (take (span.end - span.start)) (sym (drop-map (lexeme_at script) span.start tokens))

-- the pieces up to the next span: those before it, and its tokens
pub pieces_next : (script : List ℕ) (tokens : List TokenSpan) (spans : List Span) (i : ℕ) (d : Span) → i < length spans →
    map (spanned (lexemes_at script tokens)) (take (i + 1) spans)
    ≡ map (spanned (lexemes_at script tokens)) (take i spans) ++ lexemes_at script (take ((get_or spans i d).end - (get_or spans i d).start) (drop (get_or spans i d).start tokens)) ∷ []
pieces_next script tokens spans i d inside =
    let span : Span = get_or spans i d in
    let f = spanned (lexemes_at script tokens) in
    let front : take (i + 1) spans ≡ take i spans ++ span ∷ [] = take_more spans i d inside in
    let same : f span ≡ lexemes_at script (take (span.end - span.start) (drop span.start tokens)) = sym (lexemes-spanned script tokens span) in
    ap (map f) front ∙ map-append f (take i spans) (span ∷ []) ∙ ap (λ (piece : List Lexeme). map f (take i spans) ++ piece ∷ []) same
