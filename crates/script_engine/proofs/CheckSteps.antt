-- The checks of pieces, one after the other.
use Rattle.std.proofs.Common.{◌≡◌, ◌<◌, ◌+◌, ◌-◌, ◌++◌, ◌∷◌, ℕ, List, [], get_or, length, map, take, drop, Result}
use Rattle.std.specs.List.{AllZip}
use Rattle.period_core.specs.declared.refusal.Refusal.{Refusal}
use Rattle.sql_front.specs.Pieces.{spanned}
use Rattle.sql_front.specs.TokenSpans.{lexemes_at}
use Rattle.sql_front.specs.declared.pieces.Span.{Span}
use Rattle.sql_front.specs.declared.token_spans.TokenSpan.{TokenSpan}
use Rattle.script_engine.specs.script.Check.{IsPieceCheck}
use Rattle.script_engine.proofs.PieceFacts.{pieces_next}

-- a relation of two lists, with one more element of each
AllZip-more : {A B : Type 0} (R : A → B → Type 0) (xs : List A) (ys : List B) (x : A) (y : B) → AllZip R xs ys → R x y → AllZip R (xs ++ x ∷ []) (ys ++ y ∷ [])
AllZip-more R [] [] x y all here = (here, tt)
AllZip-more R [] (b ∷ ys) x y all here = absurd all
AllZip-more R (a ∷ xs) [] x y all here = absurd all
AllZip-more R (a ∷ xs) (b ∷ ys) x y (first, rest) here = (first, AllZip-more R xs ys x y rest here)

-- the check of the next of the spans of a list of tokens
pub check_next : (script : List ℕ) (tokens : List TokenSpan) (spans : List Span) (i : ℕ) (d : Span) (results more : List (Result (Unit {0}) Refusal)) (result : Result (Unit {0}) Refusal) →
    i < length spans → more ≡ results ++ result ∷ [] → AllZip IsPieceCheck (map (spanned (lexemes_at script tokens)) (take i spans)) results →
    IsPieceCheck (lexemes_at script (take ((get_or spans i d).end - (get_or spans i d).start) (drop (get_or spans i d).start tokens))) result →
    AllZip IsPieceCheck (map (spanned (lexemes_at script tokens)) (take (i + 1) spans)) more
check_next script tokens spans i d results more result inside added checked here =
    rw (pieces_next script tokens spans i d inside, added)
    (AllZip-more IsPieceCheck (map (spanned (lexemes_at script tokens)) (take i spans)) results (lexemes_at script (take ((get_or spans i d).end - (get_or spans i d).start) (drop (get_or spans i d).start tokens))) result checked here)
