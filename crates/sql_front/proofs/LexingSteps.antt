-- One more white space, comment or token.
use Rattle.std.proofs.Common.{◌≡◌, ℕ, ◌+◌, ◌<◌, List, [], ◌∷◌, ◌++◌, length, take, drop, subst, append_assoc, arith}
use Rattle.std.proofs.lemmas.List.{append-nil, nil_from_length}
use Rattle.sql_statements.specs.declared.token.TokenKind.{TokenKind}
use Rattle.sql_statements.specs.declared.lexeme.Front.TheVariants as front
use Rattle.sql_statements.specs.Lexemes.{Lexeme}
use Rattle.sql_statements.specs.Lexis as lexis
use Rattle.sql_statements.specs.Lexis.{first_lexeme, TokensFrom, StopsFrom}

-- ---- the first token

module _ (start : ℕ) (script : List ℕ) (at : ℕ) (rest after : List ℕ) (n : ℕ) where
  pub blank_tokens : first_lexeme rest ≡ front.Blank n → after ≡ drop n rest
      → ((more : List Lexeme) → TokensFrom at rest more → TokensFrom start script more)
      → (more : List Lexeme) → TokensFrom (at + n) after more → TokensFrom start script more
  blank_tokens e f before more t = before more (lexis.TokensFrom.blank n e (subst (λ (w : List ℕ). TokensFrom (at + n) w more) f t))

  pub blank_stops : first_lexeme rest ≡ front.Blank n → after ≡ drop n rest
      → ((bad : ℕ) → StopsFrom at rest bad → StopsFrom start script bad) → (bad : ℕ) → StopsFrom (at + n) after bad → StopsFrom start script bad
  blank_stops e f before bad t = before bad (lexis.StopsFrom.blank n e (subst (λ (w : List ℕ). StopsFrom (at + n) w bad) f t))

  pub token_tokens : (k : TokenKind) (text : List ℕ) → first_lexeme rest ≡ front.Lexeme k n → after ≡ drop n rest → text ≡ take n rest
      → ((more : List Lexeme) → TokensFrom at rest more → TokensFrom start script more)
      → (more : List Lexeme) → TokensFrom (at + n) after more
      → TokensFrom start script (record { kind = k; text = text; start = at; end = at + n } ∷ more)
  token_tokens k text e f g before more t =
      let one : TokensFrom at rest (record { kind = k; text = take n rest; start = at; end = at + n } ∷ more) =
      lexis.TokensFrom.token k n e (subst (λ (w : List ℕ). TokensFrom (at + n) w more) f t) in
      rw g (before (record { kind = k; text = take n rest; start = at; end = at + n } ∷ more) one)

  pub token_stops : (k : TokenKind) → first_lexeme rest ≡ front.Lexeme k n → after ≡ drop n rest
      → ((bad : ℕ) → StopsFrom at rest bad → StopsFrom start script bad) → (bad : ℕ) → StopsFrom (at + n) after bad → StopsFrom start script bad
  token_stops k e f before bad t = before bad (lexis.StopsFrom.token k n e (subst (λ (w : List ℕ). StopsFrom (at + n) w bad) f t))

pub stops_here : (at : ℕ) (rest : List ℕ) → 0 < length rest → first_lexeme rest ≡ front.Bad → StopsFrom at rest at
stops_here at [] h e = absurd (omega arith)
stops_here at (b ∷ rest) h e = lexis.StopsFrom.here e

pub none_left : (start : ℕ) (script : List ℕ) (at : ℕ) (rest : List ℕ) → length rest ≡ 0
    → ((more : List Lexeme) → TokensFrom at rest more → TokensFrom start script more) → TokensFrom start script []
none_left start script at rest h before = before [] (rw (nil_from_length rest h) lexis.TokensFrom.ended)

-- ---- one more token

pub one_more : (start : ℕ) (script : List ℕ) (at end : ℕ) (rest after : List ℕ) (so_far : List Lexeme) (t : Lexeme)
    → ((more : List Lexeme) → TokensFrom at rest more → TokensFrom start script (so_far ++ more))
    → ((more : List Lexeme) → TokensFrom end after more → TokensFrom at rest (t ∷ more))
    → (more : List Lexeme) → TokensFrom end after more → TokensFrom start script ((so_far ++ t ∷ []) ++ more)
one_more start script at end rest after so_far t before step more left = rw (append_assoc so_far (t ∷ []) more) (before (t ∷ more) (step more left))

pub all_done : (start : ℕ) (script : List ℕ) (at : ℕ) (rest : List ℕ) (so_far : List Lexeme) → TokensFrom at rest []
    → ((more : List Lexeme) → TokensFrom at rest more → TokensFrom start script (so_far ++ more)) → TokensFrom start script so_far
all_done start script at rest so_far none before = rw append-nil at (before [] none)
