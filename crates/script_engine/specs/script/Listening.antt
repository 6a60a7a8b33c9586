-- The results that a listener receives, and the run of a script's first pieces.
use Rattle.std.specs.Prelude.{◌≡◌, ◌⊎◌, ◌+◌, ◌++◌, ◌∷◌, ℕ, Bool, List, [], false, true}
use Rattle.sql_statements.specs.Lexemes.{Lexeme}
use Rattle.script_engine.specs.script.Script.{IsCutInto, StepPieces}

-- the listener receives the results one after the other, numbered from `n` on; after each it asks
-- for more, but if the run is stopped, not after the last
abbrev pub ReceivesAll : {L K : Type 0} → (L → ℕ → K → Bool → L → Type 0)
    → ℕ → L → List K → Bool → L → Type 0
ReceivesAll Hears n old [] goes_on new = (new ≡ old) × (goes_on ≡ true)
ReceivesAll {L} Hears n old (result ∷ results) goes_on new =
    (Hears old n result false new × (results ≡ []) × (goes_on ≡ false))
    ⊎ ((middle : L) × Hears old n result true middle
    × ReceivesAll Hears (n + 1) middle results goes_on new)

-- the results belong to the first pieces, one after the other, each by such a step; to all of
-- them if the run is not stopped
pub record StepFront {H R : Type 0} (IsStep : H → List Lexeme → R → H → Type 0)
    (opening : H) (pieces : List (List Lexeme)) (results : List R) (goes_on : Bool) (last : H)
    : Type 0 where
  pub front : List (List Lexeme)
  pub back : List (List Lexeme)
  pub parted : pieces ≡ front ++ back
  pub all : goes_on ≡ true → back ≡ []
  pub run : StepPieces IsStep opening front results last

-- the results are of the script's first pieces, from the opening on
pub record IsFrontRunBy {H R : Type 0} (IsStep : H → List Lexeme → R → H → Type 0)
    (opening : H) (script : List ℕ) (results : List R) (goes_on : Bool) : Type 0 where
  pub pieces : List (List Lexeme)
  pub cut : IsCutInto script pieces
  pub last : H
  pub run : StepFront IsStep opening pieces results goes_on last
