-- The results that listeners are handed, and the results of the first pieces.
use Rattle.std.proofs.Common.{◌≡◌, ◌≤◌, ◌<◌, ◌+◌, ◌++◌, ◌∷◌, ◌∙◌, ℕ, Bool, List, [], length, map, take, drop, false, true, ap, arith, inl, inr, refl, subst, sym, append_assoc, vec_capacity, vec_len}
use Rattle.std.proofs.lemmas.List.{append-nil, map-append, take-append-drop}
use Rattle.sql_front.specs.Pieces.{spanned}
use Rattle.sql_front.specs.declared.pieces.Span.{Span}
use Rattle.sql_statements.specs.Lexemes.{Lexeme}
use Rattle.script_engine.specs.declared.script.listener.AllKept.{AllKept}
use Rattle.script_engine.specs.script.Keeping.{AddsWhereRoom}
use Rattle.script_engine.specs.script.Listening.{ReceivesAll, StepFront}
use Rattle.script_engine.specs.script.Script.{StepPieces}

heard_last : {L K : Type 0} (Hears : L → ℕ → K → Bool → L → Type 0) (n : ℕ) (old : L) (result : K) (goes_on : Bool) (new : L) → Hears old n result goes_on new → ReceivesAll Hears n old (result ∷ []) goes_on new
heard_last Hears n old result false new heard = inl (heard, refl, refl)
heard_last Hears n old result true new heard = inr (new, heard, (refl, refl))

-- a listener hears one result more
pub hears_more : {L K : Type 0} (Hears : L → ℕ → K → Bool → L → Type 0) (n at : ℕ) (old : L) (results : List K) (middle : L) (result : K) (goes_on : Bool) (new : L) →
    n + length results ≡ at → ReceivesAll Hears n old results true middle → Hears middle at result goes_on new → ReceivesAll Hears n old (results ++ result ∷ []) goes_on new
hears_more Hears n at old [] middle result goes_on new counted (same, on) heard =
    let first : n ≡ at = omega (arith, counted) in
    heard_last Hears n old result goes_on new (subst (λ l. Hears l n result goes_on new) same (subst (λ k. Hears middle k result goes_on new) (sym first) heard))
hears_more Hears n at old (first ∷ results) middle result goes_on new counted (inl (stopped, none, off)) heard = let no : ⊥ = cc in absurd no
hears_more Hears n at old (first ∷ results) middle result goes_on new counted (inr (next, here, rest)) heard =
    let more : (n + 1) + length results ≡ at = omega (arith, counted) in
    inr (next, here, hears_more Hears (n + 1) at next results middle result goes_on new more rest heard)

-- a list with room for all has them all
module _ {K : Type 0} where
  pub all_kept : (n : ℕ) (old : AllKept K) (results : List K) (goes_on : Bool) (new : AllKept K) → ReceivesAll AddsWhereRoom n old results goes_on new → vec_len old.kept + length results ≤ vec_capacity old.kept →
      (new.kept.items ≡ old.kept.items ++ results) × (goes_on ≡ true)
  all_kept n old [] goes_on new (same, on) room = (ap (λ (l : AllKept K). l.kept.items) same ∙ sym (append-nil old.kept.items), on)
  all_kept n old (result ∷ results) goes_on new (inl (heard, none, off)) room =
      let free : vec_len old.kept < vec_capacity old.kept = omega (arith, room) in
      let (added, on, len, capacity) = heard free in
      let no : ⊥ = cc in
      absurd no
  all_kept n old (result ∷ results) goes_on new (inr (middle, heard, rest)) room =
      let free : vec_len old.kept < vec_capacity old.kept = omega (arith, room) in
      let (added, on, len, capacity) = heard free in
      let left : vec_len middle.kept + length results ≤ vec_capacity middle.kept = omega (arith, room, len, capacity) in
      let (items, whole) = all_kept (n + 1) middle results goes_on new rest left in
      (items ∙ ap (λ xs. xs ++ results) added ∙ append_assoc old.kept.items (result ∷ []) results, whole)

module _ {H R : Type 0} (IsStep : H → List Lexeme → R → H → Type 0) where
  -- the results of the first pieces begin the results of all
  pub front_of : (opening : H) (tokens : List Lexeme) (spans : List Span) (i : ℕ) (results : List R) (last : H) → StepPieces IsStep opening (map (spanned tokens) (take i spans)) results last →
      StepFront IsStep opening (map (spanned tokens) spans) results false last
  front_of opening tokens spans i results last run = record {
    front = map (spanned tokens) (take i spans);
    back = map (spanned tokens) (drop i spans);
    parted = ap (map (spanned tokens)) (sym (take-append-drop i spans)) ∙ map-append (spanned tokens) (take i spans) (drop i spans);
    all = λ on. let no : ⊥ = cc in absurd no;
    run = run;
  }

  pub whole_front : (opening : H) (pieces : List (List Lexeme)) (results : List R) (last : H) → StepPieces IsStep opening pieces results last → StepFront IsStep opening pieces results true last
  whole_front opening pieces results last run = record { front = pieces; back = []; parted = sym (append-nil pieces); all = λ on. refl; run = run }

  pub front_is_whole : (opening : H) (pieces : List (List Lexeme)) (results : List R) (goes_on : Bool) (last : H) → StepFront IsStep opening pieces results goes_on last → goes_on ≡ true → StepPieces IsStep opening pieces results last
  front_is_whole opening pieces results goes_on last front on =
      let none = front.all on in
      let same : front.front ≡ pieces = sym (front.parted ∙ ap (λ back. front.front ++ back) none ∙ append-nil front.front) in
      subst (λ ps. StepPieces IsStep opening ps results last) same front.run
