-- The columns that a name matches, in one pass.
use Rattle.std.proofs.Common.{◌≡◌, ◌<◌, ◌+◌, ◌++◌, ◌∷◌, ◌||◌, ◌==◌, ◌∙◌, ℕ, suc, Bool, true, false, not, List, [], cond, get_or, take, filter, length, nat_lt, refl, sym, ap, arith}
use Rattle.std.specs.Option.{option_or, is_some}
use Rattle.std.proofs.lemmas.Bool.Decides.{nat_tests}
use Rattle.std.proofs.lemmas.List.{append-nil}
use Rattle.std.proofs.lemmas.List.Elements.{filter_more}
use Rattle.sql_statements.specs.declared.statement.ColumnReference.{ColumnReference}
use Rattle.statement_resolution.proofs.lemmas.judged.FaultSums.{or_assoc, or_none}
use Rattle.statement_resolution.specs.query.Faults.{match_faults, match_kind, matches_among}
use Rattle.statement_resolution.specs.query.Matched.{found_faults, matched, matched_more}
use Rattle.statement_resolution.specs.query.Faults.{are_of_period}
use Rattle.statement_resolution.specs.query.Scopes.{SeenColumn, has_value, names_column}
use Rattle.catalog_core.specs.table.Matches.{is_matching}
use Rattle.statement_resolution.specs.declared.query.seen_column.Matched.{Matched}

period_push : (ms : List SeenColumn) (x : SeenColumn) → are_of_period (ms ++ x ∷ []) ≡ (are_of_period ms || not (has_value x))
period_push [] x = or_none (not (has_value x))
period_push (m ∷ ms) x =
    ap (λ b. not (has_value m) || b) (period_push ms x) ∙ sym (or_assoc (not (has_value m)) (are_of_period ms) (not (has_value x)))

two_long : (n : ℕ) → nat_lt 1 (suc (suc n)) ≡ true
two_long n = grind (arith, nat_tests)

not_zero : (n : ℕ) → (suc n == 0) ≡ false
not_zero n = grind (arith, nat_tests)

several_push : (ms : List SeenColumn) (x : SeenColumn) → nat_lt 1 (length (ms ++ x ∷ [])) ≡ is_some (match_kind ms)
several_push [] x = refl
several_push (m ∷ []) x = refl
several_push (m ∷ n ∷ ms) x = two_long (length (ms ++ x ∷ []))

kind_push : (ms : List SeenColumn) (x : SeenColumn) → match_kind (ms ++ x ∷ []) ≡ option_or (match_kind ms) (match_kind (x ∷ []))
kind_push [] x = refl
kind_push (m ∷ ms) x = refl

pub matched_push : (ms : List SeenColumn) (x : SeenColumn) → matched (ms ++ x ∷ []) ≡ matched_more (matched ms) x
matched_push ms x = rw (kind_push ms x, several_push ms x, period_push ms x) refl

-- the matches among the columns so far, and one more
pub named_more : (r : ColumnReference) (xs : List SeenColumn) (i : ℕ) (x : SeenColumn) (before after : Matched)
    → i < length xs → x ≡ get_or xs i x → names_column r x ≡ true → before ≡ matched (matches_among (take i xs) r) → after ≡ matched_more before x
    → after ≡ matched (matches_among (take (i + 1) xs) r)
named_more r xs i x before after here item named same next =
    let p : SeenColumn → Bool = names_column r in
    let split : filter p (take (i + 1) xs) ≡ filter p (take i xs) ++ x ∷ [] =
    filter_more p xs i x here
    ∙ ap (λ (y : SeenColumn). filter p (take i xs) ++ cond (p y) (y ∷ []) []) (sym item)
    ∙ ap (λ b. filter p (take i xs) ++ cond b (x ∷ []) []) named in
    next ∙ ap (λ (m : Matched). matched_more m x) same ∙ sym (matched_push (filter p (take i xs)) x) ∙ ap matched (sym split)

pub unnamed_more : (r : ColumnReference) (xs : List SeenColumn) (i : ℕ) (x : SeenColumn)
    → i < length xs → x ≡ get_or xs i x → names_column r x ≡ false
    → matched (matches_among (take i xs) r) ≡ matched (matches_among (take (i + 1) xs) r)
unnamed_more r xs i x here item other =
    let p : SeenColumn → Bool = names_column r in
    let same : filter p (take (i + 1) xs) ≡ filter p (take i xs) =
    filter_more p xs i x here
    ∙ ap (λ (y : SeenColumn). filter p (take i xs) ++ cond (p y) (y ∷ []) []) (sym item)
    ∙ ap (λ b. filter p (take i xs) ++ cond b (x ∷ []) []) other
    ∙ append-nil (filter p (take i xs)) in
    ap matched (sym same)

-- the faults of a name are the faults of its matches
pub found_match : (ms : List SeenColumn) → found_faults (matched ms) ≡ match_faults ms
unfolding match_faults is_matching
found_match [] = refl
found_match (m ∷ ms) = rw (not_zero (length ms)) refl
