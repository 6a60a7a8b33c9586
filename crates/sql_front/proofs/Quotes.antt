-- The value of a quoted text: doubled quotes are cut to one.
use Rattle.std.proofs.Common.{◌≡◌, ℕ, suc, lit<, ◌<◌, false, List, [], ◌∷◌, ◌++◌, length, get_or, refl, sym, ap, ◌∙◌, arith, Some, None}
use Rattle.std.specs.Prelude.{◌≢◌}
use Rattle.std.specs.Borrow.{Bor}
use Rattle.std.proofs.lemmas.Bool.Decides.{nat_tests}
use Rattle.std.proofs.lemmas.List.{append-nil}
use Rattle.std.proofs.lemmas.Str.Pattern.{IsSplitOnceResult, split_parts}
use Rattle.sql_front.specs.LiteralValues.{is_quote, rest_after_quote, unquoted, after_quote}
use Rattle.sql_front.specs.Quoting.{continued}

-- no byte of a text is a quote
abbrev Plain : List ℕ → Type 0
Plain x = (i : ℕ) → i < length x → get_or x i 0 ≢ 39

no_quote : (b : ℕ) → b ≢ 39 → is_quote b ≡ false
no_quote b differs = grind (arith, nat_tests, differs)

plain_first : (b : ℕ) (x : List ℕ) → Plain (b ∷ x) → is_quote b ≡ false
plain_first b x plain = no_quote b (plain 0 (omega arith))

plain_more : (b : ℕ) (x : List ℕ) → Plain (b ∷ x) → Plain x
plain_more b x plain i h = plain (suc i) (omega (arith, h))

pub unquoted_plain : (x : List ℕ) → Plain x → unquoted x ≡ x
unquoted_plain [] plain = refl
unquoted_plain (b ∷ x) plain = rw (plain_first b x plain, unquoted_plain x (plain_more b x plain)) refl

pub unquoted_cut : (x y : List ℕ) → Plain x → unquoted (x ++ 39 ∷ y) ≡ x ++ after_quote y
unquoted_cut [] y plain = refl
unquoted_cut (b ∷ x) y plain = rw (plain_first b x plain, unquoted_cut x y (plain_more b x plain)) refl

rest_of_plain : (x : List ℕ) → Plain x → rest_after_quote x ≡ []
rest_of_plain [] plain = refl
rest_of_plain (b ∷ x) plain = rw (plain_first b x plain, rest_of_plain x (plain_more b x plain)) refl

rest_of_cut : (x y : List ℕ) → Plain x → rest_after_quote (x ++ 39 ∷ y) ≡ y
rest_of_cut [] y plain = refl
rest_of_cut (b ∷ x) y plain = rw (plain_first b x plain, rest_of_cut x y (plain_more b x plain)) refl

after_plain : (x : List ℕ) → Plain x → after_quote x ≡ []
after_plain [] plain = refl
after_plain (b ∷ x) plain = rw (plain_first b x plain) refl

after_more : (x y : List ℕ) → Plain x → 0 < length x → after_quote (x ++ 39 ∷ y) ≡ []
after_more [] y plain some = absurd (omega (arith, some))
after_more (b ∷ x) y plain some = rw (plain_first b x plain) refl

-- ---- the cuts of the code

pub no_cut : (s : List ℕ) → IsSplitOnceResult 39 s None → unquoted s ≡ s ++ []
no_cut s h = unquoted_plain s (split_parts 39 s None h (lit< tt)) ∙ sym (append-nil s)

pub last_cut : (s : List ℕ) (x : Bor (List ℕ) × Bor (List ℕ)) → IsSplitOnceResult 39 s (Some x) → IsSplitOnceResult 39 x.1.now None → unquoted s ≡ x.0.now ++ []
last_cut s x h k =
    let p = split_parts 39 s (Some x) h (lit< tt) in
    ap unquoted p.0 ∙ unquoted_cut x.0.now x.1.now p.1 ∙ ap (λ (z : List ℕ). x.0.now ++ z) (after_plain x.1.now (split_parts 39 x.1.now None k (lit< tt)))

pub closing_cut : (s : List ℕ) (x y : Bor (List ℕ) × Bor (List ℕ)) → IsSplitOnceResult 39 s (Some x) → IsSplitOnceResult 39 x.1.now (Some y) → 0 < length y.0.now → unquoted s ≡ x.0.now ++ []
closing_cut s x y h k some =
    let p = split_parts 39 s (Some x) h (lit< tt) in
    let q = split_parts 39 x.1.now (Some y) k (lit< tt) in
    ap unquoted p.0 ∙ unquoted_cut x.0.now x.1.now p.1 ∙ ap (λ (z : List ℕ). x.0.now ++ z) (ap after_quote q.0 ∙ after_more y.0.now y.1.now q.1 some)

empty_is : (x : List ℕ) → length x ≡ 0 → x ≡ []
empty_is [] e = refl
empty_is (b ∷ x) e = absurd (omega (arith, e))

pub doubled_cut : (s : List ℕ) (x y : Bor (List ℕ) × Bor (List ℕ)) → IsSplitOnceResult 39 s (Some x) → IsSplitOnceResult 39 x.1.now (Some y) → length y.0.now ≡ 0 → unquoted s ≡ x.0.now ++ continued (Some y.1)
doubled_cut s x y h k none =
    let p = split_parts 39 s (Some x) h (lit< tt) in
    let q = split_parts 39 x.1.now (Some y) k (lit< tt) in
    let quote : x.1.now ≡ 39 ∷ y.1.now = q.0 ∙ ap (λ (z : List ℕ). z ++ 39 ∷ y.1.now) (empty_is y.0.now none) in
    ap unquoted p.0 ∙ unquoted_cut x.0.now x.1.now p.1 ∙ ap (λ (z : List ℕ). x.0.now ++ after_quote z) quote

pub rest_of_none : (s : List ℕ) → IsSplitOnceResult 39 s None → rest_after_quote s ≡ []
rest_of_none s h = rest_of_plain s (split_parts 39 s None h (lit< tt))

pub rest_of_some : (s : List ℕ) (x : Bor (List ℕ) × Bor (List ℕ)) → IsSplitOnceResult 39 s (Some x) → rest_after_quote s ≡ x.1.now
rest_of_some s x h =
    let p = split_parts 39 s (Some x) h (lit< tt) in
    ap rest_after_quote p.0 ∙ rest_of_cut x.0.now x.1.now p.1
