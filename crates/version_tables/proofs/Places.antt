-- The place of a table that is made after all other tables.
use Rattle.std.proofs.Common.{◌≡◌, ℕ, zero, suc, ◌+◌, ◌++◌, ◌||◌, ◌&&◌, not, length, List, [], ◌∷◌, cond, codes, Bool, true, false, Some, None, true≢false, inl, inr, refl, sym, ap, ◌∙◌, arith}
use Rattle.std.specs.Prelude.{Option, is_some, option_and_then, slice_get}
use Rattle.std.specs.List.{AllByRecursion, list_any, position_from}
use Rattle.sqlite.specs.Change.{created}
use Rattle.sqlite.specs.Rows.{sequence}
use Rattle.sqlite.specs.Schema.{Schema}
use Rattle.sqlite.specs.Table.{Table}
use Rattle.sqlite_rules.specs.Lists.{Has}
use Rattle.sqlite_schema.specs.Names.{same_name}
use Rattle.version_tables.specs.Making.{HasCounters}

-- ---- places in a longer list

pub place_more : {A : Type 0} (p : A → Bool) (i : ℕ) (xs ys : List A) (k : ℕ) → position_from p i xs ≡ Some k → position_from p i (xs ++ ys) ≡ Some k
place_more p i [] ys k h = absurd cc
place_more p i (x ∷ xs) ys k h = go (p x) h (place_more p (i + 1) xs ys k)
  where
    go : (b : Bool) → cond b (Some i) (position_from p (i + 1) xs) ≡ Some k → (position_from p (i + 1) xs ≡ Some k → position_from p (i + 1) (xs ++ ys) ≡ Some k) → cond b (Some i) (position_from p (i + 1) (xs ++ ys)) ≡ Some k
    go true h more = h
    go false h more = more h

pub item_more : {A : Type 0} (xs ys : List A) (k : ℕ) (x : A) → slice_get xs k ≡ Some x → slice_get (xs ++ ys) k ≡ Some x
item_more [] ys k x h = absurd cc
item_more (z ∷ xs) ys zero x h = h
item_more (z ∷ xs) ys (suc k) x h = item_more xs ys k x h

pub place_behind : {A : Type 0} (p : A → Bool) (i : ℕ) (xs : List A) (y : A) (ys : List A) → is_some (position_from p i xs) ≡ false → p y ≡ true → position_from p i (xs ++ y ∷ ys) ≡ Some (length xs + i)
place_behind p i [] y ys none here = let e : i ≡ 0 + i = omega arith in rw here (ap Some e)
place_behind p i (x ∷ xs) y ys none here = go (p x) none (place_behind p (i + 1) xs y ys)
  where
    go : (b : Bool) → is_some (cond b (Some i) (position_from p (i + 1) xs)) ≡ false → (is_some (position_from p (i + 1) xs) ≡ false → p y ≡ true → position_from p (i + 1) (xs ++ y ∷ ys) ≡ Some (length xs + (i + 1)))
        → cond b (Some i) (position_from p (i + 1) (xs ++ y ∷ ys)) ≡ Some (length (x ∷ xs) + i)
    go true none more = absurd (true≢false none)
    go false none more = let e : length xs + (i + 1) ≡ length (x ∷ xs) + i = omega arith in more none here ∙ ap Some e

pub item_after : {A : Type 0} (xs : List A) (y : A) (ys : List A) → slice_get (xs ++ y ∷ ys) (length xs) ≡ Some y
item_after [] y ys = refl
item_after (x ∷ xs) y ys = item_after xs y ys

-- ---- a table more that counts nothing wants no counter

any_more : (xs : List Table) (t : Table) → t.is_counted ≡ false → list_any (λ (t : Table). t.is_counted) (xs ++ t ∷ []) ≡ list_any (λ (t : Table). t.is_counted) xs
any_more [] t none = rw none refl
any_more (x ∷ xs) t none = ap (λ b. x.is_counted || b) (any_more xs t none)

abbrev is_sequence : Table → Bool
is_sequence t = same_name t.name (codes "sqlite_sequence")

kept_by : (xs ys : List Table) (place : Option ℕ) → position_from is_sequence 0 xs ≡ place → is_some (option_and_then (slice_get xs) place) ≡ true
    → is_some (option_and_then (slice_get (xs ++ ys)) (position_from is_sequence 0 (xs ++ ys))) ≡ true
kept_by xs ys None is some = absurd (true≢false (sym some))
kept_by xs ys (Some k) is some = go (slice_get xs k) refl some
  where
    go : (o : Option Table) → slice_get xs k ≡ o → is_some o ≡ true → is_some (option_and_then (slice_get (xs ++ ys)) (position_from is_sequence 0 (xs ++ ys))) ≡ true
    go None at some = absurd (true≢false (sym some))
    go (Some t) at some = let place = place_more is_sequence 0 xs ys k is in let item = item_more xs ys k t at in rw (place, item) refl

pub counters_more : (s : Schema) (t : Table) → t.is_counted ≡ false → HasCounters s → HasCounters (created s t)
counters_more s t none has = go (list_any (λ (u : Table). u.is_counted) s.tables) (any_more s.tables _ none) (is_some (sequence s)) refl has
  where
    go : (counts : Bool) → list_any (λ (u : Table). u.is_counted) (created s t).tables ≡ counts → (counted : Bool) → is_some (sequence s) ≡ counted → (counts && not counted) ≡ false
        → (list_any (λ (u : Table). u.is_counted) (created s t).tables && not (is_some (sequence (created s t)))) ≡ false
    go false more counted is h = rw more refl
    go true more true is h = let kept : is_some (sequence (created s t)) ≡ true = kept_by s.tables _ (position_from is_sequence 0 s.tables) refl is in rw (more, kept) refl
    go true more false is h = absurd (true≢false h)

-- ---- facts of each table

pub all_have : {A : Type 0} (P : A → Type 0) (xs : List A) → ((x : A) → Has xs x → P x) → AllByRecursion P xs
all_have P [] each = tt
all_have P (x ∷ xs) each = (each x (inl refl), all_have P xs (λ y has. each y (inr has)))

pub all_front : {A : Type 0} (P : A → Type 0) (xs ys : List A) → AllByRecursion P (xs ++ ys) → AllByRecursion P xs
all_front P [] ys all = tt
all_front P (x ∷ xs) ys all = (all.0, all_front P xs ys all.1)

pub all_behind : {A : Type 0} (P : A → Type 0) (xs ys : List A) → AllByRecursion P (xs ++ ys) → AllByRecursion P ys
all_behind P [] ys all = all
all_behind P (x ∷ xs) ys all = all_behind P xs ys all.1
