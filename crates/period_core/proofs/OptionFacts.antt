-- A value comes from one of several steps, each of which may give none.
use Rattle.std.proofs.Common.{◌≡◌, Bool, true, false, cond, Option, Some, None, refl, inl, inr, ◌⊎◌}
use Rattle.period_core.specs.TextReading.{◌>>=◌}

abbrev done : {A : Type 0} → A → Option A
done x = Some x

-- equal results have equal values
pub some_is : {A : Type 0} (x y : A) → done x ≡ done y → x ≡ y
some_is x y e = cc

-- no value is not a value
pub none_some : {A : Type 0} (x : A) → None ≡ done x → ⊥
none_some x e = cc

-- a value of two steps comes from a value of the first
pub bind_some : {A B : Type 0} (r : Option A) (f : A → Option B) (y : B) → (r >>= f) ≡ Some y → (x : A) × (r ≡ Some x) × (f x ≡ Some y)
bind_some (Some x) f y e = (x, refl, e)
bind_some None f y e = absurd cc

-- a value of a choice comes from the branch of its test
pub if_some : {A : Type 0} (b : Bool) (p q : Option A) (y : A) → cond b p q ≡ Some y → ((b ≡ true) × (p ≡ Some y)) ⊎ ((b ≡ false) × (q ≡ Some y))
if_some true p q y e = inl (refl, e)
if_some false p q y e = inr (refl, e)
