-- Faults, collected over a list: in a loop, of two lists, of a list's images; and none of them.
use Rattle.std.proofs.Common.{◌≡◌, ◌<◌, ◌≤◌, ◌+◌, ◌++◌, ◌∷◌, ◌||◌, ◌∙◌, ℕ, zero, suc, Bool, true, false, List, [], arith, get_or, take, take_all, length, map, refl, sym, ap}
use Rattle.std.proofs.lemmas.Bool.{or_parts}
use Rattle.std.proofs.lemmas.List.{take_more}
use Rattle.catalog_core.proofs.lemmas.judged.Sound.{AreFalse}
use Rattle.statement_resolution.specs.Faults.{either, fault_conditions, faults_among, no_faults}
use Rattle.statement_resolution.specs.declared.faults.Faults.{Faults}

pub or_assoc : (a b c : Bool) → ((a || b) || c) ≡ (a || (b || c))
or_assoc true b c = refl
or_assoc false b c = refl

pub or_none : (a : Bool) → (a || false) ≡ a
or_none true = refl
or_none false = refl

or_crossed : (a b c d : Bool) → ((a || b) || (c || d)) ≡ ((a || c) || (b || d))
or_crossed true b c d = refl
or_crossed false true true d = refl
or_crossed false true false d = refl
or_crossed false false c d = refl

pub either_assoc : (f g h : Faults) → either (either f g) h ≡ either f (either g h)
either_assoc f g h =
    rw (
      or_assoc f.table g.table h.table,
      or_assoc f.unknown g.unknown h.unknown,
      or_assoc f.ambiguous g.ambiguous h.ambiguous,
      or_assoc f.twice g.twice h.twice,
      or_assoc f.period g.period h.period,
      or_assoc f.count g.count h.count,
      or_assoc f.kinds g.kinds h.kinds,
      or_assoc f.long g.long h.long,
      or_assoc f.empty g.empty h.empty,
    ) refl

pub either_none : (f : Faults) → either f no_faults ≡ f
either_none f =
    rw (
      or_none f.table,
      or_none f.unknown,
      or_none f.ambiguous,
      or_none f.twice,
      or_none f.period,
      or_none f.count,
      or_none f.kinds,
      or_none f.long,
      or_none f.empty,
    ) refl

pub either_crossed : (f g h k : Faults) → either (either f g) (either h k) ≡ either (either f h) (either g k)
either_crossed f g h k =
    rw (
      or_crossed f.table g.table h.table k.table,
      or_crossed f.unknown g.unknown h.unknown k.unknown,
      or_crossed f.ambiguous g.ambiguous h.ambiguous k.ambiguous,
      or_crossed f.twice g.twice h.twice k.twice,
      or_crossed f.period g.period h.period k.period,
      or_crossed f.count g.count h.count k.count,
      or_crossed f.kinds g.kinds h.kinds k.kinds,
      or_crossed f.long g.long h.long k.long,
      or_crossed f.empty g.empty h.empty k.empty,
    ) refl

pub either_turned : (f g h : Faults) → either (either f g) h ≡ either f (either h g)
either_turned f g h =
    ap (either (either f g)) (sym (either_none h))
    ∙ either_crossed f g h no_faults
    ∙ ap (either (either f h)) (either_none g)
    ∙ either_assoc f h g

pub among_append : {X : Type 0} (f : X → Faults) (xs ys : List X) → faults_among f (xs ++ ys) ≡ either (faults_among f xs) (faults_among f ys)
among_append f [] ys = refl
among_append f (x ∷ xs) ys =
    ap (either (f x)) (among_append f xs ys) ∙ sym (either_assoc (f x) (faults_among f xs) (faults_among f ys))

pub among_push : {X : Type 0} (f : X → Faults) (xs : List X) (x : X) → faults_among f (xs ++ x ∷ []) ≡ either (faults_among f xs) (f x)
among_push f xs x = among_append f xs (x ∷ []) ∙ ap (either (faults_among f xs)) (either_none (f x))

pub among_map : {X Y : Type 0} (f : Y → Faults) (g : X → Y) (xs : List X) → faults_among f (map g xs) ≡ faults_among (λ x. f (g x)) xs
among_map f g [] = refl
among_map f g (x ∷ xs) = ap (either (f (g x))) (among_map f g xs)

-- ---- in a loop, with the element in hand

pub among_more : {X : Type 0} (f : X → Faults) (xs : List X) (i : ℕ) (x : X) (before found : Faults)
    → i < length xs → x ≡ get_or xs i x → before ≡ faults_among f (take i xs) → found ≡ f x
    → either before found ≡ faults_among f (take (i + 1) xs)
among_more f xs i x before found here item same this =
    ap (λ b. either b found) same
    ∙ ap (either (faults_among f (take i xs))) (this ∙ ap f item)
    ∙ sym (among_push f (take i xs) (get_or xs i x))
    ∙ ap (faults_among f) (sym (take_more xs i x here))

-- the faults of one more element, after earlier faults
pub among_after : {X : Type 0} (f : X → Faults) (first : Faults) (xs : List X) (i : ℕ) (x : X) (before found : Faults)
    → i < length xs → x ≡ get_or xs i x → before ≡ either first (faults_among f (take i xs)) → found ≡ f x
    → either before found ≡ either first (faults_among f (take (i + 1) xs))
among_after f first xs i x before found here item same this =
    ap (λ b. either b found) same
    ∙ either_assoc first (faults_among f (take i xs)) found
    ∙ ap (either first) (among_more f xs i x (faults_among f (take i xs)) found here item refl this)

pub among_end : {X : Type 0} (f : X → Faults) (xs whole : List X) (i : ℕ) → length xs ≤ i → xs ≡ whole → faults_among f (take i xs) ≡ faults_among f whole
among_end f xs whole i done same = ap (faults_among f) (take_all i xs done ∙ same)

-- the faults of one more image, after earlier faults
pub among_front : {X Y : Type 0} (f : Y → Faults) (g : X → Y) (first : Faults) (xs : List X) (i : ℕ) (x : X) (before found : Faults)
    → i < length xs → x ≡ get_or xs i x → before ≡ either first (faults_among f (map g (take i xs))) → found ≡ f (g x)
    → either before found ≡ either first (faults_among f (map g (take (i + 1) xs)))
among_front {X} f g first xs i x before found here item same this =
    among_after (λ (y : X). f (g y)) first xs i x before found here item (same ∙ ap (either first) (among_map f g (take i xs))) this
    ∙ ap (either first) (sym (among_map f g (take (i + 1) xs)))

-- ---- no fault

clear : (a b c d e g h i j : Bool) → a ≡ false → b ≡ false → c ≡ false → d ≡ false → e ≡ false → g ≡ false → h ≡ false → i ≡ false → j ≡ false
    → record { table = a; unknown = b; ambiguous = c; twice = d; period = e; count = g; kinds = h; long = i; empty = j } ≡ no_faults
clear a b c d e g h i j table unknown ambiguous twice period count kinds long empty =
    rw (table, unknown, ambiguous, twice, period, count, kinds, long, empty) refl

-- if no condition holds, nothing was found
pub clear_of : (f : Faults) → AreFalse (fault_conditions f) → f ≡ no_faults
clear_of f t =
    clear f.table f.unknown f.ambiguous f.twice f.period f.count f.kinds f.long f.empty
    t.0 t.1.0 t.1.1.0 t.1.1.1.0 t.1.1.1.1.0 t.1.1.1.1.1.0 t.1.1.1.1.1.1.0 t.1.1.1.1.1.1.1.0 t.1.1.1.1.1.1.1.1.0

-- if nothing was found in two parts, nothing was in either
pub both_clear : (f g : Faults) → either f g ≡ no_faults → (f ≡ no_faults) × (g ≡ no_faults)
both_clear f g none =
    let table = or_parts f.table g.table (ap (λ h. h.table) none) in
    let unknown = or_parts f.unknown g.unknown (ap (λ h. h.unknown) none) in
    let ambiguous = or_parts f.ambiguous g.ambiguous (ap (λ h. h.ambiguous) none) in
    let twice = or_parts f.twice g.twice (ap (λ h. h.twice) none) in
    let period = or_parts f.period g.period (ap (λ h. h.period) none) in
    let count = or_parts f.count g.count (ap (λ h. h.count) none) in
    let kinds = or_parts f.kinds g.kinds (ap (λ h. h.kinds) none) in
    let long = or_parts f.long g.long (ap (λ h. h.long) none) in
    let empty = or_parts f.empty g.empty (ap (λ h. h.empty) none) in (
      clear f.table f.unknown f.ambiguous f.twice f.period f.count f.kinds f.long f.empty
          table.0 unknown.0 ambiguous.0 twice.0 period.0 count.0 kinds.0 long.0 empty.0,
      clear g.table g.unknown g.ambiguous g.twice g.period g.count g.kinds g.long g.empty
          table.1 unknown.1 ambiguous.1 twice.1 period.1 count.1 kinds.1 long.1 empty.1,
    )

pub clear_parts : {X : Type 0} (f : X → Faults) (xs ys : List X) → faults_among f (xs ++ ys) ≡ no_faults → (faults_among f xs ≡ no_faults) × (faults_among f ys ≡ no_faults)
clear_parts f xs ys none = both_clear (faults_among f xs) (faults_among f ys) (sym (among_append f xs ys) ∙ none)

-- an element of a list in which nothing was found
pub clear_at : {X : Type 0} (f : X → Faults) (xs : List X) (i : ℕ) (x : X) → i < length xs → x ≡ get_or xs i x → faults_among f xs ≡ no_faults → f x ≡ no_faults
clear_at f [] i x here item none = absurd (omega (arith, here))
clear_at f (y ∷ xs) zero x here item none = ap f item ∙ (both_clear (f y) (faults_among f xs) none).0
clear_at f (y ∷ xs) (suc i) x here item none = clear_at f xs i x (omega (arith, here)) item (both_clear (f y) (faults_among f xs) none).1
