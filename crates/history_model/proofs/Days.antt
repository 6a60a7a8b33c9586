-- Rows as they are shown on one day.
use Rattle.std.proofs.Common.{◌≡◌, ◌&&◌, ◌+◌, ◌<ℤ◌, ℕ, ℤ, Bool, true, false, cond, not, List, [], ◌∷◌, ◌++◌, Option, Some, None, map, refl, sym, ◌∙◌, ap, ap₂, arith, append-nil}
use Rattle.std.specs.Prelude.{int_lt, int_le}
use Rattle.std.specs.Int.{int_max, int_min}
use Rattle.std.specs.List.{enumerate_from, filter, flat_map}
use Rattle.std.proofs.lemmas.Int.{ints}
use Rattle.std.proofs.lemmas.List.{map-append}
use Rattle.std.proofs.lemmas.List.Concat.{flat_map-append}
use Rattle.period_core.specs.declared.period.Period.{Period}
use Rattle.period_core.specs.declared.row.PeriodRow.{PeriodRow}
use Rattle.period_core.specs.declared.value.Value.{Value}
use Rattle.temporal_model.specs.Snapshot.{covers_day, values_on}
use Rattle.catalog_core.specs.Conditions.{meets_any}
use Rattle.history_model.specs.Effects.{Traced, acts_on, inserted_covers, inserted_by, inserted_row, in_portion, kept, rows_after, with_set}
use Rattle.history_model.specs.Portions.{PlainRow, leftovers, meets_portion, part, plain_given, plain_row, replacements, touches, within}
use Rattle.catalog_core.specs.declared.change.InsertedRow.{InsertedRow}
use Rattle.catalog_core.specs.declared.change.Action.{Action}
use Rattle.catalog_core.specs.declared.change.Action.TheVariants.{Insert, Update, Delete}
use Rattle.history_model.proofs.Lists.{filtered, flat_map-of_map, one_if}

-- ---- the values that rows show on a day, row by row

-- the row's values, if it holds on the day
abbrev pub shown : ℤ → PlainRow → List (List Value)
shown day row = one_if (covers_day row.start row.end day) row.values

-- the values of a day are those that the plain rows show on it
pub values_on-shown : (rows : List PeriodRow) (day : ℤ) → values_on rows day ≡ flat_map (shown day) (map plain_row rows)
values_on-shown rows day =
    filtered (λ (row : PeriodRow). row.values) (λ (row : PeriodRow). covers_day row.period.start row.period.end day) rows
    ∙ sym (flat_map-of_map (shown day) plain_row rows)

-- ---- the rows that an action makes of one row of the day

-- the rows that a change makes of the values of one row on a day
abbrev pub made : Action → ℤ → List Value → List (List Value)
made (Insert given) day row = row ∷ []
made (Update portion assignments condition) day row =
    cond (acts_on portion condition day row) (with_set assignments row) row ∷ []
made (Delete portion condition) day row = one_if (not (acts_on portion condition day row)) row

kept_rows : (rows : List (List Value)) → map (λ (t : Traced). t.row) (map kept rows) ≡ rows
kept_rows [] = refl
kept_rows (row ∷ rows) = ap (λ l. row ∷ l) (kept_rows rows)

given_shown : (n : ℕ) (given : List InsertedRow) (day : ℤ) → map (λ (t : Traced). t.row) (map inserted_row (filter (inserted_covers day) (enumerate_from n given))) ≡ flat_map (shown day) (map plain_given given)
given_shown n [] day = refl
given_shown n (g ∷ given) day = go (covers_day g.start g.end day) (given_shown (n + 1) given day)
  where
    go : (b : Bool) → map (λ (t : Traced). t.row) (map inserted_row (filter (inserted_covers day) (enumerate_from (n + 1) given))) ≡ flat_map (shown day) (map plain_given given)
        → map (λ (t : Traced). t.row) (map inserted_row (cond b ((n, g) ∷ filter (inserted_covers day) (enumerate_from (n + 1) given)) (filter (inserted_covers day) (enumerate_from (n + 1) given))))
        ≡ one_if b g.values ++ flat_map (shown day) (map plain_given given)
    go true ih = ap (λ l. g.values ∷ l) ih
    go false ih = ih

all_kept : (rows : List (List Value)) → flat_map (λ (row : List Value). row ∷ []) rows ≡ rows
all_kept [] = refl
all_kept (row ∷ rows) = ap (λ l. row ∷ l) (all_kept rows)

-- an action makes of a day's rows the rows that it makes of each, and the given rows that hold on
-- the day
pub rows_after-made : (action : Action) (day : ℤ) (rows : List (List Value)) → rows_after action day rows ≡ flat_map (made action day) rows ++ flat_map (shown day) (map plain_given (inserted_by action))
rows_after-made (Insert given) day rows =
    map-append (λ (t : Traced). t.row) (map kept rows) (map inserted_row (filter (inserted_covers day) (enumerate_from 0 given)))
    ∙ ap₂ (λ (a b : List (List Value)). a ++ b) (kept_rows rows ∙ sym (all_kept rows)) (given_shown 0 given day)
rows_after-made (Update portion assignments condition) day rows = each rows ∙ sym (append-nil (flat_map (made (Update portion assignments condition) day) rows))
  where
    each : (rows : List (List Value)) → rows_after (Update portion assignments condition) day rows ≡ flat_map (made (Update portion assignments condition) day) rows
    each [] = refl
    each (row ∷ rows) = ap (λ l. cond (acts_on portion condition day row) (with_set assignments row) row ∷ l) (each rows)
rows_after-made (Delete portion condition) day rows =
    kept_rows (filter (λ row. not (acts_on portion condition day row)) rows)
    ∙ same rows
    ∙ sym (append-nil (flat_map (made (Delete portion condition) day) rows))
  where
    same : (rows : List (List Value)) → filter (λ row. not (acts_on portion condition day row)) rows ≡ flat_map (made (Delete portion condition) day) rows
    same [] = refl
    same (row ∷ rows) = go (not (acts_on portion condition day row)) (same rows)
      where
        go : (b : Bool) → filter (λ row. not (acts_on portion condition day row)) rows ≡ flat_map (made (Delete portion condition) day) rows
            → cond b (row ∷ filter (λ row. not (acts_on portion condition day row)) rows) (filter (λ row. not (acts_on portion condition day row)) rows)
            ≡ one_if b row ++ flat_map (made (Delete portion condition) day) rows
        go true ih = ap (λ l. row ∷ l) ih
        go false ih = ih

-- ---- parts of a row

lt_min : (x a b : ℤ) → int_lt x (int_min a b) ≡ (int_lt x a && int_lt x b)
lt_min x a b = grind (arith, ints)

max_le : (x a b : ℤ) → int_le (int_max a b) x ≡ (int_le a x && int_le b x)
max_le x a b = grind (arith, ints)

not_lt : (a b : ℤ) → int_lt a b ≡ not (int_le b a)
not_lt a b = grind (arith, ints)

part_shown : (values : List Value) (start end day : ℤ) → flat_map (shown day) (part values start end) ≡ one_if (covers_day start end day) values
part_shown values start end day = go (int_lt start end) refl (covers_day start end day) refl
  where
    none : int_lt start end ≡ false → covers_day start end day ≡ true → ⊥
    none e f = grind (arith, ints)

    go : (b : Bool) → int_lt start end ≡ b → (c : Bool) → covers_day start end day ≡ c
        → flat_map (shown day) (cond b (record { values = values; start = start; end = end } ∷ []) []) ≡ one_if (covers_day start end day) values
    go true e c f = append-nil (one_if (covers_day start end day) values)
    go false e true f = absurd (none e f)
    go false e false f = rw f refl

-- on each day one of the two leftovers at most holds, and just if the row holds outside the portion
outside : {X : Type 0} (x y p q : Bool) (v : X) → ((p ≡ true) → (q ≡ true) → ⊥)
    → one_if (x && (y && p)) v ++ one_if ((x && q) && y) v ≡ one_if ((x && y) && not (not p && not q)) v
outside false y p q v apart = refl
outside true false p true v apart = refl
outside true false p false v apart = refl
outside true true true true v apart = absurd (apart refl refl)
outside true true true false v apart = refl
outside true true false true v apart = refl
outside true true false false v apart = refl

inside : {X : Type 0} (x y p q : Bool) (v : X) → one_if ((x && p) && (y && q)) v ≡ one_if ((x && y) && (p && q)) v
inside false y p q v = refl
inside true y false q v = go y
  where
    go : (y : Bool) → [] ≡ one_if (y && false) v
    go true = refl
    go false = refl
inside true y true q v = refl

pub leftovers_shown : (portion : Option Period) (row : PlainRow) (day : ℤ)
    → flat_map (shown day) (leftovers portion row) ≡ one_if (covers_day row.start row.end day && not (in_portion portion day)) row.values
leftovers_shown None row day = go (covers_day row.start row.end day)
  where
    go : (b : Bool) → [] ≡ one_if (b && false) row.values
    go true = refl
    go false = refl
leftovers_shown (Some portion) row day =
    let ordered : portion.start <ℤ portion.end = portion.ordered in
    let x : Bool = int_le row.start day in
    let y : Bool = int_lt day row.end in
    let p : Bool = int_lt day portion.start in
    let q : Bool = int_le portion.end day in
    let before : List PlainRow = part row.values row.start (int_min row.end portion.start) in
    let after : List PlainRow = part row.values (int_max row.start portion.end) row.end in
    let apart : p ≡ true → q ≡ true → ⊥ = λ e f. grind (arith, ints) in
    let first : flat_map (shown day) before ≡ one_if (x && (y && p)) row.values =
    part_shown row.values row.start (int_min row.end portion.start) day ∙ ap (λ b. one_if (x && b) row.values) (lt_min day row.end portion.start) in
    let second : flat_map (shown day) after ≡ one_if ((x && q) && y) row.values =
    part_shown row.values (int_max row.start portion.end) row.end day ∙ ap (λ b. one_if (b && y) row.values) (max_le day row.start portion.end) in
    let low : not p ≡ int_le portion.start day = grind (arith, ints) in
    let high : not q ≡ int_lt day portion.end = sym (not_lt day portion.end) in
    flat_map-append (shown day) before after
    ∙ ap₂ (λ (a b : List (List Value)). a ++ b) first second
    ∙ outside x y p q row.values apart
    ∙ ap₂ (λ (a b : Bool). one_if ((x && y) && not (a && b)) row.values) low high

pub within_shown : (portion : Option Period) (values : List Value) (row : PlainRow) (day : ℤ)
    → flat_map (shown day) (within portion values row) ≡ one_if (covers_day row.start row.end day && in_portion portion day) values
within_shown None values row day = part_shown values row.start row.end day ∙ go (covers_day row.start row.end day)
  where
    go : (b : Bool) → one_if b values ≡ one_if (b && true) values
    go true = refl
    go false = refl
within_shown (Some portion) values row day =
    part_shown values (int_max row.start portion.start) (int_min row.end portion.end) day
    ∙ ap₂ (λ (a b : Bool). one_if (a && b) values) (max_le day row.start portion.start) (lt_min day row.end portion.end)
    ∙ inside (int_le row.start day) (int_lt day row.end) (int_le portion.start day) (int_lt day portion.end) values

-- on no day in the portion does a row hold that shares no day with it
missed : (portion : Option Period) (row : PlainRow) (day : ℤ) → meets_portion portion row ≡ false → (covers_day row.start row.end day && in_portion portion day) ≡ false
missed None row day e = cc
missed (Some portion) row day e = grind (arith, ints)

pub and_parts : (a b : Bool) → (a && b) ≡ true → (a ≡ true) × (b ≡ true)
and_parts true b e = (refl, e)
and_parts false b e = cc

-- ---- one row and an action

-- the values that one shown row gives
of_shown : {X Y : Type 0} (k : X → List Y) (c : Bool) (v : X) → cond c (k v) [] ≡ flat_map k (one_if c v)
of_shown k true v = sym (append-nil (k v))
of_shown k false v = refl

-- the rows in the place of a touched row show the rows that the action makes of it
pub touched_shown : (action : Action) (row : PlainRow) (day : ℤ) → touches action row ≡ true
    → flat_map (shown day) (replacements action row) ≡ flat_map (made action day) (shown day row)
touched_shown (Insert given) row day e = cc
touched_shown (Update portion assignments condition) row day e =
    flat_map-append (shown day) (leftovers portion row) (within portion (with_set assignments row.values) row)
    ∙ ap₂ (λ (a b : List (List Value)). a ++ b) (leftovers_shown portion row day) (within_shown portion (with_set assignments row.values) row day)
    ∙ go (covers_day row.start row.end day) (in_portion portion day) (meets_any condition row.values) (and_parts (meets_portion portion row) (meets_any condition row.values) e).1
    ∙ of_shown (made (Update portion assignments condition) day) (covers_day row.start row.end day) row.values
  where
    go : (c i m : Bool) → m ≡ true → one_if (c && not i) row.values ++ one_if (c && i) (with_set assignments row.values)
        ≡ cond c (cond (i && m) (with_set assignments row.values) row.values ∷ []) []
    go true true true h = refl
    go true false true h = refl
    go false i true h = refl
    go c i false h = cc
touched_shown (Delete portion condition) row day e =
    leftovers_shown portion row day
    ∙ go (covers_day row.start row.end day) (in_portion portion day) (meets_any condition row.values) (and_parts (meets_portion portion row) (meets_any condition row.values) e).1
    ∙ of_shown (made (Delete portion condition) day) (covers_day row.start row.end day) row.values
  where
    go : (c i m : Bool) → m ≡ true → one_if (c && not i) row.values ≡ cond c (one_if (not (i && m)) row.values) []
    go true true true h = refl
    go true false true h = refl
    go false i true h = refl
    go c i false h = cc

-- a row that the action doesn't touch stays as it is
pub spared_shown : (action : Action) (row : PlainRow) (day : ℤ) → touches action row ≡ false → shown day row ≡ flat_map (made action day) (shown day row)
spared_shown (Insert given) row day e = sym (all_kept (shown day row))
spared_shown (Update portion assignments condition) row day e =
    go (covers_day row.start row.end day) (in_portion portion day) (meets_any condition row.values) (meets_portion portion row) (missed portion row day) e
    ∙ of_shown (made (Update portion assignments condition) day) (covers_day row.start row.end day) row.values
  where
    go : (c i m s : Bool) → (s ≡ false → (c && i) ≡ false) → (s && m) ≡ false
        → one_if c row.values ≡ cond c (cond (i && m) (with_set assignments row.values) row.values ∷ []) []
    go false i m s off h = refl
    go true false m s off h = refl
    go true true false s off h = refl
    go true true true true off h = cc
    go true true true false off h = let wrong : true ≡ false = off refl in cc
spared_shown (Delete portion condition) row day e =
    go (covers_day row.start row.end day) (in_portion portion day) (meets_any condition row.values) (meets_portion portion row) (missed portion row day) e
    ∙ of_shown (made (Delete portion condition) day) (covers_day row.start row.end day) row.values
  where
    go : (c i m s : Bool) → (s ≡ false → (c && i) ≡ false) → (s && m) ≡ false
        → one_if c row.values ≡ cond c (one_if (not (i && m)) row.values) []
    go false i m s off h = refl
    go true false m s off h = refl
    go true true false s off h = refl
    go true true true true off h = cc
    go true true true false off h = let wrong : true ≡ false = off refl in cc
