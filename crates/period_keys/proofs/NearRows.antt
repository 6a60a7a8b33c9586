-- Rows whose periods are stored with their places: the rows that their blocks find.
use Rattle.std.proofs.Common.{◌≡◌, ◌↔◌, ◌<◌, ◌≤ℤ◌, ◌∷◌, [], ◌∙◌, ℕ, ℤ, Bool, Option, Some, None, List, length, get_or, map, sym, ap, subst, arith}
use Rattle.std.specs.Bool.{IsTrue}
use Rattle.std.specs.List.{Any, Contains}
use Rattle.std.proofs.lemmas.Int.{ints, by_lt_z}
use Rattle.std.proofs.lemmas.List.{get_or_default, get_or-map, length-map}
use Rattle.period_core.specs.declared.period.Period.{Period}
use Rattle.period_core.specs.declared.version.VersionRow.{VersionRow}
use Rattle.period_keys.specs.declared.block.Block.{Block}
use Rattle.period_keys.specs.declared.placed_period.PlacedPeriod.{PlacedPeriod}
use Rattle.period_keys.specs.Near.{IsAt, IsKeptAt}
use Rattle.period_keys.specs.Between.{Meets}
use Rattle.period_keys.specs.Index.{SharesDayOfKept}
use Rattle.period_keys.specs.Keys.{BothHold, IsLeastOf}
use Rattle.period_keys.specs.Placed.{ArePlaced}
use Rattle.period_keys.specs.Versions.{period_of}
use Rattle.period_keys.specs.declared.period_blocks.PeriodBlocks.{PeriodBlocks}
use Rattle.period_keys.proofs.Members.{member_of, some_member}

-- whether the row at a place has the period
pub at_place : (rows : List VersionRow) (item : PlacedPeriod) (here : VersionRow) (found : Bool) → item.place < length rows → (IsTrue found ↔ ((get_or rows item.place here).period ≡ item.period)) → (IsTrue found ↔ IsAt rows item)
at_place rows item here found below same = (
  λ t. (below, λ d. ap (λ (v : VersionRow). v.period) (get_or_default rows item.place d here below) ∙ same.0 t),
  λ at. same.1 (at.1 here),
)

-- two periods that hold the same day meet
pub both_meet : (one other : Period) (day : ℤ) → BothHold day other one → Meets one other
both_meet one other day ((other_from, other_to), (from, to)) = (omega (arith, ints), omega (arith, ints))

-- a row of a list that is not empty
some_row : (rows : List VersionRow) → 0 < length rows → VersionRow
some_row [] some = absurd (omega (arith, some))
some_row (row ∷ rows) some = row

-- an item that is at its place has the period of a row
pub contains_period : (rows : List VersionRow) (item : PlacedPeriod) → IsAt rows item → Contains (map period_of rows) item.period
contains_period rows item (below, is) =
    let size : length (map period_of rows) ≡ length rows = length-map rows period_of in
    let row : VersionRow = some_row rows (omega arith) in
    (item.place, omega arith, get_or-map period_of rows item.place row item.period below ∙ is row)

-- the period is not removed, and holds the day
abbrev pub IsKept : List Period → Period → ℤ → Period → Type 0
IsKept gone period day other = BothHold day period other × (Contains gone other → ⊥)

-- the days that a period shares with rows that are not removed, by blocks that lack no row
module _ (rows : List VersionRow) (placed : PeriodBlocks) (gone : List Period) (period : Period) (complete : ArePlaced rows placed) where
  abbrev pub InBlocks : ℤ → Type 0
  InBlocks day = Any (λ (block : Block). Any (IsKeptAt rows gone period day) block.items.items) placed.blocks.items

  abbrev pub Shares : ℤ → Type 0
  Shares day = SharesDayOfKept (map period_of rows) gone period day

  sound : (day : ℤ) → InBlocks day → Shares day
  sound day h =
      let (block, in_blocks, some) = member_of (λ (block : Block). Any (IsKeptAt rows gone period day) block.items.items) placed.blocks.items h in
      let (item, in_block, (at, both, kept)) = member_of (IsKeptAt rows gone period day) block.items.items some in
      some_member (IsKept gone period day) (map period_of rows) item.period (contains_period rows item at) (both, kept)

  -- a day that is in no block is a day of none
  none_missing : (day : ℤ) → (InBlocks day → ⊥) → Shares day → ⊥
  none_missing day none h =
      let (other, (k, below, is), kept) = member_of (IsKept gone period day) (map period_of rows) h in
      let size : length (map period_of rows) ≡ length rows = length-map rows period_of in
      let inside : k < length rows = omega arith in
      let row : VersionRow = some_row rows (omega arith) in
      let own : (get_or rows k row).period ≡ other = sym (get_or-map period_of rows k row other inside) ∙ is in
      let item : PlacedPeriod = record { period = (get_or rows k row).period; place = k } in
      let at : IsAt rows item = (inside, λ d. ap period_of (get_or_default rows k d row inside)) in
      complete k row inside (λ has.
      let (block, in_blocks, in_block) = member_of (λ (block : Block). Contains block.items.items item) placed.blocks.items has in
      none (some_member (λ (block : Block). Any (IsKeptAt rows gone period day) block.items.items) placed.blocks.items block in_blocks
      (let own_kept : IsKept gone period day item.period = subst (IsKept gone period day) (sym own) kept in some_member (IsKeptAt rows gone period day) block.items.items item in_block (at, own_kept.0, own_kept.1))))

  pub kept_placed : (found : Option ℤ) → IsLeastOf InBlocks found → IsLeastOf Shares found
  kept_placed None none = λ day h. none_missing day (none day) h
  kept_placed (Some day) least = record {
    faulty = sound day least.faulty;
    least = λ other h. by_lt_z {P = day ≤ℤ other} other day (λ less. absurd (none_missing other (λ in_blocks. (let le : day ≤ℤ other = least.least other in_blocks in omega (arith, ints))) h)) (λ ge. ge);
  }

-- a fact of some element of a list and of its map
of_mapped : {X Y : Type 0} (P : Y → Type 0) (f : X → Y) (xs : List X) (k : ℕ) (y : Y) → k < length xs → get_or (map f xs) k y ≡ y → P y → Any (λ x. P (f x)) xs
of_mapped P f [] k y below is p = absurd (omega (arith, below))
of_mapped {X} P f (x ∷ xs) k y below is p =
    let here : X = get_or (x ∷ xs) k x in
    (k, here, below, get_or_default (x ∷ xs) k here x below, subst P (sym is ∙ get_or-map f (x ∷ xs) k x y below) p)

pub any_map : {X Y : Type 0} (P : Y → Type 0) (f : X → Y) (xs : List X) → (Any (λ x. P (f x)) xs ↔ Any P (map f xs))
any_map {X} {Y} P f xs =
    let size : length (map f xs) ≡ length xs = length-map xs f in (
      λ (k, x, below, is, p). (k, f x, omega arith, get_or-map f xs k x (f x) below ∙ ap f is, p),
      λ (k, y, below, is, p). of_mapped P f xs k y (omega arith) is p,
    )
