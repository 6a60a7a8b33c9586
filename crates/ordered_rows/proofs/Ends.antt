-- A place behind the last of rows in order.
use Rattle.std.proofs.Common.{◌≡◌, ◌+◌, ℕ, ℤ, false, List, [], ◌∷◌, ◌++◌, IsTrue, ap, arith, drop, is_lt, length, length-append, refl, Less}
use Rattle.std.specs.Prelude.{int_lt}
use Rattle.std.specs.declared.cmp.Ordering.{Ordering}
use Rattle.sqlite_trees.specs.Tree.{from_key}
use Rattle.sqlite_value.specs.Keys.{prefix_cmp}
use Rattle.sqlite_value.specs.Order.{Row, value_cmp}
use Rattle.sqlite_value.specs.declared.value.Value.TheVariants.{Int}
use Rattle.sqlite_value.proofs.OrderLemmas.{value_cmp-Int}
use Rattle.sqlite_value.specs.declared.keys.Order.{Order}
use Rattle.ordered_rows.specs.Edits.{IsAt, IsCut, IsPlaced}
use Rattle.ordered_rows.specs.LastKeys.{EndBelow}
use Rattle.ordered_rows.specs.Seeks.{IsSeekable}
use Rattle.ordered_rows.proofs.Cuts.{at_upper}
use Rattle.ordered_rows.proofs.Placed.{placed_upper}
use Rattle.ordered_rows.proofs.Walks.{from_right}

-- the number of rows with one more at the end
one_more : (before : List Row) (row : Row) (rows : List Row) (at : ℕ) → rows ≡ before ++ row ∷ [] → length rows ≡ at → at ≡ length before + 1
one_more before row rows at is long = let all : length rows ≡ length (before ++ row ∷ []) = ap length is in omega (arith, all, long, length-append before (row ∷ []))

-- a place behind the last row is behind all
pub placed_behind : (side : Row → Ordering) (rows : List Row) (at : ℕ) → IsCut side rows → EndBelow side rows → length rows ≡ at → IsPlaced side rows at false
placed_behind side rows at cut end long =
    placed_upper side rows end.before end.row [] end.is cut 0 at false end.below (one_more end.before end.row rows at end.is long)
    (record { below = []; here = []; above = []; is = refl; number = refl; lower = tt; same = refl; upper = tt })

-- no row is at it
pub none_behind : (side : Row → Ordering) (rows : List Row) (row : Row) → IsCut side rows → EndBelow side rows → IsAt side rows row false
none_behind side rows row cut end = at_upper side rows end.before end.row [] end.is cut row false end.below refl

-- no row is from a key on that is behind the last
pub from_behind : (o : Order) (key : Row) (rows : List Row) (at : ℕ) → IsSeekable o key rows → EndBelow (λ r. prefix_cmp o r key) rows → length rows ≡ at → from_key o key rows ≡ drop at rows
from_behind o key rows at up end long =
    from_right rows end.before end.row [] end.is o key up at 0 (ap is_lt end.below) (one_more end.before end.row rows at end.is long) refl

-- a row with a lower rowid is below
pub less_by : (m n : ℤ) → IsTrue (int_lt m n) → value_cmp (Int m) (Int n) ≡ Less
less_by m n low = rw value_cmp-Int (rw low refl)
