-- Worked windows, by computation: the versions from moment 10 on and before moment 20, and near ones.
use Rattle.std.proofs.Common.{◌≡◌, refl, true, false, pos}
use Rattle.period_core.specs.Moments.{forever}
use Rattle.period_core.specs.Windows.{window_sees}
use Rattle.period_core.specs.declared.window.Window.TheVariants.{FromTo, Between}

-- FROM a TO b doesn't see a version that starts at b, and BETWEEN a AND b does
from_to-its_end : window_sees (FromTo (pos 5) (pos 10)) (pos 10) forever ≡ false
from_to-its_end = refl

between-its_end : window_sees (Between (pos 5) (pos 10)) (pos 10) forever ≡ true
between-its_end = refl

-- a version that ends at a is not seen
between-ends_at_start : window_sees (Between (pos 20) (pos 30)) (pos 10) (pos 20) ≡ false
between-ends_at_start = refl
