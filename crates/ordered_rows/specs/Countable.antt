-- Numbers of rows that fit 32 bits.
use Rattle.std.specs.Prelude.{◌<◌, ℕ}
use Rattle.ordered_rows.specs.declared.undo.InverseEdit.{InverseEdit}
use Rattle.ordered_rows.specs.declared.undo.InverseEdit.TheVariants.{Nothing, Out, In, Over}
use Rattle.ordered_rows.specs.Forks.{most}

-- the number of the row that is edited, if any
abbrev pub number_of : InverseEdit → ℕ
number_of Nothing = 0
number_of (Out at) = at
number_of (In at fork) = at
number_of (Over at row) = at

-- the number fits
abbrev pub IsCountable : InverseEdit → Type 0
IsCountable inverse = number_of inverse < most
