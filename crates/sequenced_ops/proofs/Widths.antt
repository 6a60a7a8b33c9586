-- The number of values of each row of a list, as rows are added.
use Rattle.std.proofs.Common.{◌≡◌, ◌++◌, ◌∷◌, [], ℕ, List, length, sym, ◌∙◌, ap, inl, inr}
use Rattle.period_core.specs.declared.row.PeriodRow.{PeriodRow}
use Rattle.sequenced_ops.specs.Planning.{HasWidth}
use Rattle.sequenced_ops.proofs.TwoRows.{holds-nil, holds-push}

pub width_none : (width : ℕ) → HasWidth width []
width_none width day values h = absurd (holds-nil day values h)

pub width_more
    : (width : ℕ) (rows : List PeriodRow) (row : PeriodRow) → HasWidth width rows
    → length row.values ≡ width → HasWidth width (rows ++ row ∷ [])
width_more width rows row all same day values h = elim ((holds-push rows row day values).0 h) [
  | inl before ↦ all day values before
  | inr here ↦ sym (ap length here.0) ∙ same
]
