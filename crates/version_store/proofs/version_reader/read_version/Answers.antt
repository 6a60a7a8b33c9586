use Rattle.std.proofs.Common.{◌≡◌, ◌∷◌, ◌∙◌, [], List, ap, ap₂, subst, sym, ℕ, ℤ}
use Rattle.period_core.specs.Encoding.{encoded}
use Rattle.sqlite.specs.declared.types.Value.TheVariants.{Blob, Int}
use Rattle.version_store.specs.Contents.{TableVersion}
use Rattle.version_store.proofs.RowsRead.{bytes_in, from_in, read_columns, to_in}
use Rattle.version_store.proofs.version_reader.read_version.Goals as goal

pub returns-in_default-clause-bad : goal.returns-in_default-clause-bad
returns-in_default-clause-bad c = λ _ v dated held is. c.in_default.ensures (encoded v.values, bytes_in c.args.row.now v is)

pub returns-in_default-moment_at-clause-bad : goal.returns-in_default-moment_at-clause-bad
returns-in_default-moment_at-clause-bad c = λ _ v dated held is. c.in_default-moment_at.ensures (from_in c.args.row.now v is c.args.form dated)

pub returns-in_default-end_at-clause-bad : goal.returns-in_default-end_at-clause-bad
returns-in_default-end_at-clause-bad c = λ _ v dated held is. c.in_default-end_at.ensures (to_in c.args.row.now v is c.args.form dated)

pub returns-clause-shown : goal.returns-clause-shown
returns-clause-shown c =
    let period = c.in-Some-period_at.period in
    let from = c.in-Some-moment_at.ensures in
    let to = c.in-Some-end_at.ensures in
    let values = c.from_vec.result in
    let v : TableVersion = record { table = 0; values = values; start = period.start; end = period.end; from = from.0; to = to.0 } in
    let same : encoded values ≡ c.in-Some.bytes.now = ap encoded c.from_vec.ensures ∙ c.in_ok-values.ensures.found in
    let width = sym c.column_count.ensures ∙ c.if-column_count-ne5.false in (
      v,
      subst (λ (b : List ℕ). c.args.row.now ≡ Blob b ∷ Int period.start ∷ Int period.end ∷ Int from.0 ∷ Int to.0 ∷ []) (sym same)
          (read_columns c.args.row.now c.in-Some.bytes.now period.start period.end from.0 to.0 width c.in-Some.ensures c.in-Some-period_at.ensures.0 c.in-Some-period_at.ensures.1 from.1 to.1),
      ap₂ (λ (f t : ℤ). let w : TableVersion = record v { from = f; to = t } in w) from.2 to.2,
    )
