use Rattle.std.proofs.Common.{◌∙◌, ap, sym, subst}
use Rattle.std.specs.List.{All}
use Rattle.period_core.specs.Encoding.{IsColumnValue, encoded}
use Rattle.catalog_core.proofs.bytes.encode_def.Goals as goal

pub returns : goal.returns
returns c =
    let same = c.as_slice.ensures.value ∙ c.in_ok-values.ensures.values in
    (c.in_ok-values.ensures.writable, subst (All IsColumnValue) same c.in_ok-bytes.ensures.held, ap encoded (sym same) ∙ sym c.in_ok-bytes.ensures.bytes)
