use Rattle.std.proofs.Common.{◌∙◌, sym, rules, to_z-of_z, SFits, w64}
use Rattle.ordered_rows.proofs.AbbreviatedKeys.{integer_kept}
use Rattle.ordered_rows.proofs.Ends.{less_by}
use Rattle.ordered_rows.proofs.target.Target.is_above.Goals as goal

pub returns-in-Some : goal.returns-in-Some
returns-in-Some c = λ lower row own.
    let p : SFits w64 c.in-Some.first = search rules in
    let q : SFits w64 c.in-Rowid.id = search rules in
    let first = integer_kept c.in-Some.first _ row own (sym c.integer.ensures ∙ c.in-Some.is) in
    rw (c.in-Rowid.is, first) (less_by c.in-Some.first c.in-Rowid.id (simp to_z-of_z at lower))
