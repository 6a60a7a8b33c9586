use Rattle.std.proofs.Common.{◌≡◌, sym, subst, ◌∙◌, rules, to_z-of_z, SFits, w64}
use Rattle.sqlite_value.specs.declared.value.Value.TheVariants.{Int}
use Rattle.sqlite_value.proofs.OrderLemmas.{value_cmp-Int}
use Rattle.sqlite_trees.specs.Tree.{rowid}
use Rattle.ordered_rows.specs.AbbreviatedKeys.{IsAbbreviationOf}
use Rattle.ordered_rows.proofs.AbbreviatedKeys.{integer_kept}
use Rattle.ordered_rows.proofs.stored_row.StoredRow.cmp_rowid.Goals as goal

pub returns-in-Some : goal.returns-in-Some
returns-in-Some c =
    let p : SFits w64 c.in-Some.first = search rules in
    let q : SFits w64 c.args.id = search rules in
    let own = subst (IsAbbreviationOf c.self.inside.abbreviated) c.self.view_is c.self.invariant in
    let first : rowid c.args.self.now ≡ Int c.in-Some.first = integer_kept _ _ _ own (sym c.integer.ensures ∙ c.in-Some.is) in
    rw (first, value_cmp-Int) (simp to_z-of_z at c.cmp.ensures)
