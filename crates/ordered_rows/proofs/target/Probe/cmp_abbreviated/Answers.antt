use Rattle.std.proofs.Common.{◌≡◌, sym}
use Rattle.sqlite_value.specs.Keys.{plain}
use Rattle.ordered_rows.proofs.AbbreviatedKeys.{heads_decide, is_plain}
use Rattle.ordered_rows.proofs.target.Probe.cmp_abbreviated.Goals as goal

pub returns-clause-entry : goal.returns-clause-entry
returns-clause-entry c = λ row own tells.
    let in_bytes : c.args.self.now.order ≡ plain = is_plain _ c.if-self-ne0.false in
    rw in_bytes (heads_decide _ _ row c.args.self.now.row.now own c.args.self.now.abbreviates c.cmp.result (sym c.cmp.ensures) tells).0

pub returns-clause-prefix : goal.returns-clause-prefix
returns-clause-prefix c = λ row own tells.
    let in_bytes : c.args.self.now.order ≡ plain = is_plain _ c.if-self-ne0.false in
    rw in_bytes (heads_decide _ _ row c.args.self.now.row.now own c.args.self.now.abbreviates c.cmp.result (sym c.cmp.ensures) tells).1
