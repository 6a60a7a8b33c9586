use Rattle.std.proofs.Common.{◌≡◌, refl, sym, ◌∙◌}
use Rattle.std.specs.declared.cmp.Ordering.TheVariants.{Equal, Greater}
use Rattle.period_core.specs.Order.{values_cmp}
use Rattle.snapshot_audit.proofs.set_operations.is_below.Goals as goal

pub returns-in-Less : goal.returns-in-Less
returns-in-Less c = (λ _. sym c.cmp.ensures ∙ c.in-Less.is, λ _. refl)

pub returns-in-Equal : goal.returns-in-Equal
returns-in-Equal c = (λ e. cc, λ less. (let is : values_cmp c.args.first.now c.args.second.now ≡ Equal = sym c.cmp.ensures ∙ c.in-Equal.is in cc))

pub returns-in-Greater : goal.returns-in-Greater
returns-in-Greater c = (λ e. cc, λ less. (let is : values_cmp c.args.first.now c.args.second.now ≡ Greater = sym c.cmp.ensures ∙ c.in-Greater.is in cc))
