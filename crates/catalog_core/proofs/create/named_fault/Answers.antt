use Rattle.std.proofs.Common.{◌∙◌, refl, sym}
use Rattle.catalog_core.proofs.create.named_fault.Goals as goal

pub returns-then-exceeds_limits : goal.returns-then-exceeds_limits
returns-then-exceeds_limits c = rw (sym c.exceeds_limits.ensures ∙ c.if-exceeds_limits.true) refl

pub returns-then-is_there : goal.returns-then-is_there
returns-then-is_there c = rw (sym c.exceeds_limits.ensures ∙ c.if-exceeds_limits.false, sym c.is_there.ensures ∙ c.if-is_there.true) refl

pub returns-then-lacks_parent : goal.returns-then-lacks_parent
returns-then-lacks_parent c = rw (sym c.exceeds_limits.ensures ∙ c.if-exceeds_limits.false, sym c.is_there.ensures ∙ c.if-is_there.false, sym c.lacks_parent.ensures ∙ c.if-lacks_parent.true) refl

pub returns-then-lacks_name : goal.returns-then-lacks_name
returns-then-lacks_name c = rw (sym c.exceeds_limits.ensures ∙ c.if-exceeds_limits.false, sym c.is_there.ensures ∙ c.if-is_there.false, sym c.lacks_parent.ensures ∙ c.if-lacks_parent.false, sym c.lacks_name.ensures ∙ c.if-lacks_name.true) refl

pub returns-then-is_ambiguous : goal.returns-then-is_ambiguous
returns-then-is_ambiguous c = rw (sym c.exceeds_limits.ensures ∙ c.if-exceeds_limits.false, sym c.is_there.ensures ∙ c.if-is_there.false, sym c.lacks_parent.ensures ∙ c.if-lacks_parent.false, sym c.lacks_name.ensures ∙ c.if-lacks_name.false, sym c.is_ambiguous.ensures ∙ c.if-is_ambiguous.true) refl

pub returns-then-repeats_name : goal.returns-then-repeats_name
returns-then-repeats_name c = rw (sym c.exceeds_limits.ensures ∙ c.if-exceeds_limits.false, sym c.is_there.ensures ∙ c.if-is_there.false, sym c.lacks_parent.ensures ∙ c.if-lacks_parent.false, sym c.lacks_name.ensures ∙ c.if-lacks_name.false, sym c.is_ambiguous.ensures ∙ c.if-is_ambiguous.false, sym c.repeats_name.ensures ∙ c.if-repeats_name.true) refl

pub returns-then-keys_period_column : goal.returns-then-keys_period_column
returns-then-keys_period_column c = rw (sym c.exceeds_limits.ensures ∙ c.if-exceeds_limits.false, sym c.is_there.ensures ∙ c.if-is_there.false, sym c.lacks_parent.ensures ∙ c.if-lacks_parent.false, sym c.lacks_name.ensures ∙ c.if-lacks_name.false, sym c.is_ambiguous.ensures ∙ c.if-is_ambiguous.false, sym c.repeats_name.ensures ∙ c.if-repeats_name.false, sym c.keys_period_column.ensures ∙ c.if-keys_period_column.true) refl

pub returns : goal.returns
returns c = rw (sym c.exceeds_limits.ensures ∙ c.if-exceeds_limits.false, sym c.is_there.ensures ∙ c.if-is_there.false, sym c.lacks_parent.ensures ∙ c.if-lacks_parent.false, sym c.lacks_name.ensures ∙ c.if-lacks_name.false, sym c.is_ambiguous.ensures ∙ c.if-is_ambiguous.false, sym c.repeats_name.ensures ∙ c.if-repeats_name.false, sym c.keys_period_column.ensures ∙ c.if-keys_period_column.false) refl
