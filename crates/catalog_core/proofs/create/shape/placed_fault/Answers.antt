use Rattle.std.proofs.Common.{◌∙◌, refl, sym}
use Rattle.catalog_core.proofs.create.shape.placed_fault.Goals as goal

pub returns-then-is_bad_definition : goal.returns-then-is_bad_definition
returns-then-is_bad_definition c = rw (sym c.is_bad_definition.ensures ∙ c.if-is_bad_definition.true) refl

pub returns-then-has_unequal_lists : goal.returns-then-has_unequal_lists
returns-then-has_unequal_lists c = rw (sym c.is_bad_definition.ensures ∙ c.if-is_bad_definition.false, sym c.has_unequal_lists.ensures ∙ c.if-has_unequal_lists.true) refl

pub returns-then-references_other_kind : goal.returns-then-references_other_kind
returns-then-references_other_kind c = rw (sym c.is_bad_definition.ensures ∙ c.if-is_bad_definition.false, sym c.has_unequal_lists.ensures ∙ c.if-has_unequal_lists.false, sym c.references_other_kind.ensures ∙ c.if-references_other_kind.true) refl

pub returns : goal.returns
returns c = rw (sym c.is_bad_definition.ensures ∙ c.if-is_bad_definition.false, sym c.has_unequal_lists.ensures ∙ c.if-has_unequal_lists.false, sym c.references_other_kind.ensures ∙ c.if-references_other_kind.false) refl
