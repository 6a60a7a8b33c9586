use Rattle.std.proofs.Common.{◌≡◌, ◌∙◌, List, subst, sym}
use Rattle.std.specs.Prelude.{◌↔◌, IsTrue, length, slice_get, take}
use Rattle.period_core.specs.declared.value.Value.{Value}
use Rattle.period_keys.specs.Ranges.{begins_with, is_at_lower}
use Rattle.period_keys.proofs.Ranged.{and_is, and_not, begins_is, next_of_range}
use Rattle.period_keys.proofs.key_range.KeyRange.passes_over.Goals as goal

pub returns-then-begins_with : goal.returns-then-begins_with
returns-then-begins_with c =
    let range = c.args.self.now in
    let key = c.args.key.now in
    c.is_before_lower.ensures ∙ next_of_range (λ o. is_at_lower range.lower o) range key c.len-next.result c.len-next.ensures
    ∙ and_is (begins_with range.leading.items key) (is_at_lower range.lower (slice_get key (length range.leading.items))) (sym (begins_is c.begins_with.result range.leading.items key (subst (λ (p : List Value). IsTrue c.begins_with.result ↔ (p ≡ take (length p) key)) c.as_slice.ensures.value c.begins_with.ensures)) ∙ c.if-begins_with.true)

pub returns-else-begins_with : goal.returns-else-begins_with
returns-else-begins_with c =
    let range = c.args.self.now in
    let key = c.args.key.now in
    and_not c.begins_with.result (begins_with range.leading.items key) (is_at_lower range.lower (slice_get key (length range.leading.items))) (begins_is c.begins_with.result range.leading.items key (subst (λ (p : List Value). IsTrue c.begins_with.result ↔ (p ≡ take (length p) key)) c.as_slice.ensures.value c.begins_with.ensures)) c.if-begins_with.false
