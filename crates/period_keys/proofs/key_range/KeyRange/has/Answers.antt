use Rattle.std.proofs.Common.{◌≡◌, ◌&&◌, ◌∙◌, List, subst, sym}
use Rattle.std.specs.Prelude.{◌↔◌, IsTrue, length, slice_get, take}
use Rattle.period_core.specs.declared.value.Value.{Value}
use Rattle.period_keys.specs.Ranges.{begins_with, is_above, is_below}
use Rattle.period_keys.proofs.Ranged.{and_is, and_not, begins_is, next_of_range}
use Rattle.period_keys.proofs.key_range.KeyRange.has.Goals as goal

pub returns-then-not-begins_with : goal.returns-then-not-begins_with
returns-then-not-begins_with c =
    let range = c.args.self.now in
    let key = c.args.key.now in
    let next = slice_get key (length range.leading.items) in
    sym c.if-not-begins_with.true ∙ and_not c.begins_with.result (begins_with range.leading.items key) (is_above range.lower next && is_below range.upper next) (begins_is c.begins_with.result range.leading.items key (subst (λ (p : List Value). IsTrue c.begins_with.result ↔ (p ≡ take (length p) key)) c.as_slice.ensures.value c.begins_with.ensures)) c.if-not-begins_with.true

pub returns-then-is_within_lower : goal.returns-then-is_within_lower
returns-then-is_within_lower c =
    let range = c.args.self.now in
    let key = c.args.key.now in
    let next = slice_get key (length range.leading.items) in
    let begins = sym (begins_is c.begins_with.result range.leading.items key (subst (λ (p : List Value). IsTrue c.begins_with.result ↔ (p ≡ take (length p) key)) c.as_slice.ensures.value c.begins_with.ensures)) ∙ c.if-not-begins_with.false in
    let above = sym (c.is_within_lower.ensures ∙ next_of_range (λ o. is_above range.lower o) range key c.len-next.result c.len-next.ensures) ∙ c.if-is_within_lower.true in
    c.is_within_upper.ensures ∙ next_of_range (λ o. is_below range.upper o) range key c.len-next.result c.len-next.ensures
    ∙ and_is (is_above range.lower next) (is_below range.upper next) above
    ∙ and_is (begins_with range.leading.items key) (is_above range.lower next && is_below range.upper next) begins

pub returns-else-is_within_lower : goal.returns-else-is_within_lower
returns-else-is_within_lower c =
    let range = c.args.self.now in
    let key = c.args.key.now in
    let next = slice_get key (length range.leading.items) in
    let begins = sym (begins_is c.begins_with.result range.leading.items key (subst (λ (p : List Value). IsTrue c.begins_with.result ↔ (p ≡ take (length p) key)) c.as_slice.ensures.value c.begins_with.ensures)) ∙ c.if-not-begins_with.false in
    let above = c.is_within_lower.ensures ∙ next_of_range (λ o. is_above range.lower o) range key c.len-next.result c.len-next.ensures in
    and_not c.is_within_lower.result (is_above range.lower next) (is_below range.upper next) above c.if-is_within_lower.false
    ∙ and_is (begins_with range.leading.items key) (is_above range.lower next && is_below range.upper next) begins
