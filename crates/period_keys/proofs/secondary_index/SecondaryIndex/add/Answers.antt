use Rattle.std.proofs.Common.{◌≡◌, ◌∙◌, ℕ, List, ap, refl, subst}
use Rattle.std.specs.Map.{keys_of}
use Rattle.std.specs.List.{Contains}
use Rattle.period_core.specs.declared.value.Value.{Value}
use Rattle.period_keys.specs.Keys.{values_at}
use Rattle.period_keys.proofs.EntryKeys.{key_added, keys_kept}
use Rattle.period_keys.proofs.secondary_index.SecondaryIndex.add.Goals as goal

pub returns-clause-more : goal.returns-clause-more
returns-clause-more c = record {
  positions = refl;
  entry_positions = refl;
  entries = keys_kept c.args.self.now.entries c.insert.new.self c.in_ok-entry.entry c.in_ok-insert.ensures.updates.0;
}

pub returns-clause-added : goal.returns-clause-added
returns-clause-added c =
    let entry : c.in_ok-entry.entry ≡ values_at c.args.self.now.entry_positions c.args.values.now = c.in_ok-entry.ensures ∙ ap (λ (ps : List ℕ). values_at ps c.args.values.now) c.as_slice.ensures in
    subst (λ (key : List Value). Contains (keys_of c.insert.new.self.entries) key) entry (key_added c.insert.new.self c.in_ok-entry.entry c.in_ok-insert.ensures.updates.1)
