use Rattle.std.proofs.Common.{◌∙◌, [], ◌∷◌, ◌++◌, ap, refl}
use Rattle.memory_store.specs.declared.log_entry.LogEntry.TheVariants as entry
use Rattle.memory_store.specs.Laws.{rows_are_ordered}
use Rattle.memory_store.proofs.Logs.{logged_keeps, logged_past}
use Rattle.memory_store.specs.ContentStates.{state_in}
use Rattle.memory_store.proofs.logged_content.LoggedContent.set_version.Goals as goal

pub invariant_of-self-2 : goal.invariant_of-self-2
invariant_of-self-2 c =
    let s = c.args.self.now in
    let u = entry.Version c.replace-old.result in
    record { valid = logged_past s.log.items _ u _ _ (c.push_reserved.ensures.items ∙ ap (λ l. l ++ u ∷ []) c.reserve.ensures.items) (ap (state_in s.content.trees.items) c.replace-old.ensures.value) (rows_are_ordered s.content.trees.items) s.valid }

pub returns-clause-kept : goal.returns-clause-kept
returns-clause-kept c =
    let s = c.args.self.now in
    let u = entry.Version c.replace-old.result in
    logged_keeps s _ u (c.push_reserved.ensures.items ∙ ap (λ l. l ++ u ∷ []) c.reserve.ensures.items) (ap (state_in s.content.trees.items) c.replace-old.ensures.value) refl
