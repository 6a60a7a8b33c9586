use Rattle.std.proofs.Common.{◌∙◌, [], ◌∷◌, ◌++◌, ap, refl}
use Rattle.memory_store.specs.declared.log_entry.LogEntry.TheVariants as entry
use Rattle.memory_store.specs.Laws.{rows_are_ordered}
use Rattle.memory_store.proofs.Logs.{logged_keeps, logged_past}
use Rattle.memory_store.proofs.logged_content.LoggedContent.relist.Goals as goal

pub invariant_of-self-2 : goal.invariant_of-self-2
invariant_of-self-2 c =
    let s = c.args.self.now in
    let u = entry.Relisted c.args.tree c.relist-described.result.0 c.relist-described.result.1 in
    record { valid = logged_past s.log.items _ u _ _ (c.push_reserved.ensures.items ∙ ap (λ l. l ++ u ∷ []) c.reserve.ensures.items) (c.relist-described.ensures.undo) (rows_are_ordered s.content.trees.items) s.valid }

pub returns-clause-kept : goal.returns-clause-kept
returns-clause-kept c =
    let s = c.args.self.now in
    let u = entry.Relisted c.args.tree c.relist-described.result.0 c.relist-described.result.1 in
    logged_keeps s _ u (c.push_reserved.ensures.items ∙ ap (λ l. l ++ u ∷ []) c.reserve.ensures.items) (c.relist-described.ensures.undo) refl
