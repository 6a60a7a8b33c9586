use Rattle.std.proofs.Common.{◌∙◌, [], ◌∷◌, ◌++◌, ap, refl}
use Rattle.memory_store.specs.declared.log_entry.LogEntry.TheVariants.{Savepoint}
use Rattle.memory_store.specs.Laws.{rows_are_ordered}
use Rattle.memory_store.specs.ContentStates.{before_all, marked, state_of}
use Rattle.memory_store.proofs.Logs.{base_stays, logged_past, marked_append}
use Rattle.memory_store.proofs.logged_content.LoggedContent.savepoint.Goals as goal

pub invariant_of-self-2 : goal.invariant_of-self-2
invariant_of-self-2 c =
    let s = c.args.self.now in
    let log = c.push_reserved.ensures.items ∙ ap (λ l. l ++ Savepoint ∷ []) c.reserve.ensures.items in
    record { valid = logged_past s.log.items _ Savepoint _ _ log refl (rows_are_ordered s.content.trees.items) s.valid }

pub returns-clause-ok : goal.returns-clause-ok
returns-clause-ok c =
    let s = c.args.self.now in
    let log = c.push_reserved.ensures.items ∙ ap (λ l. l ++ Savepoint ∷ []) c.reserve.ensures.items in
    ap (λ us. marked us (state_of s.content)) log ∙ marked_append s.log.items (Savepoint ∷ []) (state_of s.content)

pub returns-clause-base : goal.returns-clause-base
returns-clause-base c =
    let s = c.args.self.now in
    let log = c.push_reserved.ensures.items ∙ ap (λ l. l ++ Savepoint ∷ []) c.reserve.ensures.items in
    ap (λ us. before_all us (state_of s.content)) log ∙ base_stays s.log.items Savepoint (state_of s.content) (state_of s.content) refl
