use Rattle.std.proofs.Common.{◌≡◌, ◌∙◌, [], ◌∷◌, ◌++◌, ap, refl, rules}
use Rattle.memory_store.specs.declared.log_entry.LogEntry.TheVariants.{SlotAdded}
use Rattle.memory_store.specs.Laws.{rows_are_ordered}
use Rattle.memory_store.specs.Content.{snapshot_in}
use Rattle.memory_store.specs.ContentStates.{before, state_in}
use Rattle.memory_store.proofs.Logs.{logged_keeps, logged_past}
use Rattle.memory_store.proofs.Snapshots.{snapshot_longer}
use Rattle.memory_store.proofs.ContentStates.{grown_back}
use Rattle.memory_store.proofs.logged_content.LoggedContent.grow.Goals as goal

pub invariant_of-self-2 : goal.invariant_of-self-2
invariant_of-self-2 c =
    let s = c.args.self.now in
    let log = c.push_reserved.ensures.items ∙ ap (λ l. l ++ SlotAdded ∷ []) c.reserve.ensures.items in
    let trees : c.push.new.self.items ≡ s.content.trees.items ++ c.absent.result ∷ [] = search rules in
    let back = ap (λ trees. before SlotAdded (state_in trees s.content.version)) trees ∙ grown_back s.content.trees.items s.content.version c.absent.result in
    record { valid = logged_past s.log.items _ SlotAdded _ _ log back (rows_are_ordered s.content.trees.items) s.valid }

pub returns-clause-same : goal.returns-clause-same
returns-clause-same c =
    let s = c.args.self.now in
    let trees : c.push.new.self.items ≡ s.content.trees.items ++ c.absent.result ∷ [] = search rules in
    ap (λ trees. snapshot_in trees s.content.version) trees ∙ snapshot_longer s.content.trees.items s.content.version c.absent.result c.absent.ensures.heading c.absent.ensures.rows

pub returns-clause-kept : goal.returns-clause-kept
returns-clause-kept c =
    let s = c.args.self.now in
    let log = c.push_reserved.ensures.items ∙ ap (λ l. l ++ SlotAdded ∷ []) c.reserve.ensures.items in
    let trees : c.push.new.self.items ≡ s.content.trees.items ++ c.absent.result ∷ [] = search rules in
    let back = ap (λ trees. before SlotAdded (state_in trees s.content.version)) trees ∙ grown_back s.content.trees.items s.content.version c.absent.result in
    logged_keeps s _ SlotAdded log back refl
