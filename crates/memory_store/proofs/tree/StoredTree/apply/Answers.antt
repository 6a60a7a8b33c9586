use Rattle.std.proofs.Common.{SFits, rules, w64}
use Rattle.std.proofs.lemmas.Int.{to_z-of_z}
use Rattle.std.proofs.lemmas.Result.{on_err_weaker}
use Rattle.memory_store.proofs.Shaped.{done_or_not, shaped, stays_shaped}
use Rattle.memory_store.proofs.tree.StoredTree.apply.Goals as goal

pub put-requires-clause-table : goal.put-requires-clause-table
put-requires-clause-table c = let fits = rw c.in-Put.is at c.requires in rw fits.0 at (shaped _ _ c.args.self.now.ordered)

pub invariant_of-self : goal.invariant_of-self
invariant_of-self c =
    let was = c.args.self.now.ordered in
    record { ordered = done_or_not c.put.result _ _ _ _ _ c.put.ensures.ok c.put.ensures.err was (rw c.in-Put.is at (stays_shaped c.args.edit _ _ c.requires was)) }

pub delete-requires : goal.delete-requires
delete-requires c = let fits = rw c.in-Delete.is at c.requires in rw fits at (shaped _ _ c.args.self.now.ordered)

pub invariant_of-self-in-Delete : goal.invariant_of-self-in-Delete
invariant_of-self-in-Delete c =
    let was = c.args.self.now.ordered in
    let fits : SFits w64 c.in-Delete.id = search rules in
    let made = rw (to_z-of_z _ c.in-Delete.id fits) at c.delete.ensures.ok in
    record { ordered = done_or_not c.delete.result _ _ _ _ _ made (on_err_weaker c.delete.result (λ h. h.0) c.delete.ensures.err) was (rw c.in-Delete.is at (stays_shaped c.args.edit _ _ c.requires was)) }

pub insert-requires : goal.insert-requires
insert-requires c = let fits = rw c.in-Insert.is at c.requires in rw fits at (shaped _ _ c.args.self.now.ordered)

pub invariant_of-self-in-Insert : goal.invariant_of-self-in-Insert
invariant_of-self-in-Insert c =
    let was = c.args.self.now.ordered in
    record { ordered = done_or_not c.insert.result _ _ _ _ _ c.insert.ensures.ok c.insert.ensures.err was (rw c.in-Insert.is at (stays_shaped c.args.edit _ _ c.requires was)) }

pub remove-requires : goal.remove-requires
remove-requires c = let fits = rw c.in-Remove.is at c.requires in rw fits at (shaped _ _ c.args.self.now.ordered)

pub invariant_of-self-in-Remove : goal.invariant_of-self-in-Remove
invariant_of-self-in-Remove c =
    let was = c.args.self.now.ordered in
    record { ordered = done_or_not c.remove.result _ _ _ _ _ c.remove.ensures.ok (on_err_weaker c.remove.result (λ h. h.0) c.remove.ensures.err) was (rw c.in-Remove.is at (stays_shaped c.args.edit _ _ c.requires was)) }
