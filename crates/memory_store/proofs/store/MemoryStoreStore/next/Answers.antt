use Rattle.std.proofs.Common.{◌<◌, ◌≡◌, None, Some, arith, get_or, length}
use Rattle.std.proofs.lemmas.Grind.{common_steps}
use Rattle.memory_store.proofs.Views.{advances}
use Rattle.memory_store.proofs.store.MemoryStoreStore.next.Goals as goal

pub returns-in_ok-next-in-Some-clause-ok : goal.returns-in_ok-next-in-Some-clause-ok
returns-in_ok-next-in-Some-clause-ok c _ =
    let s = c.args.self.now in
    let within : c.args.cursor < length s.cursors.items = grind (arith, common_steps) in
    let held : get_or s.cursors.items c.args.cursor None ≡ Some c.in-Some.found = grind (arith, common_steps) in
    rw c.from.ensures (advances s c.args.cursor c.in-Some.found (record { tree = c.in-Some.found.tree; place = c.next.new.cursor }) c.next.new.row within held c.in_ok-next-in-Some.field-0 c.in_ok-next-in-Some.ensures)
