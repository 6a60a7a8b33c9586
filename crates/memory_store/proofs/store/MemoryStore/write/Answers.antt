use Rattle.std.proofs.Common.{refl}
use Rattle.std.proofs.lemmas.Result.{on_err_weaker, on_ok_weaker}
use Rattle.memory_store.specs.Content.{snapshot, with_edit}
use Rattle.memory_store.specs.Edit.{edited}
use Rattle.memory_store.proofs.Views.{written}
use Rattle.memory_store.proofs.store.MemoryStore.write.Goals as goal

pub returns-clause-ok : goal.returns-clause-ok
returns-clause-ok c =
    let s = c.args.self.now in
    on_ok_weaker c.edit.result (λ is. record { sound = refl; is = written s (record s { logged = c.edit.new.self; cursors = c.clear.new.self }) (with_edit (snapshot s.logged.content) c.args.tree (edited c.args.edit)) c.edit.ensures.kept is }) c.edit.ensures.ok

pub returns-clause-err : goal.returns-clause-err
returns-clause-err c =
    let s = c.args.self.now in
    on_err_weaker c.edit.result (λ same. written s (record s { logged = c.edit.new.self; cursors = c.clear.new.self }) (snapshot s.logged.content) c.edit.ensures.kept same) c.edit.ensures.err
