use Rattle.std.proofs.Common.{◌≡◌, arith, get_or}
use Rattle.std.proofs.lemmas.Grind.{common_steps}
use Rattle.memory_store.proofs.ContentStates.{set_unset}
use Rattle.memory_store.proofs.content.Content.replace.Goals as goal

pub returns-clause-undo : goal.returns-clause-undo
returns-clause-undo c =
    let s = c.args.self.now in
    let is : c.replace.result ≡ get_or s.trees.items c.args.tree c.replace.result = grind (arith, common_steps) in
    set_unset s.trees.items s.version c.args.tree c.replace.new.dest c.replace.result c.requires is
