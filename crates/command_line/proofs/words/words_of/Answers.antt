use Rattle.std.proofs.Common.{refl}
use Rattle.std.proofs.lemmas.Iterator.{items_from_collect}
use Rattle.std.proofs.lemmas.Iterator.Adapters.{YieldsList-from_vec}
use Rattle.command_line.proofs.words.words_of.Goals as goal

pub returns-in-Ok-collect-clause-all : goal.returns-in-Ok-collect-clause-all
returns-in-Ok-collect-clause-all c =
    let all = items_from_collect c.collect.result c.collect.ensures.ran (YieldsList-from_vec _ refl c.in-Ok.args.rest.ok.0) in
    let words = rw c.in-Ok-collect.is at all in
    rw c.in-Ok.is words
