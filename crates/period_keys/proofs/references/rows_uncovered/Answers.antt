use Rattle.std.proofs.Common.{[]}
use Rattle.std.proofs.lemmas.List.Sorted.{IsPermutation-refl}
use Rattle.temporal_model.proofs.Members.{Contains-nil}
use Rattle.period_keys.proofs.references.rows_uncovered.Goals as goal

pub returns : goal.returns
returns c =
    c.in_ok-found.ensures.of_whole c.args.keys.now c.args.parents.now [] [] [] c.in_ok-index.ensures
    (λ day (child, there, within, alone). Contains-nil child there) (IsPermutation-refl [])
