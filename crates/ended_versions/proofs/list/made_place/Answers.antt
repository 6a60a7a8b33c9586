use Rattle.std.proofs.Common.{◌≡◌, ◌++◌, ◌∷◌, [], subst, sym}
use Rattle.std.specs.List.{All}
use Rattle.std.proofs.lemmas.List.Elements.{All-push}
use Rattle.ended_versions.specs.Found.{AreChainedIn}
use Rattle.ended_versions.specs.declared.chained_values.ChainedValues.{ChainedValues}
use Rattle.ended_versions.proofs.FoundFacts.{hashes_none}
use Rattle.ended_versions.proofs.list.made_place.Goals as goal

pub returns-in_ok-push-clause-all : goal.returns-in_ok-push-clause-all
returns-in_ok-push-clause-all c = λ list are.
    let one : ChainedValues = c.in_ok-new.field-0 in
    let made : c.push.new.self.items ≡ c.args.chained.now.items ++ one ∷ [] = c.in_ok-push.ensures.items in
    subst (All (AreChainedIn list)) (sym made)
    (All-push (AreChainedIn list) c.args.chained.now.items one are (hashes_none one.positions list one.hashes c.in_ok-new.ensures))
