use Rattle.std.proofs.Common.{◌++◌, ◌∷◌, [], ℕ, List, refl, sym, subst}
use Rattle.std.specs.Prelude.{IsSome}
use Rattle.std.specs.BTreeMap.{BTreeMap}
use Rattle.ended_versions.specs.Chains.{AreChained}
use Rattle.ended_versions.specs.declared.chains.Link.{Link}
use Rattle.ended_versions.proofs.ChainFacts.{Writes, chained_less, still_there}
use Rattle.ended_versions.proofs.chains.Chains.pop.Goals as goal
use Rattle.ended_versions.proofs.chains.Chains.pop.Goals.{in-Some-get_mut, in_default-get_mut}

pub invariant_of-self-in_default-before : goal.invariant_of-self-in_default-before
invariant_of-self-in_default-before c =
    let links : List Link = c.pop.new.self.items in
    let link : Link = c.in-Some.link in
    let last : BTreeMap ℕ ℕ = c.self.inside.last in
    let after : BTreeMap ℕ ℕ = c.remove-only.new.self in
    let are : AreChained (links ++ link ∷ []) last = subst (λ (ls : List Link). AreChained ls last) c.in-Some.ensures.items c.self.invariant in
    let writes : Writes last after link.hash link.before = subst (Writes last after link.hash) (sym c.in_default-before.is) (λ q. c.remove-only.ensures.updates.0 q) in
    chained_less links link last after are writes

pub invariant_of-self-2 : goal.invariant_of-self-2
invariant_of-self-2 c =
    let links : List Link = c.pop.new.self.items in
    let link : Link = c.in-Some.link in
    let last : BTreeMap ℕ ℕ = c.self.inside.last in
    let are : AreChained (links ++ link ∷ []) last = subst (λ (ls : List Link). AreChained ls last) c.in-Some.ensures.items c.self.invariant in
    elim c.match-get_mut.branch [
      | in-Some-get_mut w ↦
          (let after : BTreeMap ℕ ℕ = c.get_mut.follows.lender c.in-Some-before.before in
          let writes : Writes last after link.hash link.before =
          subst (Writes last after link.hash) (sym c.in-Some-before.is)
          (λ q. ((c.get_mut.follows.holds c.in-Some-before.before).3 (subst IsSome w.in-Some-get_mut.ensures.value refl)).0 q) in
          subst (λ s. AreChained s.links.items s.last) (sym w.self-inside-is) (chained_less links link last after are writes))
      | in_default-get_mut w ↦ absurd (still_there links link last are (sym w.in_default-get_mut.ensures.value))
    ]
