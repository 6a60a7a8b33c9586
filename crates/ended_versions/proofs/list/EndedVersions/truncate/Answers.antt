use Rattle.std.proofs.Common.{◌≡◌, ◌++◌, ◌∙◌, ℕ, List, ap, arith, append-nil, drop, length, map, subst₂, sym, take}
use Rattle.std.specs.List.{All}
use Rattle.std.proofs.lemmas.List.{drop_all, length-map, take_all}
use Rattle.ended_versions.specs.Found.{AreChainedIn, first_chained}
use Rattle.ended_versions.specs.Packed.{PackedVersion}
use Rattle.ended_versions.specs.declared.chained_values.ChainedValues.{ChainedValues}
use Rattle.ended_versions.proofs.FoundFacts.{chained_first}
use Rattle.ended_versions.proofs.list.EndedVersions.truncate.Goals as goal

-- a list of the same length, in place of another
in_place : {X : Type 0} (old new : List X) (len : ℕ) → length new ≡ length old → length old ≡ len → take len (new ++ drop (length new) old) ≡ new
in_place {X} old new len same size =
    ap (λ (l : List X). take len (new ++ l)) (drop_all (length new) old (omega arith))
    ∙ (ap (take len) (append-nil new) ∙ take_all len new (omega arith))

pub invariant_of-self : goal.invariant_of-self
invariant_of-self c =
    let old : List ChainedValues = c.self.inside.chained.items in
    let new : List ChainedValues = c.truncate_each.new.chained in
    let made : new ≡ map (first_chained c.args.count) old = c.truncate_each.ensures ∙ ap (map (first_chained c.args.count)) c.as_mut_slice.ensures.value in
    let size : length old ≡ c.self.inside.chained.len = ap length (sym c.as_mut_slice.ensures.value) ∙ c.as_mut_slice.ensures.len in
    subst₂ (λ (l : List PackedVersion) (cs : List ChainedValues). All (AreChainedIn l) cs) (sym c.truncate.ensures)
    (sym (in_place old new c.self.inside.chained.len (ap length made ∙ length-map old (first_chained c.args.count)) size ∙ made))
    (chained_first c.self.inside.versions old c.args.count c.self.invariant)
