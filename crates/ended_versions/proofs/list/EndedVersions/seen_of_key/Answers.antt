use Rattle.std.proofs.Common.{◌∙◌, Bool, List, ap, subst, sym}
use Rattle.std.specs.List.{filter}
use Rattle.std.proofs.lemmas.Result.{IfOk-weaker}
use Rattle.period_core.specs.declared.version.VersionRow.{VersionRow}
use Rattle.ended_versions.specs.Hashes.{may_have}
use Rattle.ended_versions.specs.Packed.{Hold, PackedVersion, seen_through}
use Rattle.ended_versions.proofs.FoundFacts.{filter-reverse}
use Rattle.ended_versions.proofs.list.EndedVersions.seen_of_key.Goals as goal

pub returns-in_ok-seen-in-None : goal.returns-in_ok-seen-in-None
returns-in_ok-seen-in-None c = λ versions hold.
    let its : Hold c.self.inside.versions versions = subst (λ (l : List PackedVersion). Hold l versions) (sym c.self.view_is) hold in
    let test : VersionRow → Bool = may_have c.args.positions.now c.args.key.now in
    IfOk-weaker c.that_may_have.result _ _
    (λ found is. is ∙ (ap (filter test) (c.in_ok-seen-in-None.ensures versions its) ∙ filter-reverse test (seen_through c.args.window versions)))
    c.that_may_have.ensures
