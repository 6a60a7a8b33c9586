use Rattle.std.proofs.Common.{◌∙◌, sym}
use Rattle.std.proofs.lemmas.Bool.{not-true}
use Rattle.ended_versions.proofs.FoundFacts.{none_seen}
use Rattle.ended_versions.proofs.kept.PackedVersions.ends_early.Goals as goal

pub returns : goal.returns
returns c = λ versions hold early.
    none_seen c.self.inside.bytes.items c.self.inside.entries.items c.args.self.now versions c.args.window.now c.args.place c.index.result.now c.self.invariant.ordered c.self.view_is hold c.requires c.index.ensures
    (sym c.ends_late.ensures ∙ not-true c.ends_late.result early)
