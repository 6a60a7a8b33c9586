use Rattle.std.proofs.Common.{◌≡◌, ◌∙◌, ◌++◌, arith, length, map, subst, take}
use Rattle.std.specs.Prelude.{flat_map}
use Rattle.std.proofs.lemmas.List.{take_all}
use Rattle.md5.specs.Md5.{Holds}
use Rattle.history_model.specs.Versions.{plain_version}
use Rattle.history_sums.specs.Sums.{count_bytes, version_bytes}
use Rattle.history_sums.proofs.SumFacts.{versions-spelled}
use Rattle.history_sums.proofs.pieces.add_versions.Goals as goal

pub returns : goal.returns
returns c bytes held =
    let sorted = c.sort_unstable.new.self.items in
    let items = c.deref-version-items.result.now in
    let same : items ≡ sorted = c.deref-version-items.ensures.value in
    let all : take c.loop-version.version-index items ≡ sorted = take_all c.loop-version.version-index items (omega (arith, c.loop-version-test.false)) ∙ same in
    let whole = subst (λ vs. Holds c.loop-version.sum (bytes ++ (count_bytes (length items) ++ flat_map version_bytes (map plain_version vs)))) all (c.loop-version.invariant bytes held) in
    let counted = rw same at whole in
    subst (λ spelled. Holds c.loop-version.sum (bytes ++ spelled)) (versions-spelled c.args.versions.items sorted c.sort_unstable.ensures.permutation c.sort_unstable.ensures.sorted) counted
