use Rattle.std.proofs.Common.{◌≡◌, ◌<◌, ◌∙◌, ℕ, List, ap, arith, get_or, length, sym}
use Rattle.std.proofs.lemmas.List.{get_or-map, length-map}
use Rattle.std.proofs.lemmas.Result.{IfOk-weaker}
use Rattle.ended_versions.specs.Entries.{packed_in}
use Rattle.ended_versions.specs.Packed.{PackedVersion}
use Rattle.ended_versions.specs.declared.blocks.VersionEntry.{VersionEntry}
use Rattle.ended_versions.proofs.kept.PackedVersions.version_at.Goals as goal

pub returns-clause-same : goal.returns-clause-same
returns-clause-same c = λ d.
    let bytes : List ℕ = c.self.inside.bytes.items in
    let entries : List VersionEntry = c.self.inside.entries.items in
    let entry : VersionEntry = c.index.result.now in
    let below : c.args.place < length entries = omega (arith, c.requires, length-map entries (packed_in bytes), ap length c.self.view_is) in
    let there : packed_in bytes entry ≡ get_or c.args.self.now c.args.place d =
    ap (packed_in bytes) c.index.ensures
    ∙ (sym (get_or-map (packed_in bytes) entries c.args.place entry d below)
    ∙ ap (λ (l : List PackedVersion). get_or l c.args.place d) c.self.view_is) in
    IfOk-weaker c.unpacked.result _ _
    (λ version is. is ∙ (ap (λ (bs : List ℕ). packed_in bs entry) c.as_slice.ensures.value ∙ there))
    c.unpacked.ensures.same
