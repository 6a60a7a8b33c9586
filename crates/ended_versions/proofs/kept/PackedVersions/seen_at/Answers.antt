use Rattle.std.proofs.Common.{◌≡◌, ◌∙◌, ℕ, List, ap, sym}
use Rattle.std.specs.Prelude.{slice_index_or}
use Rattle.period_core.specs.Windows.{window_sees}
use Rattle.period_core.specs.declared.version.VersionRow.{VersionRow}
use Rattle.ended_versions.specs.Entries.{packed_in}
use Rattle.ended_versions.specs.Packed.{PackedVersion, packed}
use Rattle.ended_versions.specs.declared.blocks.VersionEntry.{VersionEntry}
use Rattle.ended_versions.proofs.FoundFacts.{held_at, packed_at}
use Rattle.ended_versions.proofs.PackedFacts.{same_version}
use Rattle.ended_versions.proofs.kept.PackedVersions.seen_at.Goals as goal

pub returns-then-not-sees : goal.returns-then-not-sees
returns-then-not-sees c = λ versions d hold.
    let entry : VersionEntry = c.index-entry.result.now in
    let same : packed (slice_index_or versions c.args.place d) ≡ packed_in c.self.inside.bytes.items entry =
    packed_at c.self.inside.bytes.items c.self.inside.entries.items c.args.self.now versions c.args.place d entry c.self.view_is hold c.requires c.index-entry.ensures in
    ap (λ (p : PackedVersion). window_sees c.args.window p.from p.to) same ∙ sym c.sees.ensures ∙ c.if-not-sees.true

pub returns : goal.returns
returns c = λ versions d hold.
    let entry : VersionEntry = c.index-entry.result.now in
    let version : VersionRow = slice_index_or versions c.args.place d in
    let bytes : List ℕ = c.self.inside.bytes.items in
    let same : packed version ≡ packed_in bytes entry =
    packed_at bytes c.self.inside.entries.items c.args.self.now versions c.args.place d entry c.self.view_is hold c.requires c.index-entry.ensures in
    let read : packed c.in_ok-unpacked.field-0 ≡ packed version = c.in_ok-unpacked.ensures.same ∙ (ap (λ (bs : List ℕ). packed_in bs entry) c.as_slice.ensures.value ∙ sym same) in (
      ap (λ (p : PackedVersion). window_sees c.args.window p.from p.to) same ∙ sym c.sees.ensures ∙ c.if-not-sees.false,
      same_version c.in_ok-unpacked.field-0 version c.in_ok-unpacked.ensures.held (held_at c.args.self.now versions c.args.place d hold c.requires) read,
    )
