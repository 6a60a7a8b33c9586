use Rattle.std.proofs.Common.{◌<◌, ◌∙◌, ℕ, List, length, map, take, ap, ap₂, arith, sym, subst}
use Rattle.std.proofs.lemmas.List.{get_or_read}
use Rattle.ended_versions.specs.Entries.{AreEntries, packed_in}
use Rattle.ended_versions.specs.Packed.{PackedVersion}
use Rattle.ended_versions.specs.declared.blocks.VersionEntry.{VersionEntry}
use Rattle.ended_versions.proofs.EntryFacts.{AreFirst, first_ones, packed_first}
use Rattle.ended_versions.proofs.kept.PackedVersions.truncate.Goals as goal

pub invariant_of-self : goal.invariant_of-self
invariant_of-self c =
    let bytes : List ℕ = c.self.inside.bytes.items in
    let entries : List VersionEntry = c.self.inside.entries.items in
    let start : ℕ = c.index.result.now.start in
    let fewer : c.args.count < length entries = omega (arith, c.if-count-len.true, c.len.ensures) in
    let first : AreFirst bytes entries start c.args.count = record {
      are = c.self.invariant;
      fewer = fewer;
      bytes_of = λ d. ap (λ (e : VersionEntry). e.start) (get_or_read entries c.args.count c.index.result.now fewer c.index.ensures d);
    } in
    subst (λ (bs : List ℕ). AreEntries bs c.truncate-then-count-len.new.self.items) (sym c.truncate.ensures.items)
    (subst (AreEntries (take start bytes)) (sym c.truncate-then-count-len.ensures.items) (first_ones bytes entries start c.args.count first))

pub returns-then-count-len : goal.returns-then-count-len
returns-then-count-len c =
    let bytes : List ℕ = c.self.inside.bytes.items in
    let entries : List VersionEntry = c.self.inside.entries.items in
    let start : ℕ = c.index.result.now.start in
    let fewer : c.args.count < length entries = omega (arith, c.if-count-len.true, c.len.ensures) in
    let first : AreFirst bytes entries start c.args.count = record {
      are = c.self.invariant;
      fewer = fewer;
      bytes_of = λ d. ap (λ (e : VersionEntry). e.start) (get_or_read entries c.args.count c.index.result.now fewer c.index.ensures d);
    } in
    ap₂ (λ (bs : List ℕ) (es : List VersionEntry). map (packed_in bs) es) c.truncate.ensures.items c.truncate-then-count-len.ensures.items
    ∙ (packed_first bytes entries start c.args.count first ∙ ap (λ (ps : List PackedVersion). take c.args.count ps) c.self.view_is)
