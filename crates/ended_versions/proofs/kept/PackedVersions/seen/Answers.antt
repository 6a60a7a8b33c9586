use Rattle.std.proofs.Common.{◌≡◌, ◌<◌, ◌++◌, ◌∷◌, [], ◌∙◌, ℕ, List, map, reverse, take, ap, arith, sym, subst}
use Rattle.std.specs.List.{All, filter}
use Rattle.std.proofs.lemmas.List.Elements.{All-push}
use Rattle.period_core.specs.Encoding.{IsColumnValue}
use Rattle.period_core.specs.declared.version.VersionRow.{VersionRow}
use Rattle.ended_versions.specs.Entries.{AreInOrder, is_seen, packed_in}
use Rattle.ended_versions.specs.Packed.{AreOfColumns, Hold, PackedVersion, packed}
use Rattle.ended_versions.specs.declared.blocks.VersionEntry.{VersionEntry}
use Rattle.ended_versions.proofs.PackedFacts.{seen_is, seen_more}
use Rattle.ended_versions.proofs.kept.PackedVersions.seen.Goals as goal

pub last_seen-requires-clause-ordered : goal.last_seen-requires-clause-ordered
last_seen-requires-clause-ordered c = subst AreInOrder (sym c.as_slice-entries.ensures.value) c.self.invariant.ordered

pub loop-place-preserved : goal.loop-place-preserved
loop-place-preserved c =
    let inv = c.loop-place.invariant in
    let window = c.args.window in
    let bytes : List ℕ = c.self.inside.bytes.items in
    let entries : List VersionEntry = c.as_slice-entries.result.now in
    let entry : VersionEntry = c.index-entries-place.result in
    let place : ℕ = c.in-Some.place in
    let version : VersionRow = c.in_ok-unpacked.field-0 in
    let seen : List VersionRow = c.loop-place.seen.items in
    let below : place < c.loop-place.before = c.in-Some.ensures.0 in
    let last : filter (is_seen window) (take c.loop-place.before entries) ≡ filter (is_seen window) (take place entries) ++ entry ∷ [] =
    c.in-Some.ensures.1 entry ∙ ap (λ (e : VersionEntry). filter (is_seen window) (take place entries) ++ e ∷ []) (sym c.index-entries-place.is) in
    let one : packed version ≡ packed_in bytes entry = c.in_ok-unpacked.ensures.same ∙ ap (λ (bs : List ℕ). packed_in bs entry) c.as_slice.ensures.value in
    let pushed : c.push.new.self.items ≡ seen ++ version ∷ [] = c.in_ok-push.ensures.items in
    record {
      inside = omega (arith, below, inv.inside);
      held = subst AreOfColumns (sym pushed) (All-push (λ (v : VersionRow). All IsColumnValue v.values) seen version inv.held c.in_ok-unpacked.ensures.held);
      same =
          seen_more bytes (filter (is_seen window) entries) (filter (is_seen window) (take c.loop-place.before entries)) (filter (is_seen window) (take place entries)) entry seen version inv.same last one
          ∙ ap (λ (vs : List VersionRow). map (packed_in bytes) (filter (is_seen window) (take place entries)) ++ map packed (reverse vs)) (sym pushed);
    }

pub returns : goal.returns
returns c = λ versions hold.
    let window = c.args.window in
    let bytes : List ℕ = c.self.inside.bytes.items in
    let entries : List VersionEntry = c.as_slice-entries.result.now in
    let seen : List VersionRow = c.loop-place.seen.items in
    let same : map (packed_in bytes) (filter (is_seen window) entries) ≡ map packed (reverse seen) =
    c.loop-place.invariant.same ∙ ap (λ (es : List VersionEntry). map (packed_in bytes) es ++ map packed (reverse seen)) c.in_default.ensures in
    let its : Hold (map (packed_in bytes) entries) versions =
    subst (λ (l : List PackedVersion). Hold l versions) (sym c.self.view_is ∙ ap (map (packed_in bytes)) (sym c.as_slice-entries.ensures.value)) hold in
    seen_is window bytes entries versions seen its c.loop-place.invariant.held same
