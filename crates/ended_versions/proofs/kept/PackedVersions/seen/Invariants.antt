use Rattle.std.proofs.Common.{◌≡◌, ◌≤◌, ◌++◌, length, map, reverse, take}
use Rattle.std.specs.List.{filter}
use Rattle.ended_versions.specs.Entries.{is_seen, packed_in}
use Rattle.ended_versions.specs.Packed.{AreOfColumns, packed}
use Rattle.ended_versions.proofs.kept.PackedVersions.seen.Given as goal

abbrev pub invariant-loop-place : goal.invariant-loop-place
invariant-loop-place l = record {
  inside : l.before ≤ length l.entries;
  held : AreOfColumns l.seen.items;
  same : map (packed_in l.self-inside.bytes.items) (filter (is_seen l.window) l.entries)
      ≡ map (packed_in l.self-inside.bytes.items) (filter (is_seen l.window) (take l.before l.entries)) ++ map packed (reverse l.seen.items);
}

abbrev pub decreases-loop-place : goal.decreases-loop-place
decreases-loop-place l = l.before
