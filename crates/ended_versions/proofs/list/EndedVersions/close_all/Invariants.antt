use Rattle.std.proofs.Common.{◌≡◌, ◌++◌, map, take}
use Rattle.ended_versions.specs.Packed.{AreEndedBy, AreOfColumns, closed_at, packed}
use Rattle.ended_versions.proofs.list.EndedVersions.close_all.Given as goal

abbrev pub invariant-loop-version : goal.invariant-loop-version
invariant-loop-version l = record {
  made : l.self ≡ l.initial.self ++ map packed (closed_at l.moment (take l.version-index l.versions));
  held : AreOfColumns (closed_at l.moment (take l.version-index l.versions));
  ended : AreEndedBy l.moment l.self;
}
