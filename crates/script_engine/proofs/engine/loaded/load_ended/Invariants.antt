use Rattle.std.proofs.Common.{◌≡◌, map, take}
use Rattle.ended_versions.specs.Packed.{AreEndedBy, AreOfColumns, packed}
use Rattle.script_engine.proofs.engine.loaded.load_ended.Given as goal

abbrev pub invariant-loop-version : goal.invariant-loop-version
invariant-loop-version l = record {
  made : l.list ≡ map packed (take l.version-index l.version-items);
  held : AreOfColumns (take l.version-index l.version-items);
  before : AreEndedBy l.moment l.list;
}
