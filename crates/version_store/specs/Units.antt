-- The contents of a store of either form, with their moments in microseconds.
use Rattle.std.specs.Prelude.{map}
use Rattle.version_tables.specs.Forms.{end_in, moment_in}
use Rattle.version_tables.specs.declared.form.Form.{Form}
use Rattle.version_store.specs.Contents.{Contents, TableVersion}

-- a version: the open end of its system time is FOREVER
abbrev pub version_of : Form → TableVersion → TableVersion
version_of form v = record v { from = moment_in form v.from; to = end_in form v.to }

-- the clock and all versions
abbrev pub in_microseconds : Form → Contents → Contents
in_microseconds form c = record c {
  clock = moment_in form c.clock;
  versions = map (version_of form) c.versions;
}
