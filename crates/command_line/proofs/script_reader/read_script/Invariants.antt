use Rattle.std.proofs.Common.{◌≤◌, ◌+◌, ◌-◌, vec_len}
use Rattle.std.specs.Io.KnownBytes.{Consumes}
use Rattle.command_line.proofs.script_reader.read_script.Given as goal

abbrev pub invariant-loop-buffer : goal.invariant-loop-buffer
invariant-loop-buffer g l = record {
  bounded : vec_len l.text ≤ l.most + 1;
  taken : Consumes (g.R.Read.remaining l.fn.input.inner) (g.R.Read.remaining l.input.inner) l.text.items;
}

abbrev pub decreases-loop-buffer : goal.decreases-loop-buffer
decreases-loop-buffer g l = l.most + 1 - vec_len l.text + l.retries
