use Rattle.std.proofs.Common.{◌≡◌, ◌≢◌, ◌≤◌, ℕ, All, List, length}
use Rattle.std.specs.Io.KnownBytes.{Consumes}
use Rattle.sql_statements.specs.Lexis.{line_feed}
use Rattle.script_engine.specs.script.Script.{most_bytes}
use Rattle.bitemporal_file.proofs.parts.read_line.Given as goal

abbrev pub invariant-reads : goal.invariant-reads
invariant-reads g l = (all : List ℕ)
    × Consumes (g.R.Read.remaining l.fn.input.inner) (g.R.Read.remaining l.input.inner) all
    × (l.size ≡ length all)
    × (l.size ≤ most_bytes → l.bytes.items ≡ all)
    × All (λ byte. byte ≢ line_feed) all
