use Rattle.std.proofs.Common.{◌≡◌, ◌≤◌, ℕ, List, length}
use Rattle.std.specs.Io.KnownBytes.{Consumes}
use Rattle.bitemporal_file.specs.declared.parts.Place.TheVariants.{Outside}
use Rattle.bitemporal_file.specs.Parts.{HasNoCommand, IsOpen, begins_line, place_after_all}
use Rattle.script_engine.specs.script.Script.{most_bytes}
use Rattle.bitemporal_file.proofs.BlankFacts.{is_blank_so_far}
use Rattle.bitemporal_file.proofs.parts.read_part.Given as goal

abbrev pub invariant-reads : goal.invariant-reads
invariant-reads g l = (all : List ℕ)
    × Consumes (g.R.Read.remaining l.fn.input.inner) (g.R.Read.remaining l.input.inner) all
    × (l.before ≡ length all)
    × (l.before ≤ most_bytes → l.bytes.items ≡ all)
    × (l.place ≡ place_after_all Outside all)
    × IsOpen all
    × (l.is_blank ≡ is_blank_so_far all)
    × (l.is_line_start ≡ begins_line l.fn.starts_line all)
    × HasNoCommand l.fn.starts_line all
