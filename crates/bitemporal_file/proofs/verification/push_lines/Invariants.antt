use Rattle.std.proofs.Common.{◌≡◌, ◌++◌, string_bytes}
use Rattle.std.specs.Prelude.{flat_map}
use Rattle.std.specs.List.{zip}
use Rattle.bitemporal_file.specs.Verification.{verified_line, verified_lines}
use Rattle.bitemporal_file.proofs.verification.push_lines.Given as goal

-- the lines that are written, and those still to come
abbrev pub invariant-loop-table : goal.invariant-loop-table
invariant-loop-table l =
    string_bytes l.text ++ flat_map verified_line (zip l.table-iterator.a.rest.now l.table-iterator.b.rest.now)
    ≡ string_bytes l.fn.text ++ verified_lines l.tables l.counts
