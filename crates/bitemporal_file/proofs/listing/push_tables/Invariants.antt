use Rattle.std.proofs.Common.{◌≡◌, ◌+◌, ◌-◌, ◌++◌, ℕ, drop, get_or, string_bytes}
use Rattle.bitemporal_file.specs.Listing.{tables_lines}
use Rattle.bitemporal_file.proofs.listing.push_tables.Given as goal

-- the text written, and the text to come
abbrev pub invariant-loop-i : goal.invariant-loop-i
invariant-loop-i l =
    string_bytes l.text ++ tables_lines l.catalog.tables (λ (number : ℕ). get_or l.counts (number - 1) 0) (l.i + 1) (drop l.i l.catalog.tables)
    ≡ string_bytes l.fn.text ++ tables_lines l.catalog.tables (λ (number : ℕ). get_or l.counts (number - 1) 0) 1 l.catalog.tables
