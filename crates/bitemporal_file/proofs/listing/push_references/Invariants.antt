use Rattle.std.proofs.Common.{◌≡◌, ◌++◌, string_bytes, take}
use Rattle.bitemporal_file.specs.Listing.{references_lines}
use Rattle.bitemporal_file.proofs.listing.push_references.Given as goal

abbrev pub invariant-loop-reference : goal.invariant-loop-reference
invariant-loop-reference l = string_bytes l.text ≡ string_bytes l.fn.text ++ references_lines l.catalog.tables l.number l.child (take l.reference-index l.references)
