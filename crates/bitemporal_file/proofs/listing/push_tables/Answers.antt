use Rattle.std.proofs.Common.{◌≡◌, ◌+◌, ◌-◌, ◌<◌, ◌++◌, ℕ, get_or, length, rules, string_bytes, subst}
use Rattle.bitemporal_file.specs.Listing.{table_lines}
use Rattle.bitemporal_file.proofs.ListingFacts.{count-at, table-more}
use Rattle.bitemporal_file.proofs.listing.push_tables.Goals as goal

pub loop-i-preserved : goal.loop-i-preserved
loop-i-preserved c =
    let tables = c.args.catalog.now.tables in
    let i = c.loop-i.i in
    let found : c.unwrap_or-versions.result ≡ get_or c.args.counts.now i 0 = search rules in
    let wrote : string_bytes c.push_table.new.text ≡ string_bytes c.loop-i.text ++ table_lines tables (i + 1) c.index-tables-i.result (get_or c.args.counts.now ((i + 1) - 1) 0) =
    subst (λ (n : ℕ). string_bytes c.push_table.new.text ≡ string_bytes c.loop-i.text ++ table_lines tables (i + 1) c.index-tables-i.result n) (count-at c.args.counts.now i c.unwrap_or-versions.result found) c.in_ok-push_table.ensures in
    let within : i < length tables = search rules in
    table-more tables (λ (number : ℕ). get_or c.args.counts.now (number - 1) 0) i c.index-tables-i.result _ _ _ within (rw c.as_slice-tables.ensures at c.index-tables-i.is) wrote c.loop-i.invariant
