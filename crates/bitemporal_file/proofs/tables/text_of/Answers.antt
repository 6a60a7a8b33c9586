use Rattle.std.proofs.Common.{string_bytes}
use Rattle.bitemporal_file.proofs.CountFacts.{list-of}
use Rattle.bitemporal_file.proofs.tables.text_of.Goals as goal

pub returns-clause-listed : goal.returns-clause-listed
returns-clause-listed g c usable history stands =
    list-of g.S.Store history c.counts_of.new.engine c.in_ok-counts.counts.items (c.in_ok-counts.ensures.same usable history stands) (c.in_ok-counts.ensures.counts usable history stands)
    c.catalog.result.now c.as_slice.result.now c.clock.result (string_bytes c.new-tables.result) (string_bytes c.push_tables.new.text) c.in_ok-text.text.items c.as_bytes.result.now c.extend_from_slice.new.self.items
    c.catalog.ensures c.as_slice.ensures.value c.clock.ensures c.new-tables.ensures.bytes c.in_ok-push_tables.ensures c.in_ok-text.ensures c.as_bytes.ensures.value c.in_ok-extend_from_slice.ensures.items
