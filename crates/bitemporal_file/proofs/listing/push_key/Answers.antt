use Rattle.std.proofs.Common.{string_bytes}
use Rattle.std.proofs.lemmas.Result.{on_ok_weaker}
use Rattle.bitemporal_file.proofs.ListingFacts.{key-text, where-ok}
use Rattle.bitemporal_file.proofs.listing.push_key.Goals as goal

pub returns : goal.returns
returns c =
    on_ok_weaker c.push_str.result
    (λ wrote. key-text c.args.number c.args.table.now (string_bytes c.args.text.now) (string_bytes c.write.new.self) (string_bytes c.push_names.new.text) (string_bytes c.push_str.new.self) c.in_ok-write.ensures.bytes (rw c.as_slice.ensures at c.in_ok-push_names.ensures) wrote)
    (where-ok c.push_str.result _ _ _ c.push_str.ensures.bytes)
