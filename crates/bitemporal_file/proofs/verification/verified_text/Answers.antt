use Rattle.std.proofs.Common.{◌≡◌, ◌∙◌, SFits, [], ap, of_z, rules, string_bytes, to_z, to_z-of_z, w64}
use Rattle.catalog_core.specs.declared.table.catalog.Catalog.{Catalog}
use Rattle.history_model.specs.Histories.{catalog_of, clock_of}
use Rattle.bitemporal_file.proofs.VerificationFacts.{verified-of}
use Rattle.bitemporal_file.proofs.verification.verified_text.Goals as goal

pub returns-clause-verified : goal.returns-clause-verified
returns-clause-verified g c usable history stands =
    let later = c.in_ok-counts.ensures.same usable history stands in
    let fits : SFits w64 c.number.result = search rules in
    let moment : to_z w64 (of_z w64 c.number.result) ≡ clock_of history = to_z-of_z fits ∙ c.number.ensures.value ∙ c.clock.ensures ∙ stands.stored.clock ∙ stands.said.clock in
    let defined : c.as_slice.result.now ≡ catalog_of history = c.as_slice.ensures ∙ ap (λ (k : Catalog). k.tables) c.catalog.ensures ∙ stands.stored.catalog ∙ stands.said.tables in
    let shown : c.as_slice-2.result.now ≡ catalog_of history = c.as_slice-2.ensures ∙ ap (λ (k : Catalog). k.tables) c.catalog-2.ensures ∙ later.stored.catalog ∙ later.said.tables in
    let begun = c.add_number.ensures [] c.new-sum.ensures in
    let spelled = c.in_ok-counts.ensures.added usable history stands _ (c.in_ok-add_definitions.ensures _ begun) in
    let digits = c.as_str.ensures.value ∙ c.in_ok-digits.ensures _ spelled in
    let counts = c.as_slice-3.ensures.value ∙ c.in_ok-counts.ensures.counts usable history stands in
    verified-of history _ c.as_slice.result.now c.as_slice-2.result.now c.as_slice-3.result.now c.as_str.result.now (string_bytes c.new-text.result) (string_bytes c.push_lines.new.text) c.into_bytes.result.items
    moment defined shown counts digits c.new-text.ensures.bytes c.in_ok-push_lines.ensures (ap (λ v. v.items) c.into_bytes.ensures.value ∙ c.in_ok-push_sum.ensures)
