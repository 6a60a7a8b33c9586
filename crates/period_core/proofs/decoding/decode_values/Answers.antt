use Rattle.std.proofs.Common.{rules}
use Rattle.std.proofs.lemmas.List.Elements.{All-push}
use Rattle.period_core.specs.Decoding.{HasFirst}
use Rattle.period_core.specs.Encoding.{IsColumnValue, IsEncoding}
use Rattle.period_core.proofs.ReadingFacts.{first-of_encoding, rest-is_encoding, values-read}
use Rattle.period_core.proofs.decoding.decode_values.Goals as goal

pub returns-in_err-value-clause-malformed : goal.returns-in_err-value-clause-malformed
returns-in_err-value-clause-malformed c =
    let first : IsEncoding c.args.bytes.now → HasFirst c.values.rest.now =
    λ is. first-of_encoding c.values.rest.now (search rules) (c.values.invariant.left is) in
    search (rules, first)

pub values-preserved : goal.values-preserved
values-preserved c = record {
  read = rw c.in_ok-push.ensures.items (values-read c.values.values.items c.in_ok-value.value c.in_ok-value.after.now c.values.rest.now _ c.values.invariant.read c.in_ok-value.ensures.found);
  held = rw c.in_ok-push.ensures.items (All-push IsColumnValue c.values.values.items c.in_ok-value.value c.values.invariant.held c.in_ok-value.ensures.held);
  left = λ is. rest-is_encoding c.in_ok-value.value c.in_ok-value.after.now c.values.rest.now c.in_ok-value.ensures.found (c.values.invariant.left is);
}
