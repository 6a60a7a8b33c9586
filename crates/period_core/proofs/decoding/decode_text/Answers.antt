use Rattle.std.proofs.lemmas.Str.{IsUtf8-had}
use Rattle.period_core.proofs.ReadingFacts.{text-not_utf8}
use Rattle.period_core.proofs.decoding.decode_text.Goals as goal

pub returns-clause-malformed : goal.returns-clause-malformed
returns-clause-malformed c m =
    text-not_utf8 c.in_ok-text.text.items c.in_ok-text.rest.now c.args.bytes.now c.in_ok-text.ensures.found
    (λ utf8. let ok = c.in-Err.ensures.succeeds utf8 in cc ok)

pub returns-in-Ok-clause-held : goal.returns-in-Ok-clause-held
returns-in-Ok-clause-held c = rw c.new.ensures (IsUtf8-had _ c.in-Ok.string.ok)
