use Rattle.script_engine.proofs.ScriptFacts.{cut_of}
use Rattle.script_engine.proofs.script.script_pieces.Goals as goal

pub returns-clause-cut : goal.returns-clause-cut
returns-clause-cut c =
    cut_of c.args.script.now c.in_ok-text.text.now c.in_ok-tokens.tokens.items c.as_slice.result.now c.in_ok-spans.spans.items
    c.in_ok-text.ensures.text c.as_slice.ensures.value c.in_ok-text.ensures.small c.in_ok-text.ensures.utf8 c.in_ok-tokens.ensures.tokens c.in_ok-spans.ensures.pieces
