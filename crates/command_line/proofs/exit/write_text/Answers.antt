use Rattle.std.proofs.Common.{arith, take-add, length-drop}
use Rattle.std.proofs.lemmas.List.{take_rest}
use Rattle.std.proofs.KnownBytes.{Appends-trans}
use Rattle.command_line.proofs.exit.write_text.Goals as goal

pub writes-preserved : goal.writes-preserved
writes-preserved g c =
    let text = c.args.text.now in
    let written = c.writes.written in
    let more = rw (take_rest text written) at c.in-Ok.ensures.bytes in
    let bound = rw (take_rest text written) at c.in-Ok.ensures.bound in
    record {
      bounded = omega (arith, c.writes.invariant.bounded, bound, length-drop written text);
      taken = rw (take-add written c.in-Ok.count text) (Appends-trans _ _ _ _ _ c.writes.invariant.taken more);
      failed = λ before. c.write.ensures.stays (c.writes.invariant.failed before);
    }
