use Rattle.std.proofs.Common.{◌<◌, length, arith}
use Rattle.script_engine.proofs.CheckSteps.{check_next}
use Rattle.script_engine.proofs.script.check.check_pieces.Goals as goal

pub loop-piece-preserved : goal.loop-piece-preserved
loop-piece-preserved c =
    let inside : c.loop-piece.piece-index < length c.args.pieces.now = omega arith in
    record {
      room = omega arith;
      count = omega arith;
      checked = check_next c.args.script.now c.args.tokens.now c.args.pieces.now c.loop-piece.piece-index (record { start = 0; end = 0 }) c.loop-piece.results.items c.push_reserved.new.self.items c.check_piece-result.result inside c.push_reserved.ensures.items c.loop-piece.invariant.checked c.check_piece-result.ensures;
    }
