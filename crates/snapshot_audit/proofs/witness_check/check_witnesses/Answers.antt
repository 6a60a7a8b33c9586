use Rattle.std.proofs.Common.{◌≡◌, length, Some, refl, arith}
use Rattle.std.specs.List.{slice_get}
use Rattle.std.proofs.lemmas.Option.{slice_get_read}
use Rattle.temporal_model.proofs.Certificate.{shortest}
use Rattle.snapshot_audit.proofs.Sound.{first_fault, spare_fault, sound_more, certified_from_sound, witnessed_from_sound}
use Rattle.snapshot_audit.proofs.witness_check.check_witnesses.Goals as goal

pub returns-then-not-is_sound-clause-fault : goal.returns-then-not-is_sound-clause-fault
returns-then-not-is_sound-clause-fault c =
    let at : slice_get c.args.rows.now c.loop-place.place ≡ Some c.index-rows-place.result = slice_get_read c.args.rows.now (length c.args.rows.now) c.loop-place.place c.index-rows-place.result refl (omega arith) c.index-rows-place.is in
    first_fault c.args.rows.now c.args.witnesses.now c.loop-place.place c.index-rows-place.result at (λ sound. (let wrong = c.if-not-is_sound.ensures.1 sound in cc)) c.loop-place.invariant

pub loop-place-preserved : goal.loop-place-preserved
loop-place-preserved c =
    let at : slice_get c.args.rows.now c.loop-place.place ≡ Some c.index-rows-place.result = slice_get_read c.args.rows.now (length c.args.rows.now) c.loop-place.place c.index-rows-place.result refl (omega arith) c.index-rows-place.is in
    sound_more c.args.rows.now c.args.witnesses.now c.loop-place.place c.index-rows-place.result at (c.if-not-is_sound.ensures.0 refl) c.loop-place.invariant

pub returns-then-rows-witnesses-clause-fault : goal.returns-then-rows-witnesses-clause-fault
returns-then-rows-witnesses-clause-fault c =
    spare_fault c.args.rows.now c.args.witnesses.now (omega arith) (λ k row h is. c.loop-place.invariant k row (omega arith) is)

pub returns-clause-faultless : goal.returns-clause-faultless
returns-clause-faultless c = record {
  sound = λ k row h is. c.loop-place.invariant k row (omega arith) is;
  spare = omega arith;
}

pub returns-clause-certified : goal.returns-clause-certified
returns-clause-certified c = certified_from_sound c.args.rows.now c.args.witnesses.now (λ k row h is. c.loop-place.invariant k row (omega arith) is)

pub returns-clause-shortest : goal.returns-clause-shortest
returns-clause-shortest c = shortest c.args.rows.now (certified_from_sound c.args.rows.now c.args.witnesses.now (λ k row h is. c.loop-place.invariant k row (omega arith) is))

pub returns-clause-witnesses : goal.returns-clause-witnesses
returns-clause-witnesses c =
    witnessed_from_sound c.args.rows.now c.args.witnesses.now (λ k row h is. c.loop-place.invariant k row (omega arith) is) (omega arith)

pub is_sound-requires : goal.is_sound-requires
is_sound-requires c = record {
  there = slice_get_read c.args.rows.now (length c.args.rows.now) c.loop-place.place c.index-rows-place.result refl (omega arith) c.index-rows-place.is;
  apart = c.has_gaps-apart.ensures.0;
}
