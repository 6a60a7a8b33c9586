use Rattle.std.proofs.Common.{Err, Ok, inr, refl}
use Rattle.bitemporal_file.proofs.NoteFacts.{all_noted}
use Rattle.bitemporal_file.proofs.program.run_file_program.Goals as goal

pub returns-in-Ok-ended-clause-runs : goal.returns-in-Ok-ended-clause-runs
returns-in-Ok-ended-clause-runs g c =
    let asked = c.in-Ok.asked in
    let ended = Ok c.in-Ok-ended.status in
    let old = c.args.report.now in
    let left = c.run_asked-ended.new.reporter in
    let noted = all_noted g.E.Write.contents old.notes left.notes c.add_up.new.self c.add_up.new.self.err.has_failed (λ k. (c.requires.unused.tally k).first) c.run_asked-ended.ensures.told c.add_up.ensures.told c.add_up.ensures.failed (λ failed. failed) in
    inr (asked, record { sound = c.in-Ok.ensures.taken; asks = c.in-Ok.ensures.asked; alone = c.in-Ok.ensures.alone; usual = c.in-Ok.ensures.accepts }, ended, left, refl, (g.E.Write.contents c.add_up.new.self.err.inner, noted, (refl, refl)), c.in-Ok-ended.ensures.done, c.in-Ok-ended.ensures.read)

pub returns-clause-runs : goal.returns-clause-runs
returns-clause-runs g c =
    let asked = c.in-Ok.asked in
    let ended = Err c.in-Err-ended.fault in
    let old = c.args.report.now in
    let left = c.run_asked-ended.new.reporter in
    let noted = all_noted g.E.Write.contents old.notes left.notes c.add_up.new.self c.end_in.new.err.has_failed (λ k. (c.requires.unused.tally k).first) c.run_asked-ended.ensures.told c.add_up.ensures.told c.add_up.ensures.failed c.end_in.ensures.failed in
    let (line, may, wrote) = c.end_in.ensures.told in
    inr (asked, record { sound = c.in-Ok.ensures.taken; asks = c.in-Ok.ensures.asked; alone = c.in-Ok.ensures.alone; usual = c.in-Ok.ensures.accepts }, ended, left, refl, (g.E.Write.contents c.add_up.new.self.err.inner, noted, (c.end_in.ensures.status, line, may, wrote)), c.in-Err-ended.ensures.done, c.in-Err-ended.ensures.read)
