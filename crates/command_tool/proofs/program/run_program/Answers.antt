use Rattle.std.proofs.Common.{◌≡◌, ◌∙◌, ap, inl, option_map, refl, rules, string_bytes, sym}
use Rattle.command_line.specs.declared.fault.RunFault.TheVariants.{Memory}
use Rattle.command_tool.proofs.ProgramFacts.{at_err, at_ok, ends_over, ends_silently, keeps_itself, or_true}
use Rattle.command_tool.proofs.program.run_program.Goals as goal

pub returns-in-Ok-default-None-clause-runs : goal.returns-in-Ok-default-None-clause-runs
returns-in-Ok-default-None-clause-runs g c = rw c.in-Ok.is (λ mode file asks.
    let met = at_ok _ _ _ _ c.in-Ok-default-None.is (c.command_line-asked.ensures.accepts mode file (rw c.as_slice.ensures.value asks)) in
    let none = sym met.1 ∙ ap (option_map string_bytes) c.in-Ok-default-None.field-0-1-is in
    rw (sym met.0, none) c.run_tool.ensures.ends)

pub returns-in-Ok-default-None-clause-shown : goal.returns-in-Ok-default-None-clause-shown
returns-in-Ok-default-None-clause-shown g c = rw c.in-Ok.is (λ found.
    let none = rw c.as_slice.ensures.value at (at_ok _ _ _ _ c.in-Ok-default-None.is c.command_line-asked.ensures.refuses) in
    absurd (found none))

pub returns-in-Ok-open-clause-runs : goal.returns-in-Ok-open-clause-runs
returns-in-Ok-open-clause-runs g c = rw c.in-Ok.is (λ mode file asks.
    let met = at_ok _ _ _ _ c.in-Ok-default-Some.is (c.command_line-asked.ensures.accepts mode file (rw c.as_slice.ensures.value asks)) in
    let named = sym met.1 ∙ ap (option_map string_bytes) c.in-Ok-default-Some.field-0-1-is in
    let content = g.S.Scripts.content c.args.files.now.scripts.now (string_bytes c.in-Ok-default-Some.name) in
    let same : g.S.Script.Read.remaining c.in-Ok-open.script.inner ≡ content = search rules in
    rw (sym met.0, named) (ends_over (record {
      mode = c.in-Ok-default-Some.mode;
      script = g.S.Script.Read.remaining c.in-Ok-open.script.inner;
      read_failed = c.run_tool-status.new.input.has_failed;
      out_before = g.W.Write.contents c.args.out.now;
      out_after = g.W.Write.contents c.run_tool-status.new.out;
      err_before = g.E.Write.contents c.args.err.now.inner;
      err_after = g.E.Write.contents c.run_tool-status.new.err.inner;
      err_failed = c.run_tool-status.new.err.has_failed;
      status = c.run_tool-status.result;
    }) content c.note.new.self.has_failed same (λ failed. c.note.ensures.noted ∙ rw failed (or_true _)) c.run_tool-status.ensures.ends))

pub returns-in-Ok-open-clause-shown : goal.returns-in-Ok-open-clause-shown
returns-in-Ok-open-clause-shown g c = rw c.in-Ok.is (λ found.
    let none = rw c.as_slice.ensures.value at (at_ok _ _ _ _ c.in-Ok-default-Some.is c.command_line-asked.ensures.refuses) in
    absurd (found none))

pub returns-in-Ok-default-Some-clause-runs : goal.returns-in-Ok-default-Some-clause-runs
returns-in-Ok-default-Some-clause-runs g c = rw c.in-Ok.is (λ mode file asks.
    let met = at_ok _ _ _ _ c.in-Ok-default-Some.is (c.command_line-asked.ensures.accepts mode file (rw c.as_slice.ensures.value asks)) in
    let named = sym met.1 ∙ ap (option_map string_bytes) c.in-Ok-default-Some.field-0-1-is in
    let refused = c.in-Err-open.ensures.refused in
    let told = c.end_in-in-Err-open.ensures.told in
    rw (sym met.0, named) (ends_silently (record {
      mode = c.in-Ok-default-Some.mode;
      script = g.S.Scripts.content c.args.files.now.scripts.now (string_bytes c.in-Ok-default-Some.name);
      read_failed = c.open.new.self.has_failed;
      out_before = g.W.Write.contents c.args.out.now;
      out_after = g.W.Write.contents c.args.out.now;
      err_before = g.E.Write.contents c.args.err.now.inner;
      err_after = g.E.Write.contents c.end_in-in-Err-open.new.err.inner;
      err_failed = c.end_in-in-Err-open.new.err.has_failed;
      status = c.end_in-in-Err-open.result;
    }) c.in-Err-open.fault c.end_in-in-Err-open.ensures.status (rw refused.0 refused.1) (keeps_itself _) told))

pub returns-in-Ok-default-Some-clause-shown : goal.returns-in-Ok-default-Some-clause-shown
returns-in-Ok-default-Some-clause-shown g c = rw c.in-Ok.is (λ found.
    let none = rw c.as_slice.ensures.value at (at_ok _ _ _ _ c.in-Ok-default-Some.is c.command_line-asked.ensures.refuses) in
    absurd (found none))

pub returns-clause-runs : goal.returns-clause-runs
returns-clause-runs g c = rw c.in-Ok.is (λ mode file asks.
    let met = at_err _ _ _ _ c.in-Err-asked.is (c.command_line-asked.ensures.accepts mode file (rw c.as_slice.ensures.value asks)) in
    let shown = rw met at c.show.ensures.shown in
    ends_silently _ Memory shown.0 tt (rw shown.1 (keeps_itself _)) (Memory, inl refl, shown.2))

pub returns-clause-shown : goal.returns-clause-shown
returns-clause-shown g c = rw c.in-Ok.is (λ found.
    let told = rw c.as_slice.ensures.value at (at_err _ _ _ _ c.in-Err-asked.is c.command_line-asked.ensures.refused) in
    (c.in-Err-asked.fault, told, c.show.ensures.shown))
