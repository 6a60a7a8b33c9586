use Rattle.std.proofs.Common.{◌≡◌, ◌||◌, ◌∷◌, ◌∙◌, ℕ, Bool, List, [], Option, false, inr, refl, subst, true}
use Rattle.bitemporal_file.specs.ScriptRuns.{AreOfReaders, Ends}
use Rattle.bitemporal_file.proofs.RunFacts.{ends_later, none_ran, none_run, read_fault_is_no_write, read_fault_is_plain, unread_script}
use Rattle.bitemporal_file.proofs.runs.run_named.Goals as goal

-- a failure that is noted
noted : (before failed after : Bool) → after ≡ (before || failed) → failed ≡ true → after ≡ true
noted true failed after is did = is
noted false failed after is did = is ∙ did

pub returns-in-Ok-clause-ran : goal.returns-in-Ok-clause-ran
returns-in-Ok-clause-ran g c =
    let content : Option (List ℕ) = g.Q.Scripts.content c.args.scripts.now.scripts.now c.args.name.now in
    let failed = c.run_script-ended.new.input.has_failed in
    let same : g.Q.Script.Read.remaining c.in-Ok.script.inner ≡ content = c.in-Ok.ensures.opened in
    let (runs, are, run, ends, over, did) = c.run_script-ended.ensures.ran in
    let its = subst (λ (known : Option (List ℕ)). Ends g.W.Write.contents g.E.Write.contents g.K.Reported.text g.K.Reported.status_of g.K.Reported.forgotten_of (known ∷ []) failed c.args.reporter.now runs c.run_script-ended.result c.run_script-ended.new.reporter) same ends in (
      runs,
      subst (λ (known : Option (List ℕ)). AreOfReaders (known ∷ []) runs) same are,
      run,
      ends_later g.W.Write.contents g.E.Write.contents g.K.Reported.text g.K.Reported.status_of g.K.Reported.forgotten_of (content ∷ []) failed c.note.new.self.has_failed c.args.reporter.now runs c.run_script-ended.result c.run_script-ended.new.reporter (noted c.open.new.self.has_failed failed c.note.new.self.has_failed c.note.ensures.noted) its,
      over,
      did,
    )

pub returns-in-Err-clause-ran : goal.returns-in-Err-clause-ran
returns-in-Err-clause-ran g c = (
  [],
  tt,
  none_ran _ _,
  none_run g.W.Write.contents g.E.Write.contents g.K.Reported.text g.K.Reported.status_of g.K.Reported.forgotten_of _ c.open.new.self.has_failed c.args.reporter.now c.args.reporter.now.next c.in-Err.fault c.requires (unread_script _ c.in-Err.fault (inr c.in-Err.ensures.refused)) (read_fault_is_no_write _ c.in-Err.fault (inr c.in-Err.ensures.refused)) (λ refusal is. absurd (read_fault_is_plain _ c.in-Err.fault refusal (inr c.in-Err.ensures.refused) is)),
  refl,
  λ usable history stands. (history, refl, stands),
)
