use Rattle.std.proofs.Common.{◌≡◌, ◌++◌, ◌∷◌, [], ℕ, ℤ, List, OnOk, subst}
use Rattle.period_core.specs.Moments.{moment_text}
use Rattle.statement_reports.specs.Report.{printed_moment}
use Rattle.statement_reports.proofs.record.Record.push_moment.Goals as goal

printed : (text : List ℕ) (moment : ℤ) → text ≡ moment_text moment → text ≡ printed_moment moment
unfolding printed_moment
printed text moment e = e

pub returns-clause-ok : goal.returns-clause-ok
returns-clause-ok c =
    subst (λ (text : List ℕ). OnOk c.push.result (c.push.new.self ≡ c.args.self.now ++ text ∷ []))
    (printed _ c.args.moment c.write_text-length.ensures.text) c.push.ensures.ok
