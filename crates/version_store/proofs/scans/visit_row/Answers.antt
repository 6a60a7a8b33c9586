use Rattle.std.proofs.Common.{Err, IfErr, None, Ok, OnOk, Option, Result, Some, inl, sym, ◌∙◌}
use Rattle.period_core.specs.declared.refusal.Refusal.{Refusal}
use Rattle.version_store.specs.Scans.{AnswersRefusal}
use Rattle.version_store.proofs.Found.{same_row}
use Rattle.version_store.proofs.AfterCalls.{on_ok}
use Rattle.version_store.proofs.scans.visit_row.Goals as goal

answers : {X : Type 0} (answered : Option Refusal → Type 0) (r : Result X Refusal) → OnOk r (answered None) → IfErr r (λ refusal. answered (Some refusal)) → AnswersRefusal answered r
answers answered (Ok x) takes refuses = takes
answers answered (Err refusal) takes refuses = inl refuses

pub returns-clause-visited : goal.returns-clause-visited
returns-clause-visited g c =
    let read = c.in_ok-version.ensures.shown in
    on_ok c.visit.result (λ taken v shows held. (c.in_ok-version.version, same_row c.args.form v read.0 c.in_ok-version.version held c.in_ok-version.ensures.values (sym shows ∙ read.1) read.2, taken)) c.visit.ensures.taken

pub returns-clause-answered : goal.returns-clause-answered
returns-clause-answered g c = answers (g.V.RowVisitor.answered c.visit.new.self) c.visit.result c.visit.ensures.takes c.visit.ensures.refuses
