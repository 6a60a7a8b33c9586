use Rattle.std.proofs.Common.{◌∷◌, [], refl, subst}
use Rattle.std.specs.Prelude.{IfOk}
use Rattle.bitemporal_file.specs.Reporting.{ReceivesResults}
use Rattle.bitemporal_file.specs.Sessions.{placed_at}
use Rattle.bitemporal_file.proofs.ReporterFacts.{all_recorded, some_recorded}
use Rattle.bitemporal_file.proofs.SessionFacts.{over_made, refused_part, run_made}
use Rattle.bitemporal_file.proofs.session.run_whole.Goals as goal

pub returns-in-Ok-clause-ran : goal.returns-in-Ok-clause-ran
returns-in-Ok-clause-ran g c =
    let script = c.args.bytes.now in
    let (results, heard, over, ran) = c.in-Ok.ensures.run in (
      results,
      all_recorded g.W.Write.contents g.E.Write.contents g.K.Reported.text g.K.Reported.status_of g.K.Reported.forgotten_of 1 c.args.reporter.now results c.in-Ok.goes_on c.run_over.new.listener c.requires heard,
      some_recorded g.W.Write.contents g.E.Write.contents g.K.Reported.text g.K.Reported.status_of g.K.Reported.forgotten_of 1 c.args.reporter.now results c.in-Ok.goes_on c.run_over.new.listener c.requires heard,
      over_made g.K.PieceResult.is_step_over g.K.Reported.refused c.args.start c.args.engine.now script script results c.in-Ok.goes_on c.run_over.new.engine refl over,
      λ usable history stands. run_made g.S.Store g.K.PieceResult.is_step g.K.Reported.refused c.args.start history script script results c.in-Ok.goes_on c.run_over.new.engine refl (ran usable history stands),
    )

pub returns-in-Err-clause-ran : goal.returns-in-Err-clause-ran
returns-in-Err-clause-ran g c =
    let (engine, reporter) = c.in-Err.ensures.none in
    let told = subst (λ (r : _). IfOk c.refuse_part.result (λ goes_on. ReceivesResults g.W.Write.contents g.E.Write.contents g.K.Reported.text g.K.Reported.status_of g.K.Reported.forgotten_of r (g.K.Reported.refused (placed_at c.args.start c.in-Err.refusal) ∷ []) goes_on c.refuse_part.new.reporter)) reporter c.refuse_part.ensures.told in
    refused_part g.S.Store g.K.PieceResult.is_step g.K.PieceResult.is_step_over g.K.Reported.refused g.W.Write.contents g.E.Write.contents g.K.Reported.text g.K.Reported.status_of g.K.Reported.forgotten_of c.args.reporter.now c.refuse_part.new.reporter c.args.engine.now c.run_over.new.engine c.args.start c.args.bytes.now c.in-Err.refusal c.refuse_part.result
    c.in-Err.ensures.refused engine told
