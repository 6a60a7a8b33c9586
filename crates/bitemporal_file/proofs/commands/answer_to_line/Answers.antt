use Rattle.std.proofs.Common.{[], ◌∙◌, Global, List, Vec, ap, sym, ℕ}
use Rattle.history_model.specs.Histories.{History}
use Rattle.period_core.specs.declared.refusal.Refusal.TheVariants.{Syntax}
use Rattle.version_store.specs.StoreState.{IsUsable}
use Rattle.script_engine.specs.engine.Stored.{EngineRepresents}
use Rattle.bitemporal_file.specs.Commands.{IsAnswer, refused_line}
use Rattle.bitemporal_file.proofs.Answered.{answers-done, answers-none, answers-refused, of_text}
use Rattle.bitemporal_file.proofs.commands.answer_to_line.Goals as goal

pub returns-in_default-clause-told : goal.returns-in_default-clause-told
returns-in_default-clause-told g c =
    of_text (λ (text : Vec ℕ Global). text.items) c.refused_text.result (refused_line c.word_in-word.result.now Syntax [])
    (λ (told : List ℕ). IsUsable g.S.Store c.args.engine.now.connection → (history : History) → EngineRepresents g.S.Store history c.args.engine.now → IsAnswer g.C.System.made history c.args.line.now told)
    c.refused_text.ensures
    (λ usable history stands. answers-none g.C.System.made history c.args.line.now _ (sym c.asked_in.ensures ∙ c.in_default.is) (ap (λ word. refused_line word Syntax []) c.word_in-word.ensures))

pub returns-in-Ok-clause-told : goal.returns-in-Ok-clause-told
returns-in-Ok-clause-told g c usable history stands =
    answers-done g.C.System.made history c.args.line.now _ c.in-Some.command (sym c.asked_in.ensures ∙ c.in-Some.is) (sym c.makes_file.ensures ∙ c.if-makes_file.false) (c.in-Ok.ensures.report usable history stands)

pub returns-in-Err-clause-told : goal.returns-in-Err-clause-told
returns-in-Err-clause-told g c =
    of_text (λ (text : Vec ℕ Global). text.items) c.refused_text-in-Err.result (refused_line c.word_in-word.result.now c.in-Err.refusal [])
    (λ (told : List ℕ). IsUsable g.S.Store c.done_text.new.engine.connection → (history : History) → EngineRepresents g.S.Store history c.args.engine.now → IsAnswer g.C.System.made history c.args.line.now told)
    c.refused_text-in-Err.ensures
    (λ usable history stands. answers-refused g.C.System.made history c.args.line.now _ c.in-Some.command c.in-Err.refusal (sym c.asked_in.ensures ∙ c.in-Some.is) c.in-Err.ensures.named (ap (λ word. refused_line word c.in-Err.refusal []) c.word_in-word.ensures))
