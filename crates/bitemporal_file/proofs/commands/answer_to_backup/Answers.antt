use Rattle.std.proofs.Common.{[], ◌∙◌, Global, List, Vec, ap, subst, ℕ}
use Rattle.std.specs.Str.{IsUtf8}
use Rattle.history_model.specs.Histories.{History}
use Rattle.period_core.specs.declared.refusal.Refusal.TheVariants.{NotUtf8}
use Rattle.version_store.specs.StoreState.{IsUsable}
use Rattle.script_engine.specs.engine.Stored.{EngineRepresents}
use Rattle.bitemporal_file.specs.Commands.{IsAnswer, cause_of, refusal_for, refused_line}
use Rattle.bitemporal_file.proofs.Answered.{answers-copied, answers-stopped, answers-unnamed, of_text}
use Rattle.bitemporal_file.proofs.commands.answer_to_backup.Goals as goal

pub returns-in-Err-clause-told : goal.returns-in-Err-clause-told
returns-in-Err-clause-told g c =
    let bad = subst (λ (name : List ℕ). ¬ IsUtf8 name) c.file_in.ensures c.in-Err.ensures.cases.0 in
    of_text (λ (text : Vec ℕ Global). text.items) c.refused_text.result (refused_line c.word_in-word.result.now NotUtf8 [])
    (λ (told : List ℕ). IsUsable g.S.Store c.args.engine.now.connection → (history : History) → EngineRepresents g.S.Store history c.args.engine.now → IsAnswer g.C.System.made history c.args.line.now told)
    c.refused_text.ensures
    (λ usable history stands. answers-unnamed g.C.System.made history c.args.line.now _ c.requires bad (ap (λ word. refused_line word NotUtf8 []) c.word_in-word.ensures))

pub returns-in-Ok-backup_text-clause-told : goal.returns-in-Ok-backup_text-clause-told
returns-in-Ok-backup_text-clause-told g c usable history stands =
    let (bytes, file, made, text) = c.in-Ok-backup_text.ensures.made usable history stands in
    let named = subst (λ (name : List ℕ). g.C.System.made name bytes) (c.in-Ok.ensures.cases.0 ∙ c.file_in.ensures) made in
    answers-copied g.C.System.made history c.args.line.now _ bytes c.requires file named text

pub returns-in-Err-backup_text-clause-told : goal.returns-in-Err-backup_text-clause-told
returns-in-Err-backup_text-clause-told g c =
    let fault = c.in-Err-backup_text.fault in
    of_text (λ (text : Vec ℕ Global). text.items) c.stopped_text.result (refused_line c.word_in-word.result.now (refusal_for fault) (cause_of fault))
    (λ (told : List ℕ). IsUsable g.S.Store c.backup_text.new.engine.connection → (history : History) → EngineRepresents g.S.Store history c.args.engine.now → IsAnswer g.C.System.made history c.args.line.now told)
    c.stopped_text.ensures
    (λ usable history stands. answers-stopped g.C.System.made history c.args.line.now _ fault c.requires c.in-Err-backup_text.ensures.fault (ap (λ word. refused_line word (refusal_for fault) (cause_of fault)) c.word_in-word.ensures))
