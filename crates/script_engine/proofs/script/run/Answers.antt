use Rattle.std.proofs.Common.{◌≡◌, ◌≤◌, ◌+◌, ◌++◌, ◌∙◌, Bool, List, [], ap, inl, inr, length, map, refl, rules, subst, subst₂, sym, vec_capacity, vec_len}
use Rattle.period_core.specs.declared.refusal.Refusal.TheVariants.{Memory}
use Rattle.sql_statements.specs.Lexemes.{Lexeme}
use Rattle.sql_front.specs.Pieces.{spanned}
use Rattle.sql_front.specs.declared.pieces.Span.{Span}
use Rattle.sql_front.specs.TokenSpans.{lexemes_at}
use Rattle.sql_front.specs.declared.token_spans.TokenSpan.{TokenSpan}
use Rattle.version_store.proofs.Beside.{spares_then}
use Rattle.script_engine.specs.declared.script.listener.AllKept.{AllKept}
use Rattle.script_engine.specs.script.Keeping.{AddsWhereRoom}
use Rattle.script_engine.specs.script.Listening.{ReceivesAll, StepFront}
use Rattle.script_engine.specs.script.Script.{IsCutInto, StepPieces}
use Rattle.script_engine.proofs.ListeningFacts.{all_kept, front_is_whole}
use Rattle.script_engine.proofs.ScriptFacts.{not_bad}
use Rattle.script_engine.proofs.script.run.Goals as goal

-- the recorded results are the results of all pieces, however the steps are reported
all_pieces : {H R : Type 0} (IsStep : H → List Lexeme → R → H → Type 0) (opening : H) (pieces : List (List Lexeme)) (room : AllKept R) (results : List R) (goes_on : Bool) (kept : AllKept R) (last : H) → room.kept.items ≡ [] →
    vec_len room.kept + length results ≤ vec_capacity room.kept → ReceivesAll AddsWhereRoom 1 room results goes_on kept → StepFront IsStep opening pieces results goes_on last → StepPieces IsStep opening pieces kept.kept.items last
all_pieces IsStep opening pieces room results goes_on kept last none space heard run =
    let (items, whole) = all_kept 1 room results goes_on kept heard space in
    subst (λ (rs : List _). StepPieces IsStep opening pieces rs last) (sym (items ∙ ap (λ xs. xs ++ results) none))
    (front_is_whole IsStep opening pieces results goes_on last run whole)

pub returns-clause-run : goal.returns-clause-run
returns-clause-run g c = λ usable history stands.
    let (results, heard, few, over, ran) = c.run_pieces.ensures.run in
    let opened = c.in-Ok-open.ensures.opened.represents (c.run_pieces.ensures.usable usable) history stands in
    let (last, run, represents) = ran usable history opened in
    let room = c.in-Ok-with_capacity.room in
    let space : vec_len room + length results ≤ vec_capacity room = search rules in
    let cut = subst₂ (λ (tokens : List TokenSpan) (spans : List Span). IsCutInto c.args.script.now (map (spanned (lexemes_at c.in-Ok.pieces.text.now tokens)) spans)) (sym c.as_slice-tokens.ensures.value) (sym c.as_slice-spans.ensures.value) c.in-Ok.ensures.cut in
    let pieces = map (spanned (lexemes_at c.in-Ok.pieces.text.now c.as_slice-tokens.result.now)) c.as_slice-spans.result.now in (
      record {
        pieces = pieces;
        cut = cut;
        last = last;
        run = all_pieces g.K.PieceResult.is_step history pieces (record { kept = room }) results c.run_pieces.result c.run_pieces.new.listener last c.in-Ok-with_capacity.ensures.items space heard run;
      },
      represents,
    )

pub returns-clause-over : goal.returns-clause-over
returns-clause-over g c =
    let (results, heard, few, over, ran) = c.run_pieces.ensures.run in
    let room = c.in-Ok-with_capacity.room in
    let space : vec_len room + length results ≤ vec_capacity room = search rules in
    let cut = subst₂ (λ (tokens : List TokenSpan) (spans : List Span). IsCutInto c.args.script.now (map (spanned (lexemes_at c.in-Ok.pieces.text.now tokens)) spans)) (sym c.as_slice-tokens.ensures.value) (sym c.as_slice-spans.ensures.value) c.in-Ok.ensures.cut in
    let pieces = map (spanned (lexemes_at c.in-Ok.pieces.text.now c.as_slice-tokens.result.now)) c.as_slice-spans.result.now in (
      c.in-Ok-open.engine,
      c.in-Ok-open.ensures.opened,
      (
        record {
          pieces = pieces;
          cut = cut;
          last = c.run_pieces.new.engine;
          run = all_pieces g.K.PieceResult.is_step_over c.in-Ok-open.engine pieces (record { kept = room }) results c.run_pieces.result c.run_pieces.new.listener c.run_pieces.new.engine c.in-Ok-with_capacity.ensures.items space heard over;
        },
        refl,
      ),
    )

pub returns-clause-usable : goal.returns-clause-usable
returns-clause-usable g c = λ usable. c.in-Ok-open.ensures.opened.usable (c.run_pieces.ensures.usable usable)

pub returns-in-Err-clause-bad : goal.returns-in-Err-clause-bad
returns-in-Err-clause-bad g c = λ usable bad. absurd (not_bad c.args.script.now c.in-Err.refusal c.in-Err.ensures.refused bad)

pub returns-in-Err-open-clause-refused : goal.returns-in-Err-open-clause-refused
returns-in-Err-open-clause-refused g c = inr (c.in-Err-open.ensures.refused.named, c.in-Ok.ensures.cut.sound)

pub returns-clause-others : goal.returns-clause-others
returns-clause-others g c =
    spares_then g.S.Store c.args.connection c.in-Ok-open.engine.connection c.run_pieces.new.engine.connection c.in-Ok-open.ensures.opened.others c.run_pieces.ensures.usable c.run_pieces.ensures.others

-- a sound script is refused for memory alone
pub returns-in-Err-clause-why : goal.returns-in-Err-clause-why
returns-in-Err-clause-why g c = λ sound.
    let memory : c.in-Err.refusal ≡ Memory = elim c.in-Err.ensures.refused [ inl least ↦ absurd (sound c.in-Err.refusal least.applies) | inr memory ↦ memory ] in
    record { why = λ usable good movable rowids. inl memory; why_new = λ usable empty. inl memory }
