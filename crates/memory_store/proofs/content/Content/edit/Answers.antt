use Rattle.std.proofs.Common.{◌∙◌, ap, arith, sym}
use Rattle.std.proofs.lemmas.Result.{IfOk-weaker, on_err_weaker}
use Rattle.memory_store.specs.Edit.{edited}
use Rattle.memory_store.proofs.Snapshots.{place_of, snapshot_edit, within_by_shape}
use Rattle.memory_store.proofs.Shaped.{fits_present}
use Rattle.memory_store.proofs.ContentStates.{rows_back, state_kept}
use Rattle.memory_store.proofs.content.Content.edit.Goals as goal

pub returns-clause-ok : goal.returns-clause-ok
returns-clause-ok c =
    let s = c.args.self.now in
    let was = c.index_mut.result.now in
    let within = within_by_shape s.trees.items s.version c.args.tree (omega arith) (fits_present _ _ c.requires) in
    let at = place_of s.trees.items c.args.tree was within c.index_mut.ensures.value in
    IfOk-weaker c.apply.result _ _ (λ undo h. (
      snapshot_edit s.trees.items s.version c.args.tree c.apply.new.self (omega arith) within (edited c.args.edit) (c.apply.ensures.heading ∙ sym at.0) (h.0 ∙ ap (edited c.args.edit) (sym at.1)),
      rows_back s.trees.items s.version c.args.tree was within c.index_mut.ensures.value c.apply.new.self undo c.apply.ensures.heading h.1,
    )) c.apply.ensures.ok

pub returns-clause-err : goal.returns-clause-err
returns-clause-err c =
    let s = c.args.self.now in
    let within = within_by_shape s.trees.items s.version c.args.tree (omega arith) (fits_present _ _ c.requires) in
    on_err_weaker c.apply.result (λ kept. state_kept s.trees.items s.version c.args.tree c.index_mut.result.now within c.index_mut.ensures.value c.apply.new.self c.apply.ensures.heading kept) c.apply.ensures.err
