use Rattle.std.proofs.Common.{refl, subst, sym}
use Rattle.std.proofs.lemmas.Result.{IfOk-weaker}
use Rattle.version_store.specs.StoreState.{IsUsable, SparesOthers}
use Rattle.version_store.proofs.Beside.{spares_then}
use Rattle.bitemporal_file.proofs.RunFacts.{stands_for_history}
use Rattle.std.proofs.lemmas.Result.{err_from_is_err_and}
use Rattle.bitemporal_file.proofs.backup.back_up_store.Goals as goal

pub returns-clause-others : goal.returns-clause-others
returns-clause-others g c =
    let engine = c.in_ok-engine.engine.connection in
    let copied = c.back_up-copied.new.engine.connection in
    subst (SparesOthers g.S.Store c.args.connection) (sym c.close_at_exit.ensures.same)
    (spares_then g.S.Store c.args.connection engine copied c.in_ok-engine.ensures.opened.others c.back_up-copied.ensures.usable c.back_up-copied.ensures.others)

pub returns-clause-copied : goal.returns-clause-copied
returns-clause-copied g c = record {
  same = λ usable history stands.
      let engine_usable = subst (IsUsable g.S.Store) c.close_at_exit.ensures.same usable in
      let opened = c.in_ok-engine.ensures.opened.represents (c.back_up-copied.ensures.usable engine_usable) history stands in
      let kept = c.back_up-copied.ensures.same engine_usable history opened in
      let (now, committed) = stands_for_history g.S.Store history c.back_up-copied.new.engine c.close_at_exit.result c.close_at_exit.ensures.same kept in
      (history, refl, now, committed);
  is_made = c.back_up-copied.ensures.made;
  copied = IfOk-weaker c.back_up-copied.result _ _
      (λ file made usable history stands.
      let engine_usable = subst (IsUsable g.S.Store) c.close_at_exit.ensures.same usable in
      made engine_usable history (c.in_ok-engine.ensures.opened.represents (c.back_up-copied.ensures.usable engine_usable) history stands))
      c.back_up-copied.ensures.copied;
}

-- a store that is not opened is refused as the engine refuses it
pub returns-in_err-engine-clause-refused : goal.returns-in_err-engine-clause-refused
returns-in_err-engine-clause-refused g c =
    let p = err_from_is_err_and c.from_residual.result c.from_residual.ensures.1 in
    rw (p.1, p.2) c.in_err-engine.ensures.refused
