use Rattle.std.proofs.Common.{List, inr, subst}
use Rattle.period_core.specs.declared.version.VersionRow.{VersionRow}
use Rattle.period_keys.proofs.Answered.{on_ok}
use Rattle.script_engine.specs.engine.Reading.{AddRead, MayBeUnread}
use Rattle.script_engine.proofs.Taken.{add_looser}
use Rattle.script_engine.proofs.engine.reading.read_current.Goals as goal

pub returns-then-is_all : goal.returns-then-is_all
returns-then-is_all g c =
    let Taken = g.S.Selection.IsTaken c.args.selection.now in
    let Lack = g.S.Selection.MayLack c.args.selection.now in
    let Unread = MayBeUnread c.args.access.now Lack in
    let before = c.args.rows.now.items in
    let new = c.read_all.new.rows.items in
    on_ok c.read_all.result
    (λ read. subst (λ (all : List VersionRow). AddRead Taken Unread g.S.Selection.made all before new) c.rows.ensures.rows
    (add_looser Taken Lack g.S.Selection.made Unread (λ v may. inr (inr may)) c.rows.result.now.rows before new read))
    c.read_all.ensures
