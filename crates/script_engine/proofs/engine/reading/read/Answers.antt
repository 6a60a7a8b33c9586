use Rattle.std.proofs.Common.{List, append-nil, map, reverse, subst, sym}
use Rattle.ended_versions.specs.Packed.{Hold, PackedVersion}
use Rattle.period_core.specs.declared.version.VersionRow.{VersionRow}
use Rattle.period_keys.specs.Current.{rows_by_key}
use Rattle.period_keys.proofs.Answered.{on_ok}
use Rattle.script_engine.specs.engine.InMemory.{rows_in}
use Rattle.script_engine.specs.engine.Reading.{AddRead, MayBeUnread, versions_in}
use Rattle.script_engine.proofs.EndedAfter.{holds_none, no_list, some_list}
use Rattle.script_engine.proofs.Taken.{add_both, add_of_no_table, add_of_table}
use Rattle.script_engine.proofs.engine.reading.read.Goals as goal

pub returns-in_default : goal.returns-in_default
returns-in_default g c = λ versions hold.
    let number = c.args.access.now.table in
    let tables = c.args.tables.now in
    let Taken = g.S.Selection.IsTaken c.args.selection.now in
    let Unread = MayBeUnread c.args.access.now (g.S.Selection.MayLack c.args.selection.now) in
    let made = g.S.Selection.made in
    let rows = c.args.rows.now.items in
    let none = holds_none versions (subst (λ (l : List PackedVersion). Hold l versions) (no_list tables.ended number c.in_default.ensures.ended) hold) in
    subst (λ (vs : List VersionRow). AddRead Taken Unread made (versions_in (map rows_by_key tables.current) number vs) rows rows) (sym none)
    (subst (λ (vs : List VersionRow). AddRead Taken Unread made vs rows rows) (sym (append-nil (rows_in (map rows_by_key tables.current) number)))
    (add_of_no_table Taken Unread made tables.current number rows c.in_default.ensures.current))

pub returns : goal.returns
returns g c = λ versions hold.
    let number = c.args.access.now.table in
    let tables = c.args.tables.now in
    let table = c.in-Some.table in
    let Taken = g.S.Selection.IsTaken c.args.selection.now in
    let Unread = MayBeUnread c.args.access.now (g.S.Selection.MayLack c.args.selection.now) in
    let made = g.S.Selection.made in
    let before = c.args.rows.now.items in
    let middle = c.read_current.new.rows.items in
    let new = c.read_list.new.rows.items in
    let its : Hold table.ended.now versions = subst (λ (l : List PackedVersion). Hold l versions) (some_list tables.ended number table.ended.now c.in-Some.ensures.ended) hold in
    on_ok c.read_list.result
    (add_both Taken Unread made (rows_in (map rows_by_key tables.current) number) (reverse versions) before middle new
    (add_of_table Taken Unread made tables.current number table.current.now before middle c.in-Some.ensures.current c.in_ok-read_current.ensures))
    (c.read_list.ensures versions its)
