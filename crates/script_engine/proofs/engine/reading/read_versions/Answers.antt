use Rattle.std.proofs.Common.{Global, Vec, ◌≡◌, ◌+◌, ◌++◌, ◌∷◌, [], ◌∙◌, List, ap, subst, sym, take}
use Rattle.std.proofs.lemmas.List.{take_all, take_more}
use Rattle.period_core.specs.declared.version.VersionRow.{VersionRow}
use Rattle.script_engine.specs.engine.Reading.{AddRead}
use Rattle.script_engine.proofs.Taken.{add_both, add_left, add_none, add_taken}
use Rattle.script_engine.proofs.engine.reading.read_versions.Goals as goal
use Rattle.script_engine.proofs.engine.reading.read_versions.Goals.{then-takes+in_ok-copied+in_ok-push, else-takes}

pub loop-version-init : goal.loop-version-init
loop-version-init g c = add_none (g.S.Selection.IsTaken c.args.selection.now) (g.S.Selection.MayLack c.args.selection.now) g.S.Selection.made c.args.rows.now.items

pub loop-version-preserved : goal.loop-version-preserved
loop-version-preserved g c =
    let Taken = g.S.Selection.IsTaken c.args.selection.now in
    let Lack = g.S.Selection.MayLack c.args.selection.now in
    let made = g.S.Selection.made in
    let versions : List VersionRow = c.args.versions.now in
    let i = c.loop-version.version-index in
    let version : VersionRow = c.version-item.result in
    let before = c.args.rows.now.items in
    let middle = c.loop-version.rows.items in
    let after = c.if-takes.rows.items in
    let next : take (i + 1) versions ≡ take i versions ++ version ∷ [] =
    take_more versions i version c.loop-version-test.true ∙ ap (λ (v : VersionRow). take i versions ++ v ∷ []) (sym c.version-item.is) in
    let one : AddRead Taken Lack made (version ∷ []) middle after =
    elim c.if-takes.branch [
      | then-takes+in_ok-copied+in_ok-push w ↦
          add_taken Taken Lack made version middle after (c.takes.ensures.taken w.if-takes.true)
          (ap (λ (v : Vec g.row.S-Row.Denot Global). v.items) w.rows-is ∙ w.in_ok-push.ensures.items ∙ ap (λ (row : g.row.S-Row.Denot). middle ++ row ∷ []) w.in_ok-copied.ensures)
      | else-takes w ↦
          subst (λ (rows : List g.row.S-Row.Denot). AddRead Taken Lack made (version ∷ []) middle rows)
          (sym (ap (λ (v : Vec g.row.S-Row.Denot Global). v.items) w.rows-is)) (add_left Taken Lack made version middle (c.takes.ensures.left w.if-takes.false))
    ] in
    subst (λ (l : List VersionRow). AddRead Taken Lack made l before after) (sym next)
    (add_both Taken Lack made (take i versions) (version ∷ []) before middle after c.loop-version.invariant one)

pub returns : goal.returns
returns g c =
    subst (λ (l : List VersionRow). AddRead (g.S.Selection.IsTaken c.args.selection.now) (g.S.Selection.MayLack c.args.selection.now) g.S.Selection.made l c.args.rows.now.items c.loop-version.rows.items)
    (take_all c.loop-version.version-index c.args.versions.now c.loop-version-test.false) c.loop-version.invariant
